-- The name of a guard that is written without one is a name.
use Rattle.std.proofs.Common.{◌≡◌, ◌<◌, ℕ, List, [], ◌∷◌, refl, true, arith, decimal}
use Rattle.std.specs.Prelude.{◌^◌}
use Rattle.std.specs.Char.{digit_value}
use Rattle.std.specs.List.{list_all}
use Rattle.std.specs.Str.Parse.{AllDigits}
use Rattle.std.proofs.lemmas.Bool.Decides.{nat_tests}
use Rattle.std.proofs.lemmas.Fmt.{decimal_is_IsNumeral, length-decimal-le}
use Rattle.std.proofs.lemmas.Str.Parse.{digit_from_value}
use Rattle.lhg_lex.specs.Word.{continues_word}
use Rattle.lhg_plant.specs.Word.{IsName}
use Rattle.lhg_ctl.specs.Draft.{guard_name}

digit_continues : (b : ℕ) → digit_value b < 10 → continues_word b ≡ true
digit_continues b h = let r = digit_from_value b h in grind (arith, nat_tests, r)

digits_continue : (bytes : List ℕ) → AllDigits 10 bytes → list_all continues_word bytes ≡ true
digits_continue [] h = refl
digits_continue (b ∷ bytes) h = let e = digit_continues b h.0 in rw e (digits_continue bytes h.1)

pub guard_name_is : (n : ℕ) → n < 2 ^ 64 → IsName (guard_name n)
guard_name_is n h =
    let short = length-decimal-le 20 n (omega arith) (omega arith) h in
    record { word = digits_continue (decimal n) (decimal_is_IsNumeral n h).0.1; fits = omega (arith, short) }
