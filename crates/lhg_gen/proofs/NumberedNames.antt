-- What holds of names that are a letter and a number?
use Rattle.std.proofs.Common.{◌≡◌, ◌+◌, ◌<◌, ◌≤◌, ℕ, zero, suc, List, [], ◌∷◌, length, drop, map, refl, ap, ◌∙◌, true, false, arith, decimal}
use Rattle.std.specs.Char.{digit_value}
use Rattle.std.specs.List.{list_all, range_with_len}
use Rattle.std.specs.Str.{bytes_eq}
use Rattle.std.specs.Str.Parse.{AllDigits}
use Rattle.std.proofs.lemmas.Bool.Decides.{nat_tests}
use Rattle.std.proofs.lemmas.Fmt.{decimal_is_IsNumeral, decimal_injective, length-decimal-le}
use Rattle.std.proofs.lemmas.List.FromFn.{map-range_with_len_more}
use Rattle.std.proofs.lemmas.Slice.Eq.{bytes_eq-Decides}
use Rattle.std.proofs.lemmas.Str.Parse.{digit_from_value}
use Rattle.lhg_math.specs.Tests.{by_bool}
use Rattle.lhg_lex.specs.Word.{begins_word, continues_word}
use Rattle.lhg_plant.specs.Differ.{is_among, all_differ}
use Rattle.lhg_plant.specs.Word.{IsName}
use Rattle.lhg_read.proofs.VariableSteps.{differ_more}

-- ---- a letter and a number are a name

digit_goes_on : (b : ℕ) → digit_value b < 10 → continues_word b ≡ true
digit_goes_on b h = let r = digit_from_value b h in grind (arith, nat_tests, r)

digits_go_on : (bytes : List ℕ) → AllDigits 10 bytes → list_all continues_word bytes ≡ true
digits_go_on [] h = refl
digits_go_on (b ∷ bytes) h = let e = digit_goes_on b h.0 in rw e (digits_go_on bytes h.1)

-- a number below 100 has at most two digits
pub two_digits : (n : ℕ) → n < 100 → length (decimal n) ≤ 2
two_digits n h = length-decimal-le 2 n (omega arith) (omega arith) (omega arith)

pub lettered : (letter n : ℕ) → begins_word letter ≡ true → n < 100 → IsName (letter ∷ decimal n)
lettered letter n h k =
    let d = decimal_is_IsNumeral n (omega arith) in
    let all = digits_go_on (decimal n) d.0.1 in
    let short = two_digits n k in
    record { word = rw (h, all) refl; fits = omega arith }

-- with one letter, equal names have equal numbers
pub same_number : (letter m n : ℕ) → m < 100 → n < 100 → letter ∷ decimal m ≡ letter ∷ decimal n → m ≡ n
same_number letter m n h k e = decimal_injective m n (omega arith) (omega arith) (ap (drop 1) e)

-- ---- names by number differ

module _ (name : ℕ → List ℕ) (same : (m n : ℕ) → m < 100 → n < 100 → name m ≡ name n → m ≡ n) where
  unlike : (i j : ℕ) → i < j → j < 100 → bytes_eq (name i) (name j) ≡ false
  unlike i j h k =
      by_bool (bytes_eq (name i) (name j)) (λ e. let equal = same i j (omega arith) k ((bytes_eq-Decides (name i) (name j)).0 e) in absurd (omega arith)) (λ e. e)

  -- a later name is not among these
  later : (a n j : ℕ) → a + n ≤ j → j < 100 → is_among (name j) (map name (range_with_len a n)) ≡ false
  later a zero j h k = refl
  later a (suc n) j h k =
      let first = unlike a j (omega arith) k in
      let more = later (a + 1) n j (omega arith) k in
      rw (first, more) refl

  pub numbered_differ : (a n : ℕ) → a + n ≤ 100 → all_differ (map name (range_with_len a n)) ≡ true
  numbered_differ a zero h = refl
  numbered_differ a (suc n) h =
      let next : suc n ≡ n + 1 = omega arith in
      ap (λ m. all_differ (map name (range_with_len a m))) next ∙ ap all_differ (map-range_with_len_more name a n (a + n) refl)
      ∙ differ_more (map name (range_with_len a n)) (name (a + n)) (numbered_differ a n (omega arith)) (later a n (a + n) (omega arith) (omega arith))
