-- Steps of the loops that turn rows into whole rows and back, and what elimination over whole rows gives.
use Rattle.std.proofs.Common.{◌≡◌, ℕ, suc, ◌+◌, ◌-◌, ◌<◌, ◌≤◌, true, List, [], ◌∷◌, ◌++◌, length, take, drop, get_or, sym, ap, ◌∙◌, subst, arith}
use Rattle.std.proofs.lemmas.Grind.{common_steps}
use Rattle.std.proofs.lemmas.List.{take_more, take_all}
use Rattle.lhg_math.specs.Number.{Number}
use Rattle.lhg_math.specs.Tests.{all_of, every_from_all}
use Rattle.lhg_num.specs.Arithmetic.{Arithmetic, IsLawful, IsMultiple}
use Rattle.lhg_row.specs.Row.{PlainRow}
use Rattle.lhg_row.specs.Piece.{PlainPiece}
use Rattle.lhg_row.specs.Members.{all_split}
use Rattle.lhg_row.specs.Width.{AllWide}
use Rattle.lhg_row.specs.System.{IsSystem}
use Rattle.lhg_row.specs.Trim.{entries_of, row_of}
use Rattle.lhg_row.specs.TrimLaws.{row_of-scaled}
use Rattle.lhg_row.specs.TrimmedLaws.{trimmed-settled}
use Rattle.lhg_row.specs.Eliminate.{eliminate, eliminate_last}
use Rattle.lhg_whole.specs.WholeArithmetic.{whole_arithmetic, whole_is_lawful}
use Rattle.lhg_elim.specs.Alike.{IsAlike, AllBeside, AllAlike}
use Rattle.lhg_elim.specs.AlikeTrim.{alike-length}
use Rattle.lhg_elim.specs.AlikeEliminate.{eliminate-alike, eliminate_last-alike}
use Rattle.lhg_elim.specs.SystemLaws.{eliminate-system, eliminate_last-system}
use Rattle.lhg_elim.specs.Turned.{AllTurned}
use Rattle.lhg_elim.specs.TurnedLaws.{turned-back}

-- ---- loops over two lists
module _ {A B : Type 0} (R : A → B → Type 0) where
  -- one member more in both lists
  beside_push : (xs : List A) (x : A) (ys : List B) (y : B) → AllBeside R xs ys → R x y → AllBeside R (xs ++ x ∷ []) (ys ++ y ∷ [])
  beside_push [] x [] y h r = (r, tt)
  beside_push [] x (z ∷ ys) y h r = absurd h
  beside_push (z ∷ xs) x [] y h r = absurd h
  beside_push (z ∷ xs) x (w ∷ ys) y h r = (h.0, beside_push xs x ys y h.1 r)

  -- one turn more
  pub beside-step : (xs : List A) (i : ℕ) (x : A) (ys more : List B) (y : B) → x ≡ get_or xs i x → i < length xs → AllBeside R (take i xs) ys → more ≡ ys ++ y ∷ [] → R x y → AllBeside R (take (i + 1) xs) more
  beside-step xs i x ys more y e l h m r =
      let t : take (i + 1) xs ≡ take i xs ++ x ∷ [] = take_more xs i x l ∙ ap (λ z. take i xs ++ z ∷ []) (sym e) in
      subst (λ zs. AllBeside R zs more) (sym t) (subst (AllBeside R (take i xs ++ x ∷ [])) (sym m) (beside_push (take i xs) x ys y h r))

  -- at the end all members are there
  pub beside-end : (xs : List A) (i : ℕ) (ys : List B) → length xs ≤ i → AllBeside R (take i xs) ys → AllBeside R xs ys
  beside-end xs i ys l h = subst (λ zs. AllBeside R zs ys) (take_all i xs l) h

-- ---- rows
-- a row whose entries are a multiple of those of a row of the type is alike that row
pub lifted-alike : (a : Arithmetic) (r : PlainRow) (zs : List Number) → all_of a.holds (entries_of r) ≡ true → IsMultiple (entries_of r) zs → IsAlike a r (row_of r.strict zs)
lifted-alike a r zs h m =
    let parts = all_split (λ x. a.holds x ≡ true) r.coefs (r.bound ∷ []) (every_from_all a.holds (entries_of r) h) in
    record { factor = m.factor; positive = m.positive; is = ap (row_of r.strict) m.entries ∙ row_of-scaled m.factor r; coefs_held = parts.0; bound_held = parts.1.0 }

-- alike rows have one width
pub alike-wide : (a : Arithmetic) (n : ℕ) (rs ss : PlainPiece) → AllAlike a rs ss → AllWide n rs → AllWide n ss
alike-wide a n [] [] h w = tt
alike-wide a n [] (s ∷ ss) h w = absurd h
alike-wide a n (r ∷ rs) [] h w = absurd h
alike-wide a n (r ∷ rs) (s ∷ ss) h w = (alike-length a a r s h.0 ∙ w.0, alike-wide a n rs ss h.1 w.1)

-- ---- elimination
module _ (a : Arithmetic) (laws : IsLawful a) (n : ℕ) (lines wholes left rows : PlainPiece) (s : IsSystem a n lines) (alike : AllAlike a lines wholes) (turned : AllTurned a left rows) where
  module _ (k : ℕ) (h : k < n) (is : left ≡ (eliminate whole_arithmetic k wholes).value) where
    -- elimination of a variable leaves a system
    system : IsSystem a (n - 1) (eliminate a k lines).value
    system = let e : n ≡ suc (n - 1) = omega arith in eliminate-system a k (n - 1) lines laws (omega arith) (subst (λ m. AllWide m lines) e s.wide)

    -- whose list is what the whole rows become
    pub whole-back : rows ≡ (eliminate a k lines).value
    whole-back =
        turned-back a laws (eliminate a k lines).value left rows (trimmed-settled a (eliminate a k lines).value laws system.trimmed)
        (subst (AllAlike a (eliminate a k lines).value) (sym is) (eliminate-alike a whole_arithmetic k laws whole_is_lawful lines wholes alike)) turned

    pub whole-system : IsSystem a (n - 1) rows
    whole-system = subst (IsSystem a (n - 1)) (sym whole-back) system

  module _ (keep : ℕ) (h : keep ≤ n) (is : left ≡ (eliminate_last whole_arithmetic keep (n - keep) wholes).value) where
    -- elimination of all later variables leaves a system
    last_system : IsSystem a keep (eliminate_last a keep (n - keep) lines).value
    last_system = eliminate_last-system a keep (n - keep) n lines laws (omega arith) s

    -- whose list is what the whole rows become
    pub whole_last-back : rows ≡ (eliminate_last a keep (n - keep) lines).value
    whole_last-back =
        turned-back a laws (eliminate_last a keep (n - keep) lines).value left rows (trimmed-settled a (eliminate_last a keep (n - keep) lines).value laws last_system.trimmed)
        (subst (AllAlike a (eliminate_last a keep (n - keep) lines).value) (sym is) (eliminate_last-alike a whole_arithmetic keep (n - keep) laws whole_is_lawful lines wholes alike)) turned

    pub whole_last-system : IsSystem a keep rows
    whole_last-system = subst (IsSystem a keep) (sym whole_last-back) last_system
