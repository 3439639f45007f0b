-- Steps of the loop that gathers rows.
use Rattle.std.proofs.Common.{◌≡◌, ℕ, List, [], ◌∷◌, ◌++◌, length, Bool, not, refl, sym, ap, ◌∙◌, subst}
use Rattle.std.specs.Prelude.{filter}
use Rattle.lhg_math.specs.Tests.{by_bool}
use Rattle.lhg_num.specs.Arithmetic.{Arithmetic}
use Rattle.lhg_num.specs.Marked.{Marked, walk, IsRest}
use Rattle.lhg_num.specs.MarkedLaws.{IsPart, rest_rest, rest_part, walk-append}
use Rattle.lhg_num.specs.PartLaws.{walk-append_part}
use Rattle.lhg_row.specs.Row.{PlainRow}
use Rattle.lhg_row.specs.Piece.{PlainPiece}
use Rattle.lhg_row.specs.Constant.{is_true}
use Rattle.lhg_row.specs.Width.{AllWide}
use Rattle.lhg_row.specs.Trim.{placed, gathered}
use Rattle.lhg_row.specs.WithoutLaws.{filter-wide}
use Rattle.lhg_row.specs.WidthLaws.{gathered-wide}

-- a filter goes over the first member and then over the others
filter-cons : {A : Type 0} (p : A → Bool) (x : A) (xs : List A) → filter p (x ∷ xs) ≡ filter p (x ∷ []) ++ filter p xs
filter-cons p x xs = by_bool (p x) (λ e. rw e refl) (λ e. rw e refl)

-- the rows that are not true
abbrev pub kept_of : PlainPiece → PlainPiece
kept_of rows = filter (λ r. not (is_true r)) rows

-- what is gathered, what is left, and that all rows have one width
pub record IsGathering (a : Arithmetic) (all kept rest : PlainPiece) : Type 0 where
  pub left : IsRest (gathered a [] (kept_of all)) (gathered a kept (kept_of rest))
  pub width : ℕ
  pub kept_wide : AllWide width kept
  pub rest_wide : AllWide width rest

module _ (a : Arithmetic) (all kept rows : PlainPiece) (r : PlainRow) (rest : PlainPiece) (is : rows ≡ r ∷ rest) (h : IsGathering a all kept rows) where
  -- the row at hand is the first that is left
  both : IsRest (gathered a [] (kept_of all)) (gathered a kept (kept_of (r ∷ []) ++ kept_of rest))
  both = subst (λ rs. IsRest (gathered a [] (kept_of all)) (gathered a kept rs)) (ap kept_of is ∙ filter-cons (λ s. not (is_true s)) r rest) h.left

  -- it has the width of all
  wides : AllWide h.width (r ∷ rest)
  wides = subst (AllWide h.width) is h.rest_wide

  -- the kept rows have the width of the next row
  pub gather-wide : AllWide (length r.coefs) kept
  gather-wide = subst (λ n. AllWide n kept) (sym wides.0) h.kept_wide

  -- the marks of the next row
  pub gather-part : IsPart (gathered a [] (kept_of all)) (gathered a kept (kept_of (r ∷ [])))
  gather-part = rest_part (gathered a [] (kept_of all)) (gathered a kept (kept_of (r ∷ []) ++ kept_of rest)) (gathered a kept (kept_of (r ∷ []))) both (walk-append_part (λ ks s. placed a s ks) kept (kept_of (r ∷ [])) (kept_of rest))

  -- one row more
  pub gather-step : (more : PlainPiece) → more ≡ (gathered a kept (kept_of (r ∷ []))).value → IsGathering a all more rest
  gather-step more e = record {
    left = subst (λ ks. IsRest (gathered a [] (kept_of all)) (gathered a ks (kept_of rest))) (sym e)
        (rest_rest (gathered a [] (kept_of all)) (gathered a kept (kept_of (r ∷ []) ++ kept_of rest)) (gathered a (gathered a kept (kept_of (r ∷ []))).value (kept_of rest)) both (walk-append (λ ks s. placed a s ks) kept (kept_of (r ∷ [])) (kept_of rest)));
    width = h.width;
    kept_wide = subst (AllWide h.width) (sym e) (gathered-wide a h.width kept (kept_of (r ∷ [])) h.kept_wide (filter-wide h.width (λ s. not (is_true s)) (r ∷ []) (wides.0, tt)));
    rest_wide = wides.1;
  }
