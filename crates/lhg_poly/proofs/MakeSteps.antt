-- Steps of the loop that drops rows, and the parts of make.
use Rattle.std.proofs.Common.{◌≡◌, ℕ, suc, ◌-◌, ◌<◌, ◌≤◌, length, Bool, true, false, Some, None, refl, sym, ap, ◌∙◌, subst, arith}
use Rattle.lhg_num.specs.Arithmetic.{Arithmetic, IsLawful}
use Rattle.lhg_num.specs.Marked.{and_then, IsRest}
use Rattle.lhg_num.specs.MarkedLaws.{IsPart, and_then-rest, and_then-part}
use Rattle.lhg_row.specs.Piece.{PlainPiece}
use Rattle.lhg_row.specs.Width.{AllWide}
use Rattle.lhg_row.specs.Trim.{trim}
use Rattle.lhg_row.specs.Eliminate.{is_empty}
use Rattle.lhg_row.specs.Pieces.{thin_at, thin, made, make}
use Rattle.lhg_row.specs.MakeLaws.{thin_at-is, thin_at-length}
use Rattle.lhg_num.specs.PartLaws.{rest_step, step_part}

-- ---- thin
-- the rows that are left before those from place i on were asked for, and that all have one width
pub record IsThinning (a : Arithmetic) (n : ℕ) (all rows : PlainPiece) (i : ℕ) : Type 0 where
  pub left : IsRest (thin a n (length all) all) (thin a n i rows)
  pub there : i ≤ length rows
  pub wide : AllWide n rows

module _ (a : Arithmetic) (n : ℕ) (all rows : PlainPiece) (i : ℕ) (h : IsThinning a n all rows i) (some : 0 < i) where
  here : IsRest (thin a n (length all) all) (and_then (thin_at a n (i - 1) rows) (thin a n (i - 1)))
  here = let e : i ≡ suc (i - 1) = omega arith in subst (λ j. IsRest (thin a n (length all) all) (thin a n j rows)) e h.left

  -- the marks of the next row
  pub thin-part : IsPart (thin a n (length all) all) (thin_at a n (i - 1) rows)
  thin-part = step_part (thin a n (length all) all) (thin_at a n (i - 1) rows) (thin a n (i - 1)) here

  -- one row less is left to ask for
  pub thin-step : IsLawful a → (more : PlainPiece) → more ≡ (thin_at a n (i - 1) rows).value → IsThinning a n all more (i - 1)
  thin-step laws more e =
      let k = h.there in
      let in_rows : i - 1 < length rows = omega arith in
      let t : IsThinning a n all (thin_at a n (i - 1) rows).value (i - 1) = record {
        left = rest_step (thin a n (length all) all) (thin_at a n (i - 1) rows) (thin a n (i - 1)) (thin_at a n (i - 1) rows).value here refl;
        there = thin_at-length a n (i - 1) rows in_rows;
        wide = (thin_at-is a n (i - 1) rows laws in_rows h.wide).wide;
      } in
      subst (λ rs. IsThinning a n all rs (i - 1)) (sym e) t

-- ---- make
module _ (a : Arithmetic) (n : ℕ) (rows : PlainPiece) where
  abbrev trimmed : PlainPiece
  trimmed = (trim a rows).value

  -- the marks of trim
  pub make-trim_part : IsPart (make a n rows) (trim a rows)
  unfolding make
  make-trim_part = and_then-part (trim a rows) (λ rs. and_then (is_empty a n rs) (made a n rs))

  after_trim : IsRest (make a n rows) (and_then (is_empty a n trimmed) (made a n trimmed))
  unfolding make
  after_trim = and_then-rest (trim a rows) (λ rs. and_then (is_empty a n rs) (made a n rs))

  module _ (m : ℕ) (rs : PlainPiece) (m_is : m ≡ n) (rs_is : rs ≡ trimmed) where
    same_test : is_empty a m rs ≡ is_empty a n trimmed
    same_test = ap (λ k. is_empty a k rs) m_is ∙ ap (is_empty a n) rs_is

    -- the marks of the test
    pub make-empty_part : IsPart (make a n rows) (is_empty a m rs)
    make-empty_part = subst (IsPart (make a n rows)) (sym same_test) (step_part (make a n rows) (is_empty a n trimmed) (made a n trimmed) after_trim)

    module _ (b : Bool) (b_is : b ≡ (is_empty a m rs).value) where
      -- what is left after the test
      tested_rest : IsRest (make a n rows) (made a n trimmed b)
      tested_rest = rest_step (make a n rows) (is_empty a n trimmed) (made a n trimmed) b after_trim (b_is ∙ ap (λ t. t.value) same_test)

      -- where the rows have no point there is no piece
      pub make-none : b ≡ true → None ≡ (make a n rows).value
      make-none k = (subst (λ d. IsRest (make a n rows) (made a n trimmed d)) k tested_rest).same

      module _ (k : b ≡ false) (kept : PlainPiece) (kept_is : kept ≡ trimmed) where
        thin_rest : IsRest (make a n rows) (made a n trimmed false)
        thin_rest = subst (λ d. IsRest (make a n rows) (made a n trimmed d)) k tested_rest

        -- where they have one the marks are those of thin
        pub make-thin_part : IsPart (make a n rows) (thin a n (length kept) kept)
        make-thin_part =
            let r = thin_rest in
            let p : IsPart (make a n rows) (thin a n (length trimmed) trimmed) = record { wide = r.wide; rows = r.rows; pieces = r.pieces } in
            subst (λ ks. IsPart (make a n rows) (thin a n (length ks) ks)) (sym kept_is) p

        -- and the piece is what thin leaves
        pub make-some : (left : PlainPiece) → left ≡ (thin a n (length kept) kept).value → Some left ≡ (make a n rows).value
        make-some left e = ap Some (e ∙ ap (λ ks. (thin a n (length ks) ks).value) kept_is) ∙ thin_rest.same
