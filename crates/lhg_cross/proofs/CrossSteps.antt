-- What is left of the calculus of one crossing after each of its steps?
use Rattle.std.proofs.Common.{◌≡◌, ℕ, ◌+◌, [], ◌∷◌, ◌++◌, length, true, Option, Some, None, refl, sym, ap, ◌∙◌, subst, arith}
use Rattle.std.proofs.lemmas.List.{length-append}
use Rattle.lhg_num.specs.Arithmetic.{Arithmetic, IsLawful}
use Rattle.lhg_num.specs.Marked.{and_then, IsRest}
use Rattle.lhg_num.specs.MarkedLaws.{IsPart, and_then-rest, and_then-part}
use Rattle.lhg_row.specs.Piece.{PlainPiece}
use Rattle.lhg_row.specs.Width.{AllWide}
use Rattle.lhg_row.specs.HasValue.{IsEmptiness}
use Rattle.lhg_row.specs.Trim.{trim}
use Rattle.lhg_row.specs.Pieces.{project}
use Rattle.lhg_motion.specs.CrossCalculus.{cross_rows, cross}
use Rattle.lhg_motion.specs.CrossFact.{IsCross}
use Rattle.lhg_motion.specs.CrossSystem.{cross_rows-wide, middle_rows}
use Rattle.lhg_motion.specs.CrossLaws.{to_middle, cross-exact}
use Rattle.lhg_num.specs.PartLaws.{rest_step, step_part}

module _ (a : Arithmetic) (n : ℕ) (start through into flow : PlainPiece) where
  abbrev formed : PlainPiece
  formed = (cross_rows a n start through into flow).value

  first_part : IsPart (cross a n start through into flow) (cross_rows a n start through into flow)
  unfolding cross
  first_part = and_then-part (cross_rows a n start through into flow) (λ rows. and_then (trim a rows) (project a (n + n + 1) n))

  after_rows : IsRest (cross a n start through into flow) (and_then (trim a formed) (project a (n + n + 1) n))
  unfolding cross
  after_rows = and_then-rest (cross_rows a n start through into flow) (λ rows. and_then (trim a rows) (project a (n + n + 1) n))

  module _ (m : ℕ) (s t i : PlainPiece) (m_is : m ≡ n) (s_is : s ≡ start) (t_is : t ≡ through) (i_is : i ≡ into) where
    -- the rows of the same pieces over as many variables
    pub same_rows : cross_rows a m s t i flow ≡ cross_rows a n start through into flow
    same_rows =
        ap (λ (k : ℕ). cross_rows a k s t i flow) m_is ∙ ap (λ (p : PlainPiece). cross_rows a n p t i flow) s_is
        ∙ ap (λ (p : PlainPiece). cross_rows a n start p i flow) t_is ∙ ap (λ (p : PlainPiece). cross_rows a n start through p flow) i_is

    -- their marks
    pub cross-rows_part : IsPart (cross a n start through into flow) (cross_rows a m s t i flow)
    cross-rows_part = subst (λ r. IsPart (cross a n start through into flow) r) (sym same_rows) first_part

    module _ (rows : PlainPiece) (rows_is : rows ≡ (cross_rows a m s t i flow).value) where
      formed_is : rows ≡ formed
      formed_is = rows_is ∙ ap (λ r. r.value) same_rows

      -- the marks of trim
      pub cross-trim_part : IsPart (cross a n start through into flow) (trim a rows)
      cross-trim_part =
          subst (λ (rs : PlainPiece). IsPart (cross a n start through into flow) (trim a rs)) (sym formed_is)
          (step_part (cross a n start through into flow) (trim a formed) (project a (n + n + 1) n) after_rows)

      -- the projection is what is left
      pub cross-project_rest : (k : ℕ) (lines : PlainPiece) → k ≡ m + m + 1 → lines ≡ (trim a rows).value → IsRest (cross a n start through into flow) (project a k m lines)
      cross-project_rest k lines k_is lines_is =
          let all : IsRest (cross a n start through into flow) (project a (n + n + 1) n lines) =
          rest_step (cross a n start through into flow) (trim a formed) (project a (n + n + 1) n) lines after_rows (lines_is ∙ ap (λ (rs : PlainPiece). (trim a rs).value) formed_is) in
          subst (λ (j : ℕ). IsRest (cross a n start through into flow) (project a j m lines)) (sym k_is)
          (subst (λ (j : ℕ). IsRest (cross a n start through into flow) (project a (j + j + 1) j lines)) (sym m_is) all)

-- ---- rows without a point
module _ (a : Arithmetic) (n : ℕ) (laws : IsLawful a) (start through into flow : PlainPiece) (ws : AllWide n start) (wt : AllWide n through) (wi : AllWide n into) (wf : AllWide n flow) where
  -- rows of a straight flow that have no point leave no crossing
  pub none_crossed : IsEmptiness (n + n + 1) (cross_rows a n start through into flow).value true → None ≡ (cross a n start through into flow).value
  none_crossed h = none (cross a n start through into flow).value (cross-exact a n laws start through into flow ws wt wi wf)
    where
      none : (o : Option PlainPiece) → IsCross a n start through into flow o → None ≡ o
      none None c = refl
      none (Some piece) c =
          let x = c.poly.point.point in
          let l = c.poly.point.wide in
          let m = to_middle start through into flow x ((c.points x l).0 c.poly.point.holds) in
          let long : length (x ++ m.to ++ m.time ∷ []) ≡ n + n + 1 = omega (arith, l, m.legal.same_length, length-append (x ++ m.to) (m.time ∷ []), length-append x m.to) in
          absurd (h (x ++ m.to ++ m.time ∷ []) long (middle_rows a n start through into flow ws wt wi wf x l m))

  module _ (m : ℕ) (s t i : PlainPiece) (m_is : m ≡ n) (s_is : s ≡ start) (t_is : t ≡ through) (i_is : i ≡ into) (vars : ℕ) (vars_is : vars ≡ m + m + 1)
      (rows : PlainPiece) (rows_is : rows ≡ (cross_rows a m s t i flow).value) where
    same_value : rows ≡ (cross_rows a n start through into flow).value
    same_value = rows_is ∙ ap (λ r. r.value) (same_rows a n start through into flow m s t i m_is s_is t_is i_is)

    same_vars : vars ≡ n + n + 1
    same_vars = vars_is ∙ ap (λ k. k + k + 1) m_is

    -- the rows are over two points and a time
    pub formed-wide : AllWide vars rows
    formed-wide = subst (λ k. AllWide k rows) (sym same_vars) (subst (λ (rs : PlainPiece). AllWide (n + n + 1) rs) (sym same_value) (cross_rows-wide a n start through into flow ws wt wi wf))

    -- and where they have no point there is no crossing
    pub formed-none : IsEmptiness vars rows true → None ≡ (cross a n start through into flow).value
    formed-none h = none_crossed (subst (λ k. IsEmptiness k (cross_rows a n start through into flow).value true) same_vars (subst (λ (rs : PlainPiece). IsEmptiness vars rs true) same_value h))
