use Rattle.std.proofs.Common.{[], ◌∷◌, ◌++◌, sym, ap, ◌∙◌, subst}
use Rattle.lhg_num.specs.MarkedLaws.{IsPart}
use Rattle.lhg_num.specs.Halting.{IsHaltedByRows}
use Rattle.lhg_num.proofs.Halted.{rest_halts_rows, part_halts_rows}
use Rattle.lhg_row.specs.Pieces.{are_empty}
use Rattle.lhg_row.specs.Lists.{cut_off, minus_piece}
use Rattle.lhg_union.specs.PolyLists.{lines_of}
use Rattle.lhg_union.proofs.Halts.{rows_of_memory}
use Rattle.lhg_union.proofs.CutSteps.{apart-part, apart-value, cut-rest}
use Rattle.lhg_union.proofs.cutting.minus_piece.Goals as goal

pub returns-in_err-apart-clause-calculus : goal.returns-in_err-apart-clause-calculus
returns-in_err-apart-clause-calculus g c =
    let a = g.N.Scalar.arithmetic in
    let p = c.args.p in
    let q = c.args.q.now in
    part_halts_rows c.from_residual.result c.in_err-apart.field-0.0 _ (λ v. lines_of v.items) _ (λ b. b) c.from_residual.ensures.1 c.in_err-apart.ensures.calculus
    (subst (λ n. IsPart (minus_piece a q.width p.lines q.lines) (are_empty a n (p.lines ++ q.lines))) (sym c.requires) (apart-part a q.width p.lines q.lines))

pub returns-then-apart-clause-calculus : goal.returns-then-apart-clause-calculus
returns-then-apart-clause-calculus g c =
    let a = g.N.Scalar.arithmetic in
    let p = c.args.p in
    let q = c.args.q.now in
    let is = c.in_ok-apart.ensures.calculus ∙ ap (λ n. (are_empty a n (p.lines ++ q.lines)).value) c.requires in
    rows_of_memory c.alone.result (p ∷ []) (λ v. v.items) (minus_piece a q.width p.lines q.lines) lines_of c.alone.ensures (apart-value a q.width p.lines q.lines c.in_ok-apart.apart is c.if-apart.true)

pub returns-clause-calculus : goal.returns-clause-calculus
returns-clause-calculus g c =
    let a = g.N.Scalar.arithmetic in
    let p = c.args.p in
    let q = c.args.q.now in
    let is = c.in_ok-apart.ensures.calculus ∙ ap (λ n. (are_empty a n (p.lines ++ q.lines)).value) c.requires in
    let same = ap (λ n. cut_off a n c.rows-rows.result.now c.rows-others.result.now) c.vars.ensures ∙ ap (λ rs. cut_off a q.width rs c.rows-others.result.now) c.rows-rows.ensures.rows ∙ ap (cut_off a q.width p.lines) c.rows-others.ensures.rows in
    rest_halts_rows c.cut_off.result (minus_piece a q.width p.lines q.lines) (cut_off a q.width p.lines q.lines) (λ v. lines_of v.items)
    (cut-rest a q.width p.lines q.lines c.in_ok-apart.apart is c.if-apart.false)
    (subst (λ m. IsHaltedByRows c.cut_off.result m (λ v. lines_of v.items)) same c.cut_off.ensures.calculus)
