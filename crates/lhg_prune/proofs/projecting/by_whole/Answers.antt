use Rattle.std.proofs.Common.{◌-◌, sym, subst}
use Rattle.std.specs.Prelude.{option_map}
use Rattle.lhg_num.specs.Arithmetic.{IsLawful}
use Rattle.lhg_row.specs.Piece.{PlainPiece}
use Rattle.lhg_row.specs.Width.{AllWide}
use Rattle.lhg_row.specs.PieceFacts.{IsProjection}
use Rattle.lhg_row.specs.ProjectLaws.{project-exact}
use Rattle.lhg_row.specs.Pieces.{make, project}
use Rattle.lhg_whole.specs.WholeArithmetic.{whole_arithmetic, whole_is_lawful}
use Rattle.lhg_elim.specs.Alike.{AllAlike}
use Rattle.lhg_elim.specs.Turned.{AllTurned}
use Rattle.lhg_elim.proofs.WholeSteps.{alike-wide}
use Rattle.lhg_prune.specs.Pruning.{IsLeft}
use Rattle.lhg_prune.specs.PrunedAlike.{left_alike}
use Rattle.lhg_prune.proofs.ProjectSteps.{same_value, value_has}
use Rattle.lhg_prune.proofs.projecting.by_whole.Goals as goal

pub left_rows-requires-clause-wide : goal.left_rows-requires-clause-wide
left_rows-requires-clause-wide g c =
    let s = c.args.sys.now in
    let wide = alike-wide g.N.Scalar.arithmetic s.width c.rows-lines.result.now c.in_ok-wholes.wholes.items c.in_ok-wholes.ensures (subst (AllWide s.width) (sym c.rows-lines.ensures.rows) c.rows-lines.ensures.trimmed.wide) in
    subst (λ n. AllWide n c.in_ok-wholes.wholes.items) (sym c.vars-n.ensures) wide

pub make-requires : goal.make-requires
make-requires g c =
    let a = g.N.Scalar.arithmetic in
    let laws : IsLawful a = g.met.N.Scalar.lawful in
    let s = c.args.sys.now in
    let wholes = c.in_ok-wholes.wholes.items in
    let kept = c.in_ok-kept.kept.items in
    let back = c.in_ok-back.back.items in
    let alike : AllAlike a s.lines wholes = subst (λ (rs : PlainPiece). AllAlike a rs wholes) c.rows-lines.ensures.rows c.in_ok-wholes.ensures in
    let turned : AllTurned a kept back = subst (λ (rs : PlainPiece). AllTurned a rs back) c.deref.ensures.value c.in_ok-back.ensures in
    let p : IsLeft whole_arithmetic s.width c.args.keep wholes kept = subst (λ n. IsLeft whole_arithmetic n c.args.keep wholes kept) c.vars-n.ensures c.in_ok-kept.ensures in
    (left_alike a whole_arithmetic s.width c.args.keep s.lines wholes kept back laws whole_is_lawful c.requires c.rows-lines.ensures.trimmed alike p turned).0

pub returns-clause-value : goal.returns-clause-value
returns-clause-value g c =
    let a = g.N.Scalar.arithmetic in
    let laws : IsLawful a = g.met.N.Scalar.lawful in
    let s = c.args.sys.now in
    let wholes = c.in_ok-wholes.wholes.items in
    let kept = c.in_ok-kept.kept.items in
    let back = c.in_ok-back.back.items in
    let alike : AllAlike a s.lines wholes = subst (λ (rs : PlainPiece). AllAlike a rs wholes) c.rows-lines.ensures.rows c.in_ok-wholes.ensures in
    let turned : AllTurned a kept back = subst (λ (rs : PlainPiece). AllTurned a rs back) c.deref.ensures.value c.in_ok-back.ensures in
    let p : IsLeft whole_arithmetic s.width c.args.keep wholes kept = subst (λ n. IsLeft whole_arithmetic n c.args.keep wholes kept) c.vars-n.ensures c.in_ok-kept.ensures in
    same_value c.make.result (make a c.args.keep back) (option_map (λ p. p.lines)) (project a s.width c.args.keep s.lines).value c.make.ensures.calculus
    (left_alike a whole_arithmetic s.width c.args.keep s.lines wholes kept back laws whole_is_lawful c.requires c.rows-lines.ensures.trimmed alike p turned).1

pub returns-clause-points : goal.returns-clause-points
returns-clause-points g c =
    let a = g.N.Scalar.arithmetic in
    let laws : IsLawful a = g.met.N.Scalar.lawful in
    let s = c.args.sys.now in
    let keep = c.args.keep in
    let wholes = c.in_ok-wholes.wholes.items in
    let kept = c.in_ok-kept.kept.items in
    let back = c.in_ok-back.back.items in
    let alike : AllAlike a s.lines wholes = subst (λ (rs : PlainPiece). AllAlike a rs wholes) c.rows-lines.ensures.rows c.in_ok-wholes.ensures in
    let turned : AllTurned a kept back = subst (λ (rs : PlainPiece). AllTurned a rs back) c.deref.ensures.value c.in_ok-back.ensures in
    let p : IsLeft whole_arithmetic s.width keep wholes kept = subst (λ n. IsLeft whole_arithmetic n keep wholes kept) c.vars-n.ensures c.in_ok-kept.ensures in
    value_has c.make.result (make a keep back) (option_map (λ p. p.lines)) (project a s.width keep s.lines).value (IsProjection a keep (s.width - keep) s.lines) c.make.ensures.calculus
    (left_alike a whole_arithmetic s.width keep s.lines wholes kept back laws whole_is_lawful c.requires c.rows-lines.ensures.trimmed alike p turned).1
    (project-exact a s.width keep s.lines laws c.requires c.rows-lines.ensures.trimmed.wide)
