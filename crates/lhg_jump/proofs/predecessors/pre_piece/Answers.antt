use Rattle.std.proofs.Common.{◌≡◌, ◌+◌, sym, ap, ◌∙◌, subst}
use Rattle.std.specs.Prelude.{option_map}
use Rattle.lhg_num.specs.FracArithmetic.{frac_arithmetic}
use Rattle.lhg_num.specs.MarkedLaws.{IsPart}
use Rattle.lhg_num.specs.Halting.{IsHaltedByRows}
use Rattle.lhg_num.proofs.Halted.{rest_halts_rows, part_halts_rows}
use Rattle.lhg_row.specs.Width.{AllWide}
use Rattle.lhg_row.specs.Trim.{trim}
use Rattle.lhg_row.specs.Pieces.{project}
use Rattle.lhg_plant.specs.Pre.{pre_rows, pre_piece}
use Rattle.lhg_plant.proofs.PrePoints.{rows-wide}
use Rattle.lhg_jump.proofs.PreSteps.{trim-part, project-rest}
use Rattle.lhg_jump.proofs.predecessors.pre_piece.Goals as goal

pub trim-requires : goal.trim-requires
trim-requires c =
    let n = c.args.vars in
    subst (AllWide (n + n)) (sym c.in_ok-rows.ensures) (rows-wide n c.args.jump.now c.args.q.now c.args.inv.now c.requires.jump c.requires.inv c.requires.target)

pub returns-in_err-system-clause-calculus : goal.returns-in_err-system-clause-calculus
returns-in_err-system-clause-calculus c =
    let n = c.args.vars in
    part_halts_rows c.from_residual-in_err-system.result c.in_err-system.field-0.0 _ (option_map (λ p. p.lines)) _ (λ s. s.lines) c.from_residual-in_err-system.ensures.1 c.in_err-system.ensures.list
    (subst (λ rs. IsPart (pre_piece n c.args.jump.now c.args.q.now c.args.inv.now) (trim frac_arithmetic rs)) (sym c.in_ok-rows.ensures) (trim-part n c.args.jump.now c.args.q.now c.args.inv.now))

pub returns-clause-calculus : goal.returns-clause-calculus
returns-clause-calculus c =
    let n = c.args.vars in
    let s = c.in_ok-system.system in
    let rows = pre_rows n c.args.jump.now c.args.q.now c.args.inv.now in
    let lines : s.lines ≡ (trim frac_arithmetic rows).value = c.in_ok-system.ensures.list ∙ ap (λ rs. (trim frac_arithmetic rs).value) c.in_ok-rows.ensures in
    let same = ap (λ k. project frac_arithmetic k n s.lines) c.in_ok-system.ensures.width ∙ ap (project frac_arithmetic (n + n) n) lines in
    rest_halts_rows c.project.result (pre_piece n c.args.jump.now c.args.q.now c.args.inv.now) (project frac_arithmetic (n + n) n (trim frac_arithmetic rows).value) (option_map (λ p. p.lines))
    (project-rest n c.args.jump.now c.args.q.now c.args.inv.now) (subst (λ m. IsHaltedByRows c.project.result m (option_map (λ p. p.lines))) same c.project.ensures.calculus)
