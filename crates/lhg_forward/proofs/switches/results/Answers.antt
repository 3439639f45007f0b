use Rattle.std.proofs.Common.{◌≡◌, ◌+◌, map, sym, ap, ◌∙◌, subst}
use Rattle.std.specs.Prelude.{option_map}
use Rattle.lhg_num.specs.FracArithmetic.{frac_arithmetic}
use Rattle.lhg_num.specs.MarkedLaws.{IsPart}
use Rattle.lhg_num.specs.Halting.{IsHaltedByRows}
use Rattle.lhg_num.proofs.Halted.{rest_halts_rows, part_halts_rows}
use Rattle.lhg_row.specs.System.{PlainSystem}
use Rattle.lhg_row.specs.Width.{AllWide}
use Rattle.lhg_row.specs.Trim.{trim}
use Rattle.lhg_row.specs.Pieces.{project}
use Rattle.lhg_plant.specs.Pre.{pre_rows, pre_piece}
use Rattle.lhg_plant.proofs.PrePoints.{rows-wide}
use Rattle.lhg_jump.proofs.PreSteps.{trim-part, project-rest}
use Rattle.lhg_forward.specs.After.{swapped}
use Rattle.lhg_forward.proofs.AfterSwitch.{swapped-wide}
use Rattle.lhg_forward.proofs.switches.results.Goals as goal

pub trim-requires : goal.trim-requires
trim-requires c =
    let n = c.args.vars in
    let js = map (swapped n) c.args.jump.now in
    let q = c.args.piece.now.lines in
    let inv = c.args.inv.now.lines in
    let rows = c.in_ok-all.ensures ∙ ap (λ rs. pre_rows n js rs c.rows-there.result.now) c.rows-from.ensures.rows ∙ ap (λ rs. pre_rows n js q rs) c.rows-there.ensures.rows in
    let wq : AllWide n q = subst (λ k. AllWide k q) c.requires.piece c.rows-from.ensures.poly.wide in
    let wi : AllWide n inv = subst (λ k. AllWide k inv) c.requires.inv c.rows-there.ensures.poly.wide in
    subst (AllWide (n + n)) (sym rows) (rows-wide n js q inv (swapped-wide n c.args.jump.now c.requires.jump) wi wq)

pub returns-in_err-system-clause-calculus : goal.returns-in_err-system-clause-calculus
returns-in_err-system-clause-calculus c =
    let n = c.args.vars in
    let js = map (swapped n) c.args.jump.now in
    let q = c.args.piece.now.lines in
    let inv = c.args.inv.now.lines in
    let rows = c.in_ok-all.ensures ∙ ap (λ rs. pre_rows n js rs c.rows-there.result.now) c.rows-from.ensures.rows ∙ ap (λ rs. pre_rows n js q rs) c.rows-there.ensures.rows in
    part_halts_rows c.from_residual-in_err-system.result c.in_err-system.field-0.0 _ (option_map (λ (p : PlainSystem). p.lines)) _ (λ s. s.lines) c.from_residual-in_err-system.ensures.1 c.in_err-system.ensures.list
    (subst (λ rs. IsPart (pre_piece n js q inv) (trim frac_arithmetic rs)) (sym rows) (trim-part n js q inv))

pub returns-clause-calculus : goal.returns-clause-calculus
returns-clause-calculus c =
    let n = c.args.vars in
    let js = map (swapped n) c.args.jump.now in
    let q = c.args.piece.now.lines in
    let inv = c.args.inv.now.lines in
    let rows = c.in_ok-all.ensures ∙ ap (λ rs. pre_rows n js rs c.rows-there.result.now) c.rows-from.ensures.rows ∙ ap (λ rs. pre_rows n js q rs) c.rows-there.ensures.rows in
    let s = c.in_ok-system.system in
    let lines : s.lines ≡ (trim frac_arithmetic (pre_rows n js q inv)).value = c.in_ok-system.ensures.list ∙ ap (λ rs. (trim frac_arithmetic rs).value) rows in
    let same = ap (λ k. project frac_arithmetic k n s.lines) c.in_ok-system.ensures.width ∙ ap (project frac_arithmetic (n + n) n) lines in
    rest_halts_rows c.project.result (pre_piece n js q inv) (project frac_arithmetic (n + n) n (trim frac_arithmetic (pre_rows n js q inv)).value) (option_map (λ (p : PlainSystem). p.lines))
    (project-rest n js q inv) (subst (λ m. IsHaltedByRows c.project.result m (option_map (λ (p : PlainSystem). p.lines))) same c.project.ensures.calculus)
