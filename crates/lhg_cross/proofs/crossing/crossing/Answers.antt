use Rattle.std.proofs.Common.{true, sym, ◌∙◌, subst}
use Rattle.std.specs.Prelude.{option_map}
use Rattle.lhg_num.proofs.Halted.{part_halts_rows, rest_halts_rows, rows_exact, rows_on_wide}
use Rattle.lhg_row.specs.Width.{AllWide}
use Rattle.lhg_row.specs.HasValue.{IsEmptiness}
use Rattle.lhg_motion.specs.CrossCalculus.{cross}
use Rattle.lhg_motion.specs.CrossFact.{IsCross}
use Rattle.lhg_motion.specs.CrossLaws.{cross-exact}
use Rattle.lhg_cross.proofs.CrossSteps.{formed-wide, formed-none, cross-rows_part, cross-trim_part, cross-project_rest}
use Rattle.lhg_cross.proofs.crossing.crossing.Goals as goal

pub returns-in_err-rows-clause-calculus : goal.returns-in_err-rows-clause-calculus
returns-in_err-rows-clause-calculus g c =
    let p = c.args in
    rows_on_wide c.from_residual-in_err-rows.result c.in_err-rows.field-0.0 _ (option_map (λ p. p.lines)) _ (λ v. v.items) c.from_residual-in_err-rows.ensures.1 c.in_err-rows.ensures
    (cross-rows_part g.N.Scalar.arithmetic p.from.now.width p.from.now.lines p.through.now.lines p.into.now.lines p.flow.now c.vars-n.result c.rows.result.now c.rows-2.result.now c.rows-3.result.now c.vars-n.ensures c.rows.ensures.rows c.rows-2.ensures.rows c.rows-3.ensures.rows)

pub are_refuted-requires : goal.are_refuted-requires
are_refuted-requires g c =
    let p = c.args in
    let through = subst (λ k. AllWide k p.through.now.lines) c.requires.through c.rows-2.ensures.poly.wide in
    let into = subst (λ k. AllWide k p.into.now.lines) c.requires.into c.rows-3.ensures.poly.wide in
    subst (λ rs. AllWide c.in_ok-vars.vars rs) (sym c.deref.ensures.value)
    (formed-wide g.N.Scalar.arithmetic p.from.now.width g.met.N.Scalar.lawful p.from.now.lines p.through.now.lines p.into.now.lines p.flow.now c.rows.ensures.poly.wide through into c.requires.flow c.vars-n.result c.rows.result.now c.rows-2.result.now c.rows-3.result.now c.vars-n.ensures c.rows.ensures.rows c.rows-2.ensures.rows c.rows-3.ensures.rows c.in_ok-vars.vars c.in_ok-vars.ensures c.in_ok-rows.rows.items c.in_ok-rows.ensures)

pub trim-requires : goal.trim-requires
trim-requires g c =
    let p = c.args in
    let through = subst (λ k. AllWide k p.through.now.lines) c.requires.through c.rows-2.ensures.poly.wide in
    let into = subst (λ k. AllWide k p.into.now.lines) c.requires.into c.rows-3.ensures.poly.wide in
    formed-wide g.N.Scalar.arithmetic p.from.now.width g.met.N.Scalar.lawful p.from.now.lines p.through.now.lines p.into.now.lines p.flow.now c.rows.ensures.poly.wide through into c.requires.flow c.vars-n.result c.rows.result.now c.rows-2.result.now c.rows-3.result.now c.vars-n.ensures c.rows.ensures.rows c.rows-2.ensures.rows c.rows-3.ensures.rows c.in_ok-vars.vars c.in_ok-vars.ensures c.in_ok-rows.rows.items c.in_ok-rows.ensures

pub returns-then-none-clause-calculus : goal.returns-then-none-clause-calculus
returns-then-none-clause-calculus g c =
    let p = c.args in
    let through = subst (λ k. AllWide k p.through.now.lines) c.requires.through c.rows-2.ensures.poly.wide in
    let into = subst (λ k. AllWide k p.into.now.lines) c.requires.into c.rows-3.ensures.poly.wide in
    formed-none g.N.Scalar.arithmetic p.from.now.width g.met.N.Scalar.lawful p.from.now.lines p.through.now.lines p.into.now.lines p.flow.now c.rows.ensures.poly.wide through into c.requires.flow c.vars-n.result c.rows.result.now c.rows-2.result.now c.rows-3.result.now c.vars-n.ensures c.rows.ensures.rows c.rows-2.ensures.rows c.rows-3.ensures.rows c.in_ok-vars.vars c.in_ok-vars.ensures c.in_ok-rows.rows.items c.in_ok-rows.ensures
    (subst (λ rs. IsEmptiness c.in_ok-vars.vars rs true) c.deref.ensures.value (c.in_ok-none.ensures.points c.if-none.true))

pub returns-then-none-clause-points : goal.returns-then-none-clause-points
returns-then-none-clause-points g c =
    let a = g.N.Scalar.arithmetic in
    let n = c.args.from.now.width in
    let p = c.args in
    let through = subst (λ k. AllWide k p.through.now.lines) c.requires.through c.rows-2.ensures.poly.wide in
    let into = subst (λ k. AllWide k p.into.now.lines) c.requires.into c.rows-3.ensures.poly.wide in
    subst (IsCross a n p.from.now.lines p.through.now.lines p.into.now.lines p.flow.now) (sym (returns-then-none-clause-calculus g c))
    (cross-exact a n g.met.N.Scalar.lawful p.from.now.lines p.through.now.lines p.into.now.lines p.flow.now c.rows.ensures.poly.wide through into c.requires.flow)

pub returns-in_err-system-clause-calculus : goal.returns-in_err-system-clause-calculus
returns-in_err-system-clause-calculus g c =
    let p = c.args in
    part_halts_rows c.from_residual-in_err-system.result c.in_err-system.field-0.0 _ (option_map (λ p. p.lines)) _ (λ s. s.lines) c.from_residual-in_err-system.ensures.1 c.in_err-system.ensures.list
    (cross-trim_part g.N.Scalar.arithmetic p.from.now.width p.from.now.lines p.through.now.lines p.into.now.lines p.flow.now c.vars-n.result c.rows.result.now c.rows-2.result.now c.rows-3.result.now c.vars-n.ensures c.rows.ensures.rows c.rows-2.ensures.rows c.rows-3.ensures.rows
    c.in_ok-rows.rows.items c.in_ok-rows.ensures)

pub returns-clause-calculus : goal.returns-clause-calculus
returns-clause-calculus g c =
    let p = c.args in
    rest_halts_rows c.project_further.result _ _ (option_map (λ p. p.lines))
    (cross-project_rest g.N.Scalar.arithmetic p.from.now.width p.from.now.lines p.through.now.lines p.into.now.lines p.flow.now c.vars-n.result c.rows.result.now c.rows-2.result.now c.rows-3.result.now c.vars-n.ensures c.rows.ensures.rows c.rows-2.ensures.rows c.rows-3.ensures.rows
    c.in_ok-rows.rows.items c.in_ok-rows.ensures c.in_ok-system.system.width c.in_ok-system.system.lines (c.in_ok-system.ensures.width ∙ c.in_ok-vars.ensures) c.in_ok-system.ensures.list)
    c.project_further.ensures.calculus

pub returns-clause-points : goal.returns-clause-points
returns-clause-points g c =
    let a = g.N.Scalar.arithmetic in
    let p = c.args in
    let n = p.from.now.width in
    let through = subst (λ k. AllWide k p.through.now.lines) c.requires.through c.rows-2.ensures.poly.wide in
    let into = subst (λ k. AllWide k p.into.now.lines) c.requires.into c.rows-3.ensures.poly.wide in
    rows_exact c.project_further.result (cross a n p.from.now.lines p.through.now.lines p.into.now.lines p.flow.now) (option_map (λ p. p.lines)) (IsCross a n p.from.now.lines p.through.now.lines p.into.now.lines p.flow.now)
    (rest_halts_rows c.project_further.result _ _ (option_map (λ p. p.lines))
    (cross-project_rest a n p.from.now.lines p.through.now.lines p.into.now.lines p.flow.now c.vars-n.result c.rows.result.now c.rows-2.result.now c.rows-3.result.now c.vars-n.ensures c.rows.ensures.rows c.rows-2.ensures.rows c.rows-3.ensures.rows
    c.in_ok-rows.rows.items c.in_ok-rows.ensures c.in_ok-system.system.width c.in_ok-system.system.lines (c.in_ok-system.ensures.width ∙ c.in_ok-vars.ensures) c.in_ok-system.ensures.list)
    c.project_further.ensures.calculus)
    (cross-exact a n g.met.N.Scalar.lawful p.from.now.lines p.through.now.lines p.into.now.lines p.flow.now c.rows.ensures.poly.wide through into c.requires.flow)
