use Rattle.std.proofs.Common.{◌≡◌, length, sym, ap, ◌∙◌, subst}
use Rattle.lhg_num.specs.Marked.{Marked}
use Rattle.lhg_num.specs.MarkedLaws.{IsPart}
use Rattle.lhg_num.proofs.Halted.{part_halts_wide}
use Rattle.lhg_play.specs.Checks.{AreChecks, HaveMiddleTruths}
use Rattle.lhg_play.specs.Cut.{change, turns, with_middles, cut}
use Rattle.lhg_play.proofs.CallSteps.{point-seen, length-change, change-part, turns-part, turns-rest, rest_halts_wide, halted_exact}
use Rattle.lhg_play.proofs.CutPlaces.{cut-places}
use Rattle.lhg_play.proofs.cutting.cut.Goals as goal

pub returns-in_err-change-clause-calculus : goal.returns-in_err-change-clause-calculus
returns-in_err-change-clause-calculus c =
    let x = c.args.from.now in
    let y = c.args.to.now in
    let rows = c.args.rows.now in
    let fx = point-seen c.deref.result.now c.from.inside.at.items x c.deref.ensures.value c.from.view_is in
    let fy = point-seen c.deref-2.result.now c.to.inside.at.items y c.deref-2.ensures.value c.to.view_is in
    let same : change c.deref.result.now c.deref-2.result.now ≡ change x y = ap (λ w. change w c.deref-2.result.now) fx ∙ ap (change x) fy in
    part_halts_wide c.from_residual.result c.in_err-change.field-0.0 (cut x y rows) (λ v. v.items) _ (λ v. v.items) c.from_residual.ensures.1 c.in_err-change.ensures
    (subst (λ m. IsPart (cut x y rows) m) (sym same) (change-part x y rows))

pub turns-requires-clause-ends : goal.turns-requires-clause-ends
turns-requires-clause-ends c =
    let x = c.args.from.now in
    let y = c.args.to.now in
    let fx = point-seen c.deref.result.now c.from.inside.at.items x c.deref.ensures.value c.from.view_is in
    let fy = point-seen c.deref-2.result.now c.to.inside.at.items y c.deref-2.ensures.value c.to.view_is in
    let gx = point-seen c.deref-3.result.now c.from.inside.at.items x c.deref-3.ensures.value c.from.view_is in
    let d : c.in_ok-change.change.items ≡ (change x y).value = c.in_ok-change.ensures ∙ ap (λ w. (change w c.deref-2.result.now).value) fx ∙ ap (λ w. (change x w).value) fy in
    ap length gx ∙ length-change x y c.requires.ends ∙ ap length (sym (c.deref-4.ensures.value ∙ d))

pub returns-in_err-turns-clause-calculus : goal.returns-in_err-turns-clause-calculus
returns-in_err-turns-clause-calculus c =
    let x = c.args.from.now in
    let y = c.args.to.now in
    let rows = c.args.rows.now in
    let fx = point-seen c.deref.result.now c.from.inside.at.items x c.deref.ensures.value c.from.view_is in
    let fy = point-seen c.deref-2.result.now c.to.inside.at.items y c.deref-2.ensures.value c.to.view_is in
    let gx = point-seen c.deref-3.result.now c.from.inside.at.items x c.deref-3.ensures.value c.from.view_is in
    let d : c.in_ok-change.change.items ≡ (change x y).value = c.in_ok-change.ensures ∙ ap (λ w. (change w c.deref-2.result.now).value) fx ∙ ap (λ w. (change x w).value) fy in
    let same : turns c.deref-3.result.now c.deref-4.result.now rows ≡ turns x c.in_ok-change.change.items rows =
    ap (λ w. turns w c.deref-4.result.now rows) gx ∙ ap (λ w. turns x w rows) c.deref-4.ensures.value in
    part_halts_wide c.from_residual-in_err-turns.result c.in_err-turns.field-0.0 (cut x y rows) (λ v. v.items) _ (λ v. v.items) c.from_residual-in_err-turns.ensures.1 c.in_err-turns.ensures
    (subst (λ m. IsPart (cut x y rows) m) (sym same) (turns-part x y rows c.in_ok-change.change.items d))

pub returns-clause-calculus : goal.returns-clause-calculus
returns-clause-calculus c =
    let x = c.args.from.now in
    let y = c.args.to.now in
    let rows = c.args.rows.now in
    let fx = point-seen c.deref.result.now c.from.inside.at.items x c.deref.ensures.value c.from.view_is in
    let fy = point-seen c.deref-2.result.now c.to.inside.at.items y c.deref-2.ensures.value c.to.view_is in
    let gx = point-seen c.deref-3.result.now c.from.inside.at.items x c.deref-3.ensures.value c.from.view_is in
    let d : c.in_ok-change.change.items ≡ (change x y).value = c.in_ok-change.ensures ∙ ap (λ w. (change w c.deref-2.result.now).value) fx ∙ ap (λ w. (change x w).value) fy in
    let ts : c.deref-5.result.now ≡ (turns x c.in_ok-change.change.items rows).value =
    c.deref-5.ensures.value ∙ c.in_ok-turns.ensures ∙ ap (λ w. (turns w c.deref-4.result.now rows).value) gx ∙ ap (λ w. (turns x w rows).value) c.deref-4.ensures.value in
    rest_halts_wide c.with_middles.result (cut x y rows) (with_middles c.deref-5.result.now) (λ v. v.items) (turns-rest x y rows c.in_ok-change.change.items c.deref-5.result.now d ts) c.with_middles.ensures

pub returns-clause-places : goal.returns-clause-places
returns-clause-places c =
    let x = c.args.from.now in
    let y = c.args.to.now in
    let rows = c.args.rows.now in
    halted_exact c.with_middles.result (cut x y rows) (λ v. v.items) (AreChecks rows x y) (returns-clause-calculus c) (cut-places x y rows c.requires.ends).0

pub returns-clause-truths : goal.returns-clause-truths
returns-clause-truths c =
    let x = c.args.from.now in
    let y = c.args.to.now in
    let rows = c.args.rows.now in
    halted_exact c.with_middles.result (cut x y rows) (λ v. v.items) (HaveMiddleTruths rows x y) (returns-clause-calculus c) (cut-places x y rows c.requires.ends).1
