use Rattle.std.proofs.Common.{◌≡◌, ◌<◌, true, length, sym, ap, ◌∙◌, arith}
use Rattle.std.specs.Prelude.{◌==◌}
use Rattle.lhg_row.specs.Lists.{is_nil}
use Rattle.lhg_plant.specs.Views.{plain_plant, plain_switch}
use Rattle.lhg_union.specs.PolyLists.{lines_of}
use Rattle.lhg_union.specs.Regions.{plain_region}
use Rattle.lhg_union.proofs.ListFacts.{nil_test}
use Rattle.lhg_jump.proofs.RangeSteps.{lines-at}
use Rattle.lhg_ctl.specs.Views.{plain_controller}
use Rattle.lhg_check.specs.Check.{first_of}
use Rattle.lhg_check.proofs.GuardSteps.{nil-is, none-broken}
use Rattle.lhg_check.proofs.InsideSteps.{switch-below}
use Rattle.lhg_check.proofs.guarding.broken_by.Goals as goal

pub returns-then-is_empty-clause-calculus : goal.returns-then-is_empty-clause-calculus
returns-then-is_empty-clause-calculus c =
    let p = c.args.plant.now in
    let ct = c.args.controller.now in
    let w = c.args.switch.now in
    let e = c.args.e in
    let v = c.index.result.now in
    let in_guards : e < length ct.guards.items = let b = switch-below p e w c.requires.switch in let m = c.requires.controller.guards.many in omega arith in
    let none : is_nil (lines_of v.items) ≡ true = nil_test v.items ∙ sym (ap (λ k. k == 0) v.ok.0) ∙ sym c.is_empty.ensures ∙ c.if-is_empty.true in
    let empty = sym (lines-at ct.guards.items e v c.index.ensures in_guards) ∙ nil-is (lines_of v.items) none in
    sym (ap first_of (none-broken (plain_plant p) (plain_region c.args.invs.now) (plain_region c.args.away.now) (plain_controller ct) e (plain_switch w) w.side empty))
