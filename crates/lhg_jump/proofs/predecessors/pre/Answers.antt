use Rattle.std.proofs.Common.{◌≡◌, ◌+◌, length, sym, ap, ◌∙◌, subst, rules}
use Rattle.lhg_num.specs.MarkedLaws.{IsPart}
use Rattle.lhg_num.specs.Halting.{IsHaltedBy}
use Rattle.lhg_row.specs.Width.{AllWide}
use Rattle.lhg_plant.specs.Invariants.{invariant_list}
use Rattle.lhg_plant.specs.Pre.{pre_list, pre}
use Rattle.lhg_plant.specs.SwitchFacts.{IsPreOf}
use Rattle.lhg_plant.specs.Views.{plain_location, plain_switch, plain_plant}
use Rattle.lhg_plant.proofs.PreStates.{pre-states}
use Rattle.lhg_union.specs.PolyLists.{lines_of}
use Rattle.lhg_union.proofs.Halts.{all_on_rows}
use Rattle.lhg_jump.proofs.Answering.{rest_halts, all_exact, over_vars, switch-there, switch-is, place-below, location-there, location-is}
use Rattle.lhg_jump.proofs.PreSteps.{invariant-part, list-rest}
use Rattle.lhg_jump.proofs.predecessors.pre.Goals as goal

pub invariant_list-requires : goal.invariant_list-requires
invariant_list-requires c =
    let p = c.args.plant.now in
    let w = c.index-switch.result.now in
    let l = c.index-location.result.now in
    let is = switch-there p c.args.switch w c.requires.there c.index-switch.ensures in
    let l_is = location-there p w.from l (place-below p w.from (switch-is p c.args.switch w is).from) c.index-location.ensures in
    let many : c.len.result ≡ length p.vars.items = search rules in
    subst (λ n. AllWide n l.inv.items) (sym many) (location-is p w.from l l_is).inv.wide

pub returns-in_err-invs-clause-calculus : goal.returns-in_err-invs-clause-calculus
returns-in_err-invs-clause-calculus c =
    let p = c.args.plant.now in
    let w = c.index-switch.result.now in
    let l = c.index-location.result.now in
    let is = switch-there p c.args.switch w c.requires.there c.index-switch.ensures in
    let l_is = location-there p w.from l (place-below p w.from (switch-is p c.args.switch w is).from) c.index-location.ensures in
    let many : c.len.result ≡ length p.vars.items = search rules in
    all_on_rows c.from_residual.result c.in_err-invs.field-0.0 _ (λ v. lines_of v.items) _ (λ v. lines_of v.items) c.from_residual.ensures.1 c.in_err-invs.ensures.calculus
    (subst (λ n. IsPart (pre (plain_plant p) c.args.switch (lines_of c.args.target.now)) (invariant_list n (plain_location l))) (sym many)
    (invariant-part (plain_plant p) c.args.switch (lines_of c.args.target.now) (plain_switch w) (plain_location l) is l_is))

pub pre_list-requires-clause-jump : goal.pre_list-requires-clause-jump
pre_list-requires-clause-jump c =
    let p = c.args.plant.now in
    let w = c.index-switch.result.now in
    let is = switch-there p c.args.switch w c.requires.there c.index-switch.ensures in
    let many : c.len-2.result ≡ length p.vars.items = search rules in
    let jump : c.deref-2.result.now ≡ w.jump.items = search rules in
    subst (λ n. AllWide (n + n) c.deref-2.result.now) (sym many) (subst (AllWide (length p.vars.items + length p.vars.items)) (sym jump) (switch-is p c.args.switch w is).jump.wide)

pub returns-clause-calculus : goal.returns-clause-calculus
returns-clause-calculus c =
    let p = c.args.plant.now in
    let n = length p.vars.items in
    let w = c.index-switch.result.now in
    let l = c.index-location.result.now in
    let ts = lines_of c.args.target.now in
    let is = switch-there p c.args.switch w c.requires.there c.index-switch.ensures in
    let l_is = location-there p w.from l (place-below p w.from (switch-is p c.args.switch w is).from) c.index-location.ensures in
    let many : c.len.result ≡ n = search rules in
    let again : c.len-2.result ≡ n = search rules in
    let jump : c.deref-2.result.now ≡ w.jump.items = search rules in
    let invs : lines_of c.deref.result.now ≡ (invariant_list n (plain_location l)).value =
    ap lines_of c.deref.ensures.value ∙ c.in_ok-invs.ensures.calculus ∙ ap (λ k. (invariant_list k (plain_location l)).value) many in
    let same = ap (λ k. pre_list k (lines_of c.deref.result.now) c.deref-2.result.now ts) again ∙ ap (λ is. pre_list n is c.deref-2.result.now ts) invs ∙ ap (λ js. pre_list n (invariant_list n (plain_location l)).value js ts) jump in
    rest_halts c.pre_list.result (pre (plain_plant p) c.args.switch ts) (pre_list n (invariant_list n (plain_location l)).value w.jump.items ts) (λ v. lines_of v.items)
    (list-rest (plain_plant p) c.args.switch ts (plain_switch w) (plain_location l) is l_is)
    (subst (λ m. IsHaltedBy c.pre_list.result m (λ v. lines_of v.items)) same c.pre_list.ensures.calculus)

pub returns-clause-points : goal.returns-clause-points
returns-clause-points c =
    let p = c.args.plant.now in
    let ts = lines_of c.args.target.now in
    all_exact c.pre_list.result (pre (plain_plant p) c.args.switch ts) (λ v. lines_of v.items) (λ ps. IsPreOf (plain_plant p) c.args.switch ts ps) (returns-clause-calculus c)
    (pre-states (plain_plant p) p.proper c.args.switch ts (over_vars (length p.vars.items) c.args.target.now c.requires.vars c.tell_pieces.ensures) c.requires.inside)
