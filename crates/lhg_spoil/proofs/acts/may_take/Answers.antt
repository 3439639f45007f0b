use Rattle.std.proofs.Common.{◌≡◌, ◌↔◌, ◌<◌, length, slice_get, IsSomeAnd, refl, sym, ◌∙◌, subst, inl, inr, false, arith}
use Rattle.std.specs.Prelude.{is_some, IsTrue}
use Rattle.lhg_math.specs.Tests.{false_true}
use Rattle.lhg_num.specs.Marked.{valued}
use Rattle.lhg_row.specs.Row.{PlainPoint}
use Rattle.lhg_plant.specs.declared.plants.Side.TheVariants.{Ctl, Pick}
use Rattle.lhg_plant.specs.Legal.{LegalSwitch}
use Rattle.lhg_plant.specs.Views.{plain_plant, plain_state}
use Rattle.lhg_plant.proofs.Options.{some_there}
use Rattle.lhg_jump.proofs.Answering.{switch-there}
use Rattle.lhg_plant.specs.Choice.{result_at}
use Rattle.lhg_plant.specs.Parts.{plain_switch}
use Rattle.lhg_spoil.specs.Moves.{MayTake}
use Rattle.lhg_spoil.specs.Work.{legal_results, IsTakeWork}
use Rattle.lhg_spoil.proofs.ActSteps.{take-side, same_named}
use Rattle.lhg_spoil.proofs.FibreResults.{no_result}
use Rattle.lhg_spoil.proofs.Answering.{answered-rows, answered-as}
use Rattle.lhg_spoil.proofs.LegalResults.{results-exact}
use Rattle.lhg_spoil.proofs.acts.may_take.Goals as goal

pub returns-in-None : goal.returns-in-None
returns-in-None c =
    let p = c.args.plant.now in
    let a = plain_plant p in
    let e = c.args.switch in
    let s = plain_state c.args.state.now in
    let to = c.args.to.now in
    let w = c.index.result.now in
    let there : e < length p.switches.items = omega (arith, c.requires.there, p.switches.ok.0) in
    let is = switch-there p e w there c.index.ensures in
    let leaves = some_there (slice_get a.switches e) (plain_switch w) (λ v. v.from ≡ s.loc) is c.requires.leaves in
    let exact = results-exact a p.proper e s c.requires.state (plain_switch w) is leaves in
    answered-rows c.has_result.result (valued is_some (legal_results a e s)) (λ b. b) (λ b. IsTrue b ↔ IsSomeAnd (slice_get a.switches e) (λ v. MayTake v.side a e s to)) (IsTakeWork a e s to) c.has_result.ensures (inr refl)
    (λ b h. take-side a e s to (plain_switch w) Ctl is c.in-Ctl.is b (subst (λ o. IsTrue b ↔ MayTake Ctl a e s o) (sym c.in-None.is) ((λ t. (refl, exact.0 (sym h ∙ t))), (λ m. h ∙ exact.1 m.1))))

pub returns-in-Some-to : goal.returns-in-Some-to
returns-in-Some-to c =
    let p = c.args.plant.now in
    let a = plain_plant p in
    let e = c.args.switch in
    let s = plain_state c.args.state.now in
    let to = c.args.to.now in
    let at = c.in-Some-to.at in
    let w = c.index.result.now in
    let there : e < length p.switches.items = omega (arith, c.requires.there, p.switches.ok.0) in
    let is = switch-there p e w there c.index.ensures in
    answered-as c.leads_to.result (λ b. IsTrue b ↔ LegalSwitch a e s (result_at a e at)) (λ b. IsTrue b ↔ IsSomeAnd (slice_get a.switches e) (λ v. MayTake v.side a e s to)) _ (IsTakeWork a e s to) c.leads_to.ensures
    (λ b h. take-side a e s to (plain_switch w) Pick is c.in-Pick.is b (subst (λ o. IsTrue b ↔ MayTake Pick a e s o) (sym c.in-Some-to.is) ((λ t. (at, refl, h.0 t)), (λ m. h.1 (subst (λ (v : PlainPoint). LegalSwitch a e s (result_at a e v)) (sym (same_named at m.0 m.1)) m.2)))))
    (λ m k. inl (at, c.in-Some-to.is, k))

pub returns-in-None-to : goal.returns-in-None-to
returns-in-None-to c =
    let p = c.args.plant.now in
    let a = plain_plant p in
    let e = c.args.switch in
    let s = plain_state c.args.state.now in
    let to = c.args.to.now in
    let w = c.index.result.now in
    let there : e < length p.switches.items = omega (arith, c.requires.there, p.switches.ok.0) in
    let is = switch-there p e w there c.index.ensures in
    take-side a e s to (plain_switch w) Pick is c.in-Pick.is false (subst (λ o. IsTrue false ↔ MayTake Pick a e s o) (sym c.in-None-to.is) ((λ t. false_true t), (λ m. no_result m.0 m.1)))
