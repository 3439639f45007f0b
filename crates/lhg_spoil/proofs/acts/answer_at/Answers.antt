use Rattle.std.proofs.Common.{ap, subst, inr, arith}
use Rattle.std.proofs.lemmas.List.{length-map}
use Rattle.lhg_plant.specs.Parts.{plain_switch}
use Rattle.lhg_plant.specs.Views.{plain_plant, plain_state}
use Rattle.lhg_loss.specs.Views.{plain_losses}
use Rattle.lhg_play.specs.Views.{plain_spoil_steps}
use Rattle.lhg_spoil.specs.Replies.{IsRankWithin, IsFirstFibreIn}
use Rattle.lhg_spoil.specs.Views.{plain_answer}
use Rattle.lhg_spoil.specs.Work.{IsFibreWork, IsSettleWork}
use Rattle.lhg_spoil.proofs.ActSteps.{Course, past-answer, first-answer, switch-answer, ctl-result, fibre-some, side-there}
use Rattle.lhg_spoil.proofs.Answering.{answered-memory, err-answered, hold-answered}
use Rattle.lhg_spoil.proofs.ExchangeEnds.{plant_picks}
use Rattle.lhg_spoil.proofs.acts.answer_at.Goals as goal

pub goes_first-requires : goal.goes_first-requires
goes_first-requires c =
    let p = c.args.plant.now in
    let a = plain_plant p in
    let f = subst (IsFirstFibreIn a (plain_losses c.args.losses.now) c.args.j (plain_state c.args.state)) c.in-Some-first.is c.in_ok-first.ensures in
    let low = side-there a c.in-Some-first.number _ f.side in
    let size = length-map p.switches.items plain_switch in
    record { there = omega (arith, low, size, p.switches.ok.0) }

pub result_of-requires-clause-picks : goal.result_of-requires-clause-picks
result_of-requires-clause-picks c = λ has.
    let a = plain_plant c.args.plant.now in
    let L = plain_losses c.args.losses.now in
    let s = plain_state c.args.state in
    let j = c.args.j in
    let inside = subst (IsRankWithin a j s) c.in_default.is c.in_ok-past.ensures.rank in
    let none = subst (IsFirstFibreIn a L j s) c.in_default-first.is c.in_ok-first.ensures in
    let z = ctl-result a c.args.switch s c.args.to.now has c.requires.takes in
    let y = plant_picks a L j c.requires.known c.args.plant.now.proper j (omega arith) s c.requires.state c.requires.pass inside none c.args.switch has z.0 z.1 in
    fibre-some _ y.0 y.1

pub returns-in_err-past : goal.returns-in_err-past
returns-in_err-past c =
    hold-answered c.from_residual.result _ (plain_plant c.args.plant.now) (plain_losses c.args.losses.now) c.args.j (plain_state c.args.state) c.from_residual.ensures.1 c.in_err-past.ensures.wide

pub returns-in_err-first : goal.returns-in_err-first
returns-in_err-first c =
    let a = plain_plant c.args.plant.now in
    let L = plain_losses c.args.losses.now in
    let s = plain_state c.args.state in
    let j = c.args.j in
    err-answered c.from_residual-in_err-first.result c.in_err-first.field-0.0 _ (IsFirstFibreIn a L j s) (IsSettleWork a L j s) (IsFibreWork a L j s) c.from_residual-in_err-first.ensures.1 c.in_err-first.ensures (λ m k. inr k)

pub returns-in_err-at : goal.returns-in_err-at
returns-in_err-at c =
    let a = plain_plant c.args.plant.now in
    let L = plain_losses c.args.losses.now in
    let s = plain_state c.args.state in
    let j = c.args.j in
    err-answered c.from_residual-in_err-at.result c.in_err-at.field-0.0 _ _ (IsSettleWork a L j s) (IsFibreWork a L j s) c.from_residual-in_err-at.ensures.1 c.in_err-at.ensures (λ m k. inr k)

pub returns-in-Some : goal.returns-in-Some
returns-in-Some c =
    let a = plain_plant c.args.plant.now in
    let L = plain_losses c.args.losses.now in
    let s = plain_state c.args.state in
    let j = c.args.j in
    let first = plain_spoil_steps c.args.steps.items in
    let e = c.args.switch in
    let to = c.args.to.now in
    let rank = subst (IsRankWithin a j s) c.in-Some.is c.in_ok-past.ensures.rank in
    answered-memory c.comes_past.result _ plain_answer _ (IsSettleWork a L j s) c.comes_past.ensures
    (λ r h. past-answer a L j s first e to (plain_answer r).0 (plain_answer r).1 c.in-Some.rank rank (ap (λ (x : Course). x.0) h) (ap (λ (x : Course). x.1) h))

pub returns-in-Some-first : goal.returns-in-Some-first
returns-in-Some-first c =
    let a = plain_plant c.args.plant.now in
    let L = plain_losses c.args.losses.now in
    let s = plain_state c.args.state in
    let j = c.args.j in
    let first = plain_spoil_steps c.args.steps.items in
    let e = c.args.switch in
    let to = c.args.to.now in
    let inside = subst (IsRankWithin a j s) c.in_default.is c.in_ok-past.ensures.rank in
    let f = subst (IsFirstFibreIn a L j s) c.in-Some-first.is c.in_ok-first.ensures in
    answered-memory c.goes_first.result _ plain_answer _ (IsSettleWork a L j s) c.goes_first.ensures
    (λ r h. first-answer a L j s first e to (plain_answer r).0 (plain_answer r).1 inside c.in-Some-first.number c.in-Some-first.at f (ap (λ (x : Course). x.0) h) (ap (λ (x : Course). x.1) h))

pub returns : goal.returns
returns c =
    let a = plain_plant c.args.plant.now in
    let L = plain_losses c.args.losses.now in
    let s = plain_state c.args.state in
    let j = c.args.j in
    let first = plain_spoil_steps c.args.steps.items in
    let e = c.args.switch in
    let to = c.args.to.now in
    let inside = subst (IsRankWithin a j s) c.in_default.is c.in_ok-past.ensures.rank in
    let none = subst (IsFirstFibreIn a L j s) c.in_default-first.is c.in_ok-first.ensures in
    answered-memory c.switches.result _ plain_answer _ (IsSettleWork a L j s) c.switches.ensures
    (λ r h. switch-answer a L j s first e to (plain_answer r).0 (plain_answer r).1 inside none c.in_ok-at.at c.in_ok-at.ensures (ap (λ (x : Course). x.0) h) (ap (λ (x : Course). x.1) h))
