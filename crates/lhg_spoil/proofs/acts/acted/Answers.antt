use Rattle.std.proofs.Common.{◌-◌, sym, subst, inl, inr, refl, arith}
use Rattle.std.proofs.lemmas.List.{length-map}
use Rattle.lhg_plant.specs.Parts.{plain_switch}
use Rattle.lhg_plant.specs.Escape.{MayPass}
use Rattle.lhg_plant.specs.OutBack.{Back}
use Rattle.lhg_plant.specs.Round.{InRound}
use Rattle.lhg_plant.specs.State.{PlainState, IsState}
use Rattle.lhg_plant.specs.Views.{plain_plant, plain_state}
use Rattle.lhg_loss.specs.Views.{plain_losses}
use Rattle.lhg_play.specs.Views.{plain_escape, plain_moves}
use Rattle.lhg_spoil.specs.Moves.{acts}
use Rattle.lhg_spoil.specs.Replies.{IsReply}
use Rattle.lhg_spoil.specs.Work.{IsTakeWork, IsSettleWork, IsActWork}
use Rattle.lhg_spoil.proofs.ActSteps.{side-there}
use Rattle.lhg_spoil.proofs.Answering.{err-answered, err-wide}
use Rattle.lhg_spoil.proofs.PlayStates.{inner_place, play_state, play_lengths}
use Rattle.lhg_spoil.proofs.acts.acted.Goals as goal

pub state_on-requires-clause-ends : goal.state_on-requires-clause-ends
state_on-requires-clause-ends c =
    play_lengths (plain_plant c.args.plant.now) (plain_state c.args.escape.now.play.start) (plain_moves c.args.escape.now.play.moves.items) c.requires.faced.offers.escape.play

pub returns-in_err-state : goal.returns-in_err-state
returns-in_err-state c =
    let a = plain_plant c.args.plant.now in
    let L = plain_losses c.args.losses.now in
    let e = c.args.escape.now in
    let s = plain_state e.play.start in
    let j = e.round - 1 in
    err-wide c.from_residual.result c.in_err-state.field-0.0 (IsReply a L j s (plain_escape e).way (acts c.args.flow c.args.place.now c.args.switch c.args.to.now)) _ plain_state
    (IsActWork a L j s (plain_moves e.play.moves.items) c.args.flow c.args.place.now c.args.switch c.args.to.now) c.from_residual.ensures.1 c.in_err-state.ensures.calculus (inl refl)

pub may_take-requires-clause-there : goal.may_take-requires-clause-there
may_take-requires-clause-there c =
    let p = c.args.plant.now in
    let placed = c.is_placed.ensures.0 c.if-not-is_placed.false in
    let low = side-there (plain_plant p) c.args.switch _ placed.leaves in
    let size = length-map p.switches.items plain_switch in
    omega (arith, low, size, p.switches.ok.0)

pub may_take-requires-clause-state : goal.may_take-requires-clause-state
may_take-requires-clause-state c =
    let a = plain_plant c.args.plant.now in
    let e = c.args.escape.now in
    let s = plain_state e.play.start in
    let placed = c.is_placed.ensures.0 c.if-not-is_placed.false in
    let low = placed.counted in
    let high = placed.within in
    let q = c.args.place.now in
    subst (IsState a) (sym c.in_ok-state.ensures.exact)
    (play_state a s (plain_moves e.play.moves.items) (c.args.flow - 1) q c.requires.faced.offers.escape.play (omega arith) (inner_place q placed.from_start placed.before_end))

pub returns-in_err-taken : goal.returns-in_err-taken
returns-in_err-taken c =
    let a = plain_plant c.args.plant.now in
    let L = plain_losses c.args.losses.now in
    let e = c.args.escape.now in
    let s = plain_state e.play.start in
    let j = e.round - 1 in
    let p = plain_state c.in_ok-state.state in
    let d = c.args.switch in
    let to = c.args.to.now in
    err-answered c.from_residual-in_err-taken.result c.in_err-taken.field-0.0 (IsReply a L j s (plain_escape e).way (acts c.args.flow c.args.place.now d to)) _
    (IsActWork a L j s (plain_moves e.play.moves.items) c.args.flow c.args.place.now d to) (IsTakeWork a d p to) c.from_residual-in_err-taken.ensures.1 c.in_err-taken.ensures
    (λ m k. inr (inr (inl (subst (λ (x : PlainState). IsTakeWork a d x to m) c.in_ok-state.ensures.exact k))))

pub returns-in_err-steps : goal.returns-in_err-steps
returns-in_err-steps c =
    let a = plain_plant c.args.plant.now in
    let L = plain_losses c.args.losses.now in
    let e = c.args.escape.now in
    let s = plain_state e.play.start in
    let j = e.round - 1 in
    err-wide c.from_residual-in_err-steps.result c.in_err-steps.field-0.0 (IsReply a L j s (plain_escape e).way (acts c.args.flow c.args.place.now c.args.switch c.args.to.now)) _ _
    (IsActWork a L j s (plain_moves e.play.moves.items) c.args.flow c.args.place.now c.args.switch c.args.to.now) c.from_residual-in_err-steps.ensures.1 c.in_err-steps.ensures (inr (inl refl))

pub answer_at-requires-clause-there : goal.answer_at-requires-clause-there
answer_at-requires-clause-there c =
    let p = c.args.plant.now in
    let placed = c.is_placed.ensures.0 c.if-not-is_placed.false in
    let low = side-there (plain_plant p) c.args.switch _ placed.leaves in
    let size = length-map p.switches.items plain_switch in
    omega (arith, low, size, p.switches.ok.0)

pub answer_at-requires-clause-pass : goal.answer_at-requires-clause-pass
answer_at-requires-clause-pass c =
    let a = plain_plant c.args.plant.now in
    let e = c.args.escape.now in
    let j = e.round - 1 in
    let placed = c.is_placed.ensures.0 c.if-not-is_placed.false in
    let low = placed.counted in
    let high = placed.within in
    let q = c.args.place.now in
    subst (λ (x : PlainState). MayPass a (InRound a j) (Back a (InRound a j)) x) (sym c.in_ok-state.ensures.exact)
    (c.requires.faced.offers.escape.earlier (c.args.flow - 1) q (record { flow = omega arith; place = inner_place q placed.from_start placed.before_end; before_end = λ h. placed.before_end }))

pub returns-in_err-answer : goal.returns-in_err-answer
returns-in_err-answer c =
    let a = plain_plant c.args.plant.now in
    let L = plain_losses c.args.losses.now in
    let e = c.args.escape.now in
    let s = plain_state e.play.start in
    let j = e.round - 1 in
    let p = plain_state c.in_ok-state.state in
    err-answered c.from_residual-in_err-answer.result c.in_err-answer.field-0.0 (IsReply a L j s (plain_escape e).way (acts c.args.flow c.args.place.now c.args.switch c.args.to.now)) _
    (IsActWork a L j s (plain_moves e.play.moves.items) c.args.flow c.args.place.now c.args.switch c.args.to.now) (IsSettleWork a L j p) c.from_residual-in_err-answer.ensures.1 c.in_err-answer.ensures
    (λ m k. inr (inr (inr (subst (λ (x : PlainState). IsSettleWork a L j x m) c.in_ok-state.ensures.exact k))))
