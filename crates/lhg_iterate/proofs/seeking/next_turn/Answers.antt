use Rattle.std.proofs.Common.{◌≡◌, suc, length, inr, sym, subst, arith, rules}
use Rattle.lhg_plant.specs.Views.{plain_plant, plain_state}
use Rattle.lhg_loss.specs.Views.{AreOver}
use Rattle.lhg_loss.specs.Holding.{IsFirstHolding}
use Rattle.lhg_loss.specs.Views.{plain_losses}
use Rattle.lhg_iterate.specs.declared.seeking.SeekStop.TheVariants.{State, Stop}
use Rattle.lhg_iterate.proofs.SeekSteps.{undecided_next, seek_stage, handed_on}
use Rattle.lhg_iterate.proofs.TurnSteps.{over_of, still-same, kept_here, wide_here, lost_here, still_here}
use Rattle.lhg_iterate.proofs.seeking.next_turn.Goals as goal

pub returns-in_err-passed-clause-stop : goal.returns-in_err-passed-clause-stop
returns-in_err-passed-clause-stop c =
    let a = plain_plant c.args.plant.now in
    let z = plain_state c.args.state.now in
    let e = c.in_err-passed.field-0.0 in
    let still = c.requires.still in
    handed_on a c.args.budget z c.from_residual.result (Stop e) c.from_residual.ensures.1
    (seek_stage a c.args.budget z (suc c.args.rounds) e (undecided_next a c.args.rounds z still.after.stage_is.removes still.kept) c.in_err-passed.ensures.stop)

pub returns-then-is_empty-clause-ok : goal.returns-then-is_empty-clause-ok
returns-then-is_empty-clause-ok c =
    let still = still-same c.args.plant.now c.args.budget c.args.rounds (plain_state c.args.state.now) c.args.stage c.next_round.new.stage c.requires.still c.in_ok-passed.ensures.stage c.next_round.ensures.same in
    let p = c.args.plant.now in
    let none : length c.in_ok-passed.passed.round.losses.items ≡ 0 = search rules in
    (kept_here p c.args.budget c.args.rounds (plain_state c.args.state.now) c.next_round.new.stage c.in_ok-passed.passed.round still c.in_ok-passed.ensures.ok.round c.requires.within (c.law_seek.ensures (plain_plant p)) none, tt)

pub first_holding-requires : goal.first_holding-requires
first_holding-requires c =
    let p = c.args.plant.now in
    let r = c.in_ok-passed.passed.round in
    let fits : length p.vars.items ≡ length c.args.state.now.at = omega (arith, c.requires.lengths, p.vars.ok.0) in
    subst (λ rs. AreOver (length c.args.state.now.at) rs) (sym c.deref.ensures.value) (subst (λ n. AreOver n r.losses.items) fits (over_of (length p.vars.items) r.losses.items c.in_ok-passed.ensures.ok.round.losses_vars))

pub returns-in_err-first-clause-stop : goal.returns-in_err-first-clause-stop
returns-in_err-first-clause-stop c =
    let still = still-same c.args.plant.now c.args.budget c.args.rounds (plain_state c.args.state.now) c.args.stage c.next_round.new.stage c.requires.still c.in_ok-passed.ensures.stage c.next_round.ensures.same in
    let p = c.args.plant.now in
    let z = plain_state c.args.state.now in
    handed_on (plain_plant p) c.args.budget z c.from_residual-in_err-first.result State c.from_residual-in_err-first.ensures.1
    (inr (inr (wide_here p c.args.budget c.args.rounds z c.next_round.new.stage c.in_ok-passed.passed.round still c.in_ok-passed.ensures.ok.round c.requires.within (c.law_seek.ensures (plain_plant p)) c.deref.result.now c.deref.ensures.value c.in_err-first.ensures.calculus)))

pub returns-in_err-next-clause-stop : goal.returns-in_err-next-clause-stop
returns-in_err-next-clause-stop c =
    let still = still-same c.args.plant.now c.args.budget c.args.rounds (plain_state c.args.state.now) c.args.stage c.next_round.new.stage c.requires.still c.in_ok-passed.ensures.stage c.next_round.ensures.same in
    let a = plain_plant c.args.plant.now in
    let z = plain_state c.args.state.now in
    let e = c.in_err-next.field-0.0 in
    handed_on a c.args.budget z c.from_residual-in_err-next.result (Stop e) c.from_residual-in_err-next.ensures.1
    (seek_stage a c.args.budget z (suc c.args.rounds) e (undecided_next a c.args.rounds z still.after.stage_is.removes still.kept) c.in_err-next.ensures.stop)

pub returns-in-Some-clause-ok : goal.returns-in-Some-clause-ok
returns-in-Some-clause-ok c =
    let still = still-same c.args.plant.now c.args.budget c.args.rounds (plain_state c.args.state.now) c.args.stage c.next_round.new.stage c.requires.still c.in_ok-passed.ensures.stage c.next_round.ensures.same in
    let p = c.args.plant.now in
    let z = plain_state c.args.state.now in
    let first = subst (λ o. IsFirstHolding z (plain_losses c.deref.result.now) o) c.in-Some.is c.in_ok-first.ensures.exact in (
      lost_here p c.args.budget c.args.rounds z c.next_round.new.stage c.in_ok-passed.passed.round still c.in_ok-passed.ensures.ok.round c.requires.within (c.law_seek.ensures (plain_plant p)) c.in_ok-next.next c.in_ok-next.ensures.ok
          c.deref.result.now c.deref.ensures.value c.in-Some.number first,
      c.in_ok-next.ensures.ok.losses_vars,
    )

pub returns-in-None-clause-ok : goal.returns-in-None-clause-ok
returns-in-None-clause-ok c =
    let still = still-same c.args.plant.now c.args.budget c.args.rounds (plain_state c.args.state.now) c.args.stage c.next_round.new.stage c.requires.still c.in_ok-passed.ensures.stage c.next_round.ensures.same in
    let p = c.args.plant.now in
    let z = plain_state c.args.state.now in
    still_here p c.args.budget c.args.rounds z c.next_round.new.stage c.in_ok-passed.passed.round still c.in_ok-passed.ensures.ok.round c.requires.within (c.law_seek.ensures (plain_plant p)) c.in_ok-next.next c.in_ok-next.ensures.ok
    c.deref.result.now c.deref.ensures.value c.in_ok-first.first c.in-None.is c.in_ok-first.ensures.calculus c.in_ok-first.ensures.exact
