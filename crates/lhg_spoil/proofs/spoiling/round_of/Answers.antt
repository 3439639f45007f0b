use Rattle.std.proofs.Common.{subst}
use Rattle.lhg_plant.specs.Views.{plain_state}
use Rattle.lhg_loss.specs.Views.{plain_losses}
use Rattle.lhg_spoil.specs.Replies.{IsRoundOfFirst}
use Rattle.lhg_spoil.proofs.SpoilCall.{start_held, start_rank}
use Rattle.lhg_spoil.proofs.spoiling.round_of.Goals as goal

pub unreachable-requires : goal.unreachable-requires
unreachable-requires c =
    let s = plain_state c.args.start.now in
    let L = plain_losses c.args.losses.now in
    let h = c.requires.lost in
    start_held h.0 L h.1 s h.2 (subst (IsRoundOfFirst s L) c.in-None.is c.in_ok-round.ensures.round)

pub returns-clause-rank : goal.returns-clause-rank
returns-clause-rank c = λ a upto h.
    let s = plain_state c.args.start.now in
    let L = plain_losses c.args.losses.now in
    start_rank a L upto s h c.requires.counted c.in-Some.round (subst (IsRoundOfFirst s L) c.in-Some.is c.in_ok-round.ensures.round)
