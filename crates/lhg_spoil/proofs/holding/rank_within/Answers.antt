use Rattle.std.proofs.Common.{sym, subst}
use Rattle.lhg_plant.specs.Views.{plain_plant, plain_state}
use Rattle.lhg_loss.specs.Views.{plain_losses}
use Rattle.lhg_spoil.specs.Replies.{IsRankWithin}
use Rattle.lhg_spoil.proofs.RankSteps.{upto-rank}
use Rattle.lhg_spoil.proofs.holding.rank_within.Goals as goal

pub returns-clause-rank : goal.returns-clause-rank
returns-clause-rank c =
    let a = plain_plant c.args.plant.now in
    let L = plain_losses c.args.losses.now in
    let s = plain_state c.args.state.now in
    let safe = (c.in_ok-safe.ensures.exact c.requires.state).0 c.if-not-safe.false in
    subst (IsRankWithin a c.args.j s) (sym c.up_to.ensures) (upto-rank a L c.args.j c.requires.known s c.requires.state safe c.requires.counted c.in_ok-round.round c.in_ok-round.ensures.round)
