use Rattle.std.proofs.Common.{rules, ◌≡◌, take, subst}
use Rattle.lhg_num.specs.Halting.{IsHaltedByWide}
use Rattle.lhg_play.specs.Views.{plain_moves, plain_spoil_steps}
use Rattle.lhg_spoil.specs.Exchange.{run_whole}
use Rattle.lhg_spoil.proofs.PlaySteps.{upto-marked}
use Rattle.lhg_spoil.proofs.plays.run_upto.Goals as goal

pub returns : goal.returns
returns c =
    let ms = c.args.play.now.moves.items in
    let first = plain_spoil_steps c.in_ok-steps.steps.items in
    let f : first ≡ run_whole (plain_moves (take c.args.k ms)) = search rules in
    subst (λ m. IsHaltedByWide c.run_part.result m (λ v. plain_spoil_steps v.items))
    (upto-marked c.args.play.now.start.at ms c.args.k c.args.place.now c.index.result.now c.requires.flow c.index.ensures first c.args.at.now f c.requires.point) c.run_part.ensures
