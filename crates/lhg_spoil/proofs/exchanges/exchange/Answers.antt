use Rattle.std.proofs.Common.{◌-◌, slice_get, sym, ap, ◌∙◌, List}
use Rattle.lhg_plant.specs.Loss.{PlainLoss}
use Rattle.lhg_plant.specs.Views.{plain_plant, plain_state}
use Rattle.lhg_loss.specs.Views.{plain_losses}
use Rattle.lhg_play.specs.Views.{plain_escape}
use Rattle.lhg_spoil.specs.Exchange.{offer, asked}
use Rattle.lhg_spoil.specs.Replies.{IsReply}
use Rattle.lhg_spoil.specs.Standing.{IsStep, IsStandWork, plain_step_to}
use Rattle.lhg_spoil.specs.Views.{plain_again, plain_ctl_moves}
use Rattle.lhg_spoil.specs.Work.{IsMoveWork}
use Rattle.lhg_spoil.proofs.Answering.{answered-memory, err-answered}
use Rattle.lhg_spoil.proofs.ExchangeSteps.{tell-answered, from-rank, faced, reply-work, step-replied}
use Rattle.lhg_spoil.proofs.exchanges.exchange.Goals as goal

pub returns-in_err-escape : goal.returns-in_err-escape
returns-in_err-escape g c =
    let a = plain_plant c.args.plant.now in
    let L = plain_losses c.args.losses.now in
    let moves = plain_ctl_moves c.args.moves.now in
    tell-answered c.from_residual.result c.in_err-escape.field-0.0 (IsStep a L moves c.args.stand) a L (g.T.Teller.upto c.args.teller.now) moves c.args.stand c.requires.sought c.requires.standing
    c.from_residual.ensures.1 c.in_err-escape.ensures.halt

pub answer-requires-clause-round : goal.answer-requires-clause-round
answer-requires-clause-round g c =
    let a = plain_plant c.args.plant.now in
    let L = plain_losses c.args.losses.now in
    let told = c.in_ok-escape.ensures.told in
    let same = told.0 ∙ ap (λ (ls : List PlainLoss). (offer a ls (plain_state c.args.stand.state)).value) (sym c.requires.sought) in
    from-rank a L (g.T.Teller.upto c.args.teller.now) c.args.stand c.requires.standing (plain_escape c.in_ok-escape.escape) same told.1

pub answer-requires-clause-faced : goal.answer-requires-clause-faced
answer-requires-clause-faced g c =
    let a = plain_plant c.args.plant.now in
    let L = plain_losses c.args.losses.now in
    let told = c.in_ok-escape.ensures.told in
    let same = told.0 ∙ ap (λ (ls : List PlainLoss). (offer a ls (plain_state c.args.stand.state)).value) (sym c.requires.sought) in
    faced a L (g.T.Teller.upto c.args.teller.now) c.args.stand c.requires.standing (plain_escape c.in_ok-escape.escape) same told.1

pub returns-in_err-reply : goal.returns-in_err-reply
returns-in_err-reply g c =
    let a = plain_plant c.args.plant.now in
    let L = plain_losses c.args.losses.now in
    let moves = plain_ctl_moves c.args.moves.now in
    let old = c.args.stand in
    let e = plain_escape c.in_ok-escape.escape in
    let told = c.in_ok-escape.ensures.told in
    let same = told.0 ∙ ap (λ (ls : List PlainLoss). (offer a ls (plain_state old.state)).value) (sym c.requires.sought) in
    let move = asked (plain_again old.again) (slice_get moves old.answered) e.way.moves in
    err-answered c.from_residual-in_err-reply.result c.in_err-reply.field-0.0 (IsStep a L moves old) (IsReply a L (e.round - 1) e.start e.way move) (IsStandWork a L moves old)
    (IsMoveWork a L (e.round - 1) e.start e.way.moves move) c.from_residual-in_err-reply.ensures.1 c.in_err-reply.ensures
    (reply-work a L (g.T.Teller.upto c.args.teller.now) old c.requires.standing e same told.1 moves)

pub returns : goal.returns
returns g c =
    let a = plain_plant c.args.plant.now in
    let L = plain_losses c.args.losses.now in
    let moves = plain_ctl_moves c.args.moves.now in
    let old = c.args.stand in
    let told = c.in_ok-escape.ensures.told in
    let same = told.0 ∙ ap (λ (ls : List PlainLoss). (offer a ls (plain_state old.state)).value) (sym c.requires.sought) in
    answered-memory c.replied.result _ plain_step_to (IsStep a L moves old) (IsStandWork a L moves old) c.replied.ensures
    (step-replied a L (g.T.Teller.upto c.args.teller.now) old c.requires.standing (plain_escape c.in_ok-escape.escape) same told.1 moves c.in_ok-reply.reply c.in_ok-reply.ensures)
