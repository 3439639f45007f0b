use Rattle.std.proofs.Common.{◌≡◌, ◌-◌, false, length, sym, ap, ◌∙◌, subst}
use Rattle.std.specs.Prelude.{nat_eq}
use Rattle.std.proofs.lemmas.List.{length-map}
use Rattle.lhg_math.specs.Number.{Number}
use Rattle.lhg_plant.specs.Views.{plain_plant, plain_state}
use Rattle.lhg_loss.specs.Views.{plain_losses}
use Rattle.lhg_play.specs.Views.{plain_escape, plain_move, plain_moves}
use Rattle.lhg_spoil.specs.Moves.{PlainCtlMove, acts}
use Rattle.lhg_spoil.specs.Replies.{IsAnsweredBy, IsReply}
use Rattle.lhg_spoil.specs.Work.{IsMoveWork}
use Rattle.lhg_spoil.proofs.ExchangeSteps.{again-acts}
use Rattle.lhg_spoil.proofs.exchanges.answer_again.Goals as goal

pub returns-else-is_empty : goal.returns-else-is_empty
returns-else-is_empty c =
    let a = plain_plant c.args.plant.now in
    let L = plain_losses c.args.losses.now in
    let e = c.args.escape.now in
    let j = e.round - 1 in
    let s = plain_state e.play.start in
    let act = c.args.act.now in
    let ms = plain_moves e.play.moves.items in
    let size = length-map e.play.moves.items plain_move ∙ sym e.play.moves.ok.0 in
    let some : false ≡ nat_eq (length ms) 0 = c.if-is_empty.ensures ∙ ap (λ n. nat_eq n 0) (sym size) in
    let same = ap (λ (q : Number). acts 1 q act.switch act.to) c.zero.ensures ∙ sym (again-acts ms (act.switch, act.to) some) in
    subst (λ (m : PlainCtlMove). IsAnsweredBy c.acted.result (IsReply a L j s (plain_escape e).way m) (IsMoveWork a L j s ms m)) same c.acted.ensures
