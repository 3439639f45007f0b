use Rattle.std.proofs.Common.{◌≡◌, ◌+◌, ◌∷◌, [], suc, List, None, sym, ap, ◌∙◌, subst, arith}
use Rattle.std.proofs.lemmas.List.{map-append}
use Rattle.lhg_num.specs.MarkedLaws.{IsPart}
use Rattle.lhg_num.proofs.Halted.{part_halts_rows}
use Rattle.lhg_row.specs.Row.{PlainPoint}
use Rattle.lhg_motion.specs.Play.{PlainMove, last_point}
use Rattle.lhg_plant.specs.Views.{plain_plant, plain_state}
use Rattle.lhg_loss.specs.Views.{plain_losses}
use Rattle.lhg_play.specs.Views.{plain_move, plain_moves}
use Rattle.lhg_loss.specs.Explanation.{loss_at, next_by, way_within}
use Rattle.lhg_loss.specs.ExplainFacts.{state_in}
use Rattle.lhg_explain.specs.Views.{plain_next, plain_way}
use Rattle.lhg_explain.proofs.HeldRecords.{record_at, onward_at}
use Rattle.lhg_explain.proofs.WaySteps.{IsOnWay, way_of, step_part, ends_out, ends_by, goes_on}
use Rattle.lhg_explain.proofs.explaining.way_from.Goals as goal

pub returns-in_err-next : goal.returns-in_err-next
returns-in_err-next c =
    let a = plain_plant c.args.plant.now in
    let L = plain_losses c.args.losses.now in
    let x = c.args.x.now in
    let m = c.loop-i.m in
    let r = loss_at L m in
    let end = c.end_of.ensures ∙ ap (λ ms. last_point x (plain_moves ms)) c.deref.ensures.value in
    let whole = way_within c.args.number a L (loss_at L c.args.number) x in
    part_halts_rows c.from_residual.result c.in_err-next.field-0.0 whole plain_way (next_by a L r c.end_of.result.now r.cause) plain_next c.from_residual.ensures.1 c.in_err-next.ensures
    (subst (λ (y : PlainPoint). IsPart whole (next_by a L r y r.cause)) (sym end) (step_part a L c.args.number x c.loop-i.i m (plain_moves c.loop-i.moves.items) c.loop-i.invariant c.loop-i-test.true))

pub returns-in-Out : goal.returns-in-Out
returns-in-Out c =
    let a = plain_plant c.args.plant.now in
    let L = plain_losses c.args.losses.now in
    let x = c.args.x.now in
    let m = c.loop-i.m in
    let r = loss_at L m in
    let step = c.in-Out.step in
    let end = c.end_of.ensures ∙ ap (λ ms. last_point x (plain_moves ms)) c.deref.ensures.value in
    let is = sym (ap plain_next c.in-Out.is) ∙ c.in_ok-next.ensures ∙ ap (λ (y : PlainPoint). (next_by a L r y r.cause).value) end in
    ap (λ (ms : List PlainMove). way_of ms None) (ap plain_moves c.in_ok-push-in-Out.ensures.items ∙ map-append plain_move c.loop-i.moves.items (step ∷ []))
    ∙ ends_out a L c.args.number x c.loop-i.i m (plain_moves c.loop-i.moves.items) c.loop-i.invariant c.loop-i-test.true (plain_move step) is

pub returns-in-By : goal.returns-in-By
returns-in-By c =
    let a = plain_plant c.args.plant.now in
    let L = plain_losses c.args.losses.now in
    let x = c.args.x.now in
    let m = c.loop-i.m in
    let r = loss_at L m in
    let end = c.end_of.ensures ∙ ap (λ ms. last_point x (plain_moves ms)) c.deref.ensures.value in
    let is = sym (ap plain_next c.in-By.is) ∙ c.in_ok-next.ensures ∙ ap (λ (y : PlainPoint). (next_by a L r y r.cause).value) end in
    ends_by a L c.args.number x c.loop-i.i m (plain_moves c.loop-i.moves.items) c.loop-i.invariant c.loop-i-test.true c.in-By.e (plain_state c.in-By.result) is

pub loop-i-preserved : goal.loop-i-preserved
loop-i-preserved c =
    let p = c.args.plant.now in
    let a = plain_plant p in
    let L = plain_losses c.args.losses.now in
    let x = c.args.x.now in
    let i = c.loop-i.i in
    let m = c.loop-i.m in
    let r = loss_at L m in
    let ms = plain_moves c.loop-i.moves.items in
    let step = c.in-On.step in
    let end = c.end_of.ensures ∙ ap (λ ws. last_point x (plain_moves ws)) c.deref.ensures.value in
    let is = sym (ap plain_next c.in-On.is) ∙ c.in_ok-next.ensures ∙ ap (λ (y : PlainPoint). (next_by a L r y r.cause).value) end in
    let s = state_in L m (last_point x ms) in
    let at = record_at a L c.requires.records m s c.loop-i.invariant.held in
    let on = onward_at a p.proper L c.requires.records m s at (plain_move step) c.in-On.further is in
    let next = goes_on a L c.args.number x i m ms c.loop-i.invariant c.loop-i-test.true (plain_move step) c.in-On.further is on in
    let more = ap plain_moves c.in_ok-push-in-On.ensures.items ∙ map-append plain_move c.loop-i.moves.items (step ∷ []) in
    let number : suc i ≡ i + 1 = omega arith in
    subst (λ k. IsOnWay a L c.args.number x k c.in-On.further (plain_moves c.push.new.self.items)) number (subst (λ (ws : List PlainMove). IsOnWay a L c.args.number x (suc i) c.in-On.further ws) (sym more) next)

pub unreachable-requires : goal.unreachable-requires
unreachable-requires c =
    let a = plain_plant c.args.plant.now in
    let L = plain_losses c.args.losses.now in
    let m = c.loop-i.m in
    let at = record_at a L c.requires.records m (state_in L m (last_point c.args.x.now (plain_moves c.loop-i.moves.items))) c.loop-i.invariant.held in
    let e = at.counted in
    let w = c.loop-i.invariant.within in
    omega (arith, e, w)
