use Rattle.std.proofs.Common.{sym, ◌∙◌, subst, take, drop, ◌+◌}
use Rattle.std.proofs.lemmas.List.{take_all}
use Rattle.lhg_plant.specs.Views.{plain_plant, plain_state}
use Rattle.lhg_ctl.specs.Views.{plain_controller}
use Rattle.lhg_run.proofs.Answering.{answered-on}
use Rattle.lhg_run.proofs.WaySteps.{split_at, take-more, here_listed, listed_place, listed_check, below, followed-seen, seen-out, is_stopped, stop_answer, way-stopped, passes, IsFollowed}
use Rattle.lhg_run.proofs.ways.follow.Goals as goal

pub look-requires-clause-place : goal.look-requires-clause-place
look-requires-clause-place c =
    let a = plain_plant c.args.plant.now in
    let k = plain_controller c.args.controller.now in
    let s = plain_state c.args.from.now in
    let y = c.args.to.now in
    let ps = c.args.places.now in
    let i = c.loop-place.place-index in
    let q = c.place-item.result in
    let is = split_at ps i q c.place-item.is c.loop-place-test.true in
    listed_place a k s y ps c.requires.places q (here_listed a k s y ps c.requires.places (take i ps) q (drop (i + 1) ps) is)

pub returns-in_err-sight : goal.returns-in_err-sight
returns-in_err-sight c =
    let a = plain_plant c.args.plant.now in
    let k = plain_controller c.args.controller.now in
    let s = plain_state c.args.from.now in
    let y = c.args.to.now in
    let ps = c.args.places.now in
    let i = c.loop-place.place-index in
    let q = c.place-item.result in
    let is = split_at ps i q c.place-item.is c.loop-place-test.true in
    answered-on c.from_residual.result _ _ _ c.in_err-sight.field-0.0 c.from_residual.ensures.1 _ _ _ c.in_err-sight.ensures
    (λ wide. record { place = q; check = listed_check a k s y ps c.requires.places q (here_listed a k s y ps c.requires.places (take i ps) q (drop (i + 1) ps) is); wide = wide }) (λ none. none)

pub stopped-requires : goal.stopped-requires
stopped-requires c =
    let a = plain_plant c.args.plant.now in
    let k = plain_controller c.args.controller.now in
    let s = plain_state c.args.from.now in
    let y = c.args.to.now in
    let ps = c.args.places.now in
    let i = c.loop-place.place-index in
    let q = c.place-item.result in
    let is = split_at ps i q c.place-item.is c.loop-place-test.true in
    let out = seen-out a k s y q c.in_ok-sight.sight c.in_ok-sight.ensures (sym c.is_outside.ensures ∙ c.if-is_outside.true) in
    is_stopped a k s y ps c.requires.places (take i ps) q (drop (i + 1) ps) is c.loop-place.last c.loop-place.invariant out c.requires.valid c.requires.flow.0 c.requires.flow.1 c.requires.start

pub returns-then-is_outside : goal.returns-then-is_outside
returns-then-is_outside c =
    let a = plain_plant c.args.plant.now in
    let k = plain_controller c.args.controller.now in
    let s = plain_state c.args.from.now in
    let y = c.args.to.now in
    let ps = c.args.places.now in
    let i = c.loop-place.place-index in
    let q = c.place-item.result in
    let is = split_at ps i q c.place-item.is c.loop-place-test.true in
    let out = seen-out a k s y q c.in_ok-sight.sight c.in_ok-sight.ensures (sym c.is_outside.ensures ∙ c.if-is_outside.true) in
    let some = is_stopped a k s y ps c.requires.places (take i ps) q (drop (i + 1) ps) is c.loop-place.last c.loop-place.invariant out c.requires.valid c.requires.flow.0 c.requires.flow.1 c.requires.start in
    way-stopped a k s y c.loop-place.last c.stopped.result some c.stopped.ensures
    (λ stop e. stop_answer a k s y ps c.requires.places (take i ps) q (drop (i + 1) ps) is c.loop-place.last stop e c.loop-place.invariant out)

pub loop-place-preserved : goal.loop-place-preserved
loop-place-preserved c =
    let a = plain_plant c.args.plant.now in
    let k = plain_controller c.args.controller.now in
    let s = plain_state c.args.from.now in
    let y = c.args.to.now in
    let ps = c.args.places.now in
    let i = c.loop-place.place-index in
    let q = c.place-item.result in
    let is = split_at ps i q c.place-item.is c.loop-place-test.true in
    let more = followed-seen a k s y (take i ps) q c.loop-place.last c.in_ok-sight.sight c.loop-place.invariant (below a k s y ps c.requires.places (take i ps) q (drop (i + 1) ps) is) c.in_ok-sight.ensures
    (sym c.is_outside.ensures ∙ c.if-is_outside.false) in
    subst (λ qs. IsFollowed a k s y qs c.later-last.result) (sym (take-more ps i q c.place-item.is c.loop-place-test.true))
    (subst (IsFollowed a k s y _) (sym c.later-last.ensures) more)

pub returns : goal.returns
returns c =
    let a = plain_plant c.args.plant.now in
    let k = plain_controller c.args.controller.now in
    let s = plain_state c.args.from.now in
    let y = c.args.to.now in
    let ps = c.args.places.now in
    let i = c.loop-place.place-index in
    passes a k s y ps c.requires.places c.loop-place.last (subst (λ qs. IsFollowed a k s y qs c.loop-place.last) (take_all i ps c.loop-place-test.false) c.loop-place.invariant)
