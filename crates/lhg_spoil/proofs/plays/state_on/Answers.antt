use Rattle.std.proofs.Common.{rules, ◌≡◌, take, ap, sym, ◌∙◌, subst}
use Rattle.lhg_num.specs.Marked.{Marked, valued}
use Rattle.lhg_num.specs.MarkedLaws.{IsPart}
use Rattle.lhg_num.proofs.Halted.{part_halts_wide}
use Rattle.lhg_row.specs.Row.{PlainPoint}
use Rattle.lhg_motion.specs.Play.{last_point}
use Rattle.lhg_plant.specs.State.{PlainState, moved_to}
use Rattle.lhg_plant.specs.Views.{plain_state}
use Rattle.lhg_play.specs.Cut.{point_at}
use Rattle.lhg_play.specs.Views.{plain_moves}
use Rattle.lhg_spoil.specs.Work.{place_point}
use Rattle.lhg_spoil.proofs.PlaySteps.{ends-fit, point-is, along-is}
use Rattle.lhg_spoil.proofs.plays.state_on.Goals as goal

pub point_at-requires : goal.point_at-requires
point_at-requires c =
    let x = c.args.play.now.start.at in
    let ms = c.args.play.now.moves.items in
    let k = c.args.k in
    let f : c.end_of-from.result.now ≡ last_point x (plain_moves (take k ms)) = search rules in
    ends-fit x ms k c.args.place.now c.index.result.now c.requires.flow c.index.ensures c.end_of-from.result.now f c.requires.ends

pub returns-in_err-at-clause-calculus : goal.returns-in_err-at-clause-calculus
returns-in_err-at-clause-calculus c =
    let x = c.args.play.now.start.at in
    let ms = c.args.play.now.moves.items in
    let k = c.args.k in
    let q = c.args.place.now in
    let m = c.index.result.now in
    let from = c.end_of-from.result.now in
    let f : from ≡ last_point x (plain_moves (take k ms)) = search rules in
    let moved : PlainPoint → PlainState = λ (at : PlainPoint). record { loc = c.args.play.now.start.loc; at = at } in
    let whole = valued moved (place_point x (plain_moves ms) k q) in
    part_halts_wide c.from_residual.result c.in_err-at.field-0.0 whole plain_state (point_at from m.to q) (λ p. p) c.from_residual.ensures.1 c.in_err-at.ensures.calculus
    (subst (λ (n : Marked PlainPoint). IsPart whole n) (sym (point-is x ms k q m c.requires.flow c.index.ensures from f)) (record { wide = λ h. h; rows = λ h. h; pieces = λ h. h }))

pub returns-clause-calculus : goal.returns-clause-calculus
returns-clause-calculus c =
    let x = c.args.play.now.start.at in
    let ms = c.args.play.now.moves.items in
    let k = c.args.k in
    let f : c.end_of-from.result.now ≡ last_point x (plain_moves (take k ms)) = search rules in
    let e = point-is x ms k c.args.place.now c.index.result.now c.requires.flow c.index.ensures c.end_of-from.result.now f in
    ap (moved_to (plain_state c.args.play.now.start)) (c.in_ok-at.ensures.calculus ∙ ap (λ (n : Marked PlainPoint). n.value) e)

pub returns-clause-exact : goal.returns-clause-exact
returns-clause-exact c =
    let x = c.args.play.now.start.at in
    let ms = c.args.play.now.moves.items in
    let k = c.args.k in
    let f : c.end_of-from.result.now ≡ last_point x (plain_moves (take k ms)) = search rules in
    let e = along-is x ms k c.args.place.now c.index.result.now c.requires.flow c.index.ensures c.end_of-from.result.now f in
    ap (moved_to (plain_state c.args.play.now.start)) (c.in_ok-at.ensures.exact ∙ e)
