use Rattle.std.proofs.Common.{◌≡◌, ap, ◌∙◌}
use Rattle.std.proofs.lemmas.List.{map-id}
use Rattle.lhg_play.specs.Cut.{point_at}
use Rattle.lhg_play.proofs.CallSteps.{point-seen, point_at-value}
use Rattle.lhg_play.proofs.places.point_at.Goals as goal

pub returns-clause-exact : goal.returns-clause-exact
returns-clause-exact c =
    let x = c.args.from.now in
    let y = c.args.to.now in
    let p = c.args.place.now in
    let fx = point-seen c.deref.result.now c.from.inside.at.items x c.deref.ensures.value c.from.view_is in
    let fy = point-seen c.deref-2.result.now c.to.inside.at.items y c.deref-2.ensures.value c.to.view_is in
    map-id c.in_ok-coordinates.field-0.items ∙ c.in_ok-coordinates.ensures ∙ ap (λ w. (point_at w c.deref-2.result.now p).value) fx ∙ ap (λ w. (point_at x w p).value) fy ∙ point_at-value x y p
