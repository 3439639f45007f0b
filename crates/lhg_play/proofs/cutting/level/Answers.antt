use Rattle.std.proofs.Common.{◌≡◌, List, map, ap, ◌∙◌, rules}
use Rattle.std.proofs.lemmas.List.{map-id}
use Rattle.lhg_math.specs.Number.{Number, nought}
use Rattle.lhg_num.specs.FracArithmetic.{frac_arithmetic}
use Rattle.lhg_row.specs.Row.{PlainRow}
use Rattle.lhg_row.specs.Values.{marked_value}
use Rattle.lhg_play.specs.Cut.{kept_place, level_place}
use Rattle.lhg_play.proofs.CallSteps.{level-rest, rest_wide}
use Rattle.lhg_play.proofs.cutting.level.Goals as goal

pub returns : goal.returns
returns c =
    let x = c.args.from.now in
    let r = c.args.row.now in
    let slope = c.args.slope.now in
    let m = λ (ns : List Number). map (λ (q : Number). q) ns in
    let cs : m c.deref.result.now ≡ r.coefs = ap m c.deref.ensures.value ∙ ap (λ (q : PlainRow). q.coefs) c.row.view_is in
    let v : c.in_ok-start.start ≡ (marked_value frac_arithmetic nought r.coefs x).value =
    c.in_ok-start.ensures ∙ ap (λ w. (marked_value frac_arithmetic w (m c.deref.result.now) (m x)).value) c.zero.ensures
    ∙ ap (λ w. (marked_value frac_arithmetic nought w (m x)).value) cs ∙ ap (λ w. (marked_value frac_arithmetic nought r.coefs w).value) (map-id x) in
    rest_wide c.kept.result (level_place x r slope) (kept_place c.in_ok-place.place) (λ o. o)
    (level-rest x r slope c.in_ok-start.start c.in_ok-gap.gap c.in_ok-place.place v (search rules) c.in_ok-place.ensures) c.kept.ensures
