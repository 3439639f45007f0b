use Rattle.std.proofs.Common.{◌≡◌, ◌+◌, ◌≤◌, length, refl, sym, ap, ◌∙◌, subst, arith}
use Rattle.std.proofs.lemmas.List.{length-map}
use Rattle.lhg_math.specs.Number.{Number}
use Rattle.lhg_math.specs.Tests.{AllOf}
use Rattle.lhg_num.specs.FracArithmetic.{frac_arithmetic}
use Rattle.lhg_row.specs.Row.{PlainRow}
use Rattle.lhg_row.specs.Piece.{PlainPiece}
use Rattle.lhg_row.specs.Width.{AllWide}
use Rattle.lhg_row.specs.HasValue.{HasPoint}
use Rattle.lhg_row.specs.PutIn.{put_in_each}
use Rattle.lhg_motion.specs.CrossCalculus.{cross_rows}
use Rattle.lhg_loss.specs.Explanation.{crossing_from}
use Rattle.lhg_explain.proofs.CodeSteps.{wide_long}
use Rattle.lhg_explain.proofs.FlowPoints.{rows-wide, flows-wide, flows-point}
use Rattle.lhg_explain.proofs.moves.flow_from.Goals as goal

pub put_in_each-requires : goal.put_in_each-requires
put_in_each-requires c =
    let x = c.args.x.now in
    let n = length x in
    let long = length-map c.x.inside.at.items (λ (q : Number). q) in
    let seen = ap length c.x.view_is in
    let many : c.len-n.result ≡ n = omega (arith, long, seen, c.len-n.ensures, c.x.inside.at.ok.0) in
    let rows : c.deref.result.now ≡ (cross_rows frac_arithmetic n c.args.start.now c.args.through.now c.args.into.now c.args.flow.now).value =
    c.deref.ensures.value ∙ c.in_ok-rows.ensures ∙ ap (λ k. (cross_rows frac_arithmetic k c.args.start.now c.args.through.now c.args.into.now c.args.flow.now).value) many in
    let wide = rows-wide n c.args.start.now c.args.through.now c.args.into.now c.args.flow.now c.requires.start c.requires.through c.requires.into c.requires.flow x refl in
    subst (λ (rs : PlainPiece). AllOf (λ (r : PlainRow). n ≤ length r.coefs) rs) (sym rows) (wide_long n (n + (n + 1)) (cross_rows frac_arithmetic n c.args.start.now c.args.through.now c.args.into.now c.args.flow.now).value (omega arith) wide)

pub sample_of-requires-clause-wide : goal.sample_of-requires-clause-wide
sample_of-requires-clause-wide c =
    let x = c.args.x.now in
    let n = length x in
    let long = length-map c.x.inside.at.items (λ (q : Number). q) in
    let seen = ap length c.x.view_is in
    let many : c.len-n.result ≡ n = omega (arith, long, seen, c.len-n.ensures, c.x.inside.at.ok.0) in
    let rows : c.deref.result.now ≡ (cross_rows frac_arithmetic n c.args.start.now c.args.through.now c.args.into.now c.args.flow.now).value =
    c.deref.ensures.value ∙ c.in_ok-rows.ensures ∙ ap (λ k. (cross_rows frac_arithmetic k c.args.start.now c.args.through.now c.args.into.now c.args.flow.now).value) many in
    let left : c.in_ok-left.left.items ≡ (crossing_from n c.args.flow.now x c.args.start.now c.args.through.now c.args.into.now).value =
    c.in_ok-left.ensures.calculus ∙ ap (λ (rs : PlainPiece). (put_in_each frac_arithmetic x rs).value) rows in
    subst (λ k. AllWide (k + 1) c.in_ok-left.left.items) (sym many)
    (subst (AllWide (n + 1)) (sym left) (flows-wide n c.args.start.now c.args.through.now c.args.into.now c.args.flow.now c.requires.start c.requires.through c.requires.into c.requires.flow x refl))

pub sample_of-requires-clause-point : goal.sample_of-requires-clause-point
sample_of-requires-clause-point c =
    let x = c.args.x.now in
    let n = length x in
    let long = length-map c.x.inside.at.items (λ (q : Number). q) in
    let seen = ap length c.x.view_is in
    let many : c.len-n.result ≡ n = omega (arith, long, seen, c.len-n.ensures, c.x.inside.at.ok.0) in
    let rows : c.deref.result.now ≡ (cross_rows frac_arithmetic n c.args.start.now c.args.through.now c.args.into.now c.args.flow.now).value =
    c.deref.ensures.value ∙ c.in_ok-rows.ensures ∙ ap (λ k. (cross_rows frac_arithmetic k c.args.start.now c.args.through.now c.args.into.now c.args.flow.now).value) many in
    let left : c.in_ok-left.left.items ≡ (crossing_from n c.args.flow.now x c.args.start.now c.args.through.now c.args.into.now).value =
    c.in_ok-left.ensures.calculus ∙ ap (λ (rs : PlainPiece). (put_in_each frac_arithmetic x rs).value) rows in
    subst (λ k. HasPoint (k + 1) c.in_ok-left.left.items) (sym many)
    (subst (HasPoint (n + 1)) (sym left) (flows-point n c.args.start.now c.args.through.now c.args.into.now c.args.flow.now c.requires.start c.requires.through c.requires.into c.requires.flow x refl c.requires.crosses))
