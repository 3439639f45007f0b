use Rattle.std.proofs.Common.{◌≡◌, ◌<◌, ◌∙◌, Some, None, true, length, vec_len, set, ap, sym, arith}
use Rattle.lhg_num.proofs.Halted.{wide_halts}
use Rattle.lhg_row.specs.Trim.{place_along}
use Rattle.lhg_row.proofs.PlaceSteps.{sought-part, sought-none, sought-some}
use Rattle.lhg_row.proofs.trimming.place.Goals as goal

pub returns-in_err-i : goal.returns-in_err-i
returns-in_err-i g c =
    let a = g.N.Scalar.arithmetic in
    let e : (place_along a c.args.row 0 c.args.kept.now.items).wide ≡ true = ap (λ ss. (place_along a c.args.row 0 ss).wide) (sym c.deref.ensures.value) ∙ c.in_err-i.ensures in
    wide_halts c.from_residual.result _ _ c.from_residual.ensures.1 ((sought-part a c.args.row 0 c.args.kept.now.items).wide e)

pub index_mut-requires : goal.index_mut-requires
index_mut-requires g c =
    let a = g.N.Scalar.arithmetic in
    let found : Some c.in-Some.i ≡ (place_along a c.args.row 0 c.args.kept.now.items).value = sym c.in-Some.is ∙ c.in_ok-i.ensures ∙ ap (λ ss. (place_along a c.args.row 0 ss).value) c.deref.ensures.value in
    let h = sought-some a c.args.row c.args.kept.now.items c.in-Some.i found in
    let i : c.in-Some.i < length c.args.kept.now.items = h.in_list in
    let n : vec_len c.args.kept.now ≡ length c.args.kept.now.items = c.args.kept.now.ok.0 in
    omega arith

pub returns-in_err-tighten-in-Some : goal.returns-in_err-tighten-in-Some
returns-in_err-tighten-in-Some g c =
    let a = g.N.Scalar.arithmetic in
    let found : Some c.in-Some.i ≡ (place_along a c.args.row 0 c.args.kept.now.items).value = sym c.in-Some.is ∙ c.in_ok-i.ensures ∙ ap (λ ss. (place_along a c.args.row 0 ss).value) c.deref.ensures.value in
    let h = sought-some a c.args.row c.args.kept.now.items c.in-Some.i found in
    wide_halts c.from_residual-in_err-tighten-in-Some.result _ _ c.from_residual-in_err-tighten-in-Some.ensures.1 ((h.part c.index_mut.result.now c.index_mut.ensures.value).wide c.in_err-tighten-in-Some.ensures)

pub returns-in_ok-tighten-in-Some : goal.returns-in_ok-tighten-in-Some
returns-in_ok-tighten-in-Some g c =
    let a = g.N.Scalar.arithmetic in
    let found : Some c.in-Some.i ≡ (place_along a c.args.row 0 c.args.kept.now.items).value = sym c.in-Some.is ∙ c.in_ok-i.ensures ∙ ap (λ ss. (place_along a c.args.row 0 ss).value) c.deref.ensures.value in
    let h = sought-some a c.args.row c.args.kept.now.items c.in-Some.i found in
    ap (set c.args.kept.now.items c.in-Some.i) c.in_ok-tighten-in-Some.ensures ∙ sym (h.put c.index_mut.result.now c.index_mut.ensures.value)

pub returns-in_ok-push-in-None : goal.returns-in_ok-push-in-None
returns-in_ok-push-in-None g c =
    let a = g.N.Scalar.arithmetic in
    let found : None ≡ (place_along a c.args.row 0 c.args.kept.now.items).value = sym c.in-None.is ∙ c.in_ok-i.ensures ∙ ap (λ ss. (place_along a c.args.row 0 ss).value) c.deref.ensures.value in
    c.in_ok-push-in-None.ensures.items ∙ sym (sought-none a c.args.row c.args.kept.now.items found)
