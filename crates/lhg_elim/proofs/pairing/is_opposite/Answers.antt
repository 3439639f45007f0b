use Rattle.std.proofs.Common.{◌≡◌, List, map, ap, sym, subst, ◌∙◌}
use Rattle.lhg_math.specs.Number.{Number}
use Rattle.lhg_row.specs.Row.{PlainRow}
use Rattle.lhg_elim.specs.OneSign.{SharesSign, shared-opposite}
use Rattle.lhg_elim.proofs.pairing.is_opposite.Goals as goal

pub returns-then-share_sign : goal.returns-then-share_sign
returns-then-share_sign g c =
    let m = g.N.Scalar.meaning in
    let r = c.args.r.now in
    let s = c.args.s.now in
    let left : map m c.deref.result.now ≡ r.coefs = ap (map m) c.deref.ensures.value ∙ ap (λ (q : PlainRow). q.coefs) c.r.view_is in
    let right : map m c.deref-2.result.now ≡ s.coefs = ap (map m) c.deref-2.ensures.value ∙ ap (λ (q : PlainRow). q.coefs) c.s.view_is in
    let shared : SharesSign (map m c.deref.result.now) (map m c.deref-2.result.now) = c.share_sign.ensures c.if-share_sign.true in
    sym (shared-opposite g.N.Scalar.arithmetic r s
    (subst (λ (ds : List Number). SharesSign r.coefs ds) right (subst (λ (cs : List Number). SharesSign cs (map m c.deref-2.result.now)) left shared)))
