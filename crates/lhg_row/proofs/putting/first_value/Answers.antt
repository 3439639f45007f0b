use Rattle.std.proofs.Common.{length, map, take, subst}
use Rattle.lhg_math.specs.Number.{nought}
use Rattle.lhg_num.specs.Halting.{IsWideBy}
use Rattle.lhg_row.specs.Values.{marked_value}
use Rattle.lhg_row.specs.PutInLaws.{value-first}
use Rattle.lhg_row.proofs.putting.first_value.Goals as goal

pub returns : goal.returns
returns g c =
    let m = g.N.Scalar.meaning in
    let a = g.N.Scalar.arithmetic in
    let xs = c.args.at.now in
    subst (λ v. IsWideBy c.value_from.result v m) (value-first m a nought c.args.coefs.now xs)
    (subst (λ z. IsWideBy c.value_from.result (marked_value a z (map m (take (length xs) c.args.coefs.now)) (map m xs)) m) c.zero.ensures
    (subst (λ cs. IsWideBy c.value_from.result (marked_value a (m c.zero.result) (map m cs) (map m xs)) m) c.split_at.ensures.front c.value_from.ensures))
