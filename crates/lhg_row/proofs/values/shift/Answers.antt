use Rattle.std.proofs.Common.{◌≡◌, ◌∙◌, ap, map, rules}
use Rattle.lhg_row.specs.Row.{PlainRow, holds_at}
use Rattle.lhg_row.specs.Kinds.{is_strict}
use Rattle.lhg_row.specs.Values.{shift}
use Rattle.lhg_row.specs.MoveLaws.{shift-holds}
use Rattle.lhg_row.proofs.values.shift.Goals as goal

pub returns-clause-points : goal.returns-clause-points
returns-clause-points g c =
    let m = g.N.Scalar.meaning in
    let a = g.N.Scalar.arithmetic in
    let r : PlainRow = record { coefs = map m c.shifted.inside.coefs.items; strict = is_strict c.shifted.inside.kind; bound = m c.in_ok-bound.bound } in
    let k : r ≡ (shift a c.args.row.now c.args.by.now (m c.args.m.now)).value = search rules in
    λ x e. ap (λ (q : PlainRow). holds_at q x) k ∙ shift-holds a c.args.row.now c.args.by.now (m c.args.m.now) x e
