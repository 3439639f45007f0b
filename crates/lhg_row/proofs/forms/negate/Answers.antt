use Rattle.std.proofs.Common.{◌≡◌, ◌∙◌, ap, map, rules}
use Rattle.lhg_row.specs.Row.{PlainRow, holds_at}
use Rattle.lhg_row.specs.Kinds.{is_strict}
use Rattle.lhg_row.specs.Moves.{negated}
use Rattle.lhg_row.specs.MoveLaws.{negated-holds}
use Rattle.lhg_row.proofs.forms.negate.Goals as goal

pub returns-clause-points : goal.returns-clause-points
returns-clause-points g c =
    let m = g.N.Scalar.meaning in
    let r : PlainRow = record { coefs = map m c.in_ok-negatives.field-0.items; strict = is_strict c.opposite.result; bound = m c.neg.result } in
    let k : r ≡ negated c.args.row.now = search rules in
    λ x. ap (λ (q : PlainRow). holds_at q x) k ∙ negated-holds c.args.row.now x
