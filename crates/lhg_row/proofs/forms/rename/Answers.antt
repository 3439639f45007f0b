use Rattle.std.proofs.Common.{◌≡◌, ◌∙◌, ap, map, rules}
use Rattle.lhg_row.specs.Row.{PlainRow, holds_at}
use Rattle.lhg_row.specs.Kinds.{is_strict}
use Rattle.lhg_row.specs.Moves.{renamed}
use Rattle.lhg_row.specs.MoveLaws.{renamed-holds}
use Rattle.lhg_row.proofs.forms.rename.Goals as goal

pub returns-clause-points : goal.returns-clause-points
returns-clause-points g c =
    let m = g.N.Scalar.meaning in
    let r : PlainRow = record { coefs = map m c.in_ok-placed.field-0.items; strict = is_strict c.row.inside.kind; bound = m c.row.inside.bound } in
    let k : r ≡ renamed c.args.places.now c.args.vars c.args.row.now = search rules in
    λ x e. ap (λ (q : PlainRow). holds_at q x) k ∙ renamed-holds c.args.places.now c.args.vars c.args.row.now x c.requires.one_each c.requires.below c.requires.different e
