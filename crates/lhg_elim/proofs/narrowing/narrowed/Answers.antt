use Rattle.std.proofs.Common.{◌≡◌, ◌∙◌, map, ap}
use Rattle.std.specs.Prelude.{remove}
use Rattle.lhg_row.specs.Row.{PlainRow}
use Rattle.lhg_row.specs.Kinds.{is_strict}
use Rattle.lhg_row.specs.Column.{drop_column}
use Rattle.lhg_elim.proofs.NarrowSteps.{map-remove}
use Rattle.lhg_elim.proofs.narrowing.narrowed.Goals as goal

pub returns : goal.returns
returns g c =
    let m = g.N.Scalar.meaning in
    let left : map m c.remove.new.self.items ≡ remove c.args.row.coefs c.args.k =
    ap (map m) c.remove.ensures.items ∙ map-remove m c.row.inside.coefs.items c.args.k ∙ ap (λ (r : PlainRow). remove r.coefs c.args.k) c.row.view_is in
    let is : record { coefs = map m c.remove.new.self.items; strict = is_strict c.row.inside.kind; bound = m c.row.inside.bound } ≡ drop_column c.args.k c.args.row =
    ap (λ cs. record { coefs = cs; strict = is_strict c.row.inside.kind; bound = m c.row.inside.bound }) left ∙ ap (λ (r : PlainRow). record { coefs = remove c.args.row.coefs c.args.k; strict = r.strict; bound = r.bound }) c.row.view_is in
    is
