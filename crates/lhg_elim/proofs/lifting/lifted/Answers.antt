use Rattle.std.proofs.Common.{◌≡◌, ◌∙◌, true, List, map, sym, subst, rules}
use Rattle.lhg_math.specs.Number.{Number, whole}
use Rattle.lhg_math.specs.Tests.{all_of}
use Rattle.lhg_num.specs.Arithmetic.{IsMultiple, held_row}
use Rattle.lhg_row.specs.Trim.{entries_of, row_of}
use Rattle.lhg_elim.specs.Alike.{IsAlike}
use Rattle.lhg_elim.proofs.WholeSteps.{lifted-alike}
use Rattle.lhg_elim.proofs.lifting.lifted.Goals as goal

pub returns : goal.returns
returns g c =
    let a = g.N.Scalar.arithmetic in
    let m = g.N.Scalar.meaning in
    let r = c.args.row.now in
    let zs = map whole c.in_ok-wholes.wholes.items in
    let values : c.in_ok-values.values.items ≡ entries_of r = cc (c.in_ok-values.ensures, c.in_ok-entries.ensures) in
    let held : all_of a.holds (entries_of r) ≡ true = subst (λ (es : List Number). all_of a.holds es ≡ true) c.in_ok-entries.ensures (held_row a m g.met.N.Scalar.held c.in_ok-entries.entries.items) in
    let is : c.split.result ≡ row_of r.strict zs = search rules in
    subst (IsAlike a r) (sym is) (lifted-alike a r zs held (subst (λ (es : List Number). IsMultiple es zs) (c.deref-2.ensures.value ∙ values) c.in_ok-wholes.ensures.multiple))
