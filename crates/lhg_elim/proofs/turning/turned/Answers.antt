use Rattle.std.proofs.Common.{◌≡◌, true, List, map, subst, rules}
use Rattle.lhg_math.specs.Number.{Number}
use Rattle.lhg_math.specs.Tests.{all_of}
use Rattle.lhg_num.specs.Arithmetic.{held_row}
use Rattle.lhg_num.specs.FracCanon.{canon_frac}
use Rattle.lhg_row.specs.Trim.{entries_of, row_of}
use Rattle.lhg_elim.proofs.turning.turned.Goals as goal

pub returns : goal.returns
returns g c =
    let a = g.N.Scalar.arithmetic in
    let m = g.N.Scalar.meaning in
    let r = c.args.row.now in
    let plain : map m c.in_ok-plain.plain.items ≡ canon_frac (entries_of r) = cc (c.in_ok-plain.ensures, c.in_ok-values.ensures.value, c.in_ok-entries.ensures) in
    let scaled : map m c.in_ok-scaled.scaled.items ≡ a.canon_of (canon_frac (entries_of r)) = cc (plain, c.in_ok-scaled.ensures) in
    let is : c.split.result ≡ row_of r.strict (map m c.in_ok-scaled.scaled.items) = search rules in
    record {
      held = subst (λ (xs : List Number). all_of a.holds xs ≡ true) plain (held_row a m g.met.N.Scalar.held c.in_ok-plain.plain.items);
      is = rw (← scaled) is;
    }
