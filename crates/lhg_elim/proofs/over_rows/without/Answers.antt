use Rattle.std.proofs.Common.{◌≡◌, Some, subst, rules}
use Rattle.lhg_row.specs.PairLaws.{IsPair, HasPair, pair_at-is}
use Rattle.lhg_row.specs.Eliminate.{pair_at}
use Rattle.lhg_elim.proofs.over_rows.without.Goals as goal

pub push_beside-requires-clause-in_order : goal.push_beside-requires-clause-in_order
push_beside-requires-clause-in_order g c =
    let a = g.N.Scalar.arithmetic in
    let rows = c.args.rows.now in
    let is : (pair_at a c.args.k 0 rows).value ≡ Some (c.in-Some.i, c.in-Some.j) = search rules in
    let pair : IsPair a c.args.k rows c.in-Some.i c.in-Some.j = subst (HasPair a c.args.k rows) is (pair_at-is a c.args.k rows) in
    pair.in_order

pub push_beside-requires-clause-in_list : goal.push_beside-requires-clause-in_list
push_beside-requires-clause-in_list g c =
    let a = g.N.Scalar.arithmetic in
    let rows = c.args.rows.now in
    let is : (pair_at a c.args.k 0 rows).value ≡ Some (c.in-Some.i, c.in-Some.j) = search rules in
    let pair : IsPair a c.args.k rows c.in-Some.i c.in-Some.j = subst (HasPair a c.args.k rows) is (pair_at-is a c.args.k rows) in
    pair.in_list
