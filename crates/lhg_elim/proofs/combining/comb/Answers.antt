use Rattle.std.proofs.Common.{◌≡◌, map, rules, subst, sym}
use Rattle.lhg_row.specs.Row.{PlainRow}
use Rattle.lhg_row.specs.Kinds.{is_strict}
use Rattle.lhg_row.specs.Combine.{comb}
use Rattle.lhg_row.specs.Combination.{IsCombination}
use Rattle.lhg_row.specs.CombineLaws.{comb-exact}
use Rattle.lhg_elim.proofs.combining.comb.Goals as goal

pub returns-clause-points : goal.returns-clause-points
returns-clause-points g c o =
    let m = g.N.Scalar.meaning in
    let a = g.N.Scalar.arithmetic in
    let r : PlainRow = record { coefs = map m c.in_ok-coefs.coefs.items; strict = is_strict c.stricter.result; bound = m c.in_ok-bound.bound } in
    let is : r ≡ (comb a c.args.r.now c.args.s.now c.args.k).value = search rules in
    subst (IsCombination c.args.k c.args.r.now c.args.s.now) (sym is) (comb-exact a c.args.k c.args.r.now c.args.s.now c.requires.same c.requires.there o)
