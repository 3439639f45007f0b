use Rattle.std.proofs.Common.{◌≡◌, true, sym, ◌∙◌, rules}
use Rattle.std.specs.declared.cmp.Ordering.TheVariants.{Less, Equal}
use Rattle.lhg_math.specs.Number.{neg, compare}
use Rattle.lhg_poly.proofs.ClashSteps.{clash_less, clash_equal}
use Rattle.lhg_poly.proofs.clashing.is_clash.Goals as goal

pub returns-in-Some-Less : goal.returns-in-Some-Less
returns-in-Some-Less g c e =
    let r = c.args.r.now in
    let s = c.args.s.now in
    let order : compare r.bound (neg s.bound) ≡ Less = search rules in
    clash_less r s (c.have_opposites.ensures (search rules)) order

pub returns-in-Some-Equal : goal.returns-in-Some-Equal
returns-in-Some-Equal g c e =
    let r = c.args.r.now in
    let s = c.args.s.now in
    let order : compare r.bound (neg s.bound) ≡ Equal = search rules in
    clash_equal r s (c.have_opposites.ensures (search rules)) order (sym c.is_either_strict.ensures ∙ e)
