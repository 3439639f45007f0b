use Rattle.std.proofs.Common.{ℕ, ◌<◌, sym, subst}
use Rattle.lhg_math.specs.GcdLemmas.{gcd-pos}
use Rattle.lhg_whole.proofs.lifting.lcm.Goals as goal

pub nonzero_div-a : goal.nonzero_div-a
nonzero_div-a c = subst (λ (n : ℕ). 0 < n) (sym c.gcd.ensures) (gcd-pos c.args.a c.args.b c.requires)
