use Rattle.lhg_math.specs.GcdLemmas.{gcd_is, gcd-zero, gcd-step, gcd_comm, gcd-scaled, gauss, reduced, coprime-mul}
use Rattle.lhg_math.proofs.law_gcd.Goals as goal

pub returns : goal.returns
returns c = record { greatest = gcd_is; zero = gcd-zero; step = gcd-step; comm = gcd_comm; factor = gcd-scaled; gauss = gauss; parts = reduced; product = coprime-mul }
