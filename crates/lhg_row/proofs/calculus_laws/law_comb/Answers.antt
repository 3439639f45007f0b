use Rattle.lhg_row.specs.CombineLaws.{comb-exact}
use Rattle.lhg_row.proofs.calculus_laws.law_comb.Goals as goal

pub returns : goal.returns
returns c = comb-exact
