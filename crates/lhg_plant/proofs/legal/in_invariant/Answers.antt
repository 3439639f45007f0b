use Rattle.std.proofs.Common.{◌≡◌, length, arith}
use Rattle.lhg_num.specs.FracArithmetic.{frac_arithmetic}
use Rattle.lhg_plant.specs.Views.{plain_plant, plain_state}
use Rattle.lhg_plant.proofs.LegalExact.{exact_by, state_exact}
use Rattle.lhg_plant.proofs.legal.in_invariant.Goals as goal

pub returns-clause-exact : goal.returns-clause-exact
returns-clause-exact c =
    let p = c.args.plant.now in
    let fits : length c.args.state.now.at ≡ length p.vars.items = omega (arith, c.requires.lengths, p.vars.ok.0) in
    exact_by c.is_inside.result _ c.is_inside.ensures (state_exact frac_arithmetic (plain_plant p) (plain_state c.args.state.now) fits)
