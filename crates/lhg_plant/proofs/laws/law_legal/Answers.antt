use Rattle.lhg_plant.proofs.LegalExact.{state_exact, flow_exact, switch_exact}
use Rattle.lhg_plant.proofs.laws.law_legal.Goals as goal

pub returns : goal.returns
returns c = λ n a. record { state = state_exact n a; flow = flow_exact n a; switch = switch_exact n a }
