use Rattle.lhg_forward.proofs.AfterFlow.{after_flow-exact}
use Rattle.lhg_forward.proofs.AfterSwitch.{after_switch-exact}
use Rattle.lhg_forward.proofs.laws.law_after.Goals as goal

pub returns : goal.returns
returns c = λ a. record { flow = after_flow-exact a; switch = after_switch-exact a }
