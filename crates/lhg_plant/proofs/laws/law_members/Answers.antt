use Rattle.lhg_plant.proofs.Decided.{state_decided, safe_decided, region_decided, guard_decided}
use Rattle.lhg_plant.proofs.laws.law_members.Goals as goal

pub returns : goal.returns
returns c = λ a. record { state = state_decided a; safe = safe_decided a; region = region_decided a; guard = guard_decided a }
