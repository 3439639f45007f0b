use Rattle.lhg_whole.specs.LiftLaws.{lifted_multiple, lifted_held, lifted_coprime, lifted-canon, lowered-lifted}
use Rattle.lhg_whole.proofs.laws.law_lift.Goals as goal

pub returns : goal.returns
returns c = record { multiple = lifted_multiple; held = lifted_held; coprime = lifted_coprime; scaled = lifted-canon; lowered = lowered-lifted }
