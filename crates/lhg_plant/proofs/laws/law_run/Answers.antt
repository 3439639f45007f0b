use Rattle.lhg_plant.proofs.StaysInside.{run_inside}
use Rattle.lhg_plant.proofs.RunExists.{stays}
use Rattle.lhg_plant.proofs.RunDetermined.{run_once}
use Rattle.lhg_plant.proofs.LogDecided.{log_decided, legal_or_illegal, first_illegal_once}
use Rattle.lhg_plant.proofs.laws.law_run.Goals as goal

pub returns : goal.returns
returns c = λ choice a k. record {
  answered = λ fit valid. stays choice a k valid fit;
  inside = λ fit valid. run_inside choice a k valid fit;
  determined = run_once choice a k;
  decided = λ fit valid. log_decided choice a k valid fit;
  exclusive = legal_or_illegal choice a k;
  one_illegal = first_illegal_once choice a k;
}
