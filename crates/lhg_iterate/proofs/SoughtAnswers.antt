-- The answers about one state exclude each other.
use Rattle.std.proofs.Common.{◌<◌, ℕ, zero, suc, List, arith}
use Rattle.lhg_plant.specs.Plant.{PlainPlant}
use Rattle.lhg_plant.specs.State.{PlainState}
use Rattle.lhg_plant.specs.Loss.{PlainLoss}
use Rattle.lhg_plant.specs.Round.{InRound, RemovesNothing}
use Rattle.lhg_plant.proofs.Rounds.{round_safe, rounds_shrink, settled_stays}
use Rattle.lhg_loss.proofs.Seeking.{outcome_laws}
use Rattle.lhg_iterate.specs.Seeking.{IsKept, IsLost}
use Rattle.lhg_iterate.specs.SeekLaws.{SoughtLaws}

-- what is in a round that removes nothing is in every round
stays : (a : PlainPlant) (z : PlainState) (rounds j : ℕ) → 0 < rounds → RemovesNothing a rounds → InRound a rounds z → InRound a j z
stays a z zero j above settled k = absurd (omega arith)
stays a z (suc i) j above settled k = settled_stays a i j z settled k.0

module _ (a : PlainPlant) (budget : ℕ) (z : PlainState) where
  kept_not_lost : (rounds m : ℕ) (losses : List PlainLoss) → IsKept a budget rounds z → IsLost a budget m losses z → ⊥
  kept_not_lost rounds m losses h k = k.removed.gone (stays a z rounds k.round h.last.counted h.last.settled h.kept)

  pub sought_laws : SoughtLaws a budget z
  sought_laws = record {
    kept_safe = λ rounds h. round_safe a rounds z h.kept;
    lost_safe = λ m losses k. round_safe a k.removed.round z k.removed.kept;
    spent_safe = λ i. round_safe a budget z i;
    kept_not_lost = kept_not_lost;
    kept_not_spent = λ rounds s h g. (outcome_laws a budget).not_spent s rounds g h.last h.within;
    lost_not_spent = λ m losses k i. k.removed.gone (rounds_shrink a k.round budget z k.within i);
  }
