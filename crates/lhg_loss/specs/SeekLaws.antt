-- What do the stages of the iteration say of one state that is sought, and of every secure set?
use Rattle.std.specs.Prelude.{◌≡◌, ◌+◌, ◌≤◌, ℕ, suc, true, ◌++◌, length, Some, None}
use Rattle.lhg_plant.specs.Plant.{PlainPlant}
use Rattle.lhg_plant.specs.State.{PlainState}
use Rattle.lhg_plant.specs.Round.{InRound, IsRemovedIn, IsLastRound}
use Rattle.lhg_plant.specs.Solution.{InSomeLoss}
use Rattle.lhg_loss.specs.Records.{PlainRound}
use Rattle.lhg_loss.specs.Iterate.{PlainStage, none_lost}
use Rattle.lhg_loss.specs.RoundFacts.{IsExactRound}
use Rattle.lhg_loss.specs.StageFacts.{IsStage}
use Rattle.lhg_loss.specs.Holding.{IsFirstHolding}

-- after a stage and an exact round on it, for a state of the round before: where a record of the round holds the state, it is removed in the
-- round, and the first such record is the first of all records that holds it; where none does, it stays; a round without a record is the
-- last; and each state removed up to this round lies in a record
pub record SeekLaws (a : PlainPlant) (i : ℕ) (s : PlainStage) (r : PlainRound) : Type 0 where
  pub lost : (z : PlainState) (m : ℕ) → InRound a i z → IsFirstHolding z r.losses (Some m) → IsRemovedIn a (suc i) z × IsFirstHolding z (s.losses ++ r.losses) (Some m)
  pub stays : (z : PlainState) → InRound a i z → IsFirstHolding z r.losses None → InRound a (suc i) z
  pub last : none_lost r.losses ≡ true → IsLastRound a (suc i)
  pub known : (z : PlainState) (j : ℕ) → j ≤ suc i → IsRemovedIn a j z → InSomeLoss a (s.losses ++ r.losses) z

abbrev pub SeekLaw : PlainPlant → Type 0
SeekLaw a = (i : ℕ) (s : PlainStage) (r : PlainRound) → IsStage a i s → IsExactRound a s.region (suc i) (length s.losses + 1) r → SeekLaws a i s r
