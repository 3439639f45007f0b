-- What is an escape from a set of states, and when is a set secure?
use Rattle.std.specs.Prelude.{◌⊎◌, List}
use Rattle.lhg_motion.specs.Play.{PlainMove, last_point, EachEarlier}
use Rattle.lhg_plant.specs.Plant.{PlainPlant}
use Rattle.lhg_plant.specs.State.{PlainState, States, moved_to, IsSafe}
use Rattle.lhg_plant.specs.Legal.{IsPlayFrom}
use Rattle.lhg_plant.specs.OutBack.{Out, Back}

-- an escape from S past K may pass the state: it is in Out of S, or not in K
abbrev pub MayPass : PlainPlant → States → States → PlainState → Type 0
MayPass a S K s = Out a S s ⊎ ¬ K s

-- an escape of s from S past K: a play from s whose last point is in Out of S, and each earlier point of which is in Out of
-- S or not in K
pub record IsEscape (a : PlainPlant) (S K : States) (s : PlainState) (moves : List PlainMove) : Type 0 where
  pub play : IsPlayFrom a s moves
  pub ends : Out a S (moved_to s (last_point s.at moves))
  pub earlier : EachEarlier (λ p. MayPass a S K (moved_to s p)) s.at moves

-- some play is an escape
abbrev pub HasEscape : PlainPlant → States → States → PlainState → Type 0
HasEscape a S K s = (moves : List PlainMove) × IsEscape a S K s moves

-- a set is secure where each of its states is safe, and none has an escape from the set past its Back
pub record IsSecure (a : PlainPlant) (S : States) : Type 0 where
  pub safe : (s : PlainState) → S s → IsSafe a s
  pub closed : (s : PlainState) → S s → ¬ HasEscape a S (Back a S) s
