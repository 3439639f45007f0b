-- What do the exchanges of a list of moves do, where do they end, and which move is the first that is not legal?
use Rattle.std.specs.Prelude.{◌≡◌, ℕ, zero, suc, List, [], ◌∷◌, ◌++◌, Some, None, slice_get}
use Rattle.lhg_plant.specs.Plant.{PlainPlant}
use Rattle.lhg_plant.specs.State.{PlainState}
use Rattle.lhg_plant.specs.Loss.{PlainLoss}
use Rattle.lhg_plant.specs.Rank.{HasRank}
use Rattle.lhg_plant.specs.Round.{IsRemovedIn}
use Rattle.lhg_plant.specs.SpoilSteps.{PlainSpoilStep, ranked}
use Rattle.lhg_spoil.specs.Moves.{PlainCtlMove, IsLegalMove}
use Rattle.lhg_spoil.specs.Exchange.{offer, SpoilPlace, stands_at, answered_after, IsExchange}

-- n exchanges lead from a place to another, where i moves of the list were answered before and k are after
abbrev pub ReachesFrom : PlainPlant → List PlainLoss → List PlainCtlMove → ℕ → ℕ → SpoilPlace → List PlainSpoilStep → ℕ → SpoilPlace → Type 0
ReachesFrom a losses moves zero i r trace k last = (trace ≡ []) × (k ≡ i) × (last ≡ r)
ReachesFrom a losses moves (suc n) i r trace k last =
    (j : ℕ) × (steps : List PlainSpoilStep) × (next : SpoilPlace) × (more : List PlainSpoilStep)
    × IsExchange a losses j r (slice_get moves i) steps next × ReachesFrom a losses moves n (answered_after r.again i) next more k last × (trace ≡ steps ++ more)

-- n exchanges lead from a place to a state of rank 0, at which they end
abbrev pub SpoilsFrom : PlainPlant → List PlainLoss → List PlainCtlMove → ℕ → ℕ → SpoilPlace → List PlainSpoilStep → PlainState → Type 0
SpoilsFrom a losses moves zero i r trace last = HasRank a 0 r.state × (trace ≡ []) × (last ≡ r.state)
SpoilsFrom a losses moves (suc n) i r trace last =
    (j : ℕ) × (steps : List PlainSpoilStep) × (next : SpoilPlace) × (more : List PlainSpoilStep)
    × IsExchange a losses j r (slice_get moves i) steps next × SpoilsFrom a losses moves n (answered_after r.again i) next more last × (trace ≡ steps ++ more)

-- the n exchanges of a list of moves from a start
abbrev pub Spoils : PlainPlant → List PlainLoss → PlainState → List PlainCtlMove → ℕ → List PlainSpoilStep → PlainState → Type 0
Spoils a losses start moves n trace last = SpoilsFrom a losses moves n 0 (stands_at start) trace last

-- the next move of the list, of which i were answered, is not legal against the play that the plant offers from a state of rank j + 1
pub record IsIllegalAt (a : PlainPlant) (losses : List PlainLoss) (moves : List PlainCtlMove) (j i : ℕ) (r : SpoilPlace) : Type 0 where
  pub removed : IsRemovedIn a (suc j) r.state
  pub fresh : r.again ≡ None
  pub move : PlainCtlMove
  pub is_there : slice_get moves i ≡ Some move
  pub illegal : ¬ IsLegalMove a r.state (offer a losses r.state).value.way.moves move

-- after n exchanges the move with this number, counted from 1, is not legal at its turn; the trace ends with the rank at which it is asked for
abbrev pub IllegalFrom : PlainPlant → List PlainLoss → List PlainCtlMove → ℕ → ℕ → SpoilPlace → ℕ → List PlainSpoilStep → Type 0
IllegalFrom a losses moves zero i r number trace = (j : ℕ) × IsIllegalAt a losses moves j i r × (number ≡ suc i) × (trace ≡ ranked (suc j) ∷ [])
IllegalFrom a losses moves (suc n) i r number trace =
    (j : ℕ) × (steps : List PlainSpoilStep) × (next : SpoilPlace) × (more : List PlainSpoilStep)
    × IsExchange a losses j r (slice_get moves i) steps next × IllegalFrom a losses moves n (answered_after r.again i) next number more × (trace ≡ steps ++ more)

-- the move with this number is the first that is not legal at its turn, and this is the trace before it
abbrev pub IsFirstIllegal : PlainPlant → List PlainLoss → PlainState → List PlainCtlMove → ℕ → List PlainSpoilStep → Type 0
IsFirstIllegal a losses start moves number trace = (n : ℕ) × IllegalFrom a losses moves n 0 (stands_at start) number trace
