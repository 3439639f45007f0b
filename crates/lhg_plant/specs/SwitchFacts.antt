-- What do the pieces of switches say of states?
use Rattle.std.specs.Prelude.{◌≡◌, ◌⊎◌, ◌↔◌, ℕ, List, [], length, get_or, slice_get, IsSomeAnd, IfSome}
use Rattle.lhg_math.specs.Tests.{AllOf}
use Rattle.lhg_num.specs.FracArithmetic.{frac_arithmetic}
use Rattle.lhg_row.specs.Row.{PlainPoint}
use Rattle.lhg_row.specs.Piece.{PlainPiece, InPiece, InSome}
use Rattle.lhg_row.specs.PieceFacts.{IsPoly, AllPolys}
use Rattle.lhg_plant.specs.declared.plants.Side.TheVariants.{Env}
use Rattle.lhg_plant.specs.Plant.{PlainPlant}
use Rattle.lhg_plant.specs.State.{PlainState, States, IsState}
use Rattle.lhg_plant.specs.Legal.{LegalSwitch, HasSide}
use Rattle.lhg_plant.specs.OutBack.{LeavesBySwitch, Out, BackBy, Back}
use Rattle.lhg_plant.specs.Region.{PlainRegion, PlainGuards, InRegion, InGuard}
use Rattle.lhg_plant.specs.Loss.{InPieceAt}
use Rattle.lhg_plant.specs.Sound.{IsInside, MissesSet}
use Rattle.lhg_plant.specs.Inside.{AllInside}
use Rattle.lhg_plant.specs.Invariants.{pieces_at}
use Rattle.lhg_plant.specs.OutCalculus.{PlainHit, hit_pieces, PlainOuts}

-- the point in a location
abbrev pub state_at : ℕ → PlainPoint → PlainState
state_at l p = record { loc = l; at = p }

-- ---- pre
-- switch e has a legal result at the state, in one of the pieces of its target
pub record HasResultIn (a : PlainPlant) (e : ℕ) (target : List PlainPiece) (s : PlainState) : Type 0 where
  pub result : PlainState
  pub legal : LegalSwitch a e s result
  pub inside : InSome target result.at

-- the pieces hold exactly the states of the location that switch e leaves at which it has a legal result in the target
abbrev pub IsPreOf : PlainPlant → ℕ → List PlainPiece → List PlainPiece → Type 0
IsPreOf a e target pieces = IsSomeAnd (slice_get a.switches e) (λ w. (p : PlainPoint) → length p ≡ length a.vars → InSome pieces p ↔ HasResultIn a e target (state_at w.from p))

-- ---- out
-- the pieces hold exactly the states of location l that are not in the set
pub record IsAway (a : PlainPlant) (S : States) (l : ℕ) (pieces : List PlainPiece) : Type 0 where
  pub polys : AllPolys frac_arithmetic (length a.vars) pieces
  pub exact : (p : PlainPoint) → length p ≡ length a.vars → InSome pieces p ↔ (IsState a (state_at l p) × ¬ S (state_at l p))

-- each point of the piece is a state of the set, and has a legal result of the uncontrollable switch in the piece `into`, which lies inside the
-- invariant, and no state of which is in the set
pub record IsHit (a : PlainPlant) (S : States) (l : ℕ) (hit : PlainHit) : Type 0 where
  pub poly : IsPoly frac_arithmetic (length a.vars) hit.piece
  pub into_poly : IsPoly frac_arithmetic (length a.vars) hit.into
  pub kept : (p : PlainPoint) → length p ≡ length a.vars → InPiece hit.piece p → S (state_at l p)
  pub side : HasSide a hit.switch Env
  pub target : ℕ
  pub enters : IsSomeAnd (slice_get a.switches hit.switch) (λ w. w.to ≡ target)
  pub inside : IsInside a target hit.into
  pub missed : MissesSet a S target hit.into
  pub result : (p : PlainPoint) → length p ≡ length a.vars → InPiece hit.piece p → (z : PlainState) × LegalSwitch a hit.switch (state_at l p) z × InPieceAt a target hit.into z

-- these are all states of the set in location l from which the plant can leave it by a switch
pub record AreHits (a : PlainPlant) (S : States) (l : ℕ) (hits : List PlainHit) : Type 0 where
  pub sound : AllOf (IsHit a S l) hits
  pub all : (p : PlainPoint) → S (state_at l p) → LeavesBySwitch a S (state_at l p) → InSome (hit_pieces hits) p

-- the pieces outside and the hits of each location; all of them together hold exactly the states of Out
pub record IsOutOf (a : PlainPlant) (S : States) (outs : PlainOuts) : Type 0 where
  pub away : (l : ℕ) → IsAway a S l (pieces_at outs.away l)
  pub hits : (l : ℕ) → AreHits a S l (get_or outs.hits l [])
  pub exact : (l : ℕ) (p : PlainPoint) → length p ≡ length a.vars → (InSome (pieces_at outs.away l) p ⊎ InSome (hit_pieces (get_or outs.hits l [])) p) ↔ Out a S (state_at l p)

-- ---- back
-- the pieces of `away` hold exactly the states that are not in the region
abbrev pub IsOutside : PlainPlant → PlainRegion → PlainRegion → Type 0
IsOutside a region away = (l : ℕ) (p : PlainPoint) → length p ≡ length a.vars → InSome (pieces_at away l) p ↔ (IsState a (state_at l p) × ¬ InRegion a region (state_at l p))

-- the pieces of each switch lie inside the invariant of the location that it leaves, and hold exactly the states that it keeps in the
-- region; an uncontrollable switch has none
pub record AreBacks (a : PlainPlant) (region : PlainRegion) (backs : PlainGuards) : Type 0 where
  pub polys : (e : ℕ) → AllPolys frac_arithmetic (length a.vars) (get_or backs e [])
  pub inside : (e : ℕ) → IfSome (slice_get a.switches e) (λ w. AllInside a w.from (get_or backs e []))
  pub exact : (e : ℕ) (s : PlainState) → InGuard a backs e s ↔ BackBy a (InRegion a region) e s
  pub uncontrollable : (e : ℕ) → HasSide a e Env → get_or backs e [] ≡ []

-- the pieces hold exactly the states of location l that are in Back of the set
abbrev pub IsBack : PlainPlant → States → ℕ → List PlainPiece → Type 0
IsBack a S l pieces = (p : PlainPoint) → length p ≡ length a.vars → InSome pieces p ↔ Back a S (state_at l p)

-- the pieces hold exactly the states of the set in location l that are not in its Back
abbrev pub IsNear : PlainPlant → States → ℕ → List PlainPiece → Type 0
IsNear a S l pieces = (p : PlainPoint) → length p ≡ length a.vars → InSome pieces p ↔ (S (state_at l p) × ¬ Back a S (state_at l p))
