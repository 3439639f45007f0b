-- Which controllers are checked, and which states break a part of validity?
use Rattle.std.specs.Prelude.{◌≡◌, ◌<◌, ℕ, List, [], Option, Some, None, length, get_or, slice_get, IfSome}
use Rattle.lhg_num.specs.FracArithmetic.{frac_arithmetic}
use Rattle.lhg_row.specs.Piece.{PlainPiece}
use Rattle.lhg_row.specs.PieceFacts.{AllPolys}
use Rattle.lhg_motion.specs.ReachCalculus.{reach}
use Rattle.lhg_plant.specs.declared.plants.Side.TheVariants.{Env}
use Rattle.lhg_plant.specs.Plant.{PlainLocation, PlainPlant}
use Rattle.lhg_plant.specs.State.{PlainState, IsSafe}
use Rattle.lhg_plant.specs.Legal.{HasSide}
use Rattle.lhg_plant.specs.OutBack.{BackBy}
use Rattle.lhg_plant.specs.Escape.{HasEscape}
use Rattle.lhg_plant.specs.Region.{InRegion, InGuard, InSomeGuard}
use Rattle.lhg_plant.specs.Controller.{PlainController, IsValid}
use Rattle.lhg_plant.specs.Inside.{AllInside}
use Rattle.lhg_plant.specs.Invariants.{pieces_at}
use Rattle.lhg_plant.specs.OutCalculus.{PlainOuts}
use Rattle.lhg_plant.specs.BackCalculus.{near_at}
use Rattle.lhg_loss.specs.RoundFacts.{IsRegion, AreReached}
use Rattle.lhg_check.specs.Check.{PlainVerdict, valid, unsafe, bad_guard, escapes}

-- ---- what is checked
-- the pieces of the region and of each guard are pieces over the plant's variables, inside the invariant of their location; an
-- uncontrollable switch has none
pub record IsCheckable (a : PlainPlant) (c : PlainController) : Type 0 where
  pub region_is : IsRegion a c.region
  pub guard_polys : (e : ℕ) → AllPolys frac_arithmetic (length a.vars) (get_or c.guards e [])
  pub guards_inside : (e : ℕ) → IfSome (slice_get a.switches e) (λ w. AllInside a w.from (get_or c.guards e []))
  pub uncontrollable : (e : ℕ) → HasSide a e Env → get_or c.guards e [] ≡ []

-- what the calculus reaches from bad pieces in a location, past the guards, is what has a play
abbrev pub IsReachedFrom : PlainPlant → PlainController → List PlainPiece → ℕ → PlainLocation → Type 0
IsReachedFrom a c bad l place =
    let near = (near_at a c.region c.guards l).value in
    AreReached (length a.vars) bad near place.flow (reach frac_arithmetic (length a.vars) bad near place.flow).value.found

-- the same from the states outside the region, where the location has no hit
abbrev pub IsReachedPast : PlainPlant → PlainController → PlainOuts → ℕ → Type 0
IsReachedPast a c outs l = (place : PlainLocation) → slice_get a.locs l ≡ Some place → get_or outs.hits l [] ≡ [] → IsReachedFrom a c (pieces_at outs.away l) l place

-- the same of the location of the first piece that is lost, or of all where there is none
abbrev pub HasReachedFor : PlainPlant → PlainController → PlainOuts → Option (ℕ × PlainPiece) → Type 0
HasReachedFor a c outs None = (l : ℕ) → IsReachedPast a c outs l
HasReachedFor a c outs (Some f) = IsReachedPast a c outs f.0

-- ---- the parts of validity
-- each state of the region is safe
abbrev pub AllSafe : PlainPlant → PlainController → Type 0
AllSafe a c = (s : PlainState) → InRegion a c.region s → IsSafe a s

-- each state of the guard of switch e is in the region, and stays there by the switch
abbrev pub GuardHolds : PlainPlant → PlainController → ℕ → Type 0
GuardHolds a c e = (s : PlainState) → InGuard a c.guards e s → InRegion a c.region s × BackBy a (InRegion a c.region) e s

-- the same of each guard
abbrev pub AllGuardsHold : PlainPlant → PlainController → Type 0
AllGuardsHold a c = (e : ℕ) → GuardHolds a c e

-- no state of the region has an escape from it past the union of the guards
abbrev pub IsClosed : PlainPlant → PlainController → Type 0
IsClosed a c = (s : PlainState) → InRegion a c.region s → ¬ HasEscape a (InRegion a c.region) (InSomeGuard a c.guards) s

-- ---- states that break a part
-- a state of the region that is not safe
abbrev pub BreaksSafe : PlainPlant → PlainController → PlainState → Type 0
BreaksSafe a c s = InRegion a c.region s × ¬ IsSafe a s

-- a state of the guard of switch e that is not in the region, or does not stay there by the switch
abbrev pub BreaksGuard : PlainPlant → PlainController → ℕ → PlainState → Type 0
BreaksGuard a c e s = InGuard a c.guards e s × ¬ (InRegion a c.region s × BackBy a (InRegion a c.region) e s)

-- a state of the region with an escape from it past the union of the guards
abbrev pub BreaksClosed : PlainPlant → PlainController → PlainState → Type 0
BreaksClosed a c s = InRegion a c.region s × HasEscape a (InRegion a c.region) (InSomeGuard a c.guards) s

-- the first part holds, switch e is the first whose guard breaks the second, and the state breaks that guard
pub record IsBadGuard (a : PlainPlant) (c : PlainController) (e : ℕ) (s : PlainState) : Type 0 where
  pub safe : AllSafe a c
  pub before : (i : ℕ) → i < e → GuardHolds a c i
  pub breaks : BreaksGuard a c e s

-- the first two parts hold, and the state breaks the third
pub record IsEscaping (a : PlainPlant) (c : PlainController) (s : PlainState) : Type 0 where
  pub safe : AllSafe a c
  pub guarded : AllGuardsHold a c
  pub breaks : BreaksClosed a c s

-- what a verdict says
abbrev pub IsVerdict : PlainPlant → PlainController → PlainVerdict → Type 0
IsVerdict a c valid = IsValid a c
IsVerdict a c (unsafe s) = BreaksSafe a c s
IsVerdict a c (bad_guard e s) = IsBadGuard a c e s
IsVerdict a c (escapes s) = IsEscaping a c s
