-- What do the pieces of the rim, and the guards cut to it, say of states?
use Rattle.std.specs.Prelude.{◌≡◌, ◌↔◌, ℕ, List, [], length, get_or, slice_get, IfSome}
use Rattle.lhg_row.specs.Row.{PlainPoint}
use Rattle.lhg_row.specs.Piece.{PlainPiece, InSome}
use Rattle.lhg_row.specs.PieceFacts.{AllOver}
use Rattle.lhg_motion.specs.Crossing.{HasCrossing}
use Rattle.lhg_row.specs.Members.{SomeOf}
use Rattle.lhg_plant.specs.Plant.{PlainPlant}
use Rattle.lhg_plant.specs.State.{PlainState}
use Rattle.lhg_plant.specs.Region.{PlainRegion, PlainGuards, InRegion, InGuard}
use Rattle.lhg_plant.specs.Inside.{AllInside}
use Rattle.lhg_plant.specs.Invariants.{pieces_at}
use Rattle.lhg_plant.specs.SwitchFacts.{state_at}
use Rattle.lhg_lazy.specs.Rim.{InRim}

-- one flow leads from some piece of the first list through some piece of the second into the same piece
abbrev pub LeavesThrough : PlainPiece → List PlainPiece → List PlainPiece → PlainPoint → Type 0
LeavesThrough flow here outside x = SomeOf (λ s. SomeOf (λ q. HasCrossing s q q flow x) outside) here

-- the pieces hold exactly the states of the rim of the region
abbrev pub IsRim : PlainPlant → PlainRegion → PlainRegion → Type 0
IsRim a region rim = (l : ℕ) (p : PlainPoint) → length p ≡ length a.vars → InSome (pieces_at rim l) p ↔ InRim a (InRegion a region) (state_at l p)

-- each piece of each guard is over the plant's variables
abbrev pub AreGuardsOver : PlainPlant → PlainGuards → Type 0
AreGuardsOver a guards = (e : ℕ) → AllOver (length a.vars) (get_or guards e [])

-- each piece of the guard of a switch lies inside the invariant of the location that the switch leaves
abbrev pub AreGuardsInside : PlainPlant → PlainGuards → Type 0
AreGuardsInside a guards = (e : ℕ) → IfSome (slice_get a.switches e) (λ w. AllInside a w.from (get_or guards e []))

-- the cut guards hold exactly the states of the guards that are in some piece of the rim
abbrev pub AreCut : PlainPlant → PlainGuards → PlainRegion → PlainGuards → Type 0
AreCut a guards rim cut = (e : ℕ) (s : PlainState) → InGuard a cut e s ↔ (InGuard a guards e s × InRegion a rim s)
