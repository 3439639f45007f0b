-- Which laws do the calculated sets of switches obey, for every plant?
use Rattle.std.specs.Prelude.{ℕ, List, length, slice_get, IsSomeAnd}
use Rattle.lhg_row.specs.Piece.{PlainPiece}
use Rattle.lhg_row.specs.PieceFacts.{AllOver}
use Rattle.lhg_plant.specs.Plant.{PlainPlant}
use Rattle.lhg_plant.specs.Proper.{IsProper}
use Rattle.lhg_plant.specs.Region.{PlainRegion, PlainGuards, InRegion}
use Rattle.lhg_plant.specs.Pre.{pre}
use Rattle.lhg_plant.specs.OutCalculus.{out}
use Rattle.lhg_plant.specs.BackCalculus.{back, back_at, near_at, guards}
use Rattle.lhg_plant.specs.Laws.{HasExactGuards}
use Rattle.lhg_plant.specs.Inside.{AllInside, IsRegionOver, IsRegionInside}
use Rattle.lhg_plant.specs.SwitchFacts.{IsPreOf, IsOutOf, IsOutside, AreBacks, IsBack, IsNear}

-- pre has exactly the states with a legal result in the target, where the target lies inside the invariant
abbrev pub PreLaw : PlainPlant → Type 0
PreLaw a = IsProper a → (e : ℕ) (target : List PlainPiece) → AllOver (length a.vars) target → IsSomeAnd (slice_get a.switches e) (λ w. AllInside a w.to target)
    → IsPreOf a e target (pre a e target).value

-- out has exactly the states of Out of the region
abbrev pub OutLaw : PlainPlant → Type 0
OutLaw a = IsProper a → (region : PlainRegion) → IsRegionOver a region → IsOutOf a (InRegion a region) (out a region).value

-- back has exactly the states that each switch keeps in a region that lies inside the invariants, where the states outside it are given
abbrev pub BackLaw : PlainPlant → Type 0
BackLaw a = IsProper a → (region away : PlainRegion) → IsRegionInside a region → IsRegionOver a away → IsOutside a region away
    → AreBacks a region (back a region away).value

-- where a list for each switch is what back gives for a region and the states outside it, the joined lists of a location have exactly its
-- states in Back of the region, and what they leave of the region exactly the others
pub record KeepLaws (a : PlainPlant) (region : PlainRegion) (backs : PlainGuards) (l : ℕ) : Type 0 where
  pub back : IsBack a (InRegion a region) l (back_at a backs l).value
  pub near : IsNear a (InRegion a region) l (near_at a region backs l).value

abbrev pub KeepLaw : PlainPlant → Type 0
KeepLaw a = IsProper a → (region : PlainRegion) → IsRegionInside a region → (l : ℕ)
    → KeepLaws a region (back a region (out a region).value.away).value l

-- the guards of a region inside the invariants are exactly its states in Back of it by their switch
abbrev pub GuardLaw : PlainPlant → Type 0
GuardLaw a = IsProper a → (region : PlainRegion) → IsRegionInside a region → HasExactGuards a (record { region = region; guards = (guards a region).value })
