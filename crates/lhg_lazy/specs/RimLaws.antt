-- Which laws do the rim of a region and the candidate of a controller obey, for every plant?
use Rattle.std.specs.Prelude.{◌↔◌, ℕ}
use Rattle.lhg_plant.specs.Plant.{PlainPlant}
use Rattle.lhg_plant.specs.Proper.{IsProper}
use Rattle.lhg_plant.specs.State.{PlainState}
use Rattle.lhg_plant.specs.Region.{PlainRegion, PlainGuards, InGuard}
use Rattle.lhg_plant.specs.Controller.{PlainController, IsValid}
use Rattle.lhg_plant.specs.Inside.{IsRegionOver, IsRegionInside}
use Rattle.lhg_plant.specs.SwitchFacts.{IsOutside}
use Rattle.lhg_lazy.specs.Rim.{IsCandidate}
use Rattle.lhg_lazy.specs.RimCalculus.{away, rim, cut_guards}
use Rattle.lhg_lazy.specs.RimFacts.{IsRim, AreGuardsOver, AreCut}

-- what the calculus gives as outside a region is exactly the states that are not in it
abbrev pub AwayLaw : PlainPlant → Type 0
AwayLaw a = IsProper a → (region : PlainRegion) → IsRegionOver a region → IsOutside a region (away a region).value

-- the rim of the calculus is exact, where the region lies inside the invariants and the states outside it are given
abbrev pub RimLaw : PlainPlant → Type 0
RimLaw a = IsProper a → (region away : PlainRegion) → IsRegionInside a region → IsRegionOver a away → IsOutside a region away
    → IsRim a region (rim a region away).value

-- so are the guards that are cut
abbrev pub CutLaw : PlainPlant → Type 0
CutLaw a = (guards : PlainGuards) (rim : PlainRegion) → AreGuardsOver a guards → IsRegionOver a rim → AreCut a guards rim (cut_guards a guards rim).value

-- guards that are cut to the rim make a candidate; each guard of a candidate lies in that of the controller; and where one candidate of a
-- controller is valid, each is
pub record CandidateLaws (a : PlainPlant) (c : PlainController) : Type 0 where
  pub cut : (rim : PlainRegion) (guards : PlainGuards) → IsRim a c.region rim → AreCut a c.guards rim guards → IsCandidate a c (record { region = c.region; guards = guards })
  pub lies_in : (d : PlainController) → IsCandidate a c d → (e : ℕ) (s : PlainState) → InGuard a d.guards e s → InGuard a c.guards e s
  pub same : (d other : PlainController) → IsCandidate a c d → IsCandidate a c other → IsValid a d ↔ IsValid a other
