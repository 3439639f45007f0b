-- What do contracts see of a round as the code holds it, and which lists is it made from?
use Rattle.std.specs.Prelude.{◌≡◌, List, length}
use Rattle.std.specs.Global.{Vec}
use Rattle.lhg_math.specs.Tests.{AllOf}
use Rattle.lhg_row.specs.System.{PlainSystem}
use Rattle.lhg_union.specs.PolyLists.{AllVars}
use Rattle.lhg_union.specs.Regions.{plain_region}
use Rattle.lhg_plant.specs.declared.plants.Plant.{Plant}
use Rattle.lhg_jump.specs.declared.outs.Outs.{Outs}
use Rattle.lhg_jump.specs.HitViews.{HasVars}
use Rattle.lhg_loss.specs.Records.{PlainRound}
use Rattle.lhg_loss.specs.Views.{plain_losses}
use Rattle.lhg_iterate.specs.declared.rounds.Round.{Round}

-- a round as plain data
abbrev pub plain_round : Round → PlainRound
plain_round r = record { losses = plain_losses r.losses.items; next = plain_region r.next.pieces.items }

-- each piece of the lists is over the plant's variables
abbrev pub IsOverPlant : Plant → List (Vec PlainSystem) → Type 0
IsOverPlant p lists = AllOf (λ ps. AllVars (length p.vars.items) ps.items) lists

-- a region and the states outside it have a list for each location, and so have the hits; the states back have one for each switch;
-- all pieces are over the plant's variables
pub record AreRoundLists (p : Plant) (region : List (Vec PlainSystem)) (outs : Outs) (backs : List (Vec PlainSystem)) : Type 0 where
  pub region_many : length region ≡ length p.locs.items
  pub region_vars : IsOverPlant p region
  pub away_many : length outs.away.pieces.items ≡ length p.locs.items
  pub away_vars : IsOverPlant p outs.away.pieces.items
  pub hits_many : length outs.hits.items ≡ length p.locs.items
  pub hits_vars : AllOf (λ hs. AllOf (HasVars (length p.vars.items)) hs.items) outs.hits.items
  pub backs_many : length backs ≡ length p.switches.items
  pub backs_vars : IsOverPlant p backs
