-- The rim of a region lies inside the invariants, and so do guards that are cut to pieces.
use Rattle.std.proofs.Common.{Result, Ok, Err}
use Rattle.std.specs.Prelude.{IfOk}
use Rattle.std.specs.Global.{Vec}
use Rattle.lhg_num.specs.declared.refusals.Halt.{Halt}
use Rattle.lhg_row.specs.System.{PlainSystem}
use Rattle.lhg_plant.specs.declared.plants.Plant.{Plant}
use Rattle.lhg_plant.specs.Region.{PlainRegion}
use Rattle.lhg_plant.specs.Invariants.{pieces_at}
use Rattle.lhg_plant.specs.Views.{plain_plant}
use Rattle.lhg_plant.proofs.InsideStates.{inside_from}
use Rattle.lhg_union.specs.Regions.{plain_region}
use Rattle.lhg_jump.specs.PlantLists.{AreListsOf, IsRegionOf}
use Rattle.lhg_lazy.specs.RimFacts.{IsRim}

-- the states of a rim are states of the plant
pub rims-inside : (p : Plant) (region : PlainRegion) (r : Result (Vec (Vec PlainSystem)) Halt) → IfOk r (λ v. AreListsOf p v.items) → IfOk r (λ v. IsRim (plain_plant p) region (plain_region v.items)) → IfOk r (λ v. IsRegionOf p v.items)
rims-inside p region (Ok v) lists points = record {
  has_lists = lists;
  inside = λ l. inside_from (plain_plant p) l (pieces_at (plain_region v.items) l) (λ x fits h. ((points l x fits).0 h).kept.state);
}
rims-inside p region (Err e) lists points = tt
