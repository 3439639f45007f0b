-- What does each call that takes a controller ask of it?
use Rattle.std.specs.Prelude.{◌≡◌, ℕ, [], length, get_or, slice_get, IfSome}
use Rattle.lhg_math.specs.Tests.{AllOf}
use Rattle.lhg_num.specs.FracArithmetic.{frac_arithmetic}
use Rattle.lhg_row.specs.PieceFacts.{AllPolys}
use Rattle.lhg_plant.specs.Controller.{PlainController}
use Rattle.lhg_plant.specs.Inside.{AllInside}
use Rattle.lhg_plant.specs.Plant.{PlainPlant}
use Rattle.lhg_union.specs.PolyLists.{AllVars}
use Rattle.lhg_union.specs.Regions.{plain_region}
use Rattle.lhg_ctl.specs.declared.controllers.Controller.{Controller}
use Rattle.lhg_ctl.specs.Written.{AreOfController}

-- the region has one list per location, the guards one per switch, each piece and guard piece is over the plant's variables,
-- and an uncontrollable switch has no guard
pub record IsControllerOf (a : PlainPlant) (c : Controller) : Type 0 where
  pub locs : length c.region.pieces.items ≡ length a.locs
  pub switches : length c.guards.items ≡ length a.switches
  pub region : AllOf (λ ps. AllVars (length a.vars) ps.items) c.region.pieces.items
  pub guards : AllOf (λ ps. AllVars (length a.vars) ps.items) c.guards.items
  pub ctl : AreOfController a (plain_region c.guards.items)

-- each piece of the region, and of each guard, lies inside the invariant of its location
pub record IsInsideInvariants (a : PlainPlant) (c : PlainController) : Type 0 where
  pub region : (l : ℕ) → AllInside a l (get_or c.region l [])
  pub guards : (e : ℕ) → IfSome (slice_get a.switches e) (λ w. AllInside a w.from (get_or c.guards e []))

-- the region has a list of pieces per location, which lie inside its invariant, the guards one per switch, which lie inside the invariant
-- of the location that it leaves, and an uncontrollable switch has no guard
pub record IsInsideController (a : PlainPlant) (c : PlainController) : Type 0 where
  pub locs : length c.region ≡ length a.locs
  pub switches : length c.guards ≡ length a.switches
  pub region_polys : AllOf (AllPolys frac_arithmetic (length a.vars)) c.region
  pub guard_polys : (e : ℕ) → AllPolys frac_arithmetic (length a.vars) (get_or c.guards e [])
  pub inside : IsInsideInvariants a c
  pub ctl : AreOfController a c.guards
