-- Which lists that the code holds lie inside the invariants, and which controllers can be checked.
use Rattle.std.proofs.Common.{◌≡◌, ◌<◌, ℕ, suc, List, [], ◌∷◌, length, slice_get, IsSomeAnd, Some, refl, sym, ap, ◌∙◌, subst, arith}
use Rattle.std.specs.Global.{Vec}
use Rattle.std.proofs.lemmas.List.{length-map}
use Rattle.std.proofs.lemmas.Option.{slice_get_within}
use Rattle.lhg_math.specs.Tests.{AllOf}
use Rattle.lhg_num.specs.FracArithmetic.{frac_arithmetic}
use Rattle.lhg_row.specs.Piece.{PlainPiece, InSome}
use Rattle.lhg_row.specs.PieceFacts.{IsPoly, AllPolys}
use Rattle.lhg_row.specs.System.{PlainSystem}
use Rattle.lhg_union.specs.PolyLists.{AllVars, ArePolys}
use Rattle.lhg_union.specs.Regions.{plain_region}
use Rattle.lhg_union.proofs.ListFacts.{polys_over}
use Rattle.lhg_plant.specs.declared.plants.Location.{Location}
use Rattle.lhg_plant.specs.declared.plants.Plant.{Plant}
use Rattle.lhg_plant.specs.declared.plants.Switch.{Switch}
use Rattle.lhg_plant.specs.Region.{PlainRegion, InRegion}
use Rattle.lhg_plant.specs.Invariants.{pieces_at, invariants}
use Rattle.lhg_plant.specs.Inside.{AllInside}
use Rattle.lhg_plant.specs.SwitchFacts.{IsOutOf}
use Rattle.lhg_plant.specs.OutCalculus.{PlainOuts}
use Rattle.lhg_plant.specs.Views.{plain_location, plain_switch, plain_plant}
use Rattle.lhg_plant.proofs.InsideStates.{inside_from}
use Rattle.lhg_plant.proofs.ListSteps.{all_pieces}
use Rattle.lhg_plant.proofs.Options.{there_some}
use Rattle.lhg_plant.proofs.InvariantPoints.{invariants-at, invariant-points}
use Rattle.lhg_jump.specs.PlantLists.{AreListsOf, IsRegionOf}
use Rattle.lhg_ctl.specs.declared.controllers.Controller.{Controller}
use Rattle.lhg_ctl.specs.Conditions.{IsControllerOf, IsInsideInvariants}
use Rattle.lhg_ctl.specs.Views.{plain_controller}
use Rattle.lhg_check.specs.CheckFacts.{IsCheckable}
use Rattle.lhg_check.specs.Views.{IsChecked}

-- ---- the controller
-- the lists that the code holds are pieces over n variables
lists_polys : (n : ℕ) (xs : List (Vec PlainSystem)) → AllOf (λ ps. AllVars n ps.items) xs → AllOf (λ ps. ArePolys frac_arithmetic ps.items) xs → AllOf (AllPolys frac_arithmetic n) (plain_region xs)
lists_polys n [] v h = tt
lists_polys n (ps ∷ xs) v h = (polys_over frac_arithmetic n ps.items v.0 h.0, lists_polys n xs v.1 h.1)

lists_length : (xs : List (Vec PlainSystem)) → length (plain_region xs) ≡ length xs
lists_length [] = refl
lists_length (x ∷ xs) = ap suc (lists_length xs)

module _ (p : Plant) (c : Controller) (given : IsControllerOf (plain_plant p) c) (inside : IsInsideInvariants (plain_plant p) (plain_controller c)) where
  -- its lists are those of the plant
  pub is-checked : IsChecked p c
  is-checked = record {
    region = record { has_lists = record { many = given.locs ∙ length-map p.locs.items plain_location; vars = given.region }; inside = inside.region };
    guards = record { many = given.switches ∙ length-map p.switches.items plain_switch; vars = given.guards };
  }

  -- so it can be checked, where its pieces are told
  pub is-checkable : AllOf (λ ps. ArePolys frac_arithmetic ps.items) c.region.pieces.items → AllOf (λ ps. ArePolys frac_arithmetic ps.items) c.guards.items → IsCheckable (plain_plant p) (plain_controller c)
  is-checkable region guards =
      let n = length p.vars.items in
      record {
        region_is = record {
          listed = lists_length c.region.pieces.items ∙ given.locs;
          polys = lists_polys n c.region.pieces.items given.region region;
          inside = inside.region;
        };
        guard_polys = λ e. all_pieces (IsPoly frac_arithmetic n) (plain_region c.guards.items) e (lists_polys n c.guards.items given.guards guards);
        guards_inside = inside.guards;
        uncontrollable = given.ctl;
      }

-- ---- lists inside the invariants
module _ (p : Plant) (xs : List (Vec PlainSystem)) (lists : AreListsOf p xs) where
  -- the invariants
  pub invariants-inside : plain_region xs ≡ (invariants (plain_plant p)).value → IsRegionOf p xs
  invariants-inside e = record {
    has_lists = lists;
    inside = λ l. inside_from (plain_plant p) l (pieces_at (plain_region xs) l)
        (λ x f h. (invariant-points (plain_plant p) p.proper l x f).0 (subst (λ (ps : List PlainPiece). InSome ps x) (ap (λ (r : PlainRegion). pieces_at r l) e ∙ invariants-at (plain_plant p) l) h));
  }

  -- the states outside a region
  pub away-inside : (region : PlainRegion) (outs : PlainOuts) → IsOutOf (plain_plant p) (InRegion (plain_plant p) region) outs → plain_region xs ≡ outs.away → IsRegionOf p xs
  away-inside region outs h e = record {
    has_lists = lists;
    inside = λ l. inside_from (plain_plant p) l (pieces_at (plain_region xs) l)
        (λ x f k. (((h.away l).exact x f).0 (subst (λ (r : PlainRegion). InSome (pieces_at r l) x) e k)).0);
  }

-- ---- a switch
module _ (p : Plant) (e : ℕ) (w : Switch) (is : slice_get (plain_plant p).switches e ≡ Some (plain_switch w)) where
  -- its place is one of the plant's switches
  pub switch-below : e < length p.switches.items
  switch-below = let h = slice_get_within (plain_plant p).switches e (plain_switch w) is in omega (arith, length-map p.switches.items plain_switch)

  -- the lists of the location that it enters lie inside its invariant
  pub target-inside : (xs : List (Vec PlainSystem)) (ps : List PlainPiece) → IsRegionOf p xs → ps ≡ pieces_at (plain_region xs) w.to → IsSomeAnd (slice_get (plain_plant p).switches e) (λ v. AllInside (plain_plant p) v.to ps)
  target-inside xs ps h same =
      there_some (slice_get (plain_plant p).switches e) (plain_switch w) (λ v. AllInside (plain_plant p) v.to ps) is (subst (λ (qs : List PlainPiece). AllInside (plain_plant p) w.to qs) (sym same) (h.inside w.to))

-- the place of a location is one of the plant's locations
pub location-below : (p : Plant) (l : ℕ) (k : Location) → slice_get (plain_plant p).locs l ≡ Some (plain_location k) → l < length p.locs.items
location-below p l k is = let h = slice_get_within (plain_plant p).locs l (plain_location k) is in omega (arith, length-map p.locs.items plain_location)
