-- What the steps of the iteration answer where they stop, and what is known of the region that it begins with.
use Rattle.std.proofs.Common.{◌≡◌, ◌<◌, ℕ, zero, suc, Bool, true, false, not, Option, Some, None, List, [], ◌∷◌, length, get_or, Result, Ok, Err, refl, sym, ap, ◌∙◌, subst}
use Rattle.std.specs.Prelude.{IfErr, is_some}
use Rattle.std.specs.Result.{IsErrAnd}
use Rattle.std.specs.Global.{Vec}
use Rattle.std.proofs.lemmas.List.{length-map}
use Rattle.lhg_math.specs.Tests.{AllOf, false_true}
use Rattle.lhg_num.specs.FracArithmetic.{frac_arithmetic}
use Rattle.lhg_num.specs.Marked.{Marked}
use Rattle.lhg_num.specs.Halting.{IsHaltedByMemory}
use Rattle.lhg_num.specs.declared.refusals.Halt.{Halt}
use Rattle.lhg_num.specs.declared.refusals.Halt.TheVariants as halt
use Rattle.lhg_row.specs.System.{PlainSystem}
use Rattle.lhg_row.specs.PieceFacts.{AllPolys}
use Rattle.lhg_plant.specs.declared.plants.Plant.{Plant}
use Rattle.lhg_plant.specs.Plant.{PlainPlant}
use Rattle.lhg_plant.specs.Region.{PlainRegion}
use Rattle.lhg_plant.specs.Invariants.{pieces_at}
use Rattle.lhg_plant.specs.Views.{plain_location, plain_plant}
use Rattle.lhg_union.specs.PolyLists.{lines_of, AllVars, ArePolys}
use Rattle.lhg_union.specs.Regions.{plain_region}
use Rattle.lhg_union.proofs.ListFacts.{polys_over}
use Rattle.lhg_jump.specs.PlantLists.{IsRegionOf}
use Rattle.lhg_jump.proofs.AwayCode.{region-length}
use Rattle.lhg_forward.specs.declared.stops.ForwardStop.{ForwardStop}
use Rattle.lhg_forward.specs.Growth.{none_new}
use Rattle.lhg_forward.specs.GrowthFacts.{IsRegion}
use Rattle.lhg_forward.specs.Outcomes.{IsForwardStop, stop_of}

-- an answer that a step refuses
pub refused : {T : Type 0} (a : PlainPlant) (init : PlainRegion) (budget : ℕ) (r : Result T ForwardStop) (e : ForwardStop) → IsErrAnd r (λ d. d ≡ e) → IsForwardStop a init budget e → IfErr r (IsForwardStop a init budget)
refused a init budget (Ok x) e t h = tt
refused a init budget (Err d) e t h = subst (IsForwardStop a init budget) (sym t) h

-- want of memory alone
pub memory_stop : {T A : Type 0} (a : PlainPlant) (init : PlainRegion) (budget i : ℕ) (d : Halt) (m : Marked A) (f : T → A) → IsHaltedByMemory {T = T} (Err d) m f → IsForwardStop a init budget (stop_of d i)
memory_stop a init budget i halt.Wide m f h = absurd h
memory_stop a init budget i halt.Rows m f h = absurd h
memory_stop a init budget i halt.Pieces m f h = absurd h
memory_stop a init budget i halt.Memory m f h = tt

polys_at_all : (n : ℕ) (xs : List (Vec PlainSystem)) → AllOf (λ ps. AllVars n ps.items) xs → AllOf (λ ps. ArePolys frac_arithmetic ps.items) xs → (l : ℕ) → AllPolys frac_arithmetic n (pieces_at (plain_region xs) l)
polys_at_all n [] v h l = tt
polys_at_all n (ps ∷ xs) v h zero = polys_over frac_arithmetic n ps.items v.0 h.0
polys_at_all n (ps ∷ xs) v h (suc l) = polys_at_all n xs v.1 h.1 l

-- a region that the code holds
pub region_is : (p : Plant) (xs : List (Vec PlainSystem)) → IsRegionOf p xs → AllOf (λ ps. ArePolys frac_arithmetic ps.items) xs → IsRegion (plain_plant p) (plain_region xs)
region_is p xs h polys = record {
  listed = region-length xs ∙ h.has_lists.many ∙ sym (length-map p.locs.items plain_location);
  polys = polys_at_all (length p.vars.items) xs h.has_lists.vars polys;
  inside = h.inside;
}

-- whether a level had a new piece
pub none_is : (o : Option ℕ) (b : Bool) → is_some o ≡ not b → b ≡ true → none_new o ≡ true
none_is None b e t = refl
none_is (Some k) true e t = false_true (sym e)
none_is (Some k) false e t = false_true t

pub some_is : (o : Option ℕ) (b : Bool) → is_some o ≡ not b → b ≡ false → none_new o ≡ false
some_is (Some k) b e t = refl
some_is None true e t = false_true (sym t)
some_is None false e t = false_true e
