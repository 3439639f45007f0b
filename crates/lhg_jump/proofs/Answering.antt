-- What is known of an answer that may halt for numbers, rows and pieces, and of the members of a plant's lists.
use Rattle.std.proofs.Common.{◌≡◌, ◌<◌, ℕ, zero, suc, List, [], ◌∷◌, length, get_or, slice_get, Some, Result, Ok, Err, sym, ◌∙◌, subst, arith}
use Rattle.std.specs.Prelude.{IfOk}
use Rattle.std.proofs.lemmas.List.{length-map}
use Rattle.lhg_math.specs.Tests.{AllOf}
use Rattle.lhg_num.specs.FracArithmetic.{frac_arithmetic}
use Rattle.lhg_num.specs.Marked.{Marked, IsRest}
use Rattle.lhg_num.specs.Halting.{IsHaltedBy}
use Rattle.lhg_num.specs.declared.refusals.Halt.{Halt}
use Rattle.lhg_num.specs.declared.refusals.Halt.TheVariants.{Wide, Rows, Pieces, Memory}
use Rattle.lhg_row.specs.System.{PlainSystem}
use Rattle.lhg_row.specs.PieceFacts.{AllOver}
use Rattle.lhg_row.specs.CoveredLaws.{polys-over}
use Rattle.lhg_union.specs.PolyLists.{lines_of, AllVars, ArePolys}
use Rattle.std.specs.Global.{Vec}
use Rattle.lhg_union.specs.Regions.{plain_region}
use Rattle.lhg_plant.specs.Invariants.{pieces_at}
use Rattle.lhg_union.proofs.ListFacts.{polys_over}
use Rattle.lhg_plant.specs.declared.plants.Location.{Location}
use Rattle.lhg_plant.specs.declared.plants.Plant.{Plant}
use Rattle.lhg_plant.specs.declared.plants.Switch.{Switch}
use Rattle.lhg_plant.specs.Proper.{IsLocation, IsSwitch}
use Rattle.lhg_plant.specs.Views.{plain_location, plain_switch, plain_plant}
use Rattle.lhg_plant.proofs.LegalSteps.{image_at, all_at}

-- an answer of what is left is one of the whole
pub rest_halts : {T A : Type 0} (r : Result T Halt) (whole rest : Marked A) (f : T → A) → IsRest whole rest → IsHaltedBy r rest f → IsHaltedBy r whole f
rest_halts (Ok x) whole rest f i h = h ∙ i.same
rest_halts (Err Wide) whole rest f i h = i.wide h
rest_halts (Err Rows) whole rest f i h = i.rows h
rest_halts (Err Pieces) whole rest f i h = i.pieces h
rest_halts (Err Memory) whole rest f i h = h

-- what is exact of the value of the calculus is exact of an answer that is this value
pub all_exact : {T A : Type 0} (r : Result T Halt) (m : Marked A) (f : T → A) (P : A → Type 0) → IsHaltedBy r m f → P m.value → IfOk r (λ x. P (f x))
all_exact (Ok x) m f P h p = subst P (sym h) p
all_exact (Err e) m f P h p = tt

-- the pieces that the code holds are over their variables
pub over_vars : (n : ℕ) (ps : List PlainSystem) → AllVars n ps → ArePolys frac_arithmetic ps → AllOver n (lines_of ps)
over_vars n ps v h = polys-over frac_arithmetic n (lines_of ps) (polys_over frac_arithmetic n ps v h)

module _ (p : Plant) where
  -- a switch of the plant is proper
  pub switch-there : (e : ℕ) (w : Switch) → e < length p.switches.items → w ≡ get_or p.switches.items e w → slice_get (plain_plant p).switches e ≡ Some (plain_switch w)
  switch-there e w h is = image_at plain_switch p.switches.items e w h is

  pub switch-is : (e : ℕ) (w : Switch) → slice_get (plain_plant p).switches e ≡ Some (plain_switch w) → IsSwitch (length p.vars.items) (length (plain_plant p).locs) (plain_switch w)
  switch-is e w is = all_at (IsSwitch (length p.vars.items) (length (plain_plant p).locs)) (plain_plant p).switches e (plain_switch w) p.proper.switches is

  -- the places of a switch are those of locations
  pub place-below : (l : ℕ) → l < length (plain_plant p).locs → l < length p.locs.items
  place-below l h = omega (arith, h, length-map p.locs.items plain_location)

  -- a switch of the plant is proper
  pub switch-proper : (e : ℕ) (w : Switch) → e < length p.switches.items → w ≡ get_or p.switches.items e w → IsSwitch (length p.vars.items) (length p.locs.items) (plain_switch w)
  switch-proper e w h is = subst (λ m. IsSwitch (length p.vars.items) m (plain_switch w)) (length-map p.locs.items plain_location) (switch-is e w (switch-there e w h is))

  -- so is a location
  pub location-there : (k : ℕ) (l : Location) → k < length p.locs.items → l ≡ get_or p.locs.items k l → slice_get (plain_plant p).locs k ≡ Some (plain_location l)
  location-there k l h is = image_at plain_location p.locs.items k l h is

  pub location-is : (k : ℕ) (l : Location) → slice_get (plain_plant p).locs k ≡ Some (plain_location l) → IsLocation (length p.vars.items) (plain_location l)
  location-is k l is = all_at (IsLocation (length p.vars.items)) (plain_plant p).locs k (plain_location l) p.proper.locs is

-- the pieces of a region that the code holds are over the plant's variables
pub region_over : (n : ℕ) (xs : List (Vec PlainSystem)) → AllOf (λ ps. AllVars n ps.items) xs → AllOf (λ ps. ArePolys frac_arithmetic ps.items) xs → (l : ℕ) → AllOver n (pieces_at (plain_region xs) l)
region_over n [] v h l = tt
region_over n (ps ∷ xs) v h zero = over_vars n ps.items v.0 h.0
region_over n (ps ∷ xs) v h (suc l) = region_over n xs v.1 h.1 l

-- a location that a loop comes to is proper
pub location-proper : (p : Plant) (k : ℕ) (l : Location) → k < length p.locs.items → l ≡ get_or p.locs.items k l → IsLocation (length p.vars.items) (plain_location l)
location-proper p k l h is = location-is p k l (location-there p k l h is)
