-- Steps of the loops that make a list of pieces of each location, or of each switch.
use Rattle.std.proofs.Common.{◌≡◌, ℕ, ◌+◌, ◌<◌, ◌≤◌, List, [], ◌∷◌, ◌++◌, length, map, drop, get_or, refl, sym, ap, ◌∙◌, subst}
use Rattle.std.specs.Global.{Vec}
use Rattle.std.proofs.lemmas.List.{drop_all}
use Rattle.lhg_math.specs.Tests.{AllOf}
use Rattle.lhg_num.specs.Marked.{Marked, each, IsRest}
use Rattle.lhg_num.specs.MarkedLaws.{IsPart, IsBuilt, rest_part, each-part, each-step, built-end}
use Rattle.lhg_row.specs.Piece.{PlainPiece}
use Rattle.lhg_row.specs.System.{PlainSystem}
use Rattle.lhg_row.specs.Members.{all-append}
use Rattle.lhg_math.specs.ListFacts.{drop_cons}
use Rattle.lhg_plant.specs.declared.plants.Location.{Location}
use Rattle.lhg_plant.specs.declared.plants.Plant.{Plant}
use Rattle.lhg_plant.specs.declared.plants.Switch.{Switch}
use Rattle.lhg_plant.specs.Plant.{PlainLocation, PlainSwitch, PlainPlant}
use Rattle.lhg_plant.specs.Proper.{IsLocation, IsSwitch}
use Rattle.lhg_plant.specs.Views.{plain_location, plain_switch, plain_plant}
use Rattle.lhg_plant.specs.Region.{PlainRegion}
use Rattle.lhg_plant.specs.Invariants.{invariant_list, invariants}
use Rattle.lhg_plant.specs.SafeRegion.{safe_list, safe_region}
use Rattle.lhg_union.specs.PolyLists.{lines_of, AllVars}
use Rattle.lhg_union.specs.Regions.{plain_region}
use Rattle.lhg_jump.specs.PlantLists.{AreOver}
use Rattle.lhg_jump.proofs.Answering.{location-proper, switch-proper}

-- ---- what the calls make of each location
pub invariants-each : (a : PlainPlant) → each (invariant_list (length a.vars)) a.locs ≡ invariants a
unfolding invariants
invariants-each a = refl

pub safe-each : (a : PlainPlant) → each (safe_list (length a.vars)) a.locs ≡ safe_region a
unfolding safe_region
safe-each a = refl

-- one list more
pub region-push : (out : List (Vec PlainSystem)) (ps : Vec PlainSystem) → plain_region (out ++ ps ∷ []) ≡ plain_region out ++ lines_of ps.items ∷ []
region-push [] ps = refl
region-push (q ∷ out) ps = ap (λ r. lines_of q.items ∷ r) (region-push out ps)

-- one list more over the plant's variables
pub over-push : (p : Plant) (out more : List (Vec PlainSystem)) (ps : Vec PlainSystem) → more ≡ out ++ ps ∷ [] → AreOver p out → AllVars (length p.vars.items) ps.items → AreOver p more
over-push p out more ps e h v =
    let wide : Vec PlainSystem → Type 0 = λ qs. AllVars (length p.vars.items) qs.items in
    subst (AllOf wide) (sym e) (all-append wide out (ps ∷ []) h (v, tt))

-- a member of a list is one of an equal list
moved-item : {A : Type 0} (xs ys : List A) (i : ℕ) (x : A) → xs ≡ ys → x ≡ get_or xs i x → i < length xs → (x ≡ get_or ys i x) × (i < length ys)
moved-item xs ys i x e is there = subst (λ zs. (x ≡ get_or zs i x) × (i < length zs)) e (is, there)

-- ---- loops that make a list of pieces of each member
-- the loop goes over ws, which is the list xs
module _ {S X : Type 0} (f : X → Marked (List PlainPiece)) (view : S → X) (ws xs : List S) (same : ws ≡ xs) (whole : Marked PlainRegion) (out : List (Vec PlainSystem)) (i : ℕ) (b : IsBuilt whole (plain_region out) (each f (map view (drop i xs)))) where
  -- at the end these are all
  pub listed-end : length ws ≤ i → plain_region out ≡ whole.value
  listed-end h =
      built-end whole (plain_region out) (subst (λ vs. IsBuilt whole (plain_region out) (each f (map view vs))) (drop_all i xs (subst (λ ys. length ys ≤ i) same h)) b)

  module _ (w : S) (is : w ≡ get_or ws i w) (there : i < length ws) where
    listed-here : IsBuilt whole (plain_region out) (each f (view w ∷ map view (drop (i + 1) xs)))
    listed-here =
        let both = moved-item ws xs i w same is there in
        subst (λ vs. IsBuilt whole (plain_region out) (each f (map view vs))) (drop_cons xs i w both.0 both.1) b

    -- the marks of the next list
    pub listed-part : IsPart whole (f (view w))
    listed-part = each-part f whole (plain_region out) (view w) (map view (drop (i + 1) xs)) listed-here

    -- the next list
    pub listed-step : (ps : Vec PlainSystem) (more : List (Vec PlainSystem)) → lines_of ps.items ≡ (f (view w)).value → more ≡ out ++ ps ∷ [] → IsBuilt whole (plain_region more) (each f (map view (drop (i + 1) xs)))
    listed-step ps more e k =
        subst (λ r. IsBuilt whole r (each f (map view (drop (i + 1) xs)))) (sym (ap plain_region k ∙ region-push out ps))
        (each-step f whole (plain_region out) (view w) (map view (drop (i + 1) xs)) (lines_of ps.items) listed-here e)

-- what a loop has made, of which the last list is new
pub record HasMore (p : Plant) (whole : Marked PlainRegion) (more : List (Vec PlainSystem)) (rest : Marked PlainRegion) : Type 0 where
  pub built : IsBuilt whole (plain_region more) rest
  pub vars : AreOver p more

-- ---- loops over the locations of a plant
-- the location that a loop comes to is proper
pub placed-proper : (p : Plant) (ls : List Location) → ls ≡ p.locs.items → (i k : ℕ) → k ≡ length p.vars.items → (l : Location) → l ≡ get_or ls i l → i < length ls → IsLocation k (plain_location l)
placed-proper p ls same i k many l is there =
    let both = moved-item ls p.locs.items i l same is there in
    subst (λ n. IsLocation n (plain_location l)) (sym many) (location-proper p i l both.1 both.0)

module _ (f : ℕ → PlainLocation → Marked (List PlainPiece)) (p : Plant) (ls : List Location) (same : ls ≡ p.locs.items) (whole : Marked PlainRegion) (whole_is : each (f (length p.vars.items)) (plain_plant p).locs ≡ whole) (out : List (Vec PlainSystem)) (i : ℕ) where
  abbrev made : Marked PlainRegion
  made = each (f (length p.vars.items)) (plain_plant p).locs

  -- those from a place on
  abbrev left_from : ℕ → Marked PlainRegion
  left_from k = each (f (length p.vars.items)) (map plain_location (drop k p.locs.items))

  module _ (b : IsBuilt made (plain_region out) (left_from i)) where
    -- at the end these are the lists of all locations
    pub placed-end : length ls ≤ i → plain_region out ≡ whole.value
    placed-end h = listed-end (f (length p.vars.items)) plain_location ls p.locs.items same made out i b h ∙ ap (λ m. m.value) whole_is

    module _ (k : ℕ) (many : k ≡ length p.vars.items) (l : Location) (is : l ≡ get_or ls i l) (there : i < length ls) where
      -- the marks of the next list
      pub placed-part : IsPart whole (f k (plain_location l))
      placed-part =
          subst (λ n. IsPart whole (f n (plain_location l))) (sym many)
          (subst (λ m. IsPart m (f (length p.vars.items) (plain_location l))) whole_is (listed-part (f (length p.vars.items)) plain_location ls p.locs.items same made out i b l is there))

      -- the next list
      pub placed-step : AreOver p out → (ps : Vec PlainSystem) (more : List (Vec PlainSystem)) → lines_of ps.items ≡ (f k (plain_location l)).value → AllVars k ps.items → more ≡ out ++ ps ∷ [] → HasMore p made more (left_from (i + 1))
      placed-step over ps more e vars pushed = record {
        built = listed-step (f (length p.vars.items)) plain_location ls p.locs.items same made out i b l is there ps more (e ∙ ap (λ n. (f n (plain_location l)).value) many) pushed;
        vars = over-push p out more ps pushed over (subst (λ n. AllVars n ps.items) many vars);
      }

-- ---- loops over the switches of a plant
-- the switch that a loop comes to is proper
pub switched-proper : (p : Plant) (ws : List Switch) → ws ≡ p.switches.items → (i : ℕ) (w : Switch) → w ≡ get_or ws i w → i < length ws → IsSwitch (length p.vars.items) (length p.locs.items) (plain_switch w)
switched-proper p ws same i w is there = let both = moved-item ws p.switches.items i w same is there in switch-proper p i w both.1 both.0

module _ (f : PlainRegion → PlainRegion → PlainRegion → PlainSwitch → Marked (List PlainPiece)) (p : Plant) (ws : List Switch) (same : ws ≡ p.switches.items) (invs region away : List (Vec PlainSystem)) (out : List (Vec PlainSystem)) (i : ℕ) where
  -- what is made of a switch
  abbrev of_switch : PlainSwitch → Marked (List PlainPiece)
  of_switch = f (plain_region invs) (plain_region region) (plain_region away)

  abbrev of_all : Marked PlainRegion
  of_all = each of_switch (plain_plant p).switches

  -- those from a place on
  abbrev of_rest : ℕ → Marked PlainRegion
  of_rest k = each of_switch (map plain_switch (drop k p.switches.items))

  module _ (b : IsBuilt of_all (plain_region out) (of_rest i)) where
    -- at the end these are the lists of all switches
    pub switched-end : (whole : Marked PlainRegion) → IsRest whole of_all → length ws ≤ i → plain_region out ≡ whole.value
    switched-end whole rest h = listed-end of_switch plain_switch ws p.switches.items same of_all out i b h ∙ rest.same

    module _ (w : Switch) (is : w ≡ get_or ws i w) (there : i < length ws) (held_invs held_region held_away : List (Vec PlainSystem)) (invs_are : held_invs ≡ invs) (region_is : held_region ≡ region) (away_is : held_away ≡ away) where
      -- it is made of equal lists
      abbrev of_equal : Marked (List PlainPiece)
      of_equal = f (plain_region held_invs) (plain_region held_region) (plain_region held_away) (plain_switch w)

      equal : of_equal ≡ of_switch (plain_switch w)
      equal =
          ap (λ is. f (plain_region is) (plain_region held_region) (plain_region held_away) (plain_switch w)) invs_are
          ∙ ap (λ rs. f (plain_region invs) (plain_region rs) (plain_region held_away) (plain_switch w)) region_is
          ∙ ap (λ os. f (plain_region invs) (plain_region region) (plain_region os) (plain_switch w)) away_is

      -- the marks of the next list
      pub switched-part : (whole : Marked PlainRegion) → IsRest whole of_all → IsPart whole of_equal
      switched-part whole rest =
          subst (IsPart whole) (sym equal) (rest_part whole of_all (of_switch (plain_switch w)) rest (listed-part of_switch plain_switch ws p.switches.items same of_all out i b w is there))

      -- the next list
      pub switched-step : AreOver p out → (ps : Vec PlainSystem) (more : List (Vec PlainSystem)) → lines_of ps.items ≡ of_equal.value → AllVars (length p.vars.items) ps.items → more ≡ out ++ ps ∷ [] → HasMore p of_all more (of_rest (i + 1))
      switched-step over ps more e vars pushed = record {
        built = listed-step of_switch plain_switch ws p.switches.items same of_all out i b w is there ps more (e ∙ ap (λ m. m.value) equal) pushed;
        vars = over-push p out more ps pushed over vars;
      }
