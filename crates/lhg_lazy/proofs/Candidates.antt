-- What is known of the copy of a region, and of guards that are cut.
use Rattle.std.proofs.Common.{◌≡◌, ℕ, ◌+◌, ◌<◌, ◌≤◌, List, [], ◌∷◌, ◌++◌, length, map, take, get_or, slice_get, Option, Some, None, refl, sym, ap, ◌∙◌, subst, arith}
use Rattle.std.specs.Prelude.{IfSome, IsSomeAnd}
use Rattle.std.specs.Global.{Vec}
use Rattle.std.proofs.lemmas.List.{length-map}
use Rattle.std.proofs.lemmas.Option.{slice_get_within}
use Rattle.lhg_math.specs.Tests.{AllOf}
use Rattle.lhg_num.specs.FracArithmetic.{frac_arithmetic}
use Rattle.lhg_row.specs.Lists.{meet_lists}
use Rattle.lhg_row.specs.Piece.{PlainPiece, InSome}
use Rattle.lhg_row.specs.System.{PlainSystem}
use Rattle.lhg_plant.specs.declared.plants.Side.TheVariants.{Env}
use Rattle.lhg_plant.specs.Plant.{PlainPlant, PlainSwitch}
use Rattle.lhg_plant.specs.Region.{PlainRegion, PlainGuards}
use Rattle.lhg_plant.specs.Inside.{AllInside, IsRegionOver}
use Rattle.lhg_plant.specs.Invariants.{pieces_at}
use Rattle.lhg_plant.proofs.InsideStates.{inside_from, some_inside}
use Rattle.lhg_plant.proofs.ListSteps.{range-at}
use Rattle.lhg_union.specs.PolyLists.{lines_of, AllVars}
use Rattle.lhg_union.specs.Regions.{polys_of, plain_region}
use Rattle.lhg_ctl.specs.Making.{source_at}
use Rattle.lhg_ctl.specs.Written.{AreOfController}
use Rattle.lhg_lazy.specs.RimCalculus.{cut_at, cut_guards}
use Rattle.lhg_lazy.specs.RimFacts.{AreGuardsOver, AreGuardsInside}
use Rattle.lhg_lazy.proofs.CutStates.{cut-points}

-- ---- a copy
-- what holds of all images, and back
to_image : {A B : Type 0} (P : B → Type 0) (f : A → B) (xs : List A) → AllOf (λ x. P (f x)) xs → AllOf P (map f xs)
to_image P f [] h = tt
to_image P f (x ∷ xs) h = (h.0, to_image P f xs h.1)

of_image : {A B : Type 0} (P : B → Type 0) (f : A → B) (xs : List A) → AllOf P (map f xs) → AllOf (λ x. P (f x)) xs
of_image P f [] h = tt
of_image P f (x ∷ xs) h = (h.0, of_image P f xs h.1)

module _ (region kept : List (Vec PlainSystem)) (same : polys_of kept ≡ polys_of region) where
  -- it has the same rows
  pub kept-plain : plain_region kept ≡ plain_region region
  kept-plain = ap (λ (ls : List (List PlainSystem)). map lines_of ls) same

  -- as many lists
  pub kept-many : length kept ≡ length region
  kept-many = sym (length-map kept (λ (v : Vec PlainSystem). v.items)) ∙ ap (λ (ls : List (List PlainSystem)). length ls) same ∙ length-map region (λ (v : Vec PlainSystem). v.items)

  -- over the same variables
  pub kept-over : (n : ℕ) → AllOf (λ ps. AllVars n ps.items) region → AllOf (λ ps. AllVars n ps.items) kept
  kept-over n h =
      let items : Vec PlainSystem → List PlainSystem = λ v. v.items in
      of_image (AllVars n) items kept (subst (λ (ls : List (List PlainSystem)). AllOf (AllVars n) ls) (sym same) (to_image (AllVars n) items region h))

-- ---- cut guards
-- no piece meets a list
meet_none : (n : ℕ) (qs : List PlainPiece) → (meet_lists frac_arithmetic n [] qs).value ≡ []
unfolding meet_lists
meet_none n qs = refl

module _ (a : PlainPlant) (guards : PlainGuards) (rim : PlainRegion) where
  abbrev cut : PlainGuards
  cut = (cut_guards a guards rim).value

  -- the list of a switch that is there
  pub cut-list : (e : ℕ) (w : PlainSwitch) → slice_get a.switches e ≡ Some w → get_or cut e [] ≡ (cut_at a guards rim e).value
  unfolding cut_guards
  cut-list e w is =
      let there : e < length a.switches = slice_get_within a.switches e w is in
      let zero_first : 0 + e ≡ e = omega arith in
      range-at (cut_at a guards rim) 0 (length a.switches) e there ∙ ap (λ i. (cut_at a guards rim i).value) zero_first

  none_at : (e : ℕ) (o : Option PlainSwitch) → slice_get a.switches e ≡ o → IsSomeAnd o (λ w. w.side ≡ Env) → get_or guards e [] ≡ [] → get_or cut e [] ≡ []
  none_at e None is side none = absurd side
  none_at e (Some w) is side none = cut-list e w is ∙ ap (λ ps. (meet_lists frac_arithmetic (length a.vars) ps (pieces_at rim (source_at a e))).value) none ∙ meet_none (length a.vars) (pieces_at rim (source_at a e))

  -- an uncontrollable switch has no guard where it had none
  pub cut-uncontrollable : AreOfController a guards → AreOfController a cut
  cut-uncontrollable h e side = none_at e (slice_get a.switches e) refl side (h e side)

  module _ (over : AreGuardsOver a guards) (rim_over : IsRegionOver a rim) (inside : AreGuardsInside a guards) where
    inside_at : (e : ℕ) (o : Option PlainSwitch) → slice_get a.switches e ≡ o → IfSome o (λ w. AllInside a w.from (get_or guards e [])) → IfSome o (λ w. AllInside a w.from (get_or cut e []))
    inside_at e None is h = tt
    inside_at e (Some w) is h =
        inside_from a w.from (get_or cut e [])
        (λ x fits k. some_inside a w.from (get_or guards e []) x fits h ((cut-points a guards rim over rim_over e w is x fits).0 (subst (λ (ps : List PlainPiece). InSome ps x) (cut-list e w is) k)).0)

    -- cut guards lie where the guards do
    pub cut-inside : AreGuardsInside a cut
    cut-inside e = inside_at e (slice_get a.switches e) refl (inside e)
