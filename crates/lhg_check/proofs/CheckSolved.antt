-- What the iteration gives can be checked, and is checked to be valid.
use Rattle.std.proofs.Common.{◌≡◌, ℕ, zero, suc, cond, List, [], ◌∷◌, length, get_or, slice_get, Option, Some, None, refl, sym, ap, ◌∙◌, subst}
use Rattle.std.specs.Prelude.{IfSome}
use Rattle.lhg_math.specs.Tests.{by_bool}
use Rattle.lhg_num.specs.FracArithmetic.{frac_arithmetic, frac_is_lawful}
use Rattle.lhg_num.specs.Marked.{Marked, each}
use Rattle.lhg_row.specs.Piece.{PlainPiece}
use Rattle.lhg_row.specs.PieceFacts.{AllOver, AllPolys}
use Rattle.lhg_row.specs.CoveredLaws.{polys-over}
use Rattle.lhg_row.specs.Lists.{meet_lists}
use Rattle.lhg_row.specs.MeetListsLaws.{meet_lists-exact, meet_lists-polys}
use Rattle.lhg_plant.specs.declared.plants.Side.TheVariants.{Env}
use Rattle.lhg_plant.specs.Plant.{PlainSwitch, PlainPlant}
use Rattle.lhg_plant.specs.Proper.{IsProper}
use Rattle.lhg_plant.specs.Legal.{HasSide}
use Rattle.lhg_plant.specs.Region.{PlainRegion, PlainGuards, InRegion}
use Rattle.lhg_plant.specs.Invariants.{pieces_at, invariants}
use Rattle.lhg_plant.specs.OutCalculus.{out}
use Rattle.lhg_plant.specs.BackCalculus.{back_by, guard_by, guards}
use Rattle.lhg_plant.specs.Loss.{PlainLoss}
use Rattle.lhg_plant.specs.Inside.{AllInside, IsRegionOver, IsRegionInside}
use Rattle.lhg_plant.specs.SwitchFacts.{IsOutside, IsOutOf}
use Rattle.lhg_plant.proofs.Options.{some_there}
use Rattle.lhg_plant.proofs.InsideStates.{inside_from, some_inside}
use Rattle.lhg_plant.proofs.ListSteps.{intersection-in}
use Rattle.lhg_plant.proofs.OutStates.{out-states}
use Rattle.lhg_plant.proofs.BackStates.{by_switch-polys, by_switch-none}
use Rattle.lhg_loss.specs.RoundFacts.{IsRegion}
use Rattle.lhg_loss.specs.Iterate.{PlainStage, PlainSolution, solved, spent, staged, none_lost, solved_by, solution_within, stage, solution}
use Rattle.lhg_loss.specs.StageFacts.{IsSolvedWithin}
use Rattle.lhg_loss.proofs.Parts.{solved_law}
use Rattle.lhg_loss.proofs.Stages.{region_inside}
use Rattle.lhg_check.specs.CheckFacts.{IsCheckable}
use Rattle.lhg_check.specs.CheckLaws.{SolvedCheckLaws}
use Rattle.lhg_check.proofs.Checks.{checked_law}

-- ---- the guards of a region
-- the list of a member that is there
abbrev of_or : {A : Type 0} → (A → Marked (List PlainPiece)) → Option A → List PlainPiece
of_or f None = []
of_or f (Some x) = (f x).value

each_or : {A : Type 0} (f : A → Marked (List PlainPiece)) (xs : List A) (e : ℕ) → get_or (each f xs).value e [] ≡ of_or f (slice_get xs e)
each_or f [] e = refl
each_or f (x ∷ xs) zero = refl
each_or f (x ∷ xs) (suc e) = each_or f xs e

-- no piece meets a list
meet_none : (n : ℕ) (qs : List PlainPiece) → (meet_lists frac_arithmetic n [] qs).value ≡ []
unfolding meet_lists
meet_none n qs = refl

module _ (a : PlainPlant) (proper : IsProper a) (region : PlainRegion) (shape : IsRegion a region) where
  abbrev n : ℕ
  n = length a.vars

  abbrev outside : PlainRegion
  outside = (out a region).value.away

  region_in : IsRegionInside a region
  region_in = region_inside a region shape

  outs-are : IsOutOf a (InRegion a region) (out a region).value
  outs-are = out-states a proper region region_in.over

  outside_over : IsRegionOver a outside
  outside_over k = polys-over frac_arithmetic n (pieces_at outside k) (outs-are.away k).polys

  others : IsOutside a region outside
  others k = (outs-are.away k).exact

  abbrev guard_of : PlainSwitch → Marked (List PlainPiece)
  guard_of w = guard_by n (invariants a).value region outside w

  guards_at : (e : ℕ) → get_or (guards a region).value e [] ≡ of_or guard_of (slice_get a.switches e)
  unfolding guards out
  guards_at e = each_or guard_of a.switches e

  module _ (e : ℕ) (w : PlainSwitch) (is : slice_get a.switches e ≡ Some w) where
    abbrev ks : List PlainPiece
    ks = (back_by n (invariants a).value region outside w).value

    abbrev here : List PlainPiece
    here = pieces_at region w.from

    ks_over : AllOver n ks
    ks_over = polys-over frac_arithmetic n ks (by_switch-polys a proper region outside region_in outside_over others e w is)

    guard_polys : AllPolys frac_arithmetic n (guard_of w).value
    guard_polys = meet_lists-polys frac_arithmetic n ks here frac_is_lawful ks_over (region_in.over w.from)

    guard_inside : AllInside a w.from (guard_of w).value
    guard_inside =
        inside_from a w.from (guard_of w).value (λ p l h. some_inside a w.from here p l (shape.inside w.from)
        ((intersection-in n ks here (guard_of w).value p l (meet_lists-exact frac_arithmetic n ks here frac_is_lawful ks_over (region_in.over w.from))).0 h).1)

    guard_none : w.side ≡ Env → (guard_of w).value ≡ []
    guard_none side = ap (λ ps. (meet_lists frac_arithmetic n ps here).value) (by_switch-none a proper region outside region_in outside_over others e w is side) ∙ meet_none n here

  polys_of : (e : ℕ) (o : Option PlainSwitch) → slice_get a.switches e ≡ o → AllPolys frac_arithmetic n (of_or guard_of o)
  polys_of e None is = tt
  polys_of e (Some w) is = guard_polys e w is

  inside_of : (e : ℕ) (o : Option PlainSwitch) → slice_get a.switches e ≡ o → IfSome o (λ w. AllInside a w.from (of_or guard_of o))
  inside_of e None is = tt
  inside_of e (Some w) is = guard_inside e w is

  none_of : (e : ℕ) (o : Option PlainSwitch) → slice_get a.switches e ≡ o → HasSide a e Env → of_or guard_of o ≡ []
  none_of e None is h = refl
  none_of e (Some w) is h = guard_none e w is (some_there (slice_get a.switches e) w (λ v. v.side ≡ Env) is h)

  -- they can be checked
  pub guards_checkable : IsCheckable a (record { region = region; guards = (guards a region).value })
  guards_checkable = record {
    region_is = shape;
    guard_polys = λ e. subst (λ (ps : List PlainPiece). AllPolys frac_arithmetic n ps) (sym (guards_at e)) (polys_of e (slice_get a.switches e) refl);
    guards_inside = λ e. subst (λ (ps : List PlainPiece). IfSome (slice_get a.switches e) (λ w. AllInside a w.from ps)) (sym (guards_at e)) (inside_of e (slice_get a.switches e) refl);
    uncontrollable = λ e h. guards_at e ∙ none_of e (slice_get a.switches e) refl h;
  }

-- ---- the solution
-- its guards are those of its region
abbrev pub HasGuards : PlainPlant → PlainSolution → Type 0
HasGuards a (solved rounds region g losses) = g ≡ (guards a region).value
HasGuards a (spent s) = Unit {0}

guards_within : (left : ℕ) (a : PlainPlant) (i : ℕ) (s : PlainStage) → HasGuards a (solution_within left a i s)
guards_within zero a i s = tt
guards_within (suc left) a i s =
    let t = (staged a (suc i) s).value in
    by_bool (none_lost t.last)
    (λ e. subst (λ b. HasGuards a (cond b (solved_by a (suc i) t).value (solution_within left a (suc i) t))) (sym e) refl)
    (λ e. subst (λ b. HasGuards a (cond b (solved_by a (suc i) t).value (solution_within left a (suc i) t))) (sym e) (guards_within left a (suc i) t))

-- so it is of the solution of each budget
pub solution_guards : (a : PlainPlant) (budget : ℕ) → HasGuards a (solution a budget)
unfolding solution
solution_guards a budget = guards_within budget a 0 (stage a 0).value

-- what the iteration gives can be checked
solution_checkable : (a : PlainPlant) (budget rounds : ℕ) (region : PlainRegion) (g : PlainGuards) (losses : List PlainLoss) → IsProper a → IsRegion a region
    → solution a budget ≡ solved rounds region g losses → IsCheckable a (record { region = region; guards = g })
solution_checkable a budget rounds region g losses proper shape is =
    let same : g ≡ (guards a region).value = subst (λ (s : PlainSolution). HasGuards a s) is (solution_guards a budget) in
    subst (λ (w : PlainGuards). IsCheckable a (record { region = region; guards = w })) (sym same) (guards_checkable a proper region shape)

pub solved_check_laws : (a : PlainPlant) → SolvedCheckLaws a
solved_check_laws a = record {
  checkable = guards_checkable a;
  of_solution = solution_checkable a;
  passes = λ budget rounds region g losses some proper within is unmarked.
      let solved_is = subst (λ (s : PlainSolution). IsSolvedWithin a budget s) is (solved_law a budget some proper within) in
      (checked_law a (record { region = region; guards = g }) proper (solution_checkable a budget rounds region g losses proper solved_is.region_is is) unmarked).at_valid.1 solved_is.solution.valid;
}
