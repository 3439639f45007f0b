-- A budget is spent: what the code holds of the first newest piece, and what its sample says.
use Rattle.std.proofs.Common.{◌≡◌, ◌+◌, ◌-◌, ◌<◌, ◌≤◌, ℕ, zero, suc, Bool, true, false, List, [], ◌∷◌, take, drop, length, get_or, Option, Some, None, Result, Ok, Err, refl, sym, ap, ◌∙◌, subst, inl, inr, arith}
use Rattle.std.specs.Option.{unwrap_or}
use Rattle.std.proofs.lemmas.List.{length-map}
use Rattle.lhg_math.specs.Tests.{AllOf, false_true}
use Rattle.lhg_num.specs.FracArithmetic.{frac_arithmetic, frac_is_lawful}
use Rattle.lhg_num.specs.Marked.{Marked, and_then, valued, IsRest}
use Rattle.lhg_num.specs.MarkedLaws.{IsPart, and_then-part, and_then-rest, rest_part}
use Rattle.lhg_num.specs.Halting.{IsHaltedBy}
use Rattle.lhg_num.specs.declared.refusals.Halt.{Halt}
use Rattle.lhg_num.specs.declared.refusals.Halt.TheVariants as halt
use Rattle.lhg_row.specs.Row.{PlainPoint}
use Rattle.lhg_row.specs.Piece.{PlainPiece, InSome}
use Rattle.lhg_row.specs.PieceLemmas.{in_some_is}
use Rattle.lhg_row.specs.PieceFacts.{IsDifference, HasUncovered, AllPolys}
use Rattle.lhg_row.specs.Lists.{minus}
use Rattle.lhg_row.specs.Sample.{sample}
use Rattle.lhg_row.specs.System.{PlainSystem}
use Rattle.lhg_plant.specs.declared.plants.Plant.{Plant}
use Rattle.lhg_plant.specs.Plant.{PlainLocation, PlainPlant}
use Rattle.lhg_plant.specs.Region.{PlainRegion}
use Rattle.lhg_plant.specs.State.{PlainState}
use Rattle.lhg_plant.specs.declared.states.State.{State}
use Rattle.lhg_plant.specs.Views.{plain_location, plain_plant, plain_state}
use Rattle.lhg_plant.proofs.ListSteps.{difference-in}
use Rattle.lhg_union.specs.PolyLists.{lines_of}
use Rattle.lhg_forward.specs.declared.stages.Stage.{Stage}
use Rattle.lhg_forward.specs.declared.stops.ForwardStop.TheVariants.{Spent}
use Rattle.lhg_forward.specs.Level.{IsAddedIn}
use Rattle.lhg_forward.specs.Growth.{PlainStage, spent, stage, oldest_at, newest_at, first_sample, new_state, spent_at, spent_state, forward_sets, work}
use Rattle.lhg_forward.specs.GrowthFacts.{IsNewestOf, HasNewestAt}
use Rattle.lhg_forward.specs.StageFacts.{IsSpent}
use Rattle.lhg_forward.specs.WorkLaws.{IsStopIn}
use Rattle.lhg_forward.specs.Views.{plain_stage, IsStageOf}
use Rattle.lhg_forward.specs.Outcomes.{IsForwardStop, stop_of, IsAfter}
use Rattle.lhg_forward.proofs.Iteration.{work_laws}
use Rattle.lhg_row.specs.Piece.{in_some}

-- ---- the first newest piece
module _ (n : ℕ) (earlier newest : List PlainPiece) (h : IsNewestOf n earlier newest) where
  -- something is left of it
  some_left : (piece : PlainPiece) (others left : List PlainPiece) → newest ≡ piece ∷ others → HasUncovered n (piece ∷ []) earlier → IsDifference n (piece ∷ []) earlier left → 0 < length left
  some_left piece others [] is u d =
      let none : InSome [] u.point =
      (difference-in n (piece ∷ []) earlier [] u.point u.wide d).1
      ((in_some_is (piece ∷ []) u.point).1 u.inside, λ k. false_true (sym u.outside ∙ (in_some_is earlier u.point).0 k)) in
      absurd none
  some_left piece others (p ∷ left) is u d = omega arith

  -- there is such a piece
  pub some_newest : 0 < length newest
  some_newest = let e = ap length h.is in omega arith

  first_same : (x : PlainPiece) (xs : List PlainPiece) → newest ≡ x ∷ xs → h.piece ≡ x
  first_same x xs e = let both : h.piece ∷ h.others ≡ x ∷ xs = sym h.is ∙ e in cc

  -- what is left of the first one
  pub left_some : (x : PlainPiece) (xs left : List PlainPiece) → newest ≡ x ∷ xs → IsDifference n (x ∷ []) earlier left → 0 < length left
  left_some x xs left e d =
      some_left h.piece h.others left h.is h.uncovered (subst (λ (q : PlainPiece). IsDifference n (q ∷ []) earlier left) (sym (first_same x xs e)) d)

-- ---- its sample
module _ (n l : ℕ) (earlier : List PlainPiece) (x : PlainPiece) (xs : List PlainPiece) where
  abbrev whole : Marked PlainState
  whole = new_state n l earlier (x ∷ xs)

  pub left-part : IsPart whole (minus frac_arithmetic n (x ∷ []) earlier)
  left-part = and_then-part (minus frac_arithmetic n (x ∷ []) earlier) (first_sample n l)

  module _ (p : PlainPiece) (ps : List PlainPiece) (e : p ∷ ps ≡ (minus frac_arithmetic n (x ∷ []) earlier).value) where
    sample-rest : IsRest whole (first_sample n l (p ∷ ps))
    sample-rest = subst (λ qs. IsRest whole (first_sample n l qs)) (sym e) (and_then-rest (minus frac_arithmetic n (x ∷ []) earlier) (first_sample n l))

    pub sample-part : IsPart whole (sample n p)
    sample-part = let r = sample-rest in record { wide = r.wide; rows = r.rows; pieces = r.pieces }

    pub sample-value : (at : PlainPoint) → at ≡ (sample n p).value → record { loc = l; at = at } ≡ whole.value
    sample-value at f = ap (λ (y : PlainPoint). record { loc = l; at = y }) f ∙ sample-rest.same

-- ---- the stage
module _ (p : Plant) (init : PlainRegion) (budget : ℕ) (s : Stage) (h : IsAfter p init budget budget s) (some : 0 < budget) (loc : ℕ) (loc_is : loc ≡ unwrap_or s.first 0) where
  abbrev a : PlainPlant
  a = plain_plant p

  abbrev old : PlainStage
  old = plain_stage s

  named : (o : Option ℕ) (l : ℕ) → HasNewestAt a old o → l ≡ unwrap_or o 0 → o ≡ Some l
  named None l k e = absurd k
  named (Some i) l k e = ap (λ (x : ℕ). Some x) (sym e)

  first_is : s.first ≡ Some loc
  first_is = named s.first loc (h.newest some) loc_is

  here : HasNewestAt a old (Some loc)
  here = subst (HasNewestAt a old) first_is (h.newest some)

  -- the location is there
  pub loc_there : loc < length p.locs.items
  loc_there = let l = here.0 in omega (arith, l, length-map p.locs.items plain_location)

  -- the first of its newest pieces has a point that is in no older one
  pub newest_there : IsNewestOf (length p.vars.items) (oldest_at old loc) (newest_at old loc)
  newest_there = here.1

  state_is : spent_state a old ≡ new_state (length p.vars.items) loc (oldest_at old loc) (newest_at old loc)
  state_is = ap (spent_at (length p.vars.items) old) first_is

  -- the state of the spent budget
  pub spent_with : (z : State) (earlier newest : List PlainPiece) → earlier ≡ oldest_at old loc → newest ≡ newest_at old loc → plain_state z ≡ (new_state (length p.vars.items) loc earlier newest).value
      → IsForwardStop a init budget (Spent z)
  spent_with z earlier newest e f g =
      let same : plain_state z ≡ (spent_state a old).value =
      g ∙ ap (λ ps. (new_state (length p.vars.items) loc ps newest).value) e ∙ ap (λ ps. (new_state (length p.vars.items) loc (oldest_at old loc) ps).value) f ∙ ap (λ m. m.value) (sym state_is) in (
        h.rest 0 (omega arith) ∙ ap (λ (x : PlainState). spent x) (sym same),
        subst (IsSpent a init budget) (sym same) (record { added = h.stage_is.sampled some; adds = h.stage_is.adds }),
      )

  -- a limit that is met on the way
  last_part : IsPart (work a init budget budget) (spent_state a old)
  last_part =
      let last : suc (budget - 1) ≡ budget = omega arith in
      subst (λ (k : PlainStage). IsPart (work a init budget budget) (spent_state a k)) (sym h.same)
      (subst (λ (i : ℕ). IsPart (work a init budget i) (spent_state a (stage a init i).value)) last ((work_laws a init budget (budget - 1)).last last))

  stopped_in : (mark : Marked (Unit {0}) → Bool) → mark (work a init budget budget) ≡ true → IsStopIn a init budget budget mark
  stopped_in mark m = record { counted = some; within = omega arith; adds = λ j l k. h.stage_is.adds j l (omega arith); marked = m }

  part_of : (earlier newest : List PlainPiece) → earlier ≡ oldest_at old loc → newest ≡ newest_at old loc → IsPart (work a init budget budget) (new_state (length p.vars.items) loc earlier newest)
  part_of earlier newest e f =
      subst (λ ps. IsPart (work a init budget budget) (new_state (length p.vars.items) loc ps newest)) (sym e)
      (subst (λ ps. IsPart (work a init budget budget) (new_state (length p.vars.items) loc (oldest_at old loc) ps)) (sym f) (subst (IsPart (work a init budget budget)) state_is last_part))

  pub spent_stop : (d : Halt) (earlier newest : List PlainPiece) → earlier ≡ oldest_at old loc → newest ≡ newest_at old loc
      → IsHaltedBy {T = State} (Err d) (new_state (length p.vars.items) loc earlier newest) plain_state → IsForwardStop a init budget (stop_of d budget)
  spent_stop halt.Wide earlier newest e f k = stopped_in (λ m. m.wide) ((part_of earlier newest e f).wide k)
  spent_stop halt.Rows earlier newest e f k = stopped_in (λ m. m.rows) ((part_of earlier newest e f).rows k)
  spent_stop halt.Pieces earlier newest e f k = stopped_in (λ m. m.pieces) ((part_of earlier newest e f).pieces k)
  spent_stop halt.Memory earlier newest e f k = tt
