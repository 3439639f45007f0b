-- From one stage of the iteration to the next.
use Rattle.std.proofs.Common.{◌≡◌, ◌+◌, ◌-◌, ◌<◌, ◌≤◌, ℕ, zero, suc, false, List, [], ◌∷◌, ◌++◌, length, drop, Option, Some, None, refl, sym, ap, ◌∙◌, subst, arith, length-append}
use Rattle.std.specs.Option.{SomeIff}
use Rattle.std.proofs.lemmas.Bool.{lt-ltb}
use Rattle.std.proofs.lemmas.List.{length-map, map-append}
use Rattle.lhg_num.specs.MarkedLaws.{IsPart}
use Rattle.lhg_row.specs.Members.{all-append}
use Rattle.lhg_plant.specs.declared.plants.Plant.{Plant}
use Rattle.lhg_plant.specs.Loss.{PlainLoss}
use Rattle.lhg_plant.specs.Plant.{PlainPlant}
use Rattle.lhg_plant.specs.Region.{PlainRegion}
use Rattle.lhg_plant.specs.Round.{IsRemovedIn}
use Rattle.lhg_plant.specs.SafeRegion.{safe_region}
use Rattle.lhg_plant.specs.Views.{plain_plant}
use Rattle.lhg_union.specs.Regions.{plain_region}
use Rattle.lhg_loss.specs.declared.losses.Loss.{Loss}
use Rattle.lhg_loss.specs.Records.{record_row_limit, loss_rows, one_round}
use Rattle.lhg_loss.specs.Iterate.{PlainStage, first_stage, stage, next_round, after_round, none_lost, spent_state, solution_within, counted_stage}
use Rattle.lhg_loss.specs.RoundFacts.{IsExactRound}
use Rattle.lhg_loss.specs.SolveLaws.{StageLaws}
use Rattle.lhg_loss.specs.StageFacts.{IsStage}
use Rattle.lhg_loss.specs.Views.{plain_loss, plain_losses, LossVars, AllHaveVars}
use Rattle.lhg_loss.specs.WorkLaws.{StepLaws}
use Rattle.lhg_quiet.specs.Quiet.{AreQuiet}
use Rattle.lhg_iterate.specs.Carrying.{IsCarriedTo}
use Rattle.lhg_iterate.specs.declared.carried.Carried.{Carried}
use Rattle.lhg_iterate.specs.declared.rounds.Round.{Round}
use Rattle.lhg_iterate.specs.declared.stages.Stage.{Stage}
use Rattle.lhg_iterate.specs.RoundViews.{plain_round, IsOverPlant}
use Rattle.lhg_iterate.specs.Stages.{plain_stage, IsAfter, IsRoundAfter}
use Rattle.lhg_iterate.specs.Stops.{IsStageStopIn}
use Rattle.lhg_iterate.proofs.StopSteps.{stage-round, stage-totals}

-- ---- lists of records
-- the rows of two lists
pub rows-append : (xs ys : List PlainLoss) → loss_rows (xs ++ ys) ≡ loss_rows xs + loss_rows ys
rows-append [] ys = let e : loss_rows ys ≡ 0 + loss_rows ys = omega arith in e
rows-append (x ∷ xs) ys = let rest = rows-append xs ys in omega arith

-- some record
pub some-lost : (losses : List Loss) → 0 < length losses → none_lost (plain_losses losses) ≡ false
some-lost [] h = absurd (omega arith)
some-lost (r ∷ rs) h = refl

-- the rows that are left after those of records
pub left-rows : (o : Option ℕ) (left most : ℕ) (held losses : List Loss) → held ≡ losses → o ≡ Some left → SomeIff o (loss_rows (plain_losses held) ≤ most) (most - loss_rows (plain_losses held)) → left + loss_rows (plain_losses losses) ≡ most
left-rows o left most held losses e is h =
    let same = ap (λ ls. loss_rows (plain_losses ls)) e in
    let both = subst (λ x. SomeIff x (loss_rows (plain_losses held) ≤ most) (most - loss_rows (plain_losses held))) is h in
    let few = both.0 in
    let rest = both.1 in
    omega arith

-- there are too few
pub past-rows : (o : Option ℕ) (most : ℕ) (held losses : List Loss) → held ≡ losses → o ≡ None → SomeIff o (loss_rows (plain_losses held) ≤ most) (most - loss_rows (plain_losses held)) → most < loss_rows (plain_losses losses)
past-rows o most held losses e is h =
    let same = ap (λ ls. loss_rows (plain_losses ls)) e in
    let more = subst (λ x. SomeIff x (loss_rows (plain_losses held) ≤ most) (most - loss_rows (plain_losses held))) is h in
    omega arith

-- no record
pub none-lost : (losses : List Loss) → length losses ≡ 0 → plain_losses losses ≡ []
none-lost [] h = refl
none-lost (r ∷ rs) h = absurd (omega arith)

-- the second of two lists
drop-first : {A : Type 0} (xs ys : List A) → drop (length xs) (xs ++ ys) ≡ ys
drop-first [] ys = refl
drop-first (x ∷ xs) ys = drop-first xs ys

-- ---- the first stage
safe_stage : (a : PlainPlant) → (stage a 0).value ≡ first_stage (safe_region a).value
unfolding stage
safe_stage a = refl

-- nothing is left of an empty list
drop-none : {A : Type 0} (b : ℕ) (xs : List A) → xs ≡ [] → drop b xs ≡ []
drop-none zero xs h = h
drop-none (suc b) [] h = refl
drop-none (suc b) (x ∷ xs) h = cc

-- a stage without a record
first-form : (s : Stage) → s.losses.items ≡ [] → plain_stage s ≡ first_stage (plain_region s.region.pieces.items)
first-form s none =
    let form : List Loss → List Loss → PlainStage = λ x y. record { region = plain_region s.region.pieces.items; losses = plain_losses x; last = plain_losses y } in
    ap (λ x. form x (drop s.before s.losses.items)) none ∙ ap (form []) (drop-none s.before s.losses.items none)

pub begins : (p : Plant) (budget : ℕ) (s : Stage) → StageLaws (plain_plant p) → StepLaws (plain_plant p) → s.losses.items ≡ []
    → plain_region s.region.pieces.items ≡ (safe_region (plain_plant p)).value → length s.region.pieces.items ≡ length p.locs.items → IsOverPlant p s.region.pieces.items
    → s.rows_left ≡ record_row_limit → AreQuiet (plain_plant p) (plain_region s.region.pieces.items) s.quiet.items → IsCarriedTo p s.region.pieces.items s.carried → IsAfter p budget 0 s
begins p budget s laws steps none safe many vars rows quiet carried =
    let a = plain_plant p in
    let same : plain_stage s ≡ (stage a 0).value = first-form s none ∙ ap first_stage safe ∙ sym (safe_stage a) in
    record {
      same = same;
      stage_is = subst (IsStage a 0) (sym same) (laws.start p.proper);
      computed = steps.computed_first.1;
      rest = λ left e. (let whole : budget ≡ left = omega arith in steps.first budget ∙ ap (λ t. solution_within budget a 0 t) (sym same) ∙ ap (λ k. solution_within k a 0 (plain_stage s)) whole);
      removed = λ h. absurd (omega arith);
      some_last = λ h. absurd (omega arith);
      many = many;
      vars = vars;
      losses_vars = subst (AllHaveVars (length p.vars.items)) (sym none) tt;
      few = let e = ap length none in omega arith;
      rows = let e = ap (λ ls. loss_rows (plain_losses ls)) none in omega arith;
      quiet = quiet;
      carried = carried;
    }

-- a stage of which only what is carried has changed
abbrev pub carrying : Stage → Carried → Stage
carrying s c = record { region = s.region; losses = s.losses; before = s.before; rows_left = s.rows_left; quiet = s.quiet; carried = c }

-- it is one after the same round
pub carried-after : (p : Plant) (budget i : ℕ) (s : Stage) (c : Carried) → IsAfter p budget i s → IsCarriedTo p s.region.pieces.items c → IsAfter p budget i (carrying s c)
carried-after p budget i s c h carried = record {
  same = h.same;
  stage_is = h.stage_is;
  computed = h.computed;
  rest = h.rest;
  removed = h.removed;
  some_last = h.some_last;
  many = h.many;
  vars = h.vars;
  losses_vars = h.losses_vars;
  few = h.few;
  rows = h.rows;
  quiet = h.quiet;
  carried = carried;
}

-- ---- a round on a stage
module _ (p : Plant) (budget i : ℕ) (s : Stage) (number first : ℕ) (number_is : number ≡ suc i) (first_is : first ≡ length s.losses.items + 1) where
  abbrev a : PlainPlant
  a = plain_plant p

  abbrev region : PlainRegion
  region = plain_region s.region.pieces.items

  counted : first ≡ length (plain_losses s.losses.items) + 1
  counted = first_is ∙ ap (λ k. k + 1) (sym (length-map s.losses.items plain_loss))

  round-same : one_round a region number first ≡ next_round a (suc i) (plain_stage s)
  round-same = ap (λ k. one_round a region k first) number_is ∙ ap (one_round a region (suc i)) counted

  -- the marks of the round are those of its stage
  pub round-part : IsAfter p budget i s → IsPart (stage a (suc i)) (one_round a region number first)
  round-part h = subst (IsPart (stage a (suc i))) (ap (next_round a (suc i)) (sym h.same) ∙ sym round-same) (stage-round a i)

  -- the round
  pub round-after : (r : Round) → plain_round r ≡ (one_round a region number first).value → IsExactRound a region number first (plain_round r)
      → length r.next.pieces.items ≡ length p.locs.items → IsOverPlant p r.next.pieces.items → AllHaveVars (length p.vars.items) r.losses.items → first + length r.losses.items ≤ 16385 → IsRoundAfter p i s r
  round-after r same exact many vars losses few = record {
    same = same ∙ ap (λ m. m.value) round-same;
    exact = subst (λ k. IsExactRound a region (suc i) k (plain_round r)) counted (subst (λ k. IsExactRound a region k first (plain_round r)) number_is exact);
    many = many;
    vars = vars;
    losses_vars = losses;
    few = omega arith;
  }

-- ---- the next stage
module _ (p : Plant) (budget i : ℕ) (s : Stage) (r : Round) (h : IsAfter p budget i s) (k : IsRoundAfter p i s r) where
  -- the round of the calculus on its stage
  pub round-there : (next_round (plain_plant p) (suc i) (stage (plain_plant p) i).value).value ≡ plain_round r
  round-there = ap (λ t. (next_round (plain_plant p) (suc i) t).value) (sym h.same) ∙ sym k.same

  -- the stage of the calculus after it
  pub stage-there : StepLaws (plain_plant p) → (stage (plain_plant p) (suc i)).value ≡ after_round (plain_stage s) (plain_round r)
  stage-there steps =
      steps.next i ∙ ap (λ x. after_round (stage (plain_plant p) i).value x) round-there ∙ ap (λ t. after_round t (plain_round r)) (sym h.same)

  -- the marks of the totals of its records are those of its stage
  pub totals-part : IsPart (stage (plain_plant p) (suc i)) (counted_stage (after_round (plain_stage s) (plain_round r)))
  totals-part =
      subst (λ t. IsPart (stage (plain_plant p) (suc i)) (counted_stage t))
      (ap (λ x. after_round (stage (plain_plant p) i).value x) round-there ∙ ap (λ t. after_round t (plain_round r)) (sym h.same)) (stage-totals (plain_plant p) i)

  -- the rows of all records
  rows-of-both : (all : List Loss) → all ≡ s.losses.items ++ r.losses.items → loss_rows (plain_losses all) ≡ loss_rows (plain_losses s.losses.items) + loss_rows (plain_losses r.losses.items)
  rows-of-both all all_are =
      ap (λ ls. loss_rows (plain_losses ls)) all_are ∙ ap loss_rows (map-append plain_loss s.losses.items r.losses.items) ∙ rows-append (plain_losses s.losses.items) (plain_losses r.losses.items)

  -- where the rows of all records are past their limit, so are the totals
  pub totals-stop : i < budget → s.rows_left < loss_rows (plain_losses r.losses.items) → (number : ℕ) → number ≡ suc i → IsStageStopIn (plain_plant p) budget (suc i) number (λ m. m.pieces)
  totals-stop less past number number_is = record {
    number_is = number_is;
    within = omega arith;
    computed = h.computed;
    marked = totals-part.pieces (lt-ltb record_row_limit (loss_rows (plain_losses s.losses.items ++ plain_losses r.losses.items))
        (let all = rows-append (plain_losses s.losses.items) (plain_losses r.losses.items) in let before = h.rows in omega arith));
  }

  module _ (t : Stage) (laws : StageLaws (plain_plant p)) (steps : StepLaws (plain_plant p)) (some : 0 < length r.losses.items)
      (region_is : t.region.pieces.items ≡ r.next.pieces.items) (losses_are : t.losses.items ≡ s.losses.items ++ r.losses.items) (before_is : t.before ≡ length s.losses.items)
      (rows_are : t.rows_left + loss_rows (plain_losses r.losses.items) ≡ s.rows_left) (quiet_is : AreQuiet (plain_plant p) (plain_region t.region.pieces.items) t.quiet.items) (carried_is : IsCarriedTo p t.region.pieces.items t.carried) where
    abbrev none : none_lost (plain_round r).losses ≡ false
    none = some-lost r.losses.items some

    -- the records of the last round
    last-there : (plain_stage t).last ≡ (plain_round r).losses
    last-there =
        ap (λ k. plain_losses (drop k t.losses.items)) before_is ∙ ap (λ xs. plain_losses (drop (length s.losses.items) xs)) losses_are
        ∙ ap plain_losses (drop-first s.losses.items r.losses.items)

    same-form : plain_stage t ≡ after_round (plain_stage s) (plain_round r)
    same-form =
        let form : PlainRegion → List _ → List _ → PlainStage = λ x y z. record { region = x; losses = y; last = z } in
        ap (λ x. form x (plain_losses t.losses.items) (plain_stage t).last) (ap plain_region region_is)
        ∙ ap (λ y. form (plain_region r.next.pieces.items) y (plain_stage t).last) (ap plain_losses losses_are ∙ map-append plain_loss s.losses.items r.losses.items)
        ∙ ap (λ z. form (plain_region r.next.pieces.items) (plain_losses s.losses.items ++ plain_losses r.losses.items) z) last-there

    pub after : IsAfter p budget (suc i) t
    after =
        let a = plain_plant p in
        let same : plain_stage t ≡ (stage a (suc i)).value = same-form ∙ sym (stage-there steps) in
        let n = length p.vars.items in
        record {
          same = same;
          stage_is = subst (IsStage a (suc i)) (sym same-form) (laws.step i (plain_stage s) (plain_round r) h.stage_is k.exact none);
          computed = steps.computed (suc i) h.computed (ap (λ x. none_lost x.last) (stage-there steps) ∙ none);
          rest = λ left e. h.rest (suc left) (omega arith) ∙ steps.go_on left i (plain_stage s) (ap (λ x. none_lost x.losses) (sym k.same) ∙ none)
              ∙ ap (λ x. solution_within left a (suc i) (after_round (plain_stage s) x)) (sym k.same) ∙ ap (solution_within left a (suc i)) (sym same-form);
          removed = λ _. subst (λ ls. IsRemovedIn a (suc i) (spent_state a ls).value) (sym last-there) (laws.removed i (plain_stage s) (plain_round r) h.stage_is k.exact none);
          some_last = λ _. (let long = ap length losses_are ∙ length-append s.losses.items r.losses.items in omega arith);
          many = ap length region_is ∙ k.many;
          vars = subst (IsOverPlant p) (sym region_is) k.vars;
          losses_vars = subst (AllHaveVars n) (sym losses_are) (all-append (LossVars n) s.losses.items r.losses.items h.losses_vars k.losses_vars);
          few = let long = ap length losses_are ∙ length-append s.losses.items r.losses.items in let f = k.few in omega arith;
          rows = (let all = rows-of-both t.losses.items losses_are in let before = h.rows in omega arith);
          quiet = quiet_is;
          carried = carried_is;
        }

    -- its number as the code counts
    pub after-next : IsAfter p budget (i + 1) t
    after-next = let e : suc i ≡ i + 1 = omega arith in subst (λ k. IsAfter p budget k t) e after
