-- The loop over the rounds, and its marks.
use Rattle.std.proofs.Common.{◌≡◌, ℕ, suc, true, false, cond, ◌++◌, nat_eq, refl, sym, ap, ◌∙◌, inl, inr, subst, arith}
use Rattle.std.proofs.lemmas.Bool.{eq-eqb}
use Rattle.lhg_num.specs.Marked.{Marked, done, valued}
use Rattle.lhg_num.specs.MarkedLaws.{IsPart, part_self, part_part, rest_part, and_then-rest, and_then-part}
use Rattle.lhg_row.specs.Decisions.{nat_decided}
use Rattle.lhg_plant.specs.Plant.{PlainPlant}
use Rattle.lhg_plant.specs.SafeRegion.{safe_region}
use Rattle.lhg_plant.specs.BackCalculus.{guards}
use Rattle.lhg_loss.specs.Records.{PlainRound}
use Rattle.lhg_loss.specs.Iterate.{PlainStage, PlainSolution, solved, stage, next_round, after_round, counted_stage, none_lost, spent_state, solution_within, solution, nothing, work}
use Rattle.lhg_loss.specs.LimitFacts.{IsComputed}
use Rattle.lhg_loss.specs.WorkLaws.{StepLaws, WorkLaws}

-- another value with the same marks is a part as well
valued-part : {A B C : Type 0} (whole : Marked C) (m : Marked A) (f : A → B) → IsPart whole (valued f m) → IsPart whole m
valued-part whole m f h = record { wide = h.wide; rows = h.rows; pieces = h.pieces }

-- ---- steps
module _ (a : PlainPlant) where
  first_step : (budget : ℕ) → solution a budget ≡ solution_within budget a 0 (stage a 0).value
  unfolding solution
  first_step budget = refl

  next_step : (i : ℕ) → (stage a (suc i)).value ≡ after_round (stage a i).value (next_round a (suc i) (stage a i).value).value
  unfolding stage
  next_step i = refl

  module _ (left i : ℕ) (s : PlainStage) where
    abbrev r : PlainRound
    r = (next_round a (suc i) s).value

    abbrev now : PlainSolution
    now = solved (suc i) r.next (guards a r.next).value (s.losses ++ r.losses)

    abbrev later : PlainSolution
    later = solution_within left a (suc i) (after_round s r)

    either_step : solution_within (suc left) a i s ≡ cond (none_lost r.losses) now later
    either_step = refl

    go_on_step : none_lost r.losses ≡ false → solution_within (suc left) a i s ≡ later
    go_on_step e = either_step ∙ ap (λ b. cond b now later) e

    settled_step : none_lost r.losses ≡ true → solution_within (suc left) a i s ≡ now
    settled_step e = either_step ∙ ap (λ b. cond b now later) e

  computed_step : (i : ℕ) → IsComputed a i → none_lost (stage a i).value.last ≡ false → IsComputed a (suc i)
  computed_step i h e j l m = elim (nat_decided j i) [ inl k ↦ subst (λ (w : ℕ). none_lost (stage a w).value.last ≡ false) (sym k) e | inr k ↦ h j l (omega arith) ]

  pub step_laws : StepLaws a
  step_laws = record {
    first = first_step;
    next = next_step;
    go_on = go_on_step;
    settled = settled_step;
    used_up = λ i s. refl;
    computed = computed_step;
    computed_first = ((λ j l m. absurd (omega arith)), (λ j l m. absurd (omega arith)));
  }

-- ---- marks
module _ (a : PlainPlant) (budget i : ℕ) where
  abbrev s : PlainStage
  s = (stage a (suc i)).value

  -- what belongs to the round beside its stage
  abbrev beside : PlainStage → Marked (Unit {0})
  beside t =
      let kept = valued nothing (guards a t.region) in
      let lost = cond (nat_eq (suc i) budget) (valued nothing (spent_state a t.last)) (done tt) in
      cond (none_lost t.last) kept lost

  stage_part : IsPart (work a budget (suc i)) (stage a (suc i))
  unfolding work
  stage_part = and_then-part (stage a (suc i)) beside

  beside_part : IsPart (work a budget (suc i)) (beside s)
  unfolding work
  beside_part = rest_part (work a budget (suc i)) (beside s) (beside s) (and_then-rest (stage a (suc i)) beside) (part_self (beside s))

  round_part : IsPart (stage a (suc i)) (next_round a (suc i) (stage a i).value)
  unfolding stage
  round_part = and_then-part (next_round a (suc i) (stage a i).value) (λ r. counted_stage (after_round (stage a i).value r))

  totals_part : IsPart (stage a (suc i)) (counted_stage (after_round (stage a i).value (next_round a (suc i) (stage a i).value).value))
  unfolding stage
  totals_part =
      let before = (stage a i).value in
      let r = next_round a (suc i) before in
      let next = counted_stage (after_round before r.value) in
      rest_part (stage a (suc i)) next next (and_then-rest r (λ r. counted_stage (after_round before r))) (part_self next)

  kept_part : none_lost s.last ≡ true → IsPart (work a budget (suc i)) (guards a s.region)
  kept_part e =
      let kept = valued nothing (guards a s.region) in
      let lost = cond (nat_eq (suc i) budget) (valued nothing (spent_state a s.last)) (done tt) in
      valued-part (work a budget (suc i)) (guards a s.region) nothing (subst (λ b. IsPart (work a budget (suc i)) (cond b kept lost)) e beside_part)

  lost_part : suc i ≡ budget → none_lost s.last ≡ false → IsPart (work a budget (suc i)) (spent_state a s.last)
  lost_part f e =
      let kept = valued nothing (guards a s.region) in
      let sampled = valued nothing (spent_state a s.last) in
      let lost = cond (nat_eq (suc i) budget) sampled (done tt) in
      valued-part (work a budget (suc i)) (spent_state a s.last) nothing
      (subst (λ b. IsPart (work a budget (suc i)) (cond b sampled (done tt))) (eq-eqb (suc i) budget f) (subst (λ b. IsPart (work a budget (suc i)) (cond b kept lost)) e beside_part))

  safe_part : IsPart (work a budget 0) (safe_region a)
  unfolding work stage
  safe_part = record { wide = λ h. h; rows = λ h. h; pieces = λ h. h }

  pub work_laws : WorkLaws a budget i
  work_laws = record {
    safe = safe_part;
    round = part_part (work a budget (suc i)) (stage a (suc i)) (next_round a (suc i) (stage a i).value) stage_part round_part;
    totals = part_part (work a budget (suc i)) (stage a (suc i)) (counted_stage (after_round (stage a i).value (next_round a (suc i) (stage a i).value).value)) stage_part totals_part;
    kept = kept_part;
    lost = lost_part;
  }
