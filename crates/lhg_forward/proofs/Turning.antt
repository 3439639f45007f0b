-- The stage after a level, as the code holds it.
use Rattle.std.proofs.Common.{◌≡◌, ◌+◌, ◌-◌, ◌<◌, ◌≤◌, ℕ, suc, Bool, true, false, Some, None, Result, Ok, Err, refl, sym, ap, ◌∙◌, subst, arith}
use Rattle.lhg_num.specs.Marked.{Marked}
use Rattle.lhg_num.specs.MarkedLaws.{IsPart}
use Rattle.lhg_num.specs.Halting.{IsHaltedBy}
use Rattle.lhg_num.specs.declared.refusals.Halt.{Halt}
use Rattle.lhg_num.specs.declared.refusals.Halt.TheVariants as halt
use Rattle.lhg_union.specs.Regions.{plain_region}
use Rattle.lhg_plant.specs.declared.plants.Plant.{Plant}
use Rattle.lhg_plant.specs.Plant.{PlainPlant}
use Rattle.lhg_plant.specs.Region.{PlainRegion}
use Rattle.lhg_plant.specs.Views.{plain_plant}
use Rattle.lhg_forward.specs.declared.stages.Stage.{Stage}
use Rattle.lhg_forward.specs.Growth.{PlainGrowth, PlainStage, ended, stage, staged, growth, grown_stage, none_new, forward_within, forward_sets, work}
use Rattle.lhg_forward.specs.GrowthFacts.{IsRegion, IsWholeGrowth, HasNewest}
use Rattle.lhg_forward.specs.StageFacts.{IsStage, IsForward}
use Rattle.lhg_forward.specs.WorkLaws.{IsStopIn}
use Rattle.lhg_forward.specs.Views.{plain_stage, IsStageOf}
use Rattle.lhg_forward.specs.Outcomes.{IsForwardStop, stop_of, IsAfter, IsTurn}
use Rattle.lhg_forward.proofs.GrowthWalks.{whole_growth}
use Rattle.lhg_forward.proofs.Iteration.{stage_start, within_more, step_laws, work_laws}
use Rattle.lhg_forward.proofs.StageSteps.{stage_step, stage_ended, newest_on}

-- ---- the first stage
pub after_start : (p : Plant) (init : PlainRegion) (budget : ℕ) (s : Stage) → IsRegion (plain_plant p) init → plain_stage s ≡ (stage (plain_plant p) init 0).value → IsStageOf p s → IsAfter p init budget 0 s
after_start p init budget s init_is e lists =
    let a = plain_plant p in
    let laws = step_laws a init in
    record {
      same = e;
      stage_is = subst (IsStage a init 0) (sym (e ∙ laws.starts)) (stage_start a init init_is);
      rest = λ left sum. (let all : budget ≡ left = omega arith in ap (forward_sets a init) all ∙ laws.first left ∙ ap (λ (k : PlainStage). forward_within left a 0 k) (sym e));
      lists = lists;
      newest = λ l. absurd (omega arith);
    }

-- ---- the next one
module _ (p : Plant) (init : PlainRegion) (budget i : ℕ) (s : Stage) (h : IsAfter p init budget i s) (less : i < budget) where
  abbrev a : PlainPlant
  a = plain_plant p

  abbrev old : PlainStage
  old = plain_stage s

  abbrev g : PlainGrowth
  g = (growth a old).value

  whole : IsWholeGrowth a old g
  whole = whole_growth a p.proper old h.stage_is.closed_is.region_is

  module _ (t : Stage) (e : plain_stage t ≡ (staged a old).value) (lists : IsStageOf p t) where
    first_same : t.first ≡ g.first
    first_same = ap (λ (k : PlainStage). k.first) e

    later : ℕ
    later = budget - suc i

    turned_end : none_new t.first ≡ true → forward_sets a init budget ≡ ended (suc i) (plain_region t.region.pieces.items)
    unfolding later
    turned_end n =
        h.rest (suc later) (omega arith) ∙ (step_laws a init).ended later i old (ap none_new (sym first_same) ∙ n) ∙ ap (λ (k : PlainStage). ended (suc i) k.region) (sym e)

    turned_forward : none_new t.first ≡ true → IsForward a init budget (suc i) (plain_region t.region.pieces.items)
    turned_forward n =
        subst (λ (k : PlainStage). IsForward a init budget (suc i) k.region) (sym e)
        (within_more a init (suc i) budget (suc i) (staged a old).value.region (omega arith) (stage_ended a init i old h.stage_is g whole (ap none_new (sym first_same) ∙ n)))

    next_same : plain_stage t ≡ (stage a init (suc i)).value
    next_same = e ∙ ap (λ (k : PlainStage). (staged a k).value) h.same ∙ sym ((step_laws a init).next i)

    turned_on : none_new t.first ≡ false → IsAfter p init budget (suc i) t
    turned_on n =
        let m : none_new g.first ≡ false = ap none_new (sym first_same) ∙ n in
        record {
          same = next_same;
          stage_is = subst (IsStage a init (suc i)) (sym e) (stage_step a init i old h.stage_is g whole m);
          rest = λ left sum. h.rest (suc left) (omega arith) ∙ (step_laws a init).go_on left i old m ∙ ap (λ (k : PlainStage). forward_within left a (suc i) k) (sym e);
          lists = lists;
          newest = λ l. subst (HasNewest a) (sym e) (newest_on a init i old h.stage_is g whole m);
        }

    pub turned : IsTurn p init budget (suc i) t
    turned = record { lists = lists; end = turned_end; forward = turned_forward; goes_on = turned_on }

  -- a limit that is met on the way is one of the work of the level
  stopped_in : (mark : Marked (Unit {0}) → Bool) → mark (work a init budget (suc i)) ≡ true → IsStopIn a init budget (suc i) mark
  stopped_in mark m = record { counted = omega arith; within = omega arith; adds = λ j l k. h.stage_is.adds j l (omega arith); marked = m }

  part : IsPart (work a init budget (suc i)) (staged a old)
  part = subst (λ (k : PlainStage). IsPart (work a init budget (suc i)) (staged a k)) (sym h.same) (work_laws a init budget i).level

  pub level_stop : (d : Halt) → IsHaltedBy {T = Stage} (Err d) (staged a old) plain_stage → IsForwardStop a init budget (stop_of d (suc i))
  level_stop halt.Wide k = stopped_in (λ m. m.wide) (part.wide k)
  level_stop halt.Rows k = stopped_in (λ m. m.rows) (part.rows k)
  level_stop halt.Pieces k = stopped_in (λ m. m.pieces) (part.pieces k)
  level_stop halt.Memory k = tt
