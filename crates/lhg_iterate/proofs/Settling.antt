-- What the iteration answers at its end.
use Rattle.std.proofs.Common.{◌≡◌, ◌+◌, ◌-◌, ◌<◌, ◌≤◌, ℕ, suc, true, false, List, [], ◌∷◌, ◌++◌, length, drop, get_or, sym, ap, ◌∙◌, subst, arith, append-nil}
use Rattle.lhg_num.specs.Marked.{Marked, valued}
use Rattle.lhg_num.specs.MarkedLaws.{IsPart}
use Rattle.lhg_row.specs.Row.{PlainPoint}
use Rattle.lhg_row.specs.Sample.{sample}
use Rattle.lhg_math.specs.ListFacts.{drop_cons}
use Rattle.lhg_union.proofs.ListFacts.{all_at}
use Rattle.lhg_union.specs.Regions.{plain_region}
use Rattle.lhg_plant.specs.declared.plants.Plant.{Plant}
use Rattle.lhg_plant.specs.Plant.{PlainPlant}
use Rattle.lhg_plant.specs.Region.{PlainRegion, PlainGuards}
use Rattle.lhg_plant.specs.State.{PlainState}
use Rattle.lhg_plant.specs.BackCalculus.{guards}
use Rattle.lhg_plant.specs.Laws.{HasExactGuards}
use Rattle.lhg_plant.specs.Loss.{PlainLoss}
use Rattle.lhg_plant.specs.Views.{plain_plant}
use Rattle.lhg_loss.specs.declared.losses.Loss.{Loss}
use Rattle.lhg_loss.specs.Records.{PlainRound}
use Rattle.lhg_loss.specs.Iterate.{PlainSolution, solved, spent, stage, none_lost, spent_state, solution, work}
use Rattle.lhg_loss.specs.LimitFacts.{IsComputed}
use Rattle.lhg_loss.specs.SolveLaws.{StageLaws}
use Rattle.lhg_loss.specs.StageFacts.{IsSolved, IsSpent}
use Rattle.lhg_loss.specs.Views.{plain_losses, LossVars}
use Rattle.lhg_loss.specs.WorkLaws.{StepLaws, WorkLaws}
use Rattle.lhg_iterate.specs.declared.rounds.Round.{Round}
use Rattle.lhg_iterate.specs.declared.stages.Stage.{Stage}
use Rattle.lhg_iterate.specs.RoundViews.{plain_round}
use Rattle.lhg_iterate.specs.Stages.{plain_stage, IsAfter, IsRoundAfter}
use Rattle.lhg_iterate.proofs.StageSteps.{none-lost, stage-there}

-- what solves within a budget solves within a larger one
within_more : (a : PlainPlant) (b budget : ℕ) (region : PlainRegion) (g : PlainGuards) (rounds : ℕ) (losses : List PlainLoss) → b ≤ budget
    → IsSolved a b (record { region = region; guards = g }) rounds losses → IsSolved a budget (record { region = region; guards = g }) rounds losses
within_more a b budget region g rounds losses h s = record {
  region_is = s.region_is;
  exact = s.exact;
  solution = s.solution;
  guards = s.guards;
  picked = s.picked;
  within = let w = s.within in omega arith;
  counted = s.counted;
  sound = s.sound;
}

-- ---- a round without a record
module _ (p : Plant) (budget i : ℕ) (s : Stage) (r : Round) (h : IsAfter p budget i s) (k : IsRoundAfter p i s r) (none : length r.losses.items ≡ 0) (less : i < budget) (number : ℕ) (number_is : number ≡ suc i) where
  abbrev a : PlainPlant
  a = plain_plant p

  abbrev region : PlainRegion
  region = plain_region r.next.pieces.items

  no_losses : plain_losses r.losses.items ≡ []
  no_losses = none-lost r.losses.items none

  no_more : plain_losses s.losses.items ++ plain_losses r.losses.items ≡ plain_losses s.losses.items
  no_more = ap (λ ls. plain_losses s.losses.items ++ ls) no_losses ∙ append-nil (plain_losses s.losses.items)

  settles : none_lost (plain_round r).losses ≡ true
  settles = ap none_lost no_losses

  -- the solution of the calculus
  pub settled-value : StepLaws a → (g : PlainGuards) → g ≡ (guards a region).value → solution a budget ≡ solved number region g (plain_losses s.losses.items)
  settled-value steps g same =
      let left = budget - suc i in
      let next : PlainRound → PlainSolution = λ x. solved (suc i) x.next (guards a x.next).value (plain_losses s.losses.items ++ x.losses) in
      h.rest (suc left) (omega arith) ∙ steps.settled left i (plain_stage s) (ap (λ x. none_lost x.losses) (sym k.same) ∙ settles)
      ∙ ap next (sym k.same) ∙ ap (λ ls. solved (suc i) region (guards a region).value ls) no_more
      ∙ ap (λ x. solved (suc i) region x (plain_losses s.losses.items)) (sym same) ∙ ap (λ x. solved x region g (plain_losses s.losses.items)) (sym number_is)

  -- it solves the game
  pub settled-solves : StageLaws a → (g : PlainGuards) → HasExactGuards a (record { region = region; guards = g }) → IsSolved a budget (record { region = region; guards = g }) number (plain_losses s.losses.items)
  settled-solves laws g exact =
      let c = within_more a (suc i) budget region g (suc i) (plain_losses s.losses.items ++ plain_losses r.losses.items) (omega arith) (laws.settled p.proper i (plain_stage s) (plain_round r) g h.stage_is k.exact settles exact) in
      subst (λ x. IsSolved a budget (record { region = region; guards = g }) x (plain_losses s.losses.items)) (sym number_is)
      (subst (λ ls. IsSolved a budget (record { region = region; guards = g }) (suc i) ls) no_more c)

  -- the marks of its guards are those of its work
  pub guards-part : StepLaws a → WorkLaws a budget i → IsPart (work a budget (suc i)) (guards a region)
  guards-part steps laws =
      let there = stage-there p budget i s r h k steps in
      subst (λ t. IsPart (work a budget (suc i)) (guards a t.region)) there (laws.kept (ap (λ t. none_lost t.last) there ∙ settles))

-- ---- a budget that is spent
module _ (p : Plant) (budget : ℕ) (s : Stage) (h : IsAfter p budget budget s) (some : 0 < budget) (loss : Loss) (is : loss ≡ get_or s.losses.items s.before loss) where
  abbrev n : ℕ
  n = length p.vars.items

  last-is : (plain_stage s).last ≡ plain_losses (loss ∷ drop (s.before + 1) s.losses.items)
  last-is = ap plain_losses (drop_cons s.losses.items s.before loss is (h.some_last some))

  width-is : loss.piece.width ≡ n
  width-is = (all_at (LossVars n) s.losses.items s.before loss is (h.some_last some) h.losses_vars).0

  abbrev sampled : Marked PlainPoint
  sampled = sample loss.piece.width loss.piece.lines

  abbrev as_state : PlainPoint → PlainState
  as_state x = record { loc = loss.loc; at = x }

  state-is : valued as_state sampled ≡ spent_state (plain_plant p) (plain_stage s).last
  state-is = ap (λ w. valued as_state (sample w loss.piece.lines)) width-is ∙ ap (spent_state (plain_plant p)) (sym last-is)

  -- the solution of the calculus, and what it says
  pub spent-value : StepLaws (plain_plant p) → (x : PlainPoint) → x ≡ sampled.value
      → (solution (plain_plant p) budget ≡ spent (as_state x)) × IsSpent (plain_plant p) budget (as_state x)
  spent-value steps x same =
      let a = plain_plant p in
      let there : as_state x ≡ (spent_state a (plain_stage s).last).value = ap as_state same ∙ ap (λ m. m.value) state-is in (
        h.rest 0 (omega arith) ∙ steps.used_up budget (plain_stage s) ∙ ap spent (sym there),
        subst (IsSpent a budget) (sym there) (record { removed = h.removed some; removes = h.stage_is.removes }),
      )

  -- the last round has a record
  pub sample-lost : none_lost (stage (plain_plant p) budget).value.last ≡ false
  sample-lost = ap (λ t. none_lost t.last) (sym h.same) ∙ ap none_lost last-is

  -- the marks of the sample
  pub sample-part : IsPart (spent_state (plain_plant p) (stage (plain_plant p) budget).value.last) sampled
  sample-part =
      let here : valued as_state sampled ≡ spent_state (plain_plant p) (stage (plain_plant p) budget).value.last = state-is ∙ ap (λ t. spent_state (plain_plant p) t.last) h.same in
      subst (λ m. IsPart m sampled) here (record { wide = λ x. x; rows = λ x. x; pieces = λ x. x })

  -- the last round is computed
  pub last-computed : IsComputed (plain_plant p) budget
  last-computed j above below = h.computed j above (omega arith)
