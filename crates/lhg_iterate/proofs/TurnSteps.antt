-- What one more round tells of a state that is sought.
use Rattle.std.proofs.Common.{◌≡◌, ◌<◌, ◌+◌, ℕ, suc, true, List, [], ◌∷◌, ◌++◌, length, map, Option, Some, None, refl, sym, ap, ◌∙◌, subst, arith}
use Rattle.lhg_plant.specs.declared.plants.Plant.{Plant}
use Rattle.lhg_plant.specs.Plant.{PlainPlant}
use Rattle.lhg_plant.specs.State.{PlainState}
use Rattle.lhg_plant.specs.Views.{plain_plant}
use Rattle.lhg_loss.specs.declared.losses.Loss.{Loss}
use Rattle.lhg_plant.specs.Loss.{PlainLoss}
use Rattle.lhg_plant.specs.Solution.{InSomeLoss}
use Rattle.lhg_loss.specs.Holding.{holding, IsFirstHolding}
use Rattle.lhg_loss.specs.Iterate.{PlainStage, stage, none_lost}
use Rattle.lhg_loss.specs.SeekLaws.{SeekLaw, SeekLaws}
use Rattle.lhg_loss.specs.Views.{plain_losses, AreOver, AllHaveVars}
use Rattle.lhg_loss.proofs.Works.{step_laws}
use Rattle.lhg_iterate.specs.declared.rounds.Round.{Round}
use Rattle.lhg_iterate.specs.declared.stages.Stage.{Stage}
use Rattle.lhg_iterate.specs.RoundViews.{plain_round}
use Rattle.lhg_iterate.specs.Seeking.{IsKept, IsLost, IsWideRecord}
use Rattle.lhg_iterate.specs.Stages.{plain_stage, IsAfter, IsRoundAfter}
use Rattle.lhg_iterate.specs.Turns.{IsStillIn}
use Rattle.lhg_iterate.proofs.SeekSteps.{undecided_next}
use Rattle.lhg_iterate.proofs.StageSteps.{none-lost, stage-there}

-- records whose pieces are over n variables
pub over_of : (n : ℕ) (losses : List Loss) → AllHaveVars n losses → AreOver n losses
over_of n [] h = tt
over_of n (r ∷ rs) h = (h.0.0, over_of n rs h.1)

-- the stage of round 0 has no record
none_first : (a : PlainPlant) (z : PlainState) → (holding z (stage a 0).value.last).value ≡ None
unfolding stage
none_first a z = refl

-- so none holds a state
pub first_unheld : (p : Plant) (budget : ℕ) (z : PlainState) (s : Stage) → IsAfter p budget 0 s → (holding z (plain_stage s).last).value ≡ None
first_unheld p budget z s h = ap (λ (t : PlainStage). (holding z t.last).value) h.same ∙ none_first (plain_plant p) z

-- a stage of which only what is carried has changed
pub still-same : (p : Plant) (budget i : ℕ) (z : PlainState) (s t : Stage) → IsStillIn p budget i z s → IsAfter p budget i t → plain_stage t ≡ plain_stage s → IsStillIn p budget i z t
still-same p budget i z s t still after same = record {
  after = after;
  kept = still.kept;
  unheld = ap (λ (x : PlainStage). (holding z x.last).value) same ∙ still.unheld;
}

module _ (p : Plant) (budget i : ℕ) (z : PlainState) (s : Stage) (r : Round) (still : IsStillIn p budget i z s) (k : IsRoundAfter p i s r) (less : i < budget) (seeks : SeekLaw (plain_plant p)) where
  abbrev a : PlainPlant
  a = plain_plant p

  abbrev laws : SeekLaws a i (plain_stage s) (plain_round r)
  laws = seeks i (plain_stage s) (plain_round r) still.after.stage_is k.exact

  -- the records of the round
  last-there : (stage a (suc i)).value.last ≡ plain_losses r.losses.items
  last-there = ap (λ (t : PlainStage). t.last) (stage-there p budget i s r still.after k (step_laws a))

  -- a round without a record is the last, and the state stays
  pub kept_here : length r.losses.items ≡ 0 → IsKept a budget (i + 1) z
  kept_here none =
      let no_losses = none-lost r.losses.items none in
      let number_is : suc i ≡ i + 1 = omega arith in
      subst (λ j. IsKept a budget j z) number_is (record {
        within = omega arith;
        last = laws.last (ap none_lost no_losses);
        kept = laws.stays z still.kept (subst (λ ls. IsFirstHolding z ls None) (sym no_losses) refl);
      })

  -- whether a record of the round holds the state is not told
  pub wide_here : (losses : List Loss) → losses ≡ r.losses.items → (holding z (plain_losses losses)).wide ≡ true → IsWideRecord a budget z
  wide_here losses same wide = record {
    round = suc i;
    counted = omega arith;
    within = omega arith;
    undecided = undecided_next a i z still.after.stage_is.removes still.kept;
    wide = ap (λ (ls : List PlainLoss). (holding z ls).wide) (last-there ∙ ap plain_losses (sym same)) ∙ wide;
  }

  module _ (t : Stage) (ok : IsAfter p budget (i + 1) t) (losses : List Loss) (same : losses ≡ r.losses.items) where
    number_is : i + 1 ≡ suc i
    number_is = omega arith

    after_is : IsAfter p budget (suc i) t
    after_is = subst (λ j. IsAfter p budget j t) number_is ok

    all_there : plain_losses t.losses.items ≡ plain_losses s.losses.items ++ plain_losses r.losses.items
    all_there = ap (λ (x : PlainStage). x.losses) (after_is.same ∙ stage-there p budget i s r still.after k (step_laws a))

    -- a record of the round holds the state: it is lost
    pub lost_here : (m : ℕ) → IsFirstHolding z (plain_losses losses) (Some m) → IsLost a budget m (plain_losses t.losses.items) z
    lost_here m f =
        let lost = laws.lost z m still.kept (subst (λ ls. IsFirstHolding z (plain_losses ls) (Some m)) same f) in
        let at = after_is.stage_is in
        record {
          round = suc i;
          within = omega arith;
          removed = lost.0;
          same = ap (λ (x : PlainStage). x.losses) after_is.same;
          first = subst (λ ls. IsFirstHolding z ls (Some m)) (sym all_there) lost.1;
          counted = at.counted;
          rounds = at.rounds;
          sound = at.sound;
          known = λ y j l g. subst (λ ls. InSomeLoss a ls y) (sym all_there) (laws.known y j l g);
        }

    -- none does: it is still there
    pub still_here : (o : Option ℕ) → o ≡ None → o ≡ (holding z (plain_losses losses)).value → IsFirstHolding z (plain_losses losses) o → IsStillIn p budget (i + 1) z t
    still_here o none value f =
        let first = subst (λ ls. IsFirstHolding z (plain_losses ls) None) same (subst (λ w. IsFirstHolding z (plain_losses losses) w) none f) in
        subst (λ j. IsStillIn p budget j z t) (sym number_is) (record {
          after = after_is;
          kept = laws.stays z still.kept first;
          unheld = ap (λ (x : PlainStage). (holding z x.last).value) after_is.same ∙ ap (λ (ls : List PlainLoss). (holding z ls).value) (last-there ∙ ap plain_losses (sym same)) ∙ sym value ∙ none;
        })
