-- The region of the last round but one solves the game; in a still plant without switches it is the safe states.
use Rattle.std.proofs.Common.{◌≡◌, ◌↔◌, ℕ, zero, suc, List, [], ◌∷◌, slice_get, IsSomeAnd, arith}
use Rattle.std.specs.Prelude.{Contains}
use Rattle.lhg_plant.specs.Plant.{PlainPlant, PlainSwitch}
use Rattle.lhg_plant.specs.State.{PlainState, IsSafe}
use Rattle.lhg_plant.specs.Round.{InRound, IsLastRound}
use Rattle.lhg_plant.specs.Region.{PlainRegion, PlainGuards, InRegion}
use Rattle.lhg_plant.specs.Controller.{PlainController}
use Rattle.lhg_plant.specs.Loss.{PlainLoss, IsTrueLoss}
use Rattle.lhg_plant.specs.Solution.{InSomeLoss, IsSolution}
use Rattle.lhg_plant.specs.Still.{IsStill, HasNoSwitch}
use Rattle.lhg_plant.specs.Laws.{HasExactGuards}
use Rattle.lhg_plant.proofs.Rounds.{secure_in_round, settled_secure}
use Rattle.lhg_plant.proofs.Settled.{secure_equal, settled_valid}
use Rattle.lhg_plant.proofs.RunExists.{stays}
use Rattle.lhg_plant.proofs.Losses.{loss_named}
use Rattle.lhg_plant.proofs.StillPlays.{still_last}

-- the round before the last one, with the guards from its Back and true records of all that was lost, is a solution
pub last_solves : (a : PlainPlant) (c : PlainController) (i : ℕ) (losses : List PlainLoss) → IsLastRound a (suc i)
    → ((s : PlainState) → InRegion a c.region s ↔ InRound a i s) → HasExactGuards a c
    → ((s : PlainState) → IsSafe a s → ¬ InRegion a c.region s → InSomeLoss a losses s) → ((loss : PlainLoss) → Contains losses loss → IsTrueLoss a losses loss)
    → IsSolution a c (suc i) losses
last_solves a c i losses last same guards lost all_true =
    let secure = secure_equal a (InRegion a c.region) (InRound a i) same (settled_secure a i last.settled) in
    let valid = settled_valid a c guards i last.settled same in
    record {
      member = λ s. (λ h. (c.region, secure, h), λ h. (same s).1 (secure_in_round a (InRegion a h.0) h.1 i s h.2));
      secure = secure;
      valid = valid;
      inside = λ choice fit. stays choice a c valid fit;
      lost = lost;
      true_losses = all_true;
      named = λ loss there. loss_named a losses loss (all_true loss there);
      last = last;
    }

-- no switch is in an empty list
missing : (ws : List PlainSwitch) (e : ℕ) → ws ≡ [] → (P : PlainSwitch → Type 0) → IsSomeAnd (slice_get ws e) P → ⊥
missing [] e none P h = h
missing (w ∷ ws) e none P h = cc

-- without switches no guard holds and no state is in Back
no_guards : (a : PlainPlant) (c : PlainController) → HasNoSwitch a → HasExactGuards a c
no_guards a c none = λ e s. (λ h. absurd (missing a.switches e none (λ w. w.from ≡ s.loc) h.leaves), λ h. absurd (missing a.switches e none _ h.1))

-- an empty list contains no record
no_member : (loss : PlainLoss) → Contains [] loss → ⊥
no_member loss there = let less = there.1 in omega arith

-- in a still plant without switches the safe states solve the game, with any guards and no record
pub still_solves : (a : PlainPlant) → IsStill a → HasNoSwitch a → (r : PlainRegion) (g : PlainGuards) → ((s : PlainState) → InRegion a r s ↔ IsSafe a s) → IsSolution a (record { region = r; guards = g }) 1 []
still_solves a still none r g same =
    last_solves a (record { region = r; guards = g }) zero [] (still_last a still none) same (no_guards a _ none) (λ s h out. absurd (out ((same s).1 h))) (λ loss there. absurd (no_member loss there))
