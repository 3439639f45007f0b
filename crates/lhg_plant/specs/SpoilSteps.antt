-- What do the plant and the controller do on the way from a lost state, and when is each step of it legal?
use Rattle.std.specs.Prelude.{◌≡◌, ◌⊎◌, ◌<◌, ℕ, List, [], ◌∷◌, Option, Some, None}
use Rattle.lhg_math.specs.Number.{Number}
use Rattle.lhg_row.specs.Row.{PlainPoint}
use Rattle.lhg_plant.specs.declared.plants.Side.TheVariants.{Ctl, Env, Pick}
use Rattle.lhg_plant.specs.Plant.{PlainPlant}
use Rattle.lhg_plant.specs.State.{PlainState, moved_to}
use Rattle.lhg_plant.specs.Legal.{LegalFlow, LegalSwitch, HasSide}
use Rattle.lhg_plant.specs.Rank.{HasRank}

-- one step: an exchange begins from a rank, a flow as far as it was run, a controllable switch, its result, an uncontrollable switch
pub data PlainSpoilStep : Type 0 where
  ranked : (round : ℕ) → PlainSpoilStep
  run_on : (time : Number) → (to : PlainPoint) → PlainSpoilStep
  acted : (switch : ℕ) → PlainSpoilStep
  landed_at : (state : PlainState) → PlainSpoilStep
  preempted : (switch : ℕ) → (to : PlainState) → PlainSpoilStep

-- switch e is there, and the controller's
abbrev pub IsControllable : PlainPlant → ℕ → Type 0
IsControllable a e = HasSide a e Ctl ⊎ HasSide a e Pick

-- the steps lead legally from the state s to the last one, where a controllable switch may have been taken just before them: each
-- exchange begins from the rank of its state, each flow and each switch is legal, and each controllable switch is followed by its result
abbrev pub AreLegalFrom : PlainPlant → PlainState → Option ℕ → List PlainSpoilStep → PlainState → Type 0
AreLegalFrom a s None [] last = last ≡ s
AreLegalFrom a s None (ranked i ∷ steps) last = HasRank a i s × AreLegalFrom a s None steps last
AreLegalFrom a s None (run_on t y ∷ steps) last = LegalFlow a s t y × AreLegalFrom a (moved_to s y) None steps last
AreLegalFrom a s None (acted e ∷ steps) last = IsControllable a e × AreLegalFrom a s (Some e) steps last
AreLegalFrom a s None (landed_at z ∷ steps) last = ⊥
AreLegalFrom a s None (preempted e z ∷ steps) last = HasSide a e Env × LegalSwitch a e s z × AreLegalFrom a z None steps last
AreLegalFrom a s (Some e) [] last = ⊥
AreLegalFrom a s (Some e) (ranked i ∷ steps) last = ⊥
AreLegalFrom a s (Some e) (run_on t y ∷ steps) last = ⊥
AreLegalFrom a s (Some e) (acted d ∷ steps) last = ⊥
AreLegalFrom a s (Some e) (landed_at z ∷ steps) last = LegalSwitch a e s z × AreLegalFrom a z None steps last
AreLegalFrom a s (Some e) (preempted d z ∷ steps) last = ⊥

-- the ranks from which exchanges begin are below i, and each is below the one before it
abbrev pub RanksFall : ℕ → List PlainSpoilStep → Type 0
RanksFall i [] = Unit {0}
RanksFall i (ranked j ∷ steps) = (j < i) × RanksFall j steps
RanksFall i (run_on t y ∷ steps) = RanksFall i steps
RanksFall i (acted e ∷ steps) = RanksFall i steps
RanksFall i (landed_at z ∷ steps) = RanksFall i steps
RanksFall i (preempted e z ∷ steps) = RanksFall i steps
