-- Which laws does the safety game obey, for every plant?
use Rattle.std.specs.Prelude.{◌≡◌, ◌<◌, ◌≤◌, ◌↔◌, ◌⊎◌, ℕ, suc, true, List, [], length, Contains}
use Rattle.lhg_motion.specs.Play.{PlainMove, EachPoint}
use Rattle.lhg_plant.specs.Plant.{PlainPlant}
use Rattle.lhg_plant.specs.State.{PlainState, States, IsState, IsSafe}
use Rattle.lhg_math.specs.Number.{Number}
use Rattle.lhg_num.specs.Arithmetic.{Arithmetic}
use Rattle.lhg_row.specs.Row.{PlainPoint}
use Rattle.lhg_plant.specs.Legal.{IsPlayFrom, LegalFlow, LegalSwitchTo}
use Rattle.lhg_plant.specs.LegalTruths.{state_truth, legal_flow_truth, legal_switch_truth}
use Rattle.lhg_plant.specs.OutBack.{Out, Back, BackBy}
use Rattle.lhg_plant.specs.Escape.{MayPass, HasEscape, IsSecure}
use Rattle.lhg_plant.specs.Round.{InRound, IsRemovedIn, RemovesNothing, IsLastRound}
use Rattle.lhg_plant.specs.Loss.{PlainLoss, InLoss, HasMove, IsTrueLoss}
use Rattle.lhg_plant.specs.Sound.{Shows, IsSoundLoss}
use Rattle.lhg_plant.specs.Region.{PlainRegion, PlainGuards, InRegion, InGuard}
use Rattle.lhg_plant.specs.Controller.{PlainController, IsValid}
use Rattle.lhg_plant.specs.Inside.{IsRegionInside}
use Rattle.lhg_plant.specs.Pick.{picks}
use Rattle.lhg_plant.specs.Run.{PlainEntry, PlainStep, RunPlace, IsRun}
use Rattle.lhg_plant.specs.Choice.{Choice, IsLegalChoice}
use Rattle.lhg_plant.specs.Solution.{InSomeLoss, IsSolution}
use Rattle.lhg_plant.specs.Still.{IsStill, HasNoSwitch}
use Rattle.lhg_plant.specs.Proper.{IsProper}
use Rattle.lhg_plant.specs.SafeRegion.{safe_region}
use Rattle.lhg_plant.specs.Word.{IsName, IsVariable}
use Rattle.lhg_plant.specs.Log.{EachVisited, IsLegalLog, IsFirstIllegal, StaysInside}

-- whether a point is a state, is safe, is in a region or in a guard is decidable
pub record MemberLaws (a : PlainPlant) : Type 0 where
  pub state : (s : PlainState) → IsState a s ⊎ ¬ IsState a s
  pub safe : (s : PlainState) → IsSafe a s ⊎ ¬ IsSafe a s
  pub region : (r : PlainRegion) (s : PlainState) → InRegion a r s ⊎ ¬ InRegion a r s
  pub guard : (g : PlainGuards) (e : ℕ) (s : PlainState) → InGuard a g e s ⊎ ¬ InGuard a g e s

-- where points have one coordinate per variable, the truth that is formed of a state, a flow or a switch is whether it is legal
pub record LegalLaws (n : Arithmetic) (a : PlainPlant) : Type 0 where
  pub state : (s : PlainState) → length s.at ≡ length a.vars → ((state_truth n a s).value ≡ true) ↔ IsState a s
  pub flow : (s : PlainState) (t : Number) (y : PlainPoint) → length s.at ≡ length a.vars → length y ≡ length a.vars → ((legal_flow_truth n a s t y).value ≡ true) ↔ LegalFlow a s t y
  pub switch : (e : ℕ) (s : PlainState) (y : PlainPoint) → length s.at ≡ length a.vars → length y ≡ length a.vars → ((legal_switch_truth n a e s y).value ≡ true) ↔ LegalSwitchTo a e s y

-- where T lies inside S: Out shrinks and Back grows from T to S, so an escape from S is one from T
pub record MonotoneLaws (a : PlainPlant) (T S : States) : Type 0 where
  pub out : (s : PlainState) → Out a S s → Out a T s
  pub back : (s : PlainState) → Back a T s → Back a S s
  pub escape : (s : PlainState) → HasEscape a S (Back a S) s → HasEscape a T (Back a T) s

-- rounds shrink and hold safe states; a state is removed in at most one of them; every secure region lies in each of them;
-- a round that removes nothing leaves a secure set, which all later rounds are; and there is at most one last round
pub record RoundLaws (a : PlainPlant) : Type 0 where
  pub shrink : (i j : ℕ) (s : PlainState) → i ≤ j → InRound a j s → InRound a i s
  pub safe : (i : ℕ) (s : PlainState) → InRound a i s → IsSafe a s
  pub once : (i j : ℕ) (s : PlainState) → IsRemovedIn a i s → IsRemovedIn a j s → i ≡ j
  pub holds_secure : (r : PlainRegion) → IsSecure a (InRegion a r) → (i : ℕ) (s : PlainState) → InRegion a r s → InRound a i s
  pub settled : (i : ℕ) → RemovesNothing a (suc i) → IsSecure a (InRound a i)
  pub stays : (i j : ℕ) (s : PlainState) → RemovesNothing a (suc i) → InRound a i s → InRound a j s
  pub last_once : (i j : ℕ) → IsLastRound a i → IsLastRound a j → i ≡ j

-- the guards of the controller are the states of its region that are in Back of it by the switch
abbrev pub HasExactGuards : PlainPlant → PlainController → Type 0
HasExactGuards a c = (e : ℕ) (s : PlainState) → InGuard a c.guards e s ↔ (InRegion a c.region s × BackBy a (InRegion a c.region) e s)

-- a secure region with these guards is a valid controller, and so is the region of a round after which nothing is removed
pub record ValidLaws (a : PlainPlant) (c : PlainController) : Type 0 where
  pub secure : HasExactGuards a c → IsSecure a (InRegion a c.region) → IsValid a c
  pub settled : HasExactGuards a c → (i : ℕ) → RemovesNothing a (suc i) → ((s : PlainState) → InRegion a c.region s ↔ InRound a i s) → IsValid a c

-- in a proper plant whose invariants the region lies inside, the results that the calculus picks are a legal choice
abbrev pub PicksLaw : PlainPlant → PlainRegion → Type 0
PicksLaw a region = IsProper a → IsRegionInside a region → IsLegalChoice a region (picks a region)

-- a valid controller with a legal choice of results has a run over each legal log, it has one alone, and the visited states of each
-- run are in its region; each log is legal or has a first illegal entry, not both, and one alone
pub record RunLaws (choice : Choice) (a : PlainPlant) (c : PlainController) : Type 0 where
  pub answered : IsLegalChoice a c.region choice → IsValid a c → (start : PlainState) (entries : List PlainEntry)
      → IsLegalLog choice a c start entries → StaysInside choice a c start entries
  pub inside : IsLegalChoice a c.region choice → IsValid a c
      → (start : PlainState) (entries : List PlainEntry) (trace : List PlainStep) (last : RunPlace)
      → IsRun choice a c start entries trace last → EachVisited (InRegion a c.region) start trace
  pub determined : (start : PlainState) (entries : List PlainEntry) (trace made : List PlainStep) (last there : RunPlace)
      → IsRun choice a c start entries trace last → IsRun choice a c start entries made there → (trace ≡ made) × (last ≡ there)
  pub decided : IsLegalChoice a c.region choice → IsValid a c → (start : PlainState) (entries : List PlainEntry)
      → IsLegalLog choice a c start entries ⊎ ((n : ℕ) × IsFirstIllegal choice a c start entries n)
  pub exclusive : (start : PlainState) (entries : List PlainEntry) (n : ℕ) → IsLegalLog choice a c start entries
      → ¬ IsFirstIllegal choice a c start entries n
  pub one_illegal : (start : PlainState) (entries : List PlainEntry) (m n : ℕ) → IsFirstIllegal choice a c start entries m
      → IsFirstIllegal choice a c start entries n → m ≡ n

-- a sound record is true; a true one names the round in which each of its states was removed; and where each of its states is in Out or not in Back, its pieces alone show the move
pub record LossLaws (a : PlainPlant) (losses : List PlainLoss) (loss : PlainLoss) : Type 0 where
  pub sound_true : IsSoundLoss a losses loss → IsTrueLoss a losses loss
  pub named : IsTrueLoss a losses loss → (s : PlainState) → InLoss a loss s → IsRemovedIn a loss.round s
  pub shown : (i : ℕ) → ((s : PlainState) → InLoss a loss s → MayPass a (InRound a i) (Back a (InRound a i)) s)
      → Shows a (InRound a i) losses loss loss.cause
      → (s : PlainState) → InLoss a loss s → HasMove a (InRound a i) losses loss loss.cause s

-- a region that is the round before the last one, with the guards from its Back and with true records of all that was lost, is a
-- solution
abbrev pub SolvedLaw : Type 0
SolvedLaw = (a : PlainPlant) (c : PlainController) (i : ℕ) (losses : List PlainLoss) → IsLastRound a (suc i) → ((s : PlainState) → InRegion a c.region s ↔ InRound a i s) → HasExactGuards a c
    → ((s : PlainState) → IsSafe a s → ¬ InRegion a c.region s → InSomeLoss a losses s) → ((loss : PlainLoss) → Contains losses loss → IsTrueLoss a losses loss)
    → IsSolution a c (suc i) losses

-- a still plant: each play stays at its point; and where there is no switch, no region has an escape past another, each round
-- is all safe states, round 1 is the last, and a region of the safe states solves the game, with any guards and no record
pub record StillLaws (a : PlainPlant) : Type 0 where
  pub stays : IsStill a → (s : PlainState) (moves : List PlainMove) → IsPlayFrom a s moves → EachPoint (λ p. p ≡ s.at) s.at moves
  pub closed : IsStill a → HasNoSwitch a → (r k : PlainRegion) (s : PlainState) → InRegion a r s → ¬ HasEscape a (InRegion a r) (InRegion a k) s
  pub rounds : IsStill a → HasNoSwitch a → (i : ℕ) (s : PlainState) → InRound a i s ↔ IsSafe a s
  pub last : IsStill a → HasNoSwitch a → IsLastRound a 1
  pub solved : IsStill a → HasNoSwitch a → (r : PlainRegion) (g : PlainGuards) → ((s : PlainState) → InRegion a r s ↔ IsSafe a s)
      → IsSolution a (record { region = r; guards = g }) 1 []

-- whether bytes are a name, and whether they are the name of a variable, is decidable; a name has at least one byte
pub record WordLaws : Type 0 where
  pub name : (bytes : List ℕ) → IsName bytes ⊎ ¬ IsName bytes
  pub variable : (bytes : List ℕ) → IsVariable bytes ⊎ ¬ IsVariable bytes
  pub some_byte : (bytes : List ℕ) → IsName bytes → 0 < length bytes

-- the pieces of the safe region of a plant hold exactly its safe states, which are round 0
abbrev pub SafeRegionLaw : PlainPlant → Type 0
SafeRegionLaw a = IsProper a → (s : PlainState) → InRegion a (safe_region a).value s ↔ IsSafe a s
