-- Which laws do exchanges obey?
use Rattle.std.specs.Prelude.{◌≡◌, ◌⊎◌, ◌≤◌, ℕ, suc, List, Option, Some, None}
use Rattle.lhg_row.specs.Row.{PlainPoint}
use Rattle.lhg_plant.specs.Plant.{PlainPlant}
use Rattle.lhg_plant.specs.Proper.{IsProper}
use Rattle.lhg_plant.specs.State.{PlainState, IsState}
use Rattle.lhg_plant.specs.declared.plants.Side.TheVariants.{Ctl, Pick}
use Rattle.lhg_plant.specs.Legal.{LegalSwitch, HasSide}
use Rattle.lhg_plant.specs.OutBack.{Back}
use Rattle.lhg_plant.specs.Escape.{MayPass}
use Rattle.lhg_plant.specs.Explained.{IsExplained}
use Rattle.lhg_plant.specs.Rank.{HasRank, IsPast}
use Rattle.lhg_plant.specs.Round.{InRound}
use Rattle.lhg_plant.specs.Loss.{PlainLoss}
use Rattle.lhg_plant.specs.SpoilSteps.{PlainSpoilStep, AreLegalFrom, RanksFall}
use Rattle.lhg_plant.specs.Choice.{result_at}
use Rattle.lhg_spoil.specs.Fibres.{fibre}
use Rattle.lhg_spoil.specs.Known.{AreKnown, AreOffered}
use Rattle.lhg_spoil.specs.Moves.{PlainCtlMove}
use Rattle.lhg_spoil.specs.Exchange.{offer, HasNoFibre, SpoilPlace, IsExchange}
use Rattle.lhg_spoil.specs.Exchanges.{Spoils, IsFirstIllegal}

-- a state has one rank; whether it lies outside a round that the records know is decidable, and it lies there exactly where it is not in the round
pub record RankLaws (a : PlainPlant) (losses : List PlainLoss) (k j : ℕ) : Type 0 where
  pub once : (i m : ℕ) (s : PlainState) → HasRank a i s → HasRank a m s → i ≡ m
  pub gone : (s : PlainState) → IsPast a j s → ¬ InRound a j s
  pub decided : IsProper a → AreKnown a losses k → j ≤ k → (s : PlainState) → IsPast a j s ⊎ ¬ IsPast a j s
  pub past : IsProper a → AreKnown a losses k → j ≤ k → (s : PlainState) → IsState a s → ¬ InRound a j s → IsPast a j s

-- the result of the fibres of a switch is legal and lies outside the round, and there is one where some legal result lies outside
pub record FibreLaws (a : PlainPlant) (losses : List PlainLoss) (k j : ℕ) : Type 0 where
  pub right : IsProper a → AreKnown a losses k → j ≤ k → (e : ℕ) (s : PlainState) (y : PlainPoint) → IsState a s → (fibre a losses j e s).value ≡ Some y
      → LegalSwitch a e s (result_at a e y) × IsPast a j (result_at a e y)
  pub found : IsProper a → AreKnown a losses k → j ≤ k → (e : ℕ) (s z : PlainState) → LegalSwitch a e s z → IsPast a j z → (y : PlainPoint) × ((fibre a losses j e s).value ≡ Some y)

-- at a state of an escape from round j that does not lie outside it, and where no uncontrollable switch has a fibre: a controllable switch whose result
-- the plant picks has a fibre, where it has a legal result, and each legal result that the controller picks lies outside
pub record LastCaseLaws (a : PlainPlant) (losses : List PlainLoss) (k j : ℕ) (p : PlainState) : Type 0 where
  pub plant : IsProper a → AreKnown a losses k → j ≤ k → IsState a p → MayPass a (InRound a j) (Back a (InRound a j)) p → ¬ IsPast a j p → HasNoFibre a losses j p
      → (e : ℕ) → HasSide a e Ctl → (z : PlainState) → LegalSwitch a e p z → (y : PlainPoint) × ((fibre a losses j e p).value ≡ Some y)
  pub named : IsProper a → AreKnown a losses k → j ≤ k → IsState a p → MayPass a (InRound a j) (Back a (InRound a j)) p → ¬ IsPast a j p → HasNoFibre a losses j p
      → (e : ℕ) → HasSide a e Pick → (z : PlainState) → LegalSwitch a e p z → IsPast a j z

-- an exchange from the rank j + 1 whose offer explains why the state was lost ends at a rank of at most j
abbrev pub ExchangeLaw : PlainPlant → List PlainLoss → ℕ → Type 0
ExchangeLaw a losses k = IsProper a → AreKnown a losses k → (j : ℕ) → j ≤ k → (r : SpoilPlace) (move : Option PlainCtlMove) (steps : List PlainSpoilStep) (next : SpoilPlace)
    → IsExplained a r.state (offer a losses r.state).value → IsExchange a losses j r move steps next → IsPast a j next.state

-- the exchanges of a list of moves from a state of rank i: they are at most i, their steps are legal, the ranks from which they begin fall, and the last state is unsafe
pub record WinLaws (a : PlainPlant) (losses : List PlainLoss) (k i n : ℕ) (start : PlainState) (moves : List PlainCtlMove) (trace : List PlainSpoilStep) (last : PlainState) : Type 0 where
  pub few : IsProper a → AreKnown a losses k → AreOffered a losses k → i ≤ k → HasRank a i start → Spoils a losses start moves n trace last → n ≤ i
  pub legal : IsProper a → AreKnown a losses k → AreOffered a losses k → i ≤ k → HasRank a i start → Spoils a losses start moves n trace last → AreLegalFrom a start None trace last
  pub falls : IsProper a → AreKnown a losses k → AreOffered a losses k → i ≤ k → HasRank a i start → Spoils a losses start moves n trace last → RanksFall (suc i) trace
  pub unsafe : IsProper a → AreKnown a losses k → AreOffered a losses k → i ≤ k → HasRank a i start → Spoils a losses start moves n trace last → HasRank a 0 last

-- the exchanges of a list of moves have one outcome at most; where they have one no move is illegal; and there is one first illegal move at most
pub record OutcomeLaws (a : PlainPlant) (losses : List PlainLoss) (start : PlainState) (moves : List PlainCtlMove) : Type 0 where
  pub once : (n m : ℕ) (trace made : List PlainSpoilStep) (last there : PlainState) → Spoils a losses start moves n trace last → Spoils a losses start moves m made there
      → (n ≡ m) × (trace ≡ made) × (last ≡ there)
  pub exclusive : (n number : ℕ) (trace made : List PlainSpoilStep) (last : PlainState) → Spoils a losses start moves n trace last → ¬ IsFirstIllegal a losses start moves number made
  pub one_illegal : (number other : ℕ) (trace made : List PlainSpoilStep) → IsFirstIllegal a losses start moves number trace → IsFirstIllegal a losses start moves other made
      → (number ≡ other) × (trace ≡ made)

-- where what is offered from each state removed in a round up to k explains why it was lost, each list of moves is answered to the end from a state of a rank up to k,
-- or has a first move that is not legal
abbrev pub DecidedLaw : PlainPlant → List PlainLoss → ℕ → Type 0
DecidedLaw a losses k = IsProper a → AreKnown a losses k → AreOffered a losses k → (i : ℕ) (start : PlainState) (moves : List PlainCtlMove) → i ≤ k → HasRank a i start
    → ((n : ℕ) × (trace : List PlainSpoilStep) × (last : PlainState) × Spoils a losses start moves n trace last)
    ⊎ ((number : ℕ) × (trace : List PlainSpoilStep) × IsFirstIllegal a losses start moves number trace)
