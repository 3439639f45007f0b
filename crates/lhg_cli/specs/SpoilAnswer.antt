-- Which text tells how the plant wins from a state against a controller's moves, within a budget of rounds, with which status?
use Rattle.std.specs.Prelude.{◌≡◌, ◌⊎◌, ℕ, Bool, List, ◌++◌, codes, decimal, Some, None}
use Rattle.lhg_num.specs.Marked.{Marked}
use Rattle.lhg_plant.specs.Plant.{PlainPlant}
use Rattle.lhg_plant.specs.SpoilSteps.{PlainSpoilStep}
use Rattle.lhg_plant.specs.State.{PlainState}
use Rattle.lhg_plant.specs.Loss.{PlainLoss}
use Rattle.lhg_iterate.specs.Seeking.{IsLost}
use Rattle.lhg_spoil.specs.Exchanges.{Spoils, IsFirstIllegal}
use Rattle.lhg_spoil.specs.Moves.{PlainCtlMove}
use Rattle.lhg_spoil.specs.Stops.{IsWon, IsMarkedIn}
use Rattle.lhg_row_text.specs.PrintedLine.{line}
use Rattle.lhg_text.specs.SpoilText.{spoil_text}
use Rattle.lhg_input.specs.Inputs.{IsSpoilInput}
use Rattle.lhg_cli.specs.InputAnswer.{IsInput}
use Rattle.lhg_cli.specs.StateAnswer.{IsNotLostText, IsWideStateText, IsSeekLimit, IsStillInText, IsSoughtWithin, IsStillIn}
use Rattle.lhg_cli.specs.declared.status.Status.{Status}
use Rattle.lhg_cli.specs.declared.status.Status.TheVariants as status

-- ---- what is told
-- the state is lost, and the text is that of the exchanges of the moves from it, by which the plant wins
pub record IsWonText (a : PlainPlant) (budget : ℕ) (z : PlainState) (moves : List PlainCtlMove) (text : List ℕ) : Type 0 where
  pub number : ℕ
  pub losses : List PlainLoss
  pub lost : IsLost a budget number losses z
  pub exchanges : ℕ
  pub steps : List PlainSpoilStep
  pub last : PlainState
  pub spoils : Spoils a losses z moves exchanges steps last
  pub won : IsWon a z exchanges steps last
  pub printed : text ≡ spoil_text a z steps (Some last) None

-- the state is lost, and the text is that of the exchanges before the first move that is not legal at its turn, which it names
pub record IsIllegalMoveText (a : PlainPlant) (budget : ℕ) (z : PlainState) (moves : List PlainCtlMove) (text : List ℕ) : Type 0 where
  pub number : ℕ
  pub losses : List PlainLoss
  pub lost : IsLost a budget number losses z
  pub move : ℕ
  pub steps : List PlainSpoilStep
  pub first : IsFirstIllegal a losses z moves move steps
  pub printed : text ≡ spoil_text a z steps None (Some move)

-- the state is lost, what is formed in an exchange has the mark of a limit, and the answer names the limit and the exchange
pub record IsExchangeText (a : PlainPlant) (budget : ℕ) (z : PlainState) (moves : List PlainCtlMove) (limit : List ℕ) (mark : Marked (Unit {0}) → Bool) (text : List ℕ) : Type 0 where
  pub number : ℕ
  pub losses : List PlainLoss
  pub lost : IsLost a budget number losses z
  pub exchange : ℕ
  pub stop : IsMarkedIn a losses z moves exchange mark
  pub printed : text ≡ line (limit ++ codes " exchange " ++ decimal exchange)

-- ---- answers
-- the text that stands for the status where the exchanges of moves are asked for
abbrev pub IsSpoilOutcome : ℕ → (PlainPlant × PlainState) × List PlainCtlMove → Status → List ℕ → Type 0
IsSpoilOutcome budget input status.Done text = IsNotLostText input.0.0 budget input.0.1 text ⊎ IsWonText input.0.0 budget input.0.1 input.1 text
IsSpoilOutcome budget input status.No text = IsIllegalMoveText input.0.0 budget input.0.1 input.1 text
IsSpoilOutcome budget input status.Words text = ⊥
IsSpoilOutcome budget input status.Text text = ⊥
IsSpoilOutcome budget input status.Wide text =
    IsWideStateText input.0.0 budget input.0.1 text
    ⊎ (IsSeekLimit input.0.0 budget input.0.1 (codes "wide") (λ m. m.wide) text ⊎ IsExchangeText input.0.0 budget input.0.1 input.1 (codes "wide") (λ m. m.wide) text)
IsSpoilOutcome budget input status.Lists text =
    (IsSeekLimit input.0.0 budget input.0.1 (codes "rows") (λ m. m.rows) text ⊎ IsSeekLimit input.0.0 budget input.0.1 (codes "pieces") (λ m. m.pieces) text)
    ⊎ (IsExchangeText input.0.0 budget input.0.1 input.1 (codes "rows") (λ m. m.rows) text ⊎ IsExchangeText input.0.0 budget input.0.1 input.1 (codes "pieces") (λ m. m.pieces) text)
IsSpoilOutcome budget input status.Spent text = IsStillInText input.0.0 budget input.0.1 text
IsSpoilOutcome budget input status.Read text = ⊥
IsSpoilOutcome budget input status.Write text = ⊥
IsSpoilOutcome budget input status.Memory text = ⊥

-- ---- where an answer is sure
-- seeking the state passes no limit up to the round that decides, and no exchange passes one
pub record IsWithinSpoil (budget : ℕ) (input : (PlainPlant × PlainState) × List PlainCtlMove) : Type 0 where
  pub sought : IsSoughtWithin budget input.0.0 input.0.1
  pub numbers : (m : ℕ) (losses : List PlainLoss) (j : ℕ) → IsLost input.0.0 budget m losses input.0.1 → ¬ IsMarkedIn input.0.0 losses input.0.1 input.1 j (λ work. work.wide)
  pub rows : (m : ℕ) (losses : List PlainLoss) (j : ℕ) → IsLost input.0.0 budget m losses input.0.1 → ¬ IsMarkedIn input.0.0 losses input.0.1 input.1 j (λ work. work.rows)
  pub pieces : (m : ℕ) (losses : List PlainLoss) (j : ℕ) → IsLost input.0.0 budget m losses input.0.1 → ¬ IsMarkedIn input.0.0 losses input.0.1 input.1 j (λ work. work.pieces)

-- the input is a plant, a state and moves, and no limit is passed
pub record IsSpoilable (budget : ℕ) (bytes : List ℕ) : Type 0 where
  pub input : IsInput IsSpoilInput bytes
  pub limits : IsWithinSpoil budget input.value

-- the state is lost, and some move is the first that is not legal at its turn
pub record HasIllegalMove (budget : ℕ) (input : (PlainPlant × PlainState) × List PlainCtlMove) : Type 0 where
  pub number : ℕ
  pub losses : List PlainLoss
  pub lost : IsLost input.0.0 budget number losses input.0.1
  pub move : ℕ
  pub steps : List PlainSpoilStep
  pub first : IsFirstIllegal input.0.0 losses input.0.1 input.1 move steps

-- no exactly where a move is not legal; where each round removes a state and the asked one is in the last, the budget is spent; and else
-- the answer is told
abbrev pub IsSureSpoil : ℕ → (PlainPlant × PlainState) × List PlainCtlMove → Status → Type 0
IsSureSpoil budget input s =
    ((s ≡ status.Done) × ¬ IsStillIn budget input.0 × ¬ HasIllegalMove budget input) ⊎ (((s ≡ status.No) × HasIllegalMove budget input) ⊎ ((s ≡ status.Spent) × IsStillIn budget input.0))
