-- Which text tells what becomes of a state of a plant within a budget of rounds, with which status?
use Rattle.std.specs.Prelude.{◌≡◌, ◌<◌, ◌≤◌, ◌⊎◌, ℕ, Bool, true, false, List, ◌++◌, codes, decimal}
use Rattle.lhg_num.specs.FracArithmetic.{frac_arithmetic}
use Rattle.lhg_num.specs.Marked.{Marked, valued}
use Rattle.lhg_plant.specs.LegalTruths.{state_truth, safe_truth}
use Rattle.lhg_plant.specs.Plant.{PlainPlant}
use Rattle.lhg_plant.specs.State.{PlainState, IsState, IsSafe}
use Rattle.lhg_plant.specs.Round.{InRound, IsRemovedIn}
use Rattle.lhg_plant.specs.Loss.{PlainLoss}
use Rattle.lhg_loss.specs.Holding.{holding}
use Rattle.lhg_loss.specs.Iterate.{stage, nothing, solution, spent}
use Rattle.lhg_loss.specs.StageFacts.{IsSpent, RemovesSome}
use Rattle.lhg_iterate.specs.Seeking.{IsKept, IsLost, IsSeekStopIn, IsWideState}
use Rattle.lhg_iterate.specs.SeekWork.{IsUndecided, seek_work}
use Rattle.lhg_plant.specs.Explained.{PlainEscape}
use Rattle.lhg_loss.specs.Explanation.{explanation}
use Rattle.lhg_plant.specs.Explained.{IsExplained}
use Rattle.lhg_row_text.specs.PrintedLine.{line}
use Rattle.lhg_row_text.specs.PointText.{state_text}
use Rattle.lhg_text.specs.EscapeText.{escape_text}
use Rattle.lhg_input.specs.Inputs.{IsStateInput}
use Rattle.lhg_cli.specs.InputAnswer.{IsInput}
use Rattle.lhg_cli.specs.declared.status.Status.{Status}
use Rattle.lhg_cli.specs.declared.status.Status.TheVariants as status

-- ---- what is told
-- a round up to the budget is the first that removes nothing, and the state is still there
pub record IsKeptText (a : PlainPlant) (budget : ℕ) (z : PlainState) (text : List ℕ) : Type 0 where
  pub rounds : ℕ
  pub kept : IsKept a budget rounds z
  pub printed : text ≡ line (codes "kept")

-- the text of an escape
abbrev pub text_of : PlainPlant → PlainEscape → List ℕ
text_of a e = escape_text a e.round e.way.moves e.way.last

-- a round up to the budget removes the state, and the text is that of an escape of the state from the round before, past its Back:
-- the one that the calculus makes of the first record that holds the state
pub record IsLostText (a : PlainPlant) (budget : ℕ) (z : PlainState) (text : List ℕ) : Type 0 where
  pub number : ℕ
  pub losses : List PlainLoss
  pub lost : IsLost a budget number losses z
  pub explained : IsExplained a z (explanation a losses number z).value
  pub printed : text ≡ text_of a (explanation a losses number z).value

-- the point is not in the invariant, no safe line holds at the state, or it is kept
abbrev pub IsNotLostText : PlainPlant → ℕ → PlainState → List ℕ → Type 0
IsNotLostText a budget z text = ((text ≡ line (codes "outside")) × ¬ IsState a z) ⊎ (((text ≡ line (codes "unsafe")) × IsState a z × ¬ IsSafe a z) ⊎ IsKeptText a budget z text)

-- one of these, or it is lost
abbrev pub IsTold : PlainPlant → ℕ → PlainState → List ℕ → Type 0
IsTold a budget z text = IsNotLostText a budget z text ⊎ IsLostText a budget z text

-- ---- what is not told
-- a number is too wide in a row at the asked state
pub record IsWideStateText (a : PlainPlant) (budget : ℕ) (z : PlainState) (text : List ℕ) : Type 0 where
  pub wide : IsWideState a budget z
  pub printed : text ≡ line (codes "wide state")

-- no round before round i decides, what is formed in its work to seek the state has the mark of a limit, and the answer names both
pub record IsSeekLimit (a : PlainPlant) (budget : ℕ) (z : PlainState) (limit : List ℕ) (mark : Marked (Unit {0}) → Bool) (text : List ℕ) : Type 0 where
  pub round : ℕ
  pub stop : IsSeekStopIn a budget z round mark
  pub printed : text ≡ line (limit ++ codes " round " ++ decimal round)

-- the state is lost, its explanation has the mark of a limit, and the answer names the limit and the round that removes the state
pub record IsExplainLimit (a : PlainPlant) (budget : ℕ) (z : PlainState) (limit : List ℕ) (mark : Marked (Unit {0}) → Bool) (text : List ℕ) : Type 0 where
  pub number : ℕ
  pub losses : List PlainLoss
  pub lost : IsLost a budget number losses z
  pub marked : mark (valued nothing (explanation a losses number z)) ≡ true
  pub round : ℕ
  pub removed : IsRemovedIn a round z
  pub printed : text ≡ line (limit ++ codes " round " ++ decimal round)

-- each round up to the budget removes a state, the asked one is in the last, and the answer names the budget and a state that the last
-- round removes, which is that of the calculus
pub record IsStillInText (a : PlainPlant) (budget : ℕ) (z : PlainState) (text : List ℕ) : Type 0 where
  pub state : PlainState
  pub removed : IsSpent a budget state
  pub calculus : solution a budget ≡ spent state
  pub kept : InRound a budget z
  pub printed : text ≡ line (codes "spent " ++ decimal budget) ++ line (codes "state " ++ state_text a state)

-- why it is not told what becomes of the state, where no explanation is asked for yet
abbrev pub IsUnsoughtText : ℕ → PlainPlant × PlainState → Status → List ℕ → Type 0
IsUnsoughtText budget (a, z) status.Done text = ⊥
IsUnsoughtText budget (a, z) status.No text = ⊥
IsUnsoughtText budget (a, z) status.Words text = ⊥
IsUnsoughtText budget (a, z) status.Text text = ⊥
IsUnsoughtText budget (a, z) status.Wide text = IsWideStateText a budget z text ⊎ IsSeekLimit a budget z (codes "wide") (λ m. m.wide) text
IsUnsoughtText budget (a, z) status.Lists text = IsSeekLimit a budget z (codes "rows") (λ m. m.rows) text ⊎ IsSeekLimit a budget z (codes "pieces") (λ m. m.pieces) text
IsUnsoughtText budget (a, z) status.Spent text = IsStillInText a budget z text
IsUnsoughtText budget (a, z) status.Read text = ⊥
IsUnsoughtText budget (a, z) status.Write text = ⊥
IsUnsoughtText budget (a, z) status.Memory text = ⊥

-- ---- answers
-- the text that stands for the status where an explanation of a state is asked for
abbrev pub IsStateAnswer : ℕ → PlainPlant × PlainState → Status → List ℕ → Type 0
IsStateAnswer budget (a, z) status.Done text = IsTold a budget z text
IsStateAnswer budget (a, z) status.No text = ⊥
IsStateAnswer budget (a, z) status.Words text = ⊥
IsStateAnswer budget (a, z) status.Text text = ⊥
IsStateAnswer budget (a, z) status.Wide text =
    IsWideStateText a budget z text ⊎ (IsSeekLimit a budget z (codes "wide") (λ m. m.wide) text ⊎ IsExplainLimit a budget z (codes "wide") (λ m. m.wide) text)
IsStateAnswer budget (a, z) status.Lists text =
    IsSeekLimit a budget z (codes "rows") (λ m. m.rows) text ⊎ (IsSeekLimit a budget z (codes "pieces") (λ m. m.pieces) text ⊎ IsExplainLimit a budget z (codes "rows") (λ m. m.rows) text)
IsStateAnswer budget (a, z) status.Spent text = IsStillInText a budget z text
IsStateAnswer budget (a, z) status.Read text = ⊥
IsStateAnswer budget (a, z) status.Write text = ⊥
IsStateAnswer budget (a, z) status.Memory text = ⊥

-- ---- where an answer is sure
-- no number at the asked state is too wide, and no limit is passed in the work of a round up to the one that decides
pub record IsSoughtWithin (budget : ℕ) (a : PlainPlant) (z : PlainState) : Type 0 where
  pub invariant : (state_truth frac_arithmetic a z).wide ≡ false
  pub safe : (safe_truth frac_arithmetic a z).wide ≡ false
  pub records : (i : ℕ) → 0 < i → i ≤ budget → IsUndecided a i z → (holding z (stage a i).value.last).wide ≡ false
  pub numbers : (i : ℕ) → i ≤ budget → IsUndecided a i z → (seek_work a budget z i).wide ≡ false
  pub rows : (i : ℕ) → i ≤ budget → IsUndecided a i z → (seek_work a budget z i).rows ≡ false
  pub pieces : (i : ℕ) → i ≤ budget → IsUndecided a i z → (seek_work a budget z i).pieces ≡ false

-- nor by an explanation
pub record IsWithinSeek (budget : ℕ) (input : PlainPlant × PlainState) : Type 0 where
  pub sought : IsSoughtWithin budget input.0 input.1
  pub explained_numbers : (m : ℕ) (losses : List PlainLoss) → IsLost input.0 budget m losses input.1 → (explanation input.0 losses m input.1).wide ≡ false
  pub explained_rows : (m : ℕ) (losses : List PlainLoss) → IsLost input.0 budget m losses input.1 → (explanation input.0 losses m input.1).rows ≡ false

-- the input is a plant and a state, and no limit is passed
pub record IsExplainable (budget : ℕ) (bytes : List ℕ) : Type 0 where
  pub input : IsInput IsStateInput bytes
  pub limits : IsWithinSeek budget input.value

-- each round up to the budget removes a state, and the asked one is in the last
pub record IsStillIn (budget : ℕ) (input : PlainPlant × PlainState) : Type 0 where
  pub removes : (j : ℕ) → 0 < j → j ≤ budget → RemovesSome input.0 j
  pub kept : InRound input.0 budget input.1

-- the answer is told, or where each round removes a state and the asked one is in the last, the budget is spent
abbrev pub IsSureStatus : ℕ → PlainPlant × PlainState → Status → Type 0
IsSureStatus budget input s = ((s ≡ status.Done) × ¬ IsStillIn budget input) ⊎ ((s ≡ status.Spent) × IsStillIn budget input)

-- what is told is told exactly where it is so
pub record IsToldExactly (budget : ℕ) (input : PlainPlant × PlainState) (text : List ℕ) : Type 0 where
  pub outside : ¬ IsState input.0 input.1 → text ≡ line (codes "outside")
  pub unsafe : IsState input.0 input.1 → ¬ IsSafe input.0 input.1 → text ≡ line (codes "unsafe")
  pub kept : (rounds : ℕ) → IsKept input.0 budget rounds input.1 → text ≡ line (codes "kept")
  pub lost : (m : ℕ) (losses : List PlainLoss) → IsLost input.0 budget m losses input.1 → IsLostText input.0 budget input.1 text
