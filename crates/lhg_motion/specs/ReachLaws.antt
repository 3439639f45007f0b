-- Which laws does reach obey on plain data?
use Rattle.std.specs.Prelude.{◌≡◌, ◌⊎◌, ◌↔◌, ◌<◌, ◌≤◌, ◌*◌, ℕ, suc, List, [], ◌++◌, length}
use Rattle.lhg_row.specs.Row.{PlainPoint}
use Rattle.lhg_row.specs.Piece.{PlainPiece, InPiece, InSome}
use Rattle.lhg_motion.specs.Play.{PlainMove, IsPlay, EachPoint}
use Rattle.lhg_motion.specs.Crossing.{GoesThrough}
use Rattle.lhg_motion.specs.Reach.{HasPlay, HasStep, EachStep, IsSettled, InLevel, AreLayers, IsLayer, all_known, EachCovered, AreCrossings, IsKept}
use Rattle.lhg_motion.specs.Found.{PlainFound, EachNamed, pieces_of, EachPlays}

-- what crossings find has a play, and what has a play is found
pub record ReachLaws : Type 0 where
  pub sound : (n : ℕ) (bad near found : List PlainPiece) (flow : PlainPiece) → EachStep n near (bad ++ near) bad flow found → (x : PlainPoint) → length x ≡ n → InSome (bad ++ found) x → HasPlay bad near flow x
  pub whole : (n : ℕ) (bad near found : List PlainPiece) (flow : PlainPiece) → IsSettled n near (bad ++ near) (bad ++ found) flow → (x : PlainPoint) → length x ≡ n → HasPlay bad near flow x → InSome (bad ++ found) x
  pub exact : (n : ℕ) (bad near found : List PlainPiece) (flow : PlainPiece) → EachStep n near (bad ++ near) bad flow found → IsSettled n near (bad ++ near) (bad ++ found) flow → (x : PlainPoint) → length x ≡ n → InSome (bad ++ found) x ↔ HasPlay bad near flow x
  pub rest : (piece : PlainPiece) (x : PlainPoint) → GoesThrough piece x x ↔ InPiece piece x
  pub named : (n : ℕ) (bad near : List PlainPiece) (flow : PlainPiece) (fs : List PlainFound) → EachNamed n near (bad ++ near) bad flow fs → (x : PlainPoint) → length x ≡ n → InSome (bad ++ pieces_of fs) x → HasPlay bad near flow x
  pub invariant : (n : ℕ) (inv flow : PlainPiece) (ways : List PlainPiece) → ((p : PlainPoint) → length p ≡ n → InSome ways p → InPiece inv p) → (x : PlainPoint) → length x ≡ n → (moves : List PlainMove) → EachPoint (λ p. InSome ways p) x moves → IsPlay [] flow x moves ↔ IsPlay inv flow x moves

-- the levels that layers reach
pub record LayerLaws : Type 0 where
  pub play : (bad near : List PlainPiece) (flow : PlainPiece) (n : ℕ) (x : PlainPoint) → InLevel bad near flow n x → HasPlay bad near flow x
  pub within : (bad near : List PlainPiece) (flow : PlainPiece) (x : PlainPoint) → HasPlay bad near flow x → InLevel bad near flow (2 * length (bad ++ near)) x
  pub grows : (bad near : List PlainPiece) (flow : PlainPiece) (i j : ℕ) (x : PlainPoint) → i ≤ j → InLevel bad near flow i x → InLevel bad near flow j x
  pub counts : (bad near : List PlainPiece) (flow : PlainPiece) (n : ℕ) (x : PlainPoint) → InLevel bad near flow (suc n) x → ¬ InLevel bad near flow n x → n < 2 * length (bad ++ near)

-- layers until one more would add nothing
pub record WholeLaws : Type 0 where
  pub exact : (n : ℕ) (bad near : List PlainPiece) (flow : PlainPiece) (layers : List (List PlainPiece)) → AreLayers n near (bad ++ near) bad flow layers → IsSettled n near (bad ++ near) (all_known bad layers) flow → (x : PlainPoint) → length x ≡ n → InSome (all_known bad layers) x ↔ HasPlay bad near flow x
  pub made : (n : ℕ) (near ways known crossings layer : List PlainPiece) (flow : PlainPiece) → AreCrossings n near ways known flow crossings → IsKept n known [] crossings layer → ((layer ≡ []) × IsSettled n near ways known flow) ⊎ IsLayer n near ways known flow layer
  pub few : (n : ℕ) (bad near : List PlainPiece) (flow : PlainPiece) (layers : List (List PlainPiece)) → AreLayers n near (bad ++ near) bad flow layers → length layers ≤ 2 * length (bad ++ near)

-- plays by way of the crossings that are named; crossings over lists
pub record CrossingLaws : Type 0 where
  pub plays : (n : ℕ) (bad near : List PlainPiece) (flow : PlainPiece) (fs : List PlainFound) → EachNamed n near (bad ++ near) bad flow fs → EachPlays n bad near bad flow fs
  pub covered : (n : ℕ) (near ways known : List PlainPiece) (flow : PlainPiece) (found : List PlainPiece) → EachCovered n near ways known flow found → (x : PlainPoint) → length x ≡ n → HasStep near ways known flow x → InSome found x
  pub newest : (n : ℕ) (near ways old newest : List PlainPiece) (flow : PlainPiece) (layer : List PlainPiece)
      → ((x : PlainPoint) → length x ≡ n → HasStep near ways old flow x → InSome (old ++ newest) x) → ((x : PlainPoint) → length x ≡ n → HasStep near ways newest flow x → InSome ((old ++ newest) ++ layer) x)
      → (x : PlainPoint) → length x ≡ n → HasStep near ways (old ++ newest) flow x → InSome ((old ++ newest) ++ layer) x
