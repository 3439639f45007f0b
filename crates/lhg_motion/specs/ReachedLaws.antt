-- Which laws does the calculus of reach obey?
use Rattle.std.specs.Prelude.{◌≡◌, ◌↔◌, ◌≤◌, ◌*◌, ℕ, false, List, ◌++◌, length}
use Rattle.lhg_num.specs.Arithmetic.{Arithmetic, IsLawful}
use Rattle.lhg_row.specs.Row.{PlainPoint}
use Rattle.lhg_row.specs.Piece.{PlainPiece, InSome}
use Rattle.lhg_row.specs.Width.{AllWide}
use Rattle.lhg_row.specs.Lists.{is_past_list}
use Rattle.lhg_row.specs.PieceFacts.{AllOver}
use Rattle.lhg_motion.specs.CrossFact.{CrossIsExact}
use Rattle.lhg_motion.specs.Reach.{HasPlay, IsSettled}
use Rattle.lhg_motion.specs.Found.{pieces_of, EachPlays}
use Rattle.lhg_motion.specs.Reached.{IsReached}
use Rattle.lhg_motion.specs.ReachCalculus.{reach}

-- for every lawful type, over n variables, where crossings are exact
module _ (a : Arithmetic) (n : ℕ) (bad near : List PlainPiece) (flow : PlainPiece) where
  -- what the calculus gives
  pub record ReachCase : Type 0 where
    pub reached : IsReached a n bad near flow (reach a n bad near flow).value
    pub plays : EachPlays n bad near bad flow (reach a n bad near flow).value.found
    pub few : (reach a n bad near flow).value.layers ≤ 2 * length (bad ++ near)
    pub settled : is_past_list (bad ++ pieces_of (reach a n bad near flow).value.found) ≡ false
        → IsSettled n near (bad ++ near) (bad ++ pieces_of (reach a n bad near flow).value.found) flow
    pub exact : is_past_list (bad ++ pieces_of (reach a n bad near flow).value.found) ≡ false → (x : PlainPoint) → length x ≡ n
        → InSome (bad ++ pieces_of (reach a n bad near flow).value.found) x ↔ HasPlay bad near flow x

-- the found pieces are those of layers, few of them, and each shows plays by way of the crossing that it names; within the limit a point is in a
-- bad or found piece exactly where it has a play; and where no list of pieces is past its limit, that of what is found is not
pub record ReachedLaws : Type 0 where
  pub case : (a : Arithmetic) (n : ℕ) (bad near : List PlainPiece) (flow : PlainPiece) → IsLawful a → CrossIsExact a n → AllOver n bad → AllOver n near → AllWide n flow → ReachCase a n bad near flow
  pub limit : (a : Arithmetic) (n : ℕ) (bad near : List PlainPiece) (flow : PlainPiece) → (reach a n bad near flow).pieces ≡ false
      → is_past_list (bad ++ pieces_of (reach a n bad near flow).value.found) ≡ false
