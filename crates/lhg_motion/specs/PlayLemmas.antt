-- Plays are read flow by flow: the earlier points of none, of one and of more flows.
use Rattle.std.specs.Prelude.{◌≡◌, ℕ, zero, suc, true, List, [], ◌∷◌, length}
use Rattle.std.proofs.Common.{refl, arith}
use Rattle.lhg_math.specs.Number.{Number, lt, unit}
use Rattle.lhg_math.specs.Places.{IsPlace}
use Rattle.lhg_row.specs.Row.{PlainPoint}
use Rattle.lhg_row.specs.Piece.{PlainPiece, InPiece}
use Rattle.lhg_motion.specs.Segment.{along}
use Rattle.lhg_motion.specs.Play.{PlainMove, IsPlay, last_point, point_of, IsEarlier, EachEarlier}

-- what holds of each earlier point is weakened there
pub earlier_weaken : (P Q : PlainPoint → Type 0) → ((p : PlainPoint) → P p → Q p) → (x : PlainPoint) (moves : List PlainMove) → EachEarlier P x moves
    → EachEarlier Q x moves
earlier_weaken P Q f x moves h = λ k p i. f _ (h k p i)

-- a play without flows has no earlier place
no_flow : (k : ℕ) (p : Number) → IsEarlier [] k p → ⊥
no_flow k p i = let f = i.flow in omega arith

-- a play without flows has no earlier point
pub earlier_none : (P : PlainPoint → Type 0) (x : PlainPoint) → EachEarlier P x []
earlier_none P x = λ k p i. absurd (no_flow k p i)

-- the earlier points of one flow
pub earlier_one : (P : PlainPoint → Type 0) (x : PlainPoint) (m : PlainMove) → ((p : Number) → IsPlace p → lt p unit ≡ true → P (along x m.to p))
    → EachEarlier P x (m ∷ [])
earlier_one P x m h = all
  where
    all : (k : ℕ) (p : Number) → IsEarlier (m ∷ []) k p → P (point_of x (m ∷ []) k p)
    all zero p i = h p i.place (i.before_end refl)
    all (suc k) p i = absurd (let f = i.flow in omega arith)

-- what holds of each earlier point of one flow holds at each place before its end
pub one_earlier : (P : PlainPoint → Type 0) (x : PlainPoint) (m : PlainMove) → EachEarlier P x (m ∷ []) → (p : Number) → IsPlace p → lt p unit ≡ true
    → P (along x m.to p)
one_earlier P x m h p i l = h zero p (record { flow = omega arith; place = i; before_end = λ e. l })

-- the earlier points of a flow and of at least one more
pub earlier_more : (P : PlainPoint → Type 0) (x : PlainPoint) (m n : PlainMove) (ms : List PlainMove)
    → ((p : Number) → IsPlace p → P (along x m.to p)) → EachEarlier P m.to (n ∷ ms) → EachEarlier P x (m ∷ n ∷ ms)
earlier_more P x m n ms h r = all
  where
    all : (k : ℕ) (p : Number) → IsEarlier (m ∷ n ∷ ms) k p → P (point_of x (m ∷ n ∷ ms) k p)
    all zero p i = h p i.place
    all (suc k) p i = r k p (record { flow = let f = i.flow in omega arith; place = i.place; before_end = λ (e : suc k ≡ length (n ∷ ms)). i.before_end (omega arith) })

-- what holds of each earlier point holds of the whole first flow where more follow
pub more_first : (P : PlainPoint → Type 0) (x : PlainPoint) (m n : PlainMove) (ms : List PlainMove) → EachEarlier P x (m ∷ n ∷ ms) → (p : Number)
    → IsPlace p → P (along x m.to p)
more_first P x m n ms h p i = h zero p (record { flow = omega arith; place = i; before_end = λ (e : suc zero ≡ length (m ∷ n ∷ ms)). absurd (omega arith) })

-- what holds of each earlier point holds of those of the later flows
pub more_rest : (P : PlainPoint → Type 0) (x : PlainPoint) (m n : PlainMove) (ms : List PlainMove) → EachEarlier P x (m ∷ n ∷ ms)
    → EachEarlier P m.to (n ∷ ms)
more_rest P x m n ms h = λ k p i. h (suc k) p (later k p i)
  where
    later : (k : ℕ) (p : Number) → IsEarlier (n ∷ ms) k p → IsEarlier (m ∷ n ∷ ms) (suc k) p
    later k p i = record { flow = let f = i.flow in omega arith; place = i.place; before_end = λ (e : suc (suc k) ≡ length (m ∷ n ∷ ms)). i.before_end (omega arith) }

-- the last point of a play is in the invariant
pub play_ends : (inv flow : PlainPiece) (x : PlainPoint) (moves : List PlainMove) → IsPlay inv flow x moves → InPiece inv (last_point x moves)
play_ends inv flow x [] h = h
play_ends inv flow x (m ∷ ms) h = play_ends inv flow m.to ms h.1
