-- The points of a play that begins with a flow, and plays inside pieces that lie inside the invariant.
use Rattle.std.specs.Prelude.{◌≡◌, ℕ, List, [], ◌∷◌, length}
use Rattle.std.proofs.Common.{sym, ap, ◌∙◌, subst}
use Rattle.lhg_math.specs.Number.{Number, lt, nought, unit}
use Rattle.lhg_math.specs.NumberOrder.{lt_antisymm}
use Rattle.lhg_math.specs.Places.{IsPlace}
use Rattle.lhg_math.specs.PlacesLaws.{start_place}
use Rattle.lhg_math.specs.Tests.{by_bool}
use Rattle.lhg_row.specs.Row.{PlainPoint}
use Rattle.lhg_row.specs.Piece.{PlainPiece, InPiece, InSome}
use Rattle.lhg_motion.specs.Segment.{along}
use Rattle.lhg_motion.specs.SegmentLemmas.{along_start, along_end, length-along}
use Rattle.lhg_motion.specs.Play.{PlainMove, IsPlay, EachPoint}
use Rattle.lhg_motion.specs.PlayLemmas.{earlier_none, earlier_one, one_earlier, earlier_more, more_first, more_rest}

-- the points of a play that begins with a flow: those of the flow and those of the rest
pub inside_flow : (P : PlainPoint → Type 0) (x : PlainPoint) (m : PlainMove) (ms : List PlainMove) → length x ≡ length m.to → EachPoint P x (m ∷ ms) → (p : Number) → IsPlace p → P (along x m.to p)
inside_flow P x m [] e h p i =
    by_bool (lt p unit)
    (λ f. one_earlier P x m h.0 p i f)
    (λ f. subst (λ (w : PlainPoint). P w) (sym (ap (λ w. along x m.to w) (lt_antisymm p unit f i.upto) ∙ along_end x m.to e)) h.1)
inside_flow P x m (n ∷ ms) e h p i = more_first P x m n ms h.0 p i

-- those of the rest
pub inside_rest : (P : PlainPoint → Type 0) (x : PlainPoint) (m : PlainMove) (ms : List PlainMove) → EachPoint P x (m ∷ ms) → EachPoint P m.to ms
inside_rest P x m [] h = (earlier_none P m.to, h.1)
inside_rest P x m (n ∷ ms) h = (more_rest P x m n ms h.0, h.1)

-- and both together
pub inside_more : (P : PlainPoint → Type 0) (x : PlainPoint) (m : PlainMove) (ms : List PlainMove) → ((p : Number) → IsPlace p → P (along x m.to p)) → EachPoint P m.to ms → EachPoint P x (m ∷ ms)
inside_more P x m [] h r = (earlier_one P x m (λ p i l. h p i), r.1)
inside_more P x m (n ∷ ms) h r = (earlier_more P x m n ms h r.0, r.1)

-- the start is one of the points
pub inside_start : (flow : PlainPiece) (P : PlainPoint → Type 0) (x : PlainPoint) (moves : List PlainMove) → IsPlay [] flow x moves → EachPoint P x moves → P x
inside_start flow P x [] l h = h.1
inside_start flow P x (m ∷ ms) l h = subst (λ (w : PlainPoint). P w) (along_start x m.to l.0.same_length) (inside_flow P x m ms l.0.same_length h nought start_place)

-- a play inside pieces that lie inside the invariant is one of the invariant
pub play_inside : (inv flow : PlainPiece) (P : PlainPoint → Type 0) → ((p : PlainPoint) → P p → InPiece inv p) → (x : PlainPoint) (moves : List PlainMove) → IsPlay [] flow x moves → EachPoint P x moves → IsPlay inv flow x moves
play_inside inv flow P sub x [] l h = sub x h.1
play_inside inv flow P sub x (m ∷ ms) l h =
    let f = l.0 in (
      record { takes_time = f.takes_time; from_in = sub x (inside_start flow P x (m ∷ ms) l h); to_in = sub m.to (inside_start flow P m.to ms l.1 (inside_rest P x m ms h)); same_length = f.same_length; speed = f.speed; slope = f.slope; allowed = f.allowed },
      play_inside inv flow P sub m.to ms l.1 (inside_rest P x m ms h),
    )

-- a play of the invariant is one of the flow set alone
pub play_outside : (inv flow : PlainPiece) (x : PlainPoint) (moves : List PlainMove) → IsPlay inv flow x moves → IsPlay [] flow x moves
play_outside inv flow x [] l = tt
play_outside inv flow x (m ∷ ms) l =
    let f = l.0 in
    (record { takes_time = f.takes_time; from_in = tt; to_in = tt; same_length = f.same_length; speed = f.speed; slope = f.slope; allowed = f.allowed }, play_outside inv flow m.to ms l.1)

-- two facts of each point of a play
pub each_both : (P Q R : PlainPoint → Type 0) → ((p : PlainPoint) → P p → Q p → R p) → (x : PlainPoint) (moves : List PlainMove) → EachPoint P x moves → EachPoint Q x moves → EachPoint R x moves
each_both P Q R f x moves h k = ((λ n p i. f _ (h.0 n p i) (k.0 n p i)), f _ h.1 k.1)

-- all points of a play have as many coordinates as the start
pub each_length : (n : ℕ) (inv flow : PlainPiece) (x : PlainPoint) (moves : List PlainMove) → length x ≡ n → IsPlay inv flow x moves → EachPoint (λ p. length p ≡ n) x moves
each_length n inv flow x [] e h = (earlier_none (λ p. length p ≡ n) x, e)
each_length n inv flow x (m ∷ ms) e h =
    inside_more (λ p. length p ≡ n) x m ms (λ p i. length-along x m.to p h.0.same_length ∙ e) (each_length n inv flow m.to ms (sym h.0.same_length ∙ e) h.1)

-- the same where the pieces lie inside the invariant at points with n coordinates
pub play_within : (n : ℕ) (inv flow : PlainPiece) (ways : List PlainPiece) → ((p : PlainPoint) → length p ≡ n → InSome ways p → InPiece inv p) → (x : PlainPoint) → length x ≡ n → (moves : List PlainMove) → EachPoint (λ p. InSome ways p) x moves → IsPlay [] flow x moves → IsPlay inv flow x moves
play_within n inv flow ways sub x e moves i l =
    play_inside inv flow (λ p. (length p ≡ n) × InSome ways p) (λ p k. sub p k.0 k.1) x moves l
    (each_both (λ p. length p ≡ n) (λ p. InSome ways p) (λ p. (length p ≡ n) × InSome ways p) (λ p h k. (h, k)) x moves (each_length n [] flow x moves e l) i)
