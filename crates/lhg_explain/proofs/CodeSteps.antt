-- What is known of values that the code holds.
use Rattle.std.proofs.Common.{◌≡◌, ◌<◌, ◌≤◌, ◌-◌, ℕ, zero, suc, cond, List, [], ◌∷◌, take, length, get_or, slice_get, Some, ap, ◌∙◌, subst, arith}
use Rattle.lhg_math.specs.Number.{Number, lt, nought, neg}
use Rattle.lhg_math.specs.Signs.{size_of, is_nought}
use Rattle.lhg_math.specs.SignLaws.{is_nought-neg}
use Rattle.lhg_math.specs.Tests.{AllOf, by_bool}
use Rattle.lhg_row.specs.Row.{PlainPoint}
use Rattle.lhg_row.specs.Piece.{PlainPiece}
use Rattle.lhg_row.specs.Width.{AllWide}
use Rattle.lhg_motion.specs.Play.{last_point}
use Rattle.lhg_loss.specs.declared.losses.Loss.{Loss}
use Rattle.lhg_loss.specs.Views.{plain_loss, plain_losses, LossVars, AllHaveVars}
use Rattle.lhg_play.specs.declared.plays.Move.{Move}
use Rattle.lhg_play.specs.Views.{plain_moves}
use Rattle.lhg_loss.specs.ExplainFacts.{IsWideLoss}

-- a number is 0 where its size is
pub nought_size : (x : Number) → is_nought (size_of x) ≡ is_nought x
nought_size x = by_bool (lt x nought) (λ e. ap (λ b. is_nought (cond b (neg x) x)) e ∙ is_nought-neg x) (λ e. ap (λ b. is_nought (cond b (neg x) x)) e)

-- ---- lists
-- what holds of the first members and of the next one
pub all_taken : {A : Type 0} (P : A → Type 0) (xs : List A) (i : ℕ) (x : A) → AllOf P (take i xs) → i < length xs → x ≡ get_or xs i x → P x → AllOf P (take (suc i) xs)
all_taken P [] i x h l e p = absurd (omega arith)
all_taken P (y ∷ xs) zero x h l e p = (subst P e p, tt)
all_taken P (y ∷ xs) (suc i) x h l e p = (h.0, all_taken P xs i x h.1 (omega arith) e p)

-- rows over many variables have at least as many coefficients
pub wide_long : (m k : ℕ) (rows : PlainPiece) → m ≤ k → AllWide k rows → AllOf (λ r. m ≤ length r.coefs) rows
wide_long m k [] l h = tt
wide_long m k (r ∷ rows) l h = ((let e = h.0 in omega arith), wide_long m k rows l h.1)

-- ---- plays
-- the end of the last flow
pub last_end : (x : PlainPoint) (moves : List Move) (m : Move) → Some m ≡ slice_get moves (length moves - 1) → m.to ≡ last_point x (plain_moves moves)
last_end x [] m e = cc
last_end x (y ∷ []) m e = let same : m ≡ y = cc in ap (λ (w : Move). w.to) same
last_end x (y ∷ z ∷ moves) m e =
    let same : length (y ∷ z ∷ moves) - 1 ≡ suc (length (z ∷ moves) - 1) = omega arith in
    last_end y.to (z ∷ moves) m (e ∙ ap (slice_get (y ∷ z ∷ moves)) same)

-- ---- records
-- the pieces of the record are as wide as they are said to be
abbrev pub TellsWidth : Loss → Type 0
TellsWidth loss = (n : ℕ) → LossVars n loss → IsWideLoss n (plain_loss loss)

-- the same of each record
pub all_wide : (n : ℕ) (losses : List Loss) → AllOf TellsWidth losses → AllHaveVars n losses → AllOf (IsWideLoss n) (plain_losses losses)
all_wide n [] h v = tt
all_wide n (r ∷ rs) h v = (h.0 n v.0, all_wide n rs h.1 v.1)
