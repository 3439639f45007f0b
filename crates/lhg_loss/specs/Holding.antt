-- Which record is the first that holds a state, and which records are of a location?
use Rattle.std.specs.Prelude.{◌≡◌, ◌⊎◌, ℕ, Bool, cond, List, [], ◌∷◌, filter, nat_eq, Option, Some, None}
use Rattle.lhg_num.specs.FracArithmetic.{frac_arithmetic}
use Rattle.lhg_num.specs.Marked.{Marked, done, and_then, valued}
use Rattle.lhg_row.specs.Piece.{InPiece}
use Rattle.lhg_row.specs.Truths.{piece_truth}
use Rattle.lhg_plant.specs.State.{PlainState}
use Rattle.lhg_plant.specs.Loss.{PlainLoss}

-- ---- the first
-- the number of this record where the state is in it, else what is found later
abbrev pub this_or : ℕ → Marked (Option ℕ) → Bool → Marked (Option ℕ)
this_or number later b = valued (λ o. cond b (Some number) o) later

-- the number of the first record of the state's location whose piece has the point; the marks are those of all pieces of the location
abbrev pub holding : PlainState → List PlainLoss → Marked (Option ℕ)
holding s [] = done None
holding s (r ∷ rs) =
    let later = holding s rs in
    let here = and_then (piece_truth frac_arithmetic r.piece s.at) (this_or r.number later) in
    cond (nat_eq r.loc s.loc) here later

-- the record is of the state's location, and its piece has the point
pub record HoldsState (r : PlainLoss) (s : PlainState) : Type 0 where
  pub here : r.loc ≡ s.loc
  pub inside : InPiece r.piece s.at

-- the first record that holds the state has this number; none holds it
abbrev pub IsFirstHolding : PlainState → List PlainLoss → Option ℕ → Type 0
IsFirstHolding s [] o = o ≡ None
IsFirstHolding s (r ∷ rs) o = (HoldsState r s × (o ≡ Some r.number)) ⊎ (¬ HoldsState r s × IsFirstHolding s rs o)

-- ---- of a location
-- those of one location, in order
abbrev pub losses_in : ℕ → List PlainLoss → List PlainLoss
losses_in l losses = filter (λ r. nat_eq r.loc l) losses
