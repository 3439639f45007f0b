-- Crossings by their pieces, and crossings into sets of points.
use Rattle.std.specs.Prelude.{◌≡◌, ◌⊎◌, ℕ, List, [], ◌∷◌, ◌++◌, length, get_or}
use Rattle.std.proofs.Common.{refl, sym, ap, ◌∙◌, inl, inr, subst}
use Rattle.lhg_math.specs.Number.{Number, lt, nought, unit, half}
use Rattle.lhg_math.specs.NumberOrder.{lt_antisymm}
use Rattle.lhg_math.specs.Places.{IsPlace, IsInner}
use Rattle.lhg_math.specs.PlacesLaws.{half_inner}
use Rattle.lhg_math.specs.Tests.{by_bool}
use Rattle.lhg_row.specs.Row.{PlainPoint}
use Rattle.lhg_row.specs.Piece.{PlainPiece, InPiece, InSome}
use Rattle.lhg_motion.specs.SegmentLemmas.{along_same}
use Rattle.lhg_row.specs.Members.{SomeOf}
use Rattle.lhg_motion.specs.Crossing.{GoesThrough, HasCrossing}
use Rattle.lhg_motion.specs.Reach.{HasStep, EachStep, StepsTo}
use Rattle.lhg_motion.specs.Found.{PlainFound, EachNamed, pieces_of}
use Rattle.lhg_row.specs.SomeLists.{some_out, some_map, some_at, in_some_of}

-- a place is an end or strictly between
pub place_cases : (p : Number) → IsPlace p → (p ≡ nought) ⊎ ((p ≡ unit) ⊎ IsInner p)
place_cases p i =
    by_bool (lt nought p)
    (λ e. by_bool (lt p unit) (λ f. inr (inr (record { above = e; below = f }))) (λ f. inr (inl (lt_antisymm p unit f i.upto))))
    (λ e. inl (lt_antisymm p nought i.from e))

-- a flow that stays at a point of a piece goes through it
pub stays_through : (piece : PlainPiece) (x : PlainPoint) → InPiece piece x → GoesThrough piece x x
stays_through piece x h p i = subst (λ (w : PlainPoint). InPiece piece w) (sym (along_same x p)) h

-- and back
pub through_stays : (piece : PlainPiece) (x : PlainPoint) → GoesThrough piece x x → InPiece piece x
through_stays piece x h = subst (λ (w : PlainPoint). InPiece piece w) (along_same x half) (h half half_inner)

-- crossings by their pieces, and into the points of the known pieces
pub step_to : (near ways known : List PlainPiece) (flow : PlainPiece) (x : PlainPoint) → HasStep near ways known flow x → StepsTo near ways flow (λ y. InSome known y) x
step_to near ways known flow x h =
    some_out (λ from. SomeOf (λ through. SomeOf (λ into. HasCrossing from through into flow x) known) ways) (StepsTo near ways flow (λ y. InSome known y) x) near
    (λ from f. some_out (λ through. SomeOf (λ into. HasCrossing from through into flow x) known) (StepsTo near ways flow (λ y. InSome known y) x) ways
    (λ through g. some_out (λ into. HasCrossing from through into flow x) (StepsTo near ways flow (λ y. InSome known y) x) known
    (λ into i c. record {
      from_in = (in_some_of near x).1 (f (λ piece. InPiece piece x) c.from_in);
      time = c.time;
      to = c.to;
      legal = c.legal;
      passes = g (λ piece. GoesThrough piece x c.to) c.passes;
      into = (in_some_of known c.to).1 (i (λ piece. InPiece piece c.to) c.into_in);
    }))) h

-- and back
pub to_step : (near ways known : List PlainPiece) (flow : PlainPiece) (x : PlainPoint) → StepsTo near ways flow (λ y. InSome known y) x → HasStep near ways known flow x
to_step near ways known flow x s =
    some_map (λ from. InPiece from x) (λ from. SomeOf (λ through. SomeOf (λ into. HasCrossing from through into flow x) known) ways)
    (λ from f. some_map (λ through. GoesThrough through x s.to) (λ through. SomeOf (λ into. HasCrossing from through into flow x) known)
    (λ through g. some_map (λ into. InPiece into s.to) (λ into. HasCrossing from through into flow x)
    (λ into i. record { from_in = f; time = s.time; to = s.to; into_in = i; legal = s.legal; passes = g })
    known ((in_some_of known s.to).0 s.into)) ways s.passes) near ((in_some_of near x).0 s.from_in)

-- crossings into a set are crossings into a greater one
pub steps_grow : (near ways : List PlainPiece) (flow : PlainPiece) (K L : PlainPoint → Type 0) → (x : PlainPoint) → ((y : PlainPoint) → length x ≡ length y → K y → L y) → StepsTo near ways flow K x → StepsTo near ways flow L x
steps_grow near ways flow K L x f s = record { from_in = s.from_in; time = s.time; to = s.to; legal = s.legal; passes = s.passes; into = f s.to s.legal.same_length s.into }

-- crossings that are named are crossings
pub named_steps : (n : ℕ) (near ways known : List PlainPiece) (flow : PlainPiece) (fs : List PlainFound) → EachNamed n near ways known flow fs → EachStep n near ways known flow (pieces_of fs)
named_steps n near ways known flow [] h = tt
named_steps n near ways known flow (f ∷ fs) h = (
  (λ x e i. some_map (λ from. HasCrossing from (get_or ways f.through []) (get_or known f.to []) flow x) (λ from. SomeOf (λ through. SomeOf (λ into. HasCrossing from through into flow x) known) ways)
      (λ from c. some_at (λ through. SomeOf (λ into. HasCrossing from through into flow x) known) [] ways f.through h.0.through_there
      (some_at (λ into. HasCrossing from (get_or ways f.through []) into flow x) [] known f.to h.0.to_there c)) near (h.0.crosses x e i)),
  named_steps n near ways (known ++ (f.piece ∷ [])) flow fs h.1,
)
