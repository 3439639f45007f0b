-- Pieces lie inside an invariant exactly where their points are states.
use Rattle.std.proofs.Common.{◌≡◌, ◌⊎◌, inl, inr, ℕ, List, [], ◌∷◌, length}
use Rattle.lhg_row.specs.Row.{PlainPoint}
use Rattle.lhg_row.specs.Piece.{PlainPiece, InSome}
use Rattle.lhg_plant.specs.Plant.{PlainPlant}
use Rattle.lhg_plant.specs.State.{IsState}
use Rattle.lhg_plant.specs.Inside.{AllInside}
use Rattle.lhg_plant.specs.SwitchFacts.{state_at}

-- pieces whose points are states lie inside the invariant
pub inside_from : (a : PlainPlant) (l : ℕ) (ps : List PlainPiece) → ((x : PlainPoint) → length x ≡ length a.vars → InSome ps x → IsState a (state_at l x)) → AllInside a l ps
inside_from a l [] f = tt
inside_from a l (p ∷ ps) f = ((λ x fits h. f x fits (inl h)), inside_from a l ps (λ x fits h. f x fits (inr h)))

-- a point in some piece that lies inside the invariant is a state
pub some_inside : (a : PlainPlant) (l : ℕ) (ps : List PlainPiece) (x : PlainPoint) → length x ≡ length a.vars → AllInside a l ps → InSome ps x → IsState a (state_at l x)
some_inside a l [] x fits h k = absurd k
some_inside a l (p ∷ ps) x fits h (inl k) = h.0 x fits k
some_inside a l (p ∷ ps) x fits h (inr k) = some_inside a l ps x fits h.1 k
