-- Whether some safe line holds at a state is whether the state is safe.
use Rattle.std.proofs.Common.{◌≡◌, ◌↔◌, ◌||◌, ℕ, Bool, true, List, [], ◌∷◌, map, slice_get, refl, sym, ap, ◌∙◌}
use Rattle.lhg_math.specs.Tests.{AllOf}
use Rattle.lhg_num.specs.Arithmetic.{Arithmetic}
use Rattle.lhg_num.specs.Marked.{Marked, and_then, valued}
use Rattle.lhg_row.specs.Row.{PlainPoint}
use Rattle.lhg_row.specs.MarkedTests.{marked_any}
use Rattle.lhg_row.specs.PieceLemmas.{in_some_is}
use Rattle.lhg_row.specs.Piece.{PlainPiece, InSome}
use Rattle.lhg_row.specs.Width.{AllWide}
use Rattle.lhg_row.specs.Truths.{some_truth, some_truth-value}
use Rattle.lhg_plant.specs.LegalTruths.{safe_truth}
use Rattle.lhg_plant.specs.Plant.{PlainPlant}
use Rattle.lhg_plant.specs.Proper.{IsLine}
use Rattle.lhg_plant.specs.State.{PlainState, IsState, IsSafe}
use Rattle.lhg_plant.proofs.LegalExact.{told-exact}

-- a test of the images of a list
pub any_mapped : {A B : Type 0} (f : B → Marked Bool) (g : A → B) (xs : List A) → marked_any f (map g xs) ≡ marked_any (λ x. f (g x)) xs
any_mapped f g [] = refl
any_mapped f g (x ∷ xs) = ap (λ (m : Marked Bool). and_then (f (g x)) (λ b. valued (λ c. b || c) m)) (any_mapped f g xs)

-- some line
some_safe : (n : Arithmetic) (lines : List PlainPiece) (x : PlainPoint) → ((some_truth n lines x).value ≡ true) ↔ InSome lines x
some_safe n lines x = ((λ e. (in_some_is lines x).1 (sym (some_truth-value n lines x) ∙ e)), (λ k. some_truth-value n lines x ∙ (in_some_is lines x).0 k))

-- a state
pub safe_exact : (n : Arithmetic) (a : PlainPlant) (z : PlainState) → IsState a z → ((safe_truth n a z).value ≡ true) ↔ IsSafe a z
safe_exact n a z s =
    let e = told-exact (λ l. some_truth n l.safe z.at) (λ l. InSome l.safe z.at) (λ l. some_safe n l.safe z.at) (slice_get a.locs z.loc) in
    ((λ t. record { state = s; safe = e.0 t }), (λ k. e.1 k.safe))

-- lines have rows over n variables
pub lines_wide : {A : Type 0} (n : ℕ) (f : A → PlainPiece) (xs : List A) → AllOf (IsLine n) (map f xs) → AllOf (λ x. AllWide n (f x)) xs
lines_wide n f [] h = tt
lines_wide n f (x ∷ xs) h = (h.0.wide, lines_wide n f xs h.1)
