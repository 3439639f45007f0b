-- Which crossings of all pieces of the lists have to be made for a layer?
use Rattle.std.specs.Prelude.{◌≡◌, ℕ, List, ◌++◌, length}
use Rattle.std.proofs.Common.{inl, inr}
use Rattle.lhg_math.specs.Tests.{AllOf}
use Rattle.lhg_row.specs.Row.{PlainPoint}
use Rattle.lhg_row.specs.Piece.{PlainPiece, InSome}
use Rattle.lhg_row.specs.Members.{SomeOf, all_some}
use Rattle.lhg_motion.specs.Crossing.{HasCrossing}
use Rattle.lhg_motion.specs.Reach.{HasStep, EachCovered}
use Rattle.lhg_row.specs.SomeLists.{in_left, in_either}
use Rattle.lhg_motion.specs.StepLemmas.{step_to, to_step}

-- loops over the three lists say what a layer asks
pub covered_steps : (n : ℕ) (near ways known : List PlainPiece) (flow : PlainPiece) (found : List PlainPiece) → EachCovered n near ways known flow found → (x : PlainPoint) → length x ≡ n → HasStep near ways known flow x → InSome found x
covered_steps n near ways known flow found h x e s =
    all_some (λ from. AllOf (λ through. AllOf (λ into. (y : PlainPoint) → length y ≡ n → HasCrossing from through into flow y → InSome found y) known) ways) (λ from. SomeOf (λ through. SomeOf (λ into. HasCrossing from through into flow x) known) ways) (InSome found x)
    (λ from hf sf. all_some (λ through. AllOf (λ into. (y : PlainPoint) → length y ≡ n → HasCrossing from through into flow y → InSome found y) known) (λ through. SomeOf (λ into. HasCrossing from through into flow x) known) (InSome found x)
    (λ through ht st. all_some (λ into. (y : PlainPoint) → length y ≡ n → HasCrossing from through into flow y → InSome found y) (λ into. HasCrossing from through into flow x) (InSome found x)
    (λ into hi c. hi x e c) known ht st) ways hf sf) near h s

-- crossings into the newest layer are enough, where those into the older pieces were covered before
pub newest_steps : (n : ℕ) (near ways old newest : List PlainPiece) (flow : PlainPiece) (layer : List PlainPiece)
    → ((x : PlainPoint) → length x ≡ n → HasStep near ways old flow x → InSome (old ++ newest) x) → ((x : PlainPoint) → length x ≡ n → HasStep near ways newest flow x → InSome ((old ++ newest) ++ layer) x)
    → (x : PlainPoint) → length x ≡ n → HasStep near ways (old ++ newest) flow x → InSome ((old ++ newest) ++ layer) x
newest_steps n near ways old newest flow layer before now x e h =
    let s = step_to near ways (old ++ newest) flow x h in
    elim (in_either old newest s.to s.into) [
      | inl k ↦ in_left (old ++ newest) layer x (before x e (to_step near ways old flow x (record { from_in = s.from_in; time = s.time; to = s.to; legal = s.legal; passes = s.passes; into = k })))
      | inr k ↦ now x e (to_step near ways newest flow x (record { from_in = s.from_in; time = s.time; to = s.to; legal = s.legal; passes = s.passes; into = k }))
    ]
