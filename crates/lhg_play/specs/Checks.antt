-- What does a list of places say of a segment: are they its check points, and is each row's truth between cuts that of the middle?
use Rattle.std.specs.Prelude.{◌≡◌, ◌↔◌, true, List, [], ◌∷◌}
use Rattle.lhg_math.specs.Number.{Number, lt}
use Rattle.lhg_math.specs.Tests.{AllOf}
use Rattle.lhg_row.specs.Members.{SomeOf}
use Rattle.lhg_row.specs.Row.{PlainRow, PlainPoint, holds_at}
use Rattle.lhg_motion.specs.Segment.{along}
use Rattle.lhg_motion.specs.CheckPoint.{IsCheckPoint, IsBetween}

-- each place is below all behind it
abbrev pub IsAscending : List Number → Type 0
IsAscending [] = Unit {0}
IsAscending (p ∷ ps) = AllOf (λ q. lt p q ≡ true) ps × IsAscending ps

-- the places are the check points of the segment, in order
pub record AreChecks (rows : List PlainRow) (x y : PlainPoint) (places : List Number) : Type 0 where
  pub all : (p : Number) → IsCheckPoint rows x y p ↔ SomeOf (λ q. q ≡ p) places
  pub ascending : IsAscending places

-- a cut, the middle, the next cut, its middle and so on: between two cuts each row has the truth of their middle
abbrev pub HaveMiddleTruths : List PlainRow → PlainPoint → PlainPoint → List Number → Type 0
HaveMiddleTruths rows x y [] = Unit {0}
HaveMiddleTruths rows x y (a ∷ []) = Unit {0}
HaveMiddleTruths rows x y (a ∷ m ∷ []) = ⊥
HaveMiddleTruths rows x y (a ∷ m ∷ b ∷ ps) =
    ((p : Number) → IsBetween a b p → AllOf (λ r. holds_at r (along x y p) ≡ holds_at r (along x y m)) rows) × HaveMiddleTruths rows x y (b ∷ ps)
