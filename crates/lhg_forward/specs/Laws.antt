-- Which laws do the levels and their calculus obey, for every plant?
use Rattle.std.specs.Prelude.{◌≡◌, ◌↔◌, ◌≤◌, ◌<◌, ℕ, suc, true, false, length, slice_get, IsSomeAnd}
use Rattle.lhg_row.specs.Piece.{PlainPiece}
use Rattle.lhg_row.specs.Width.{AllWide}
use Rattle.lhg_plant.specs.Plant.{PlainPlant}
use Rattle.lhg_plant.specs.Proper.{IsProper}
use Rattle.lhg_plant.specs.State.{PlainState}
use Rattle.lhg_plant.specs.Region.{PlainRegion, InRegion}
use Rattle.lhg_plant.specs.Sound.{IsInside}
use Rattle.lhg_forward.specs.Level.{AtLevel, IsReachable, IsAddedIn, AddsSome, IsLastLevel}
use Rattle.lhg_forward.specs.After.{after_flow, after_switch}
use Rattle.lhg_forward.specs.AfterFacts.{IsFlowEnd, IsResult, HasPointsOr}
use Rattle.lhg_forward.specs.Growth.{PlainStage, none_new, growth, joined, grown_stage, spent_state, forward_sets}
use Rattle.lhg_forward.specs.GrowthFacts.{IsRegion, IsWholeGrowth}
use Rattle.lhg_forward.specs.StageFacts.{IsStage, IsForward, IsSpent, IsEnd}

-- of a proper plant and a piece inside the invariant: after a flow, and after a switch, are exactly the points to which it leads legally
pub record AfterLaws (a : PlainPlant) : Type 0 where
  pub flow : IsProper a → (l : ℕ) (piece : PlainPiece) → AllWide (length a.vars) piece → IsInside a l piece
      → HasPointsOr (length a.vars) (IsFlowEnd a l piece) (after_flow a l piece).value
  pub switch : IsProper a → (e : ℕ) (piece : PlainPiece) → AllWide (length a.vars) piece → IsSomeAnd (slice_get a.switches e) (λ w. IsInside a w.from piece)
      → HasPointsOr (length a.vars) (IsResult a e piece) (after_switch a e piece).value

-- the new pieces of a level hold only states to which a legal action leads from the region, and with the region all that one leads to from a newest piece
abbrev pub GrowthLaw : PlainPlant → Type 0
GrowthLaw a = IsProper a → (s : PlainStage) → IsRegion a s.region → IsWholeGrowth a s (growth a s).value

-- levels grow; a state is reachable exactly where it is in some level; where a level holds all of the next one, it holds all that is reachable; a state
-- is added in one level at most; and one level at most is the first that adds nothing
pub record LevelLaws (a : PlainPlant) (init : PlainRegion) : Type 0 where
  pub grow : (i j : ℕ) (z : PlainState) → i ≤ j → AtLevel a (InRegion a init) i z → AtLevel a (InRegion a init) j z
  pub reachable : (z : PlainState) → IsReachable a (InRegion a init) z ↔ ((i : ℕ) × AtLevel a (InRegion a init) i z)
  pub settled : (i : ℕ) → ((z : PlainState) → AtLevel a (InRegion a init) (suc i) z → AtLevel a (InRegion a init) i z) → (z : PlainState) → IsReachable a (InRegion a init) z → AtLevel a (InRegion a init) i z
  pub once : (i j : ℕ) (z : PlainState) → IsAddedIn a (InRegion a init) i z → IsAddedIn a (InRegion a init) j z → i ≡ j
  pub last_once : (i j : ℕ) → IsLastLevel a (InRegion a init) i → IsLastLevel a (InRegion a init) j → i ≡ j

-- of a proper plant and the stage of a level: the stage after it is that of the next level where there is a new piece, and the level adds the sample; and where there
-- is none its region is the forward reachable states, and its number that of the first level that adds nothing
pub record StageLaws (a : PlainPlant) (init : PlainRegion) (i : ℕ) (s : PlainStage) : Type 0 where
  pub step : none_new (growth a s).value.first ≡ false → IsStage a init (suc i) (grown_stage s (growth a s).value.first (joined (length a.locs) s.region (growth a s).value.new).value)
  pub added : none_new (growth a s).value.first ≡ false
      → IsAddedIn a (InRegion a init) (suc i) (spent_state a (grown_stage s (growth a s).value.first (joined (length a.locs) s.region (growth a s).value.new).value)).value
  pub ended : none_new (growth a s).value.first ≡ true → IsForward a init (suc i) (suc i) (joined (length a.locs) s.region (growth a s).value.new).value

abbrev pub StageLaw : PlainPlant → Type 0
StageLaw a = IsProper a → (init : PlainRegion) (i : ℕ) (s : PlainStage) → IsStage a init i s → StageLaws a init i s

-- of a proper plant and a region inside the invariants: the iteration ends with the forward reachable states, or with a state that the last level of the budget adds
abbrev pub ForwardLaw : PlainPlant → Type 0
ForwardLaw a = IsProper a → (init : PlainRegion) → IsRegion a init → (budget : ℕ) → 0 < budget → IsEnd a init budget (forward_sets a init budget)

-- the two ends exclude each other, so each comes exactly where it says: a budget is not spent where some level up to it adds nothing, nor does the iteration end where
-- each level up to the budget adds a state; and its number is that of the first level that adds nothing
pub record OutcomeLaws (a : PlainPlant) (init : PlainRegion) (budget : ℕ) : Type 0 where
  pub not_spent : (z : PlainState) (r : ℕ) → IsSpent a init budget z → IsLastLevel a (InRegion a init) r → r ≤ budget → ⊥
  pub not_ended : (rounds : ℕ) (region : PlainRegion) → IsForward a init budget rounds region → ((j : ℕ) → 0 < j → j ≤ budget → AddsSome a (InRegion a init) j) → ⊥
  pub last : (rounds : ℕ) (region : PlainRegion) (r : ℕ) → IsForward a init budget rounds region → IsLastLevel a (InRegion a init) r → rounds ≡ r
