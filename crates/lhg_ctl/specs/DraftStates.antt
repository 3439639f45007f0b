-- Which states are in the pieces and in the guards of a controller as it is written, and which drafts belong to a plant?
use Rattle.std.specs.Prelude.{◌≡◌, ◌<◌, ◌≤◌, ℕ, true, length, slice_get, IsSomeAnd}
use Rattle.lhg_math.specs.Tests.{AllOf, Every}
use Rattle.lhg_row.specs.Constant.{varies}
use Rattle.lhg_row.specs.Lists.{piece_limit}
use Rattle.lhg_row.specs.Members.{SomeOf}
use Rattle.lhg_row.specs.Piece.{PlainPiece, InPiece}
use Rattle.lhg_row.specs.Row.{PlainPoint}
use Rattle.lhg_row.specs.Width.{AllWide}
use Rattle.lhg_plant.specs.Differ.{all_differ}
use Rattle.lhg_plant.specs.Limits.{most_line_rows}
use Rattle.lhg_plant.specs.Plant.{PlainPlant}
use Rattle.lhg_plant.specs.State.{PlainState, IsState}
use Rattle.lhg_ctl.specs.ControllerGrammar.{count_at}
use Rattle.lhg_ctl.specs.ControllerLine.{most_rounds}
use Rattle.lhg_read.specs.SwitchName.{is_controllable, is_of}
use Rattle.lhg_ctl.specs.Draft.{PlainDraft}

-- the rows of the piece hold at the point, and it stands at the place
abbrev pub HoldsAt : ℕ → PlainPoint → ℕ × PlainPiece → Type 0
HoldsAt k x p = (p.0 ≡ k) × InPiece p.1 x

-- the states of a location at which the rows of one of its pieces hold
pub record InDraft (a : PlainPlant) (d : PlainDraft) (s : PlainState) : Type 0 where
  pub state : IsState a s
  pub some : SomeOf (HoldsAt s.loc s.at) d.pieces

-- the states of the location that switch e leaves at which the rows of one of its guards hold
pub record InDraftGuard (a : PlainPlant) (d : PlainDraft) (e : ℕ) (s : PlainState) : Type 0 where
  pub state : IsState a s
  pub leaves : IsSomeAnd (slice_get a.switches e) (λ w. w.from ≡ s.loc)
  pub some : SomeOf (HoldsAt e s.at) d.guards

-- the place is one of so many, and the rows are over n variables
pub record IsPlaced (n count : ℕ) (p : ℕ × PlainPiece) : Type 0 where
  pub place : p.0 < count
  pub wide : AllWide n p.1

-- the guard is of a controllable switch of the plant
abbrev pub IsOfController : PlainPlant → ℕ × PlainPiece → Type 0
IsOfController a g = is_of is_controllable (slice_get a.switches g.0) ≡ true

-- places are in range, lengths agree, and each guard is of a controllable switch
pub record IsDraft (a : PlainPlant) (d : PlainDraft) : Type 0 where
  pub pieces : AllOf (IsPlaced (length a.vars) (length a.locs)) d.pieces
  pub guards : AllOf (IsPlaced (length a.vars) (length a.switches)) d.guards
  pub ctl : AllOf (IsOfController a) d.guards

-- a line may give the rows: they are not too many, and each has a coefficient that is not 0
pub record IsGiven (rows : PlainPiece) : Type 0 where
  pub few : length rows ≤ most_line_rows
  pub vary : Every varies rows

-- a draft that a text gives: lines give its rows; there are not too many pieces of one location, nor guards of one switch; the number of
-- rounds is not too large; and each guard has a name, which are all different
pub record IsGivenDraft (a : PlainPlant) (d : PlainDraft) : Type 0 where
  pub draft : IsDraft a d
  pub piece_rows : AllOf (λ p. IsGiven p.1) d.pieces
  pub guard_rows : AllOf (λ g. IsGiven g.1) d.guards
  pub few_pieces : (k : ℕ) → count_at k d.pieces ≤ piece_limit
  pub few_guards : (k : ℕ) → count_at k d.guards ≤ piece_limit
  pub few_rounds : d.rounds ≤ most_rounds
  pub named : length d.names ≡ length d.guards
  pub differ : all_differ d.names ≡ true
