-- What do the new pieces of a level say of states?
use Rattle.std.specs.Prelude.{◌≡◌, ◌<◌, ℕ, List, [], ◌∷◌, ◌++◌, length, Option, Some, None}
use Rattle.lhg_math.specs.Tests.{AllOf}
use Rattle.lhg_num.specs.FracArithmetic.{frac_arithmetic}
use Rattle.lhg_row.specs.Row.{PlainPoint}
use Rattle.lhg_row.specs.Piece.{PlainPiece, InSome}
use Rattle.lhg_row.specs.PieceFacts.{AllPolys, HasUncovered}
use Rattle.lhg_plant.specs.Plant.{PlainPlant}
use Rattle.lhg_plant.specs.State.{PlainState, States}
use Rattle.lhg_plant.specs.Region.{PlainRegion, InRegion}
use Rattle.lhg_plant.specs.Invariants.{pieces_at}
use Rattle.lhg_plant.specs.Inside.{AllInside}
use Rattle.lhg_forward.specs.Level.{FollowsFrom, LeadsTo}
use Rattle.lhg_forward.specs.Growth.{PlainGrowth, PlainStage, newest_at, oldest_at}

-- a region has one list for each location, of pieces inside its invariant
pub record IsRegion (a : PlainPlant) (region : PlainRegion) : Type 0 where
  pub listed : length region ≡ length a.locs
  pub polys : (l : ℕ) → AllPolys frac_arithmetic (length a.vars) (pieces_at region l)
  pub inside : (l : ℕ) → AllInside a l (pieces_at region l)

-- the pieces of location l and the new ones there
abbrev pub known_at : PlainRegion → PlainGrowth → ℕ → List PlainPiece
known_at region g l = pieces_at region l ++ pieces_at g.new l

-- some point of the first new piece of location l is in no piece of the location
pub record HasNewFirst (n : ℕ) (region new : PlainRegion) (l : ℕ) : Type 0 where
  pub piece : PlainPiece
  pub others : List PlainPiece
  pub is : pieces_at new l ≡ piece ∷ others
  pub uncovered : HasUncovered n (piece ∷ []) (pieces_at region l)

-- no location has a new piece, or the one that is named has, and its first one adds a point
abbrev pub HasFirst : ℕ → ℕ → PlainRegion → PlainRegion → Option ℕ → Type 0
HasFirst n m region new None = (l : ℕ) → pieces_at new l ≡ []
HasFirst n m region new (Some l) = (l < m) × HasNewFirst n region new l

-- the first of the newest pieces has a point that is in no earlier one
pub record IsNewestOf (n : ℕ) (earlier newest : List PlainPiece) : Type 0 where
  pub piece : PlainPiece
  pub others : List PlainPiece
  pub is : newest ≡ piece ∷ others
  pub uncovered : HasUncovered n (piece ∷ []) earlier

-- the location that the stage names is there, and the first of its newest pieces has a point that is in no older one
abbrev pub HasNewestAt : PlainPlant → PlainStage → Option ℕ → Type 0
HasNewestAt a s None = ⊥
HasNewestAt a s (Some l) = (l < length a.locs) × IsNewestOf (length a.vars) (oldest_at s l) (newest_at s l)

abbrev pub HasNewest : PlainPlant → PlainStage → Type 0
HasNewest a s = HasNewestAt a s s.first

-- the new pieces hold only states to which a legal action leads from a state of the region
pub record IsGrowth (a : PlainPlant) (region : PlainRegion) (g : PlainGrowth) : Type 0 where
  pub many : length g.new ≡ length a.locs
  pub polys : (l : ℕ) → AllPolys frac_arithmetic (length a.vars) (pieces_at g.new l)
  pub sound : (z : PlainState) → length z.at ≡ length a.vars → InSome (pieces_at g.new z.loc) z.at → FollowsFrom a (InRegion a region) z
  pub adds : HasFirst (length a.vars) (length a.locs) region g.new g.first

-- such new pieces, which with the pieces of the region hold all states to which a legal action leads from a state of a newest piece
pub record IsWholeGrowth (a : PlainPlant) (s : PlainStage) (g : PlainGrowth) : Type 0 where
  pub growth : IsGrowth a s.region g
  pub whole : (z y : PlainState) → InSome (newest_at s z.loc) z.at → LeadsTo a z y → InSome (known_at s.region g y.loc) y.at

-- a level whose region is all that is known of it so far, where no legal action from an older piece leads out of the region
pub record IsClosedStage (a : PlainPlant) (s : PlainStage) : Type 0 where
  pub region_is : IsRegion a s.region
  pub closed : (z y : PlainState) → InSome (oldest_at s z.loc) z.at → LeadsTo a z y → InRegion a s.region y
