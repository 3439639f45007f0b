-- Which pieces say where an escape may pass and end in one location?
use Rattle.std.specs.Prelude.{◌≡◌, List, Some, slice_get, length}
use Rattle.lhg_row.specs.Row.{PlainPoint}
use Rattle.lhg_row.specs.Piece.{PlainPiece, InSome}
use Rattle.lhg_plant.specs.Plant.{PlainPlant, PlainLocation}
use Rattle.lhg_plant.specs.State.{PlainState, States, IsState, moved_to}
use Rattle.lhg_plant.specs.OutBack.{Out}

-- the bad pieces hold what is in Out, the near ones the other states that are not in K
pub record AreSplit (a : PlainPlant) (S K : States) (s : PlainState) (l : PlainLocation) (bad near : List PlainPiece) : Type 0 where
  pub is_there : slice_get a.locs s.loc ≡ Some l
  pub bad_in : (p : PlainPoint) → length p ≡ length a.vars → InSome bad p → Out a S (moved_to s p)
  pub bad_all : (p : PlainPoint) → Out a S (moved_to s p) → InSome bad p
  pub near_in : (p : PlainPoint) → length p ≡ length a.vars → InSome near p → IsState a (moved_to s p) × ¬ K (moved_to s p)
  pub near_all : (p : PlainPoint) → IsState a (moved_to s p) → ¬ Out a S (moved_to s p) → ¬ K (moved_to s p) → InSome near p
