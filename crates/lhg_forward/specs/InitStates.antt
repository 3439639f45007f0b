-- Which states do the lines of first states say, and which region is made of them?
use Rattle.std.specs.Prelude.{ℕ, List, length}
use Rattle.lhg_num.specs.Marked.{Marked}
use Rattle.lhg_row.specs.Members.{SomeOf}
use Rattle.lhg_row.specs.Piece.{PlainPiece}
use Rattle.lhg_plant.specs.Plant.{PlainPlant}
use Rattle.lhg_plant.specs.Region.{PlainRegion}
use Rattle.lhg_plant.specs.State.{PlainState, IsState}
use Rattle.lhg_ctl.specs.DraftStates.{HoldsAt}
use Rattle.lhg_ctl.specs.Making.{all_made}

-- the states of a location at which the rows of one of its lines hold
pub record InInit (a : PlainPlant) (lines : List (ℕ × PlainPiece)) (s : PlainState) : Type 0 where
  pub state : IsState a s
  pub some : SomeOf (HoldsAt s.loc s.at) lines

-- for each line in order the piece of the rows of its location's invariant followed by its own, where there is one
unfoldable pub init_of : PlainPlant → List (ℕ × PlainPiece) → Marked PlainRegion
init_of a lines = all_made a (λ l. l) (length a.locs) lines
