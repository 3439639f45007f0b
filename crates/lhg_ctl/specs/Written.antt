-- Which controllers are printed, and which of them can be read again?
use Rattle.std.specs.Prelude.{◌≡◌, ◌≤◌, ℕ, List, [], length, get_or}
use Rattle.lhg_math.specs.Tests.{AllOf, Every}
use Rattle.lhg_row.specs.Constant.{varies}
use Rattle.lhg_row.specs.Lists.{piece_limit}
use Rattle.lhg_row.specs.Piece.{PlainPiece}
use Rattle.lhg_row.specs.Width.{AllWide}
use Rattle.lhg_plant.specs.declared.plants.Side.TheVariants.{Env}
use Rattle.lhg_plant.specs.Controller.{PlainController}
use Rattle.lhg_plant.specs.Legal.{HasSide}
use Rattle.lhg_plant.specs.Limits.{most_line_rows}
use Rattle.lhg_plant.specs.Plant.{PlainPlant}
use Rattle.lhg_plant.specs.Region.{PlainGuards}
use Rattle.lhg_row_text.specs.Short.{AllShort}

-- rows over n variables, each with a coefficient that is not 0, with numbers that can be read
pub record IsWritten (n : ℕ) (rows : PlainPiece) : Type 0 where
  pub wide : AllWide n rows
  pub vary : Every varies rows
  pub short : AllShort rows

-- a list of pieces for each location and for each switch of the plant, each of them such rows
pub record IsWrittenController (a : PlainPlant) (c : PlainController) : Type 0 where
  pub locs : length c.region ≡ length a.locs
  pub switches : length c.guards ≡ length a.switches
  pub region : AllOf (AllOf (IsWritten (length a.vars))) c.region
  pub guards : AllOf (AllOf (IsWritten (length a.vars))) c.guards

-- an uncontrollable switch has no guard
abbrev pub AreOfController : PlainPlant → PlainGuards → Type 0
AreOfController a guards = (e : ℕ) → HasSide a e Env → get_or guards e [] ≡ []

-- a list of not too many pieces, none of which has more rows than a line may give
pub record IsShortList (ps : List PlainPiece) : Type 0 where
  pub few : length ps ≤ piece_limit
  pub rows : AllOf (λ rows. length rows ≤ most_line_rows) ps

-- each list of pieces and of guard pieces is such a list
pub record IsShortController (c : PlainController) : Type 0 where
  pub region : AllOf IsShortList c.region
  pub guards : AllOf IsShortList c.guards
