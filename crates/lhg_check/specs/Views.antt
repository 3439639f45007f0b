-- What do contracts see of the verdicts, and of the first pieces of lists, that the code holds?
use Rattle.std.specs.Prelude.{◌≡◌, ◌<◌, ℕ, Option, option_map}
use Rattle.lhg_row.specs.Piece.{PlainPiece}
use Rattle.lhg_row.specs.System.{PlainSystem}
use Rattle.lhg_plant.specs.declared.plants.Plant.{Plant}
use Rattle.lhg_plant.specs.Views.{plain_state}
use Rattle.lhg_jump.specs.PlantLists.{IsRegionOf, AreGuardsOf}
use Rattle.lhg_ctl.specs.declared.controllers.Controller.{Controller}
use Rattle.lhg_check.specs.declared.firsts.First.{First}
use Rattle.lhg_check.specs.declared.verdicts.Verdict.{Verdict}
use Rattle.lhg_check.specs.declared.verdicts.Verdict.TheVariants.{Valid, Unsafe, BadGuard, Escapes}
use Rattle.lhg_check.specs.Check.{PlainVerdict, valid, unsafe, bad_guard, escapes}

-- a verdict as plain data
abbrev pub plain_verdict : Verdict → PlainVerdict
plain_verdict Valid = valid
plain_verdict (Unsafe s) = unsafe (plain_state s)
plain_verdict (BadGuard e s) = bad_guard e (plain_state s)
plain_verdict (Escapes s) = escapes (plain_state s)

-- the rows of a piece, where there is one
abbrev pub plain_piece : Option PlainSystem → Option PlainPiece
plain_piece o = option_map (λ p. p.lines) o

-- the first piece of some lists, with the place of its list
abbrev pub plain_first : Option First → Option (ℕ × PlainPiece)
plain_first o = option_map (λ f. (f.place, f.piece.lines)) o

-- the piece is over n variables, and its place is one of m
pub record IsFirstAmong (n m : ℕ) (f : First) : Type 0 where
  pub vars : f.piece.width ≡ n
  pub there : f.place < m

-- the controller has a list for each location, of pieces inside its invariant, and a list for each switch; all pieces are over the plant's
-- variables
pub record IsChecked (p : Plant) (c : Controller) : Type 0 where
  pub region : IsRegionOf p c.region.pieces.items
  pub guards : AreGuardsOf p c.guards.items
