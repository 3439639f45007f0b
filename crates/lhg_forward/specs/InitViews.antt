-- What do contracts see of first states that are being read?
use Rattle.std.specs.Prelude.{ℕ, map}
use Rattle.lhg_row.specs.Piece.{PlainPiece}
use Rattle.lhg_read.specs.Listed.{OpenList}
use Rattle.lhg_ctl.specs.Views.{plain_placed}
use Rattle.lhg_forward.specs.declared.open_inits.OpenInit.{OpenInit}

-- what is read so far, as plain data
abbrev pub plain_open : OpenInit → OpenList (ℕ × PlainPiece)
plain_open o = record { values = map plain_placed o.states.items; ended = o.ended }
