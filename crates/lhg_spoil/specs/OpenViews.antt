-- What do contracts see of moves that are being read?
use Rattle.lhg_read.specs.Listed.{OpenList}
use Rattle.lhg_spoil.specs.Moves.{PlainCtlMove}
use Rattle.lhg_spoil.specs.Views.{plain_ctl_moves}
use Rattle.lhg_spoil.specs.declared.open_moves.OpenMoves.{OpenMoves}

-- what is read so far, as plain data
abbrev pub plain_open_moves : OpenMoves → OpenList PlainCtlMove
plain_open_moves o = record { values = plain_ctl_moves o.moves.items; ended = o.ended }
