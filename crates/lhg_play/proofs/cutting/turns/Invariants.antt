use Rattle.std.proofs.Common.{drop}
use Rattle.lhg_num.specs.Marked.{walk, IsRest}
use Rattle.lhg_play.specs.Cut.{with_turn, turns}
use Rattle.lhg_play.proofs.cutting.turns.Given as goal

abbrev pub invariant-loop-row : goal.invariant-loop-row
invariant-loop-row l = IsRest (turns l.from l.change l.rows) (walk (with_turn l.from l.change) l.places.items (drop l.row-index l.rows))
