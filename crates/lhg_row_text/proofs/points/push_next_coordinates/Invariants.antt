use Rattle.std.proofs.Common.{◌≡◌, ◌++◌, drop}
use Rattle.lhg_row_text.specs.PointText.{next_coordinates}
use Rattle.lhg_row_text.proofs.points.push_next_coordinates.Given as goal

abbrev pub invariant-loop-i : goal.invariant-loop-i
invariant-loop-i l = l.text.items ++ next_coordinates (drop l.i l.vars) (drop l.i l.coords) ≡ l.fn.text.items ++ next_coordinates l.vars l.coords
