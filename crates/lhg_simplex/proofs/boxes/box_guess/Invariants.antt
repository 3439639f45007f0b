use Rattle.lhg_simplex.specs.Boxes.{HasValues}
use Rattle.lhg_simplex.proofs.boxes.box_guess.Given as goal

abbrev pub invariant-loop-k : goal.invariant-loop-k
invariant-loop-k l = HasValues l.k l.rows l.at.items
