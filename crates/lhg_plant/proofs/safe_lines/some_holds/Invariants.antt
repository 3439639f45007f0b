use Rattle.std.proofs.Common.{drop, map}
use Rattle.lhg_num.specs.FracArithmetic.{frac_arithmetic}
use Rattle.lhg_num.specs.Marked.{IsRest}
use Rattle.lhg_row.specs.MarkedTests.{marked_any}
use Rattle.lhg_row.specs.Truths.{piece_truth, some_truth}
use Rattle.lhg_plant.proofs.safe_lines.some_holds.Given as goal

abbrev pub invariant-loop-rows : goal.invariant-loop-rows
invariant-loop-rows l = IsRest (some_truth frac_arithmetic (map (λ rows. rows.items) l.lines) l.at) (marked_any (λ rows. piece_truth frac_arithmetic rows.items l.at) (drop l.rows-index l.lines))
