use Rattle.std.proofs.Common.{drop}
use Rattle.lhg_num.specs.FracArithmetic.{frac_arithmetic}
use Rattle.lhg_num.specs.Marked.{marked_sub}
use Rattle.lhg_num.specs.MarkedLaws.{IsBuilt}
use Rattle.lhg_play.specs.Cut.{each_two, change}
use Rattle.lhg_play.proofs.cutting.change.Given as goal

abbrev pub invariant-loop-i : goal.invariant-loop-i
invariant-loop-i l = IsBuilt (change l.from l.to) l.out.items (each_two (λ s t. marked_sub frac_arithmetic t s) (drop l.i l.from) (drop l.i l.to))
