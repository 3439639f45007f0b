use Rattle.std.proofs.Common.{subst}
use Rattle.lhg_num.specs.FracArithmetic.{frac_arithmetic}
use Rattle.lhg_num.specs.Marked.{IsRest}
use Rattle.lhg_num.specs.MarkedLaws.{rest_self}
use Rattle.lhg_row.specs.Truths.{some_truth}
use Rattle.lhg_union.specs.PolyLists.{lines_of}
use Rattle.lhg_union.proofs.ListFacts.{some_truth-is}
use Rattle.lhg_uses.proofs.advising.some_has.Goals as goal

pub loop-piece-init : goal.loop-piece-init
loop-piece-init c =
    let whole = some_truth frac_arithmetic (lines_of c.args.pieces.now) c.args.at.now in
    subst (IsRest whole) (some_truth-is frac_arithmetic c.args.pieces.now c.args.at.now) (rest_self whole)
