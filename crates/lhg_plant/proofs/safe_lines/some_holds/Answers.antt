use Rattle.std.proofs.Common.{map, subst}
use Rattle.lhg_num.specs.FracArithmetic.{frac_arithmetic}
use Rattle.lhg_num.specs.Marked.{IsRest}
use Rattle.lhg_num.specs.MarkedLaws.{rest_self}
use Rattle.lhg_row.specs.Truths.{piece_truth, some_truth}
use Rattle.lhg_plant.proofs.SafeLines.{any_mapped}
use Rattle.lhg_plant.proofs.safe_lines.some_holds.Goals as goal

pub loop-rows-init : goal.loop-rows-init
loop-rows-init c =
    let lines = c.args.lines.now in
    let whole = some_truth frac_arithmetic (map (λ rows. rows.items) lines) c.args.at.now in
    subst (IsRest whole) (any_mapped (λ p. piece_truth frac_arithmetic p c.args.at.now) (λ rows. rows.items) lines) (rest_self whole)
