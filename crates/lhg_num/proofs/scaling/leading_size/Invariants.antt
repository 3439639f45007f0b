use Rattle.std.proofs.Common.{◌≡◌, drop}
use Rattle.lhg_math.specs.Signs.{lead}
use Rattle.lhg_num.proofs.scaling.leading_size.Given as goal

abbrev pub invariant-loop-entry : goal.invariant-loop-entry
invariant-loop-entry l = lead l.row ≡ lead (drop l.entry-index l.row)
