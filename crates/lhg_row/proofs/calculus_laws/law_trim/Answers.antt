use Rattle.lhg_row.specs.TrimLaws.{trim-holds}
use Rattle.lhg_row.specs.WidthLaws.{trim-wide, trim-tidy}
use Rattle.lhg_row.proofs.calculus_laws.law_trim.Goals as goal
use Rattle.lhg_row.specs.TrimmedLaws.{trim-trimmed, remove-trimmed, trimmed-settled}

pub returns : goal.returns
returns c = record { points = trim-holds; wide = trim-wide; tidy = trim-tidy; trimmed = trim-trimmed; settled = trimmed-settled; part = remove-trimmed }
