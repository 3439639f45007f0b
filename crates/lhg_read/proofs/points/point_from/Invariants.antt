use Rattle.std.proofs.Common.{◌≡◌, map, Some}
use Rattle.lhg_lex.specs.TextTokens.{plain_of}
use Rattle.lhg_read.specs.Options.{joined}
use Rattle.lhg_read.specs.PointText.{point_of}
use Rattle.lhg_read.proofs.PointSteps.{rest_of}
use Rattle.lhg_read.proofs.points.point_from.Given as goal

abbrev pub invariant-loop-name : goal.invariant-loop-name
invariant-loop-name l = point_of l.vars (map (plain_of l.lines.bytes) l.tokens) ≡ joined (Some l.at.items) (rest_of l.vars l.lines.bytes l.tokens l.name-index l.from)
