use Rattle.std.proofs.Common.{List, length}
use Rattle.lhg_lex.specs.LineTokens.{Spot}
use Rattle.lhg_lex.specs.Reading.{left_of}
use Rattle.lhg_read.specs.Begun.{IsBegun}
use Rattle.lhg_read.specs.DraftView.{plain_draft}
use Rattle.lhg_read.specs.Reads.{Reads}
use Rattle.lhg_read.proofs.plant.read_plant.Given as goal

abbrev pub invariant-loop-draft : goal.invariant-loop-draft
invariant-loop-draft l = (tokens : List (List Spot)) × Reads l.fn.lines l.lines tokens × IsBegun tokens l.vars.items (plain_draft l.draft)

abbrev pub decreases-loop-draft : goal.decreases-loop-draft
decreases-loop-draft l = length (left_of l.lines)
