use Rattle.std.proofs.Common.{arith}
use Rattle.lhg_lex.proofs.LineCounts.{lines_count}
use Rattle.lhg_lex.proofs.cursor.Lines.lines_read.Goals as goal

pub returns-clause-few : goal.returns-clause-few
returns-clause-few c =
    let short = c.self.invariant.0 in
    let within = c.self.invariant.1.within in
    let few = lines_count c.self.inside.bytes.now in
    omega (arith, short, within, few)
