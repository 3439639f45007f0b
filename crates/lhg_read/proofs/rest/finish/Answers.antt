use Rattle.std.proofs.lemmas.Result.{err_from_is_err_and}
use Rattle.lhg_read.proofs.RestLines.{line_left, stop_left}
use Rattle.lhg_read.proofs.rest.finish.Goals as goal

pub returns-in_err-next-clause-err : goal.returns-in_err-next-clause-err
returns-in_err-next-clause-err c =
    let p = err_from_is_err_and c.from_residual.result c.from_residual.ensures.1 in
    rw (p.1, p.2) (stop_left c.args.lines.now c.in_err-next.field-0.0 c.in_err-next.ensures.stop)

pub returns-in-Some-clause-err : goal.returns-in-Some-clause-err
returns-in-Some-clause-err c =
    let line = rw c.in-Some.is at c.in_ok-next.ensures.line in
    rw c.stop_at.ensures (line_left c.args.lines.now c.in-Some.line line)
