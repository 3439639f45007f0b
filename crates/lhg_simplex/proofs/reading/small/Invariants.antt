use Rattle.std.proofs.Common.{◌≡◌, vec_len}
use Rattle.lhg_simplex.proofs.reading.small.Given as goal

abbrev pub invariant-loop-t : goal.invariant-loop-t
invariant-loop-t g l = record { vars : vec_len l.search.beside ≡ vec_len l.fn.search.beside; rows : l.search.lines.tall ≡ l.fn.search.lines.tall }
