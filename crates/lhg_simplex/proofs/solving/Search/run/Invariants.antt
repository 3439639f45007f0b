use Rattle.std.proofs.Common.{◌≡◌, vec_len}
use Rattle.lhg_simplex.proofs.solving.Search.run.Given as goal

abbrev pub invariant-loop : goal.invariant-loop
invariant-loop g l = record { vars : vec_len l.self.beside ≡ vec_len l.fn.self.beside; rows : l.self.lines.tall ≡ l.fn.self.lines.tall }
