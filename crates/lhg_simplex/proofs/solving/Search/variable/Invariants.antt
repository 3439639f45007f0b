use Rattle.std.proofs.Common.{◌<◌, vec_len}
use Rattle.std.specs.Option.{IfSome}
use Rattle.lhg_simplex.proofs.solving.Search.variable.Given as goal

abbrev pub invariant-loop-c : goal.invariant-loop-c
invariant-loop-c g l = IfSome l.best (λ c. c < vec_len l.self.beside)
