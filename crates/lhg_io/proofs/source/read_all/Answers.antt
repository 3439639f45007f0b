use Rattle.std.proofs.KnownBytes.{Consumes-trans}
use Rattle.lhg_io.proofs.source.read_all.Goals as goal

pub returns-then-is_err-clause-rest : goal.returns-then-is_err-clause-rest
returns-then-is_err-clause-rest g c = (_, Consumes-trans _ _ _ _ _ c.loop-buf.invariant.taken c.in-Ok.ensures.bytes.0)
