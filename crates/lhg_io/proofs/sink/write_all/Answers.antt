use Rattle.std.proofs.Common.{arith, subst}
use Rattle.std.proofs.KnownBytes.{Appends-trans}
use Rattle.std.specs.Io.KnownBytes.{Appends}
use Rattle.lhg_io.proofs.Bytes.{take_two}
use Rattle.lhg_io.proofs.sink.write_all.Goals as goal

pub loop-done-preserved : goal.loop-done-preserved
loop-done-preserved g c = record {
  within = let h = c.in-Ok.ensures.some in search (arith, h);
  taken = subst (Appends (g.K.Sink.held c.args.sink.now) (g.K.Sink.held c.write.new.self)) (take_two c.loop-done.done c.in-Ok.n c.args.bytes.now)
      (Appends-trans _ _ _ _ _ c.loop-done.invariant.taken c.in-Ok.ensures.bytes);
  count = search (c.loop-done.invariant.count, c.in-Ok.ensures.cause.kept);
}
