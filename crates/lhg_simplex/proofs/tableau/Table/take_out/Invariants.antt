use Rattle.std.proofs.Common.{◌≡◌, ◌*◌, vec_len}
use Rattle.lhg_simplex.proofs.tableau.Table.take_out.Given as goal

abbrev pub invariant-loop-i : goal.invariant-loop-i
invariant-loop-i g l = record {
  full : vec_len l.self.cells ≡ l.self.tall * l.self.wide;
  tall : l.self.tall ≡ l.fn.self.tall;
  wide : l.self.wide ≡ l.fn.self.wide;
  same : l.wide ≡ l.self.wide;
}
