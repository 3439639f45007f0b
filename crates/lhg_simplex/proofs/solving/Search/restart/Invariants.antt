use Rattle.std.proofs.Common.{◌≡◌, ◌+◌, vec_len}
use Rattle.lhg_simplex.proofs.solving.Search.restart.Given as goal

abbrev pub invariant-loop-k : goal.invariant-loop-k
invariant-loop-k g l = record {
  vars : vec_len l.self.beside ≡ vec_len l.fn.self.beside;
  rows : l.self.lines.tall ≡ l.fn.self.lines.tall;
  lines_wide : l.self.lines.wide ≡ vec_len l.self.beside + 2;
  many : vec_len l.self.multiples ≡ l.self.lines.tall;
  square : l.self.table.tall ≡ vec_len l.self.beside;
  columns : l.self.table.wide ≡ vec_len l.self.beside + 3;
  room : vec_len l.self.turned ≡ vec_len l.self.beside + 3;
  values : vec_len l.self.at ≡ vec_len l.self.beside;
  smalls : vec_len l.self.parts ≡ vec_len l.self.beside;
  shares : vec_len l.self.weights ≡ vec_len l.self.beside;
  here : l.vars ≡ vec_len l.self.beside;
}
