use Rattle.std.proofs.Common.{◌≡◌, ℕ, false, length, get_or}
use Rattle.lhg_quiet.proofs.marks.none_quiet.Given as goal

abbrev pub invariant-loop-l : goal.invariant-loop-l
invariant-loop-l l = record {
  many : length l.marks.items ≡ l.l;
  none : (k : ℕ) → get_or l.marks.items k false ≡ false;
}
