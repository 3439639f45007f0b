use Rattle.std.proofs.Common.{◌≡◌, ℕ, true, false, length, get_or}
use Rattle.lhg_plant.specs.Views.{plain_plant}
use Rattle.lhg_quiet.specs.Quiet.{IsUnmarked}
use Rattle.lhg_quiet.proofs.marks.quiet_after.Given as goal

abbrev pub invariant-loop-l : goal.invariant-loop-l
invariant-loop-l l = record {
  many : length l.marks.items ≡ l.l;
  marked : (k : ℕ) → get_or l.marks.items k false ≡ true → IsUnmarked (plain_plant l.plant) l.changed k;
}
