use Rattle.std.proofs.Common.{◌≡◌, ◌+◌, ◌++◌, ℕ, drop}
use Rattle.lhg_math.specs.Tests.{AllOf}
use Rattle.lhg_jump.specs.HitViews.{plain_hits, HasVars}
use Rattle.lhg_loss.specs.Records.{hit_losses}
use Rattle.lhg_loss.specs.Views.{plain_losses, AllHaveVars}
use Rattle.lhg_iterate.proofs.records.hit_losses.Given as goal

abbrev pub invariant-loop-i : goal.invariant-loop-i
invariant-loop-i l = record {
  losses : plain_losses l.losses.items ++ hit_losses l.site.round l.site.loc (l.site.first + l.i) (plain_hits (drop l.i l.hits)) ≡ hit_losses l.site.round l.site.loc l.site.first (plain_hits l.hits);
  vars : (n : ℕ) → AllOf (HasVars n) l.hits → AllHaveVars n l.losses.items;
}
