use Rattle.std.proofs.Common.{◌≡◌, ◌++◌, ℕ, drop, map}
use Rattle.lhg_math.specs.Tests.{AllOf}
use Rattle.lhg_row.specs.Width.{AllWide}
use Rattle.lhg_plant.specs.Run.{guard_rows}
use Rattle.lhg_plant.specs.Views.{plain_switch}
use Rattle.lhg_union.specs.PolyLists.{AllVars}
use Rattle.lhg_union.specs.Regions.{plain_region}
use Rattle.lhg_run.proofs.rows.append_guards.Given as goal

abbrev pub invariant-loop-e : goal.invariant-loop-e
invariant-loop-e l = record {
  rows : l.rows.items ++ guard_rows (map plain_switch (drop l.e l.plant.switches.items)) (plain_region (drop l.e l.guards)) l.loc
      ≡ l.fn.rows.items ++ guard_rows (map plain_switch l.plant.switches.items) (plain_region l.guards) l.loc;
  wide : (n : ℕ) → AllOf (λ ps. AllVars n ps.items) l.guards → AllWide n l.fn.rows.items → AllWide n l.rows.items;
}
