use Rattle.std.proofs.Common.{◌≡◌, length}
use Rattle.lhg_math.specs.Tests.{AllOf}
use Rattle.lhg_plant.specs.Views.{plain_plant}
use Rattle.lhg_union.specs.PolyLists.{AllVars}
use Rattle.lhg_union.specs.Regions.{plain_region}
use Rattle.lhg_ctl.specs.Written.{AreOfController}
use Rattle.lhg_text.proofs.report_tests.guards.Given as goal

abbrev pub invariant-loop-i : goal.invariant-loop-i
invariant-loop-i l = record {
  count : length l.out.items ≡ l.i;
  vars : AllOf (λ ps. AllVars 1 ps.items) l.out.items;
  ctl : AreOfController (plain_plant l.plant) (plain_region l.out.items);
}
