use Rattle.std.proofs.Common.{◌++◌, ℕ, List, ℤ, map, pos, refl, sym, ap, subst}
use Prim.Native.Nat.{◌∣◌}
use Rattle.lhg_math.specs.Number.{mul, whole}
use Rattle.lhg_math.specs.Tests.{AllOf}
use Rattle.lhg_whole.specs.LiftLaws.{all_divide}
use Rattle.lhg_whole.proofs.LiftSteps.{multiplied-common}
use Rattle.lhg_whole.proofs.lifting.multiplied.Goals as goal

pub loop-entry-init : goal.loop-entry-init
loop-entry-init c =
    let row = c.args.row.now in
    record {
      value = ap (λ (zs : List ℤ). map whole zs ++ map (λ x. mul (whole (pos c.args.factor)) x) row) c.in_ok-out.ensures.items;
      kept = refl;
      common = subst (λ (m : ℕ). AllOf (λ x. x.bottom ∣ m) row) (sym c.requires.common) (all_divide 1 row);
    }

pub multiple-requires-clause-common : goal.multiple-requires-clause-common
multiple-requires-clause-common c =
    multiplied-common c.args.row.now c.args.factor c.loop-entry.entry-index c.loop-entry.out.items c.entry-item.result c.loop-entry.invariant c.loop-entry-test.true c.entry-item.is
