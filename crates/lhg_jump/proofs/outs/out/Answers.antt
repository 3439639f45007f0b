use Rattle.std.proofs.Common.{refl, sym, subst}
use Rattle.lhg_plant.specs.Invariants.{invariants}
use Rattle.lhg_plant.specs.Views.{plain_plant}
use Rattle.lhg_union.specs.Regions.{plain_region}
use Rattle.lhg_union.proofs.Halts.{all_on_rows}
use Rattle.lhg_jump.specs.OutViews.{plain_outs}
use Rattle.lhg_jump.specs.PlantLists.{AreInvariantsOf}
use Rattle.lhg_jump.proofs.CallCode.{out-first}
use Rattle.lhg_jump.proofs.outs.out.Goals as goal

pub returns-in_err-invs-clause-calculus : goal.returns-in_err-invs-clause-calculus
returns-in_err-invs-clause-calculus c =
    let a = plain_plant c.args.plant.now in
    all_on_rows c.from_residual.result c.in_err-invs.field-0.0 _ plain_outs _ (λ v. plain_region v.items) c.from_residual.ensures.1 c.in_err-invs.ensures.calculus
    (out-first a (plain_region c.args.region.now.pieces.items) (invariants a).value refl)

pub out_with-requires-clause-invs : goal.out_with-requires-clause-invs
out_with-requires-clause-invs c =
    subst (AreInvariantsOf c.args.plant.now) (sym c.deref.ensures.value) (record { has_lists = c.in_ok-invs.ensures.lists; same = c.in_ok-invs.ensures.calculus })
