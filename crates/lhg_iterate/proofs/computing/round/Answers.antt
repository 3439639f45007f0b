use Rattle.std.proofs.Common.{refl, sym, subst}
use Rattle.lhg_num.specs.MarkedLaws.{part_self, part_part}
use Rattle.lhg_num.proofs.Halted.{part_halts}
use Rattle.lhg_plant.specs.Invariants.{invariants}
use Rattle.lhg_plant.specs.OutCalculus.{out}
use Rattle.lhg_plant.specs.Views.{plain_plant}
use Rattle.lhg_union.specs.Regions.{plain_region}
use Rattle.lhg_union.proofs.Halts.{all_on_rows}
use Rattle.lhg_jump.proofs.CallCode.{out-first}
use Rattle.lhg_loss.specs.Records.{one_round}
use Rattle.lhg_quiet.specs.Quiet.{AreQuiet}
use Rattle.lhg_iterate.specs.RoundViews.{plain_round}
use Rattle.lhg_iterate.proofs.RoundSteps.{one-out}
use Rattle.lhg_iterate.proofs.computing.round.Goals as goal

pub round_past-requires-clause-quiet : goal.round_past-requires-clause-quiet
round_past-requires-clause-quiet c =
    let region = plain_region c.args.region.now.pieces.items in
    subst (AreQuiet (plain_plant c.args.plant.now) region) (sym c.deref.ensures.value) (c.in_ok-busy.ensures region)

pub round_past-requires-clause-carried : goal.round_past-requires-clause-carried
round_past-requires-clause-carried c = c.in_ok-carried.ensures.carried c.args.region.now.pieces.items

pub returns-in_err-carried-clause-calculus : goal.returns-in_err-carried-clause-calculus
returns-in_err-carried-clause-calculus c =
    let a = plain_plant c.args.plant.now in
    let region = plain_region c.args.region.now.pieces.items in
    let whole = one_round a region c.args.number c.args.first in
    all_on_rows c.from_residual-in_err-carried.result c.in_err-carried.field-0.0 whole plain_round (invariants a) (λ k. plain_region k.invs.items) c.from_residual-in_err-carried.ensures.1 c.in_err-carried.ensures.calculus
    (part_part whole (out a region) (invariants a) (one-out a region c.args.number c.args.first) (out-first a region (invariants a).value refl))

pub returns-in_err-passed-clause-calculus : goal.returns-in_err-passed-clause-calculus
returns-in_err-passed-clause-calculus c =
    let whole = one_round (plain_plant c.args.plant.now) (plain_region c.args.region.now.pieces.items) c.args.number c.args.first in
    part_halts c.from_residual-in_err-passed.result c.in_err-passed.field-0.0 whole plain_round whole (λ d. plain_round d.round) c.from_residual-in_err-passed.ensures.1 c.in_err-passed.ensures.calculus (part_self whole)
