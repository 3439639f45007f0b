use Rattle.std.proofs.Common.{length, sym, ap, ◌∙◌, subst}
use Rattle.std.specs.Global.{Vec}
use Rattle.lhg_math.specs.Tests.{AllOf}
use Rattle.lhg_num.specs.FracArithmetic.{frac_arithmetic}
use Rattle.lhg_num.specs.MarkedLaws.{IsPart}
use Rattle.lhg_num.proofs.Halted.{part_halts}
use Rattle.lhg_row.specs.System.{PlainSystem}
use Rattle.lhg_plant.specs.OutCalculus as outs
use Rattle.lhg_plant.specs.SwitchFacts.{IsOutside}
use Rattle.lhg_plant.specs.Views.{plain_plant}
use Rattle.lhg_plant.proofs.InsideStates.{inside_from}
use Rattle.lhg_union.specs.PolyLists.{ArePolys}
use Rattle.lhg_union.specs.Regions.{plain_region}
use Rattle.lhg_union.proofs.Halts.{all_on_rows}
use Rattle.lhg_plant.specs.Invariants.{pieces_at}
use Rattle.lhg_jump.proofs.Answering.{region_over}
use Rattle.lhg_jump.proofs.CallCode.{rest-is_part}
use Rattle.lhg_lazy.specs.RimCalculus.{away}
use Rattle.lhg_lazy.proofs.AwayParts.{invariants-part, outside-rest}
use Rattle.lhg_lazy.proofs.RimStates.{away-exact}
use Rattle.lhg_lazy.proofs.outside.away.Goals as goal

pub returns-in_err-invs-clause-calculus : goal.returns-in_err-invs-clause-calculus
returns-in_err-invs-clause-calculus c =
    let a = plain_plant c.args.plant.now in
    all_on_rows c.from_residual.result c.in_err-invs.field-0.0 _ (λ r. plain_region r.pieces.items) _ (λ v. plain_region v.items) c.from_residual.ensures.1 c.in_err-invs.ensures.calculus
    (invariants-part a (plain_region c.args.region.now.pieces.items))

pub returns-in_err-pieces-clause-calculus : goal.returns-in_err-pieces-clause-calculus
returns-in_err-pieces-clause-calculus c =
    let a = plain_plant c.args.plant.now in
    let n = length c.args.plant.now.vars.items in
    let region = plain_region c.args.region.now.pieces.items in
    let invs = plain_region c.in_ok-invs.invs.items in
    let same = ap (λ is. outs.away n (plain_region is) (plain_region c.deref-3.result.now)) c.deref-2.ensures.value
    ∙ ap (λ rs. outs.away n invs (plain_region rs)) c.deref-3.ensures.value in
    part_halts c.from_residual-in_err-pieces.result c.in_err-pieces.field-0.0 _ (λ r. plain_region r.pieces.items) _ (λ v. plain_region v.items) c.from_residual-in_err-pieces.ensures.1 c.in_err-pieces.ensures.calculus
    (subst (IsPart (away a region)) (sym same) (rest-is_part (away a region) (outs.away n invs region) (outside-rest a region invs c.in_ok-invs.ensures.calculus)))

pub returns-clause-calculus : goal.returns-clause-calculus
returns-clause-calculus c =
    let a = plain_plant c.args.plant.now in
    let n = length c.args.plant.now.vars.items in
    let region = plain_region c.args.region.now.pieces.items in
    let invs = plain_region c.in_ok-invs.invs.items in
    let same = ap (λ is. outs.away n (plain_region is) (plain_region c.deref-3.result.now)) c.deref-2.ensures.value
    ∙ ap (λ rs. outs.away n invs (plain_region rs)) c.deref-3.ensures.value in
    c.in_ok-pieces.ensures.calculus ∙ ap (λ m. m.value) same ∙ (outside-rest a region invs c.in_ok-invs.ensures.calculus).same

pub returns-clause-points : goal.returns-clause-points
returns-clause-points c =
    let p = c.args.plant.now in
    let a = plain_plant p in
    let xs = c.args.region.now.pieces.items in
    let told : Vec PlainSystem → Type 0 = λ ps. ArePolys frac_arithmetic ps.items in
    let polys = subst (AllOf told) c.deref.ensures.value c.tell_lists.ensures in
    subst (IsOutside a (plain_region xs)) (sym (returns-clause-calculus c)) (away-exact a p.proper (plain_region xs) (region_over (length p.vars.items) xs c.requires.vars polys))

pub returns-clause-lists : goal.returns-clause-lists
returns-clause-lists c =
    let a = plain_plant c.args.plant.now in
    record {
      has_lists = c.in_ok-pieces.ensures.lists;
      inside = λ l. inside_from a l (pieces_at (plain_region c.in_ok-pieces.pieces.items) l) (λ x fits h. ((returns-clause-points c l x fits).0 h).0);
    }
