use Rattle.std.proofs.Common.{List, length, sym, ap, ◌∙◌, subst}
use Rattle.std.specs.Global.{Vec}
use Rattle.lhg_num.specs.FracArithmetic.{frac_arithmetic}
use Rattle.lhg_row.specs.Piece.{PlainPiece}
use Rattle.lhg_row.specs.System.{PlainSystem}
use Rattle.lhg_row.specs.Width.{AllWide}
use Rattle.lhg_motion.specs.ReachCalculus.{reach}
use Rattle.lhg_motion.specs.ReachCases.{found-polys}
use Rattle.lhg_plant.specs.BackCalculus.{near_at}
use Rattle.lhg_plant.specs.Views.{plain_plant}
use Rattle.lhg_union.specs.PolyLists.{lines_of, AllVars}
use Rattle.lhg_union.specs.Regions.{plain_region}
use Rattle.lhg_reach.specs.FoundParts.{plain_founds}
use Rattle.lhg_reach.specs.Widths.{AllOverVars}
use Rattle.lhg_jump.proofs.Answering.{location-is}
use Rattle.lhg_loss.specs.RoundFacts.{AreReached}
use Rattle.lhg_check.proofs.escaping.found_from.Goals as goal

pub returns-clause-vars : goal.returns-clause-vars
returns-clause-vars c =
    let p = c.args.plant.now in
    let n = length p.vars.items in
    let over : AllOverVars n c.args.bad.now c.deref-2.result.now c.deref-3.result.now = record {
      first = c.requires.bad;
      second = subst (AllVars n) (sym c.deref-2.ensures.value) c.in_ok-near.ensures.vars;
      rows = subst (AllWide n) (sym c.deref-3.ensures.value) (location-is p c.args.l c.args.location.now c.requires.location).flow.wide;
    } in
    c.first_found.ensures.vars n (c.in_ok-reached.ensures.vars n over)

pub returns-clause-reached : goal.returns-clause-reached
returns-clause-reached c =
    let p = c.args.plant.now in
    let n = length p.vars.items in
    let ct = c.args.controller.now in
    let bad = lines_of c.args.bad.now in
    let over : AllOverVars n c.args.bad.now c.deref-2.result.now c.deref-3.result.now = record {
      first = c.requires.bad;
      second = subst (AllVars n) (sym c.deref-2.ensures.value) c.in_ok-near.ensures.vars;
      rows = subst (AllWide n) (sym c.deref-3.ensures.value) (location-is p c.args.l c.args.location.now c.requires.location).flow.wide;
    } in
    let fs = plain_founds c.in_ok-reached.reached.found.items in
    let held = lines_of c.deref-2.result.now in
    let flow = c.deref-3.result.now in
    let here : AreReached n bad held flow fs = record {
      polys = found-polys frac_arithmetic n fs (c.in_ok-reached.ensures.polys n over);
      exact = c.in_ok-reached.ensures.points n over;
      named = c.in_ok-reached.ensures.named n over;
    } in
    let of : List PlainPiece → PlainPiece → Type 0 = λ ps rows. AreReached n bad ps rows (reach frac_arithmetic n bad ps rows).value.found in
    let there : of held flow = subst (AreReached n bad held flow) (ap (λ r. r.found) (c.in_ok-reached.ensures.calculus n over)) here in
    let near_is = ap lines_of c.deref-2.ensures.value ∙ c.in_ok-near.ensures.calculus
    ∙ ap (λ (ks : List (Vec PlainSystem)). (near_at (plain_plant p) (plain_region ct.region.pieces.items) (plain_region ks) c.args.l).value) c.deref.ensures.value in
    subst (of (near_at (plain_plant p) (plain_region ct.region.pieces.items) (plain_region ct.guards.items) c.args.l).value) c.deref-3.ensures.value (subst (λ (ps : List PlainPiece). of ps flow) near_is there)
