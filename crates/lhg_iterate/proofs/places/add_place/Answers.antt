use Rattle.std.proofs.Common.{◌≡◌, ◌+◌, ◌<◌, ◌∷◌, [], length, sym, ap, ◌∙◌, subst, arith, rules}
use Rattle.std.proofs.lemmas.List.{length-map, map-append}
use Rattle.std.specs.Global.{Vec}
use Rattle.lhg_num.specs.FracArithmetic.{frac_arithmetic}
use Rattle.lhg_num.specs.MarkedLaws.{IsPart}
use Rattle.lhg_num.proofs.Halted.{part_halts}
use Rattle.lhg_row.specs.Lists.{minus}
use Rattle.lhg_row.specs.Members.{all-append}
use Rattle.lhg_row.specs.System.{PlainSystem}
use Rattle.lhg_union.specs.PolyLists.{lines_of, AllVars}
use Rattle.lhg_union.specs.Regions.{plain_region}
use Rattle.lhg_union.proofs.ListFacts.{all_at}
use Rattle.lhg_plant.specs.Invariants.{pieces_at}
use Rattle.lhg_plant.specs.Views.{plain_plant}
use Rattle.lhg_jump.specs.OutViews.{plain_outs}
use Rattle.lhg_jump.proofs.RegionSteps.{region-push}
use Rattle.lhg_jump.proofs.RangeSteps.{lines-at}
use Rattle.lhg_loss.specs.Records.{pieces_lost}
use Rattle.lhg_loss.specs.Views.{plain_loss, plain_losses, LossVars, AllHaveVars}
use Rattle.lhg_iterate.specs.RoundViews.{plain_round, IsOverPlant}
use Rattle.lhg_iterate.proofs.Halting.{on_memory}
use Rattle.lhg_iterate.proofs.PlaceSteps.{round-losses, round-left, round-value}
use Rattle.lhg_iterate.proofs.places.add_place.Goals as goal

pub returns-in_err-losses-clause-step : goal.returns-in_err-losses-clause-step
returns-in_err-losses-clause-step c = λ place there.
    let s = c.args.site in
    let old = c.args.so_far.now in
    let many : c.len.result ≡ length old.losses.items = search rules in
    let start_is = ap (λ k. s.first + k) (many ∙ sym (length-map old.losses.items plain_loss)) in
    part_halts c.from_residual.result c.in_err-losses.field-0.0 _ (λ _. plain_round old) _ (λ v. plain_losses v.items) c.from_residual.ensures.1 (c.in_err-losses.ensures.losses place there)
    (round-losses (plain_plant c.args.plant.now) (plain_region c.args.region.now.pieces.items) (plain_outs c.args.outs.now) (plain_region c.args.backs.now) s.round s.first s.loc place (plain_round old) (s.first + c.len.result) start_is)

pub minus-requires : goal.minus-requires
minus-requires c =
    let n = length c.args.plant.now.vars.items in
    let xs = c.args.region.now.pieces.items in
    let l = c.args.site.loc in
    let there : l < length xs = let m = c.requires.lists.region_many in let t = c.requires.there in omega arith in
    let losses_vars = subst (AllHaveVars n) (sym c.deref.ensures.value) c.in_ok-losses.ensures.vars in
    record {
      vars = n;
      first = subst (AllVars n) (sym c.deref-2.ensures.value) (all_at (λ ps. AllVars n ps.items) xs l c.index.result.now c.index.ensures there c.requires.lists.region_vars);
      second = subst (AllVars n) (sym c.deref-3.ensures.value) (c.in_ok-lost.ensures.vars n losses_vars);
    }

pub returns-in_err-lost-clause-step : goal.returns-in_err-lost-clause-step
returns-in_err-lost-clause-step c = λ place there.
    on_memory c.from_residual-in_err-lost.result c.in_err-lost.field-0.0 _ (λ _. plain_round c.args.so_far.now) _ (λ v. lines_of v.items) c.from_residual-in_err-lost.ensures.1 c.in_err-lost.ensures.pieces

pub returns-in_err-rest-clause-step : goal.returns-in_err-rest-clause-step
returns-in_err-rest-clause-step c = λ place there.
    let n = length c.args.plant.now.vars.items in
    let s = c.args.site in
    let l = s.loc in
    let old = c.args.so_far.now in
    let xs = c.args.region.now.pieces.items in
    let many : c.len.result ≡ length old.losses.items = search rules in
    let start_is = ap (λ k. s.first + k) (many ∙ sym (length-map old.losses.items plain_loss)) in
    let below : l < length xs = let m = c.requires.lists.region_many in let t = c.requires.there in omega arith in
    let losses_vars = subst (AllHaveVars n) (sym c.deref.ensures.value) c.in_ok-losses.ensures.vars in
    let first = subst (AllVars n) (sym c.deref-2.ensures.value) (all_at (λ ps. AllVars n ps.items) xs l c.index.result.now c.index.ensures below c.requires.lists.region_vars) in
    let second = subst (AllVars n) (sym c.deref-3.ensures.value) (c.in_ok-lost.ensures.vars n losses_vars) in
    let same = ap (λ ps. minus frac_arithmetic n ps (lines_of c.deref-3.result.now)) (ap lines_of c.deref-2.ensures.value ∙ lines-at xs l c.index.result.now c.index.ensures below)
    ∙ ap (λ qs. minus frac_arithmetic n (pieces_at (plain_region xs) l) qs) (ap lines_of c.deref-3.ensures.value ∙ c.in_ok-lost.ensures.pieces ∙ ap (λ ls. pieces_lost (plain_losses ls)) c.deref.ensures.value) in
    let a = plain_plant c.args.plant.now in
    let part = round-left a (plain_region xs) (plain_outs c.args.outs.now) (plain_region c.args.backs.now) s.round s.first l place (plain_round old) (s.first + c.len.result) start_is (plain_losses c.in_ok-losses.losses.items) (c.in_ok-losses.ensures.losses place there) in
    part_halts c.from_residual-in_err-rest.result c.in_err-rest.field-0.0 _ (λ _. plain_round old) _ (λ v. lines_of v.items) c.from_residual-in_err-rest.ensures.1 (c.in_err-rest.ensures.calculus n first second)
    (subst (IsPart _) (sym same) part)

pub returns-clause-step : goal.returns-clause-step
returns-clause-step c = λ place there.
    let n = length c.args.plant.now.vars.items in
    let s = c.args.site in
    let l = s.loc in
    let old = c.args.so_far.now in
    let xs = c.args.region.now.pieces.items in
    let many : c.len.result ≡ length old.losses.items = search rules in
    let start_is = ap (λ k. s.first + k) (many ∙ sym (length-map old.losses.items plain_loss)) in
    let below : l < length xs = let m = c.requires.lists.region_many in let t = c.requires.there in omega arith in
    let losses_vars = subst (AllHaveVars n) (sym c.deref.ensures.value) c.in_ok-losses.ensures.vars in
    let first = subst (AllVars n) (sym c.deref-2.ensures.value) (all_at (λ ps. AllVars n ps.items) xs l c.index.result.now c.index.ensures below c.requires.lists.region_vars) in
    let second = subst (AllVars n) (sym c.deref-3.ensures.value) (c.in_ok-lost.ensures.vars n losses_vars) in
    let same = ap (λ ps. minus frac_arithmetic n ps (lines_of c.deref-3.result.now)) (ap lines_of c.deref-2.ensures.value ∙ lines-at xs l c.index.result.now c.index.ensures below)
    ∙ ap (λ qs. minus frac_arithmetic n (pieces_at (plain_region xs) l) qs) (ap lines_of c.deref-3.ensures.value ∙ c.in_ok-lost.ensures.pieces ∙ ap (λ ls. pieces_lost (plain_losses ls)) c.deref.ensures.value) in
    let a = plain_plant c.args.plant.now in
    let made = c.in_ok-losses.losses in
    let rest = c.in_ok-rest.rest in
    round-value a (plain_region xs) (plain_outs c.args.outs.now) (plain_region c.args.backs.now) s.round s.first l place (plain_round old) (s.first + c.len.result) start_is (plain_losses made.items) (c.in_ok-losses.ensures.losses place there) _ _ (lines_of rest.items)
    (ap plain_losses c.in_ok-append.ensures.items ∙ map-append plain_loss old.losses.items made.items) (ap plain_region c.in_ok-push.ensures.items ∙ region-push old.next.pieces.items rest) (c.in_ok-rest.ensures.calculus n first second ∙ ap (λ m. m.value) same)

pub returns-clause-vars : goal.returns-clause-vars
returns-clause-vars c = λ before.
    let n = length c.args.plant.now.vars.items in
    let l = c.args.site.loc in
    let xs = c.args.region.now.pieces.items in
    let wide : Vec PlainSystem → Type 0 = λ ps. AllVars n ps.items in
    let below : l < length xs = let m = c.requires.lists.region_many in let t = c.requires.there in omega arith in
    let losses_vars = subst (AllHaveVars n) (sym c.deref.ensures.value) c.in_ok-losses.ensures.vars in
    let first = subst (AllVars n) (sym c.deref-2.ensures.value) (all_at wide xs l c.index.result.now c.index.ensures below c.requires.lists.region_vars) in
    let second = subst (AllVars n) (sym c.deref-3.ensures.value) (c.in_ok-lost.ensures.vars n losses_vars) in
    subst (IsOverPlant c.args.plant.now) (sym c.in_ok-push.ensures.items) (all-append wide c.args.so_far.now.next.pieces.items (c.in_ok-rest.rest ∷ []) before (c.in_ok-rest.ensures.vars n first second, tt))

pub returns-clause-losses_vars : goal.returns-clause-losses_vars
returns-clause-losses_vars c = λ before.
    let n = length c.args.plant.now.vars.items in
    subst (AllHaveVars n) (sym c.in_ok-append.ensures.items) (all-append (LossVars n) c.args.so_far.now.losses.items c.in_ok-losses.losses.items before c.in_ok-losses.ensures.vars)
