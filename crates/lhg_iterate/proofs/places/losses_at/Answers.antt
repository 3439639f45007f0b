use Rattle.std.proofs.Common.{◌≡◌, ◌<◌, ◌++◌, length, sym, ap, ◌∙◌, subst, arith, rules}
use Rattle.lhg_math.specs.Tests.{AllOf}
use Rattle.lhg_num.specs.FracArithmetic.{frac_arithmetic}
use Rattle.lhg_num.specs.Halting.{IsHaltedBy}
use Rattle.lhg_num.proofs.Halted.{part_halts}
use Rattle.lhg_row.specs.Width.{AllWide}
use Rattle.lhg_motion.specs.ReachCalculus.{reach}
use Rattle.lhg_union.specs.PolyLists.{lines_of, AllVars}
use Rattle.lhg_union.specs.Regions.{plain_region}
use Rattle.lhg_union.proofs.ListFacts.{all_at}
use Rattle.lhg_plant.specs.OutCalculus.{hit_pieces}
use Rattle.lhg_plant.specs.Views.{plain_location, plain_plant}
use Rattle.lhg_plant.proofs.Options.{some_same}
use Rattle.lhg_jump.specs.HitViews.{plain_hits, HasVars}
use Rattle.lhg_jump.specs.OutViews.{plain_outs}
use Rattle.lhg_jump.proofs.Answering.{rest_halts, location-there, location-is}
use Rattle.lhg_jump.proofs.HitCode.{plain_hits-at}
use Rattle.lhg_jump.proofs.RangeSteps.{lines-at}
use Rattle.lhg_loss.specs.Records.{reached_losses}
use Rattle.lhg_loss.specs.RoundFacts.{AreReached, IsReachedAt}
use Rattle.lhg_loss.specs.Views.{plain_losses}
use Rattle.lhg_iterate.proofs.Halting.{ok_then}
use Rattle.lhg_iterate.proofs.PlaceSteps.{losses-near, losses-rest, reached-at}
use Rattle.lhg_iterate.proofs.places.losses_at.Goals as goal

pub near_at-requires-clause-region : goal.near_at-requires-clause-region
near_at-requires-clause-region c = record { many = c.requires.lists.region_many; vars = c.requires.lists.region_vars }

pub near_at-requires-clause-lists : goal.near_at-requires-clause-lists
near_at-requires-clause-lists c = record { many = c.requires.lists.backs_many; vars = c.requires.lists.backs_vars }

pub returns-in_err-near-clause-losses : goal.returns-in_err-near-clause-losses
returns-in_err-near-clause-losses c = λ place there.
    part_halts c.from_residual.result c.in_err-near.field-0.0 _ (λ v. plain_losses v.items) _ (λ v. lines_of v.items) c.from_residual.ensures.1 c.in_err-near.ensures.calculus
    (losses-near (plain_plant c.args.plant.now) (plain_region c.args.region.now.pieces.items) (plain_outs c.args.outs.now) (plain_region c.args.backs.now) c.args.site.round c.args.site.first c.args.site.loc place)

pub losses_from-requires-clause-flow : goal.losses_from-requires-clause-flow
losses_from-requires-clause-flow c =
    let p = c.args.plant.now in
    let n = length p.vars.items in
    let l = c.args.site.loc in
    let place = c.index.result.now in
    let many : c.len.result ≡ n = search rules in
    let wide = (location-is p l place (location-there p l place c.requires.there c.index.ensures)).flow.wide in
    subst (λ k. AllWide k c.deref.result.now) (sym many) (subst (AllWide n) (sym c.deref.ensures.value) wide)

pub losses_from-requires-clause-away : goal.losses_from-requires-clause-away
losses_from-requires-clause-away c =
    let n = length c.args.plant.now.vars.items in
    let l = c.args.site.loc in
    let xs = c.args.outs.now.away.pieces.items in
    let many : c.len.result ≡ n = search rules in
    let below : l < length xs = let m = c.requires.lists.away_many in let t = c.requires.there in omega arith in
    let vars = all_at (λ ps. AllVars n ps.items) xs l c.index-away.result.now c.index-away.ensures below c.requires.lists.away_vars in
    subst (λ k. AllVars k c.deref-2.result.now) (sym many) (subst (AllVars n) (sym c.deref-2.ensures.value) vars)

pub losses_from-requires-clause-hits : goal.losses_from-requires-clause-hits
losses_from-requires-clause-hits c =
    let n = length c.args.plant.now.vars.items in
    let l = c.args.site.loc in
    let xs = c.args.outs.now.hits.items in
    let many : c.len.result ≡ n = search rules in
    let below : l < length xs = let m = c.requires.lists.hits_many in let t = c.requires.there in omega arith in
    let vars = all_at (λ hs. AllOf (HasVars n) hs.items) xs l c.index-hits.result.now c.index-hits.ensures below c.requires.lists.hits_vars in
    subst (λ k. AllOf (HasVars k) c.deref-3.result.now) (sym many) (subst (AllOf (HasVars n)) (sym c.deref-3.ensures.value) vars)

pub losses_from-requires-clause-near : goal.losses_from-requires-clause-near
losses_from-requires-clause-near c =
    let many : c.len.result ≡ length c.args.plant.now.vars.items = search rules in
    subst (λ k. AllVars k c.in_ok-near.near.items) (sym many) c.in_ok-near.ensures.vars

pub returns-clause-losses : goal.returns-clause-losses
returns-clause-losses c = λ place there.
    let p = c.args.plant.now in
    let n = length p.vars.items in
    let s = c.args.site in
    let l = s.loc in
    let o = c.args.outs.now in
    let here = c.index.result.now in
    let many : c.len.result ≡ n = search rules in
    let away_below : l < length o.away.pieces.items = let m = c.requires.lists.away_many in let t = c.requires.there in omega arith in
    let hits_below : l < length o.hits.items = let m = c.requires.lists.hits_many in let t = c.requires.there in omega arith in
    let away = lines_of c.deref-2.result.now in
    let hits = plain_hits c.deref-3.result.now in
    let near = lines_of c.in_ok-near.near.items in
    let flow = c.deref.result.now in
    let away_is = ap lines_of c.deref-2.ensures.value ∙ lines-at o.away.pieces.items l c.index-away.result.now c.index-away.ensures away_below in
    let hits_are = ap plain_hits c.deref-3.ensures.value ∙ plain_hits-at o.hits.items l c.index-hits.result.now c.index-hits.ensures hits_below in
    let flow_is = c.deref.ensures.value ∙ ap (λ x. x.flow) (some_same _ (plain_location here) place (location-there p l here c.requires.there c.index.ensures) there) in
    let rest = losses-rest (plain_plant p) (plain_region c.args.region.now.pieces.items) (plain_outs o) (plain_region c.args.backs.now) s.round s.first l place away hits near flow away_is hits_are c.in_ok-near.ensures.calculus flow_is in
    rest_halts c.losses_from.result _ (reached_losses n s.round l s.first away hits near flow) (λ v. plain_losses v.items) rest
    (subst (λ k. IsHaltedBy c.losses_from.result (reached_losses k s.round l s.first away hits near flow) (λ v. plain_losses v.items)) many c.losses_from.ensures.losses)

pub returns-clause-reached : goal.returns-clause-reached
returns-clause-reached c = λ place there.
    let p = c.args.plant.now in
    let n = length p.vars.items in
    let s = c.args.site in
    let l = s.loc in
    let o = c.args.outs.now in
    let here = c.index.result.now in
    let many : c.len.result ≡ n = search rules in
    let away_below : l < length o.away.pieces.items = let m = c.requires.lists.away_many in let t = c.requires.there in omega arith in
    let hits_below : l < length o.hits.items = let m = c.requires.lists.hits_many in let t = c.requires.there in omega arith in
    let away = lines_of c.deref-2.result.now in
    let hits = plain_hits c.deref-3.result.now in
    let near = lines_of c.in_ok-near.near.items in
    let flow = c.deref.result.now in
    let away_is = ap lines_of c.deref-2.ensures.value ∙ lines-at o.away.pieces.items l c.index-away.result.now c.index-away.ensures away_below in
    let hits_are = ap plain_hits c.deref-3.ensures.value ∙ plain_hits-at o.hits.items l c.index-hits.result.now c.index-hits.ensures hits_below in
    let flow_is = c.deref.ensures.value ∙ ap (λ x. x.flow) (some_same _ (plain_location here) place (location-there p l here c.requires.there c.index.ensures) there) in
    let a = plain_plant p in
    let region = plain_region c.args.region.now.pieces.items in
    let kss = plain_region c.args.backs.now in
    ok_then c.losses_from.result _ (IsReachedAt a region (plain_outs o) kss l place) (λ h. reached-at a region (plain_outs o) kss s.round s.first l place away hits near flow away_is hits_are c.in_ok-near.ensures.calculus flow_is (subst (λ k. AreReached k (away ++ hit_pieces hits) near flow (reach frac_arithmetic k (away ++ hit_pieces hits) near flow).value.found) many h)) c.losses_from.ensures.reached
