use Rattle.std.proofs.Common.{◌+◌, ◌<◌, ◌≤◌, length, sym, ap, ◌∙◌, subst, arith, rules}
use Rattle.std.proofs.lemmas.List.{length-map}
use Rattle.lhg_num.proofs.Halted.{part_halts}
use Rattle.lhg_union.specs.Regions.{plain_region}
use Rattle.lhg_plant.specs.Views.{plain_plant, plain_location}
use Rattle.lhg_jump.proofs.WalkSteps.{numbered-part, numbered-step, numbered-end}
use Rattle.lhg_loss.specs.Records.{round_at, round_over}
use Rattle.lhg_quiet.specs.Quiet.{outs_from, backs_from, AreChanges}
use Rattle.lhg_iterate.specs.RoundViews.{plain_round}
use Rattle.lhg_iterate.proofs.RoundSteps.{length-region, reached-step, there-below, location-at}
use Rattle.lhg_iterate.proofs.rounds.over_places.Goals as goal

pub returns-in_err-mark-clause-calculus : goal.returns-in_err-mark-clause-calculus
returns-in_err-mark-clause-calculus c =
    let p = c.args.plant.now in
    let a = plain_plant p in
    let region = plain_region c.args.region.now.pieces.items in
    let outs = outs_from a region in
    let kss = backs_from a region in
    let f = round_at a region outs kss c.args.number c.args.first in
    let l = c.loop-l.l in
    let there : l < length p.locs.items = search rules in
    let at = location-at p l there in
    part_halts c.from_residual-in_err-mark.result c.in_err-mark.field-0.0 (round_over a region outs kss c.args.number c.args.first) (λ d. plain_round d.round) _ (λ _. plain_round c.step_place.new.so_far) c.from_residual-in_err-mark.ensures.1
    (c.in_err-mark.ensures.step (plain_location at.location) at.there)
    (numbered-part f plain_location p.locs.items (round_over a region outs kss c.args.number c.args.first) (plain_round c.loop-l.so_far) l at.location at.is there c.loop-l.invariant.rest)

pub loop-l-preserved : goal.loop-l-preserved
loop-l-preserved c =
    let p = c.args.plant.now in
    let a = plain_plant p in
    let region = plain_region c.args.region.now.pieces.items in
    let outs = outs_from a region in
    let kss = backs_from a region in
    let f = round_at a region outs kss c.args.number c.args.first in
    let l = c.loop-l.l in
    let there : l < length p.locs.items = search rules in
    let at = location-at p l there in
    let few = c.loop-l.invariant.few in
    let fewer = c.in_ok-mark.ensures.few in
    record {
      rest = numbered-step f plain_location p.locs.items (round_over a region outs kss c.args.number c.args.first) (plain_round c.loop-l.so_far) l at.location at.is there c.loop-l.invariant.rest (plain_round c.step_place.new.so_far)
          (c.in_ok-mark.ensures.step (plain_location at.location) at.there);
      reached = reached-step a region outs kss l c.loop-l.invariant.reached c.in_ok-mark.ensures.reached;
      changes = subst (AreChanges a region (plain_region c.step_place.new.so_far.next.pieces.items)) (sym c.in_ok-push.ensures.items)
          ((c.law_changes.ensures a region).step l (plain_location at.location) c.args.number c.args.first (plain_round c.loop-l.so_far) (plain_round c.step_place.new.so_far) c.loop-l.changed.items c.in_ok-mark.mark c.loop-l.invariant.changes
          (length-region c.loop-l.so_far.next.pieces.items ∙ c.loop-l.invariant.many) c.loop-l.invariant.marks (c.in_ok-mark.ensures.step (plain_location at.location) at.there) (c.in_ok-mark.ensures.unchanged (plain_location at.location) at.there));
      marks = search rules;
      few = omega arith;
      many = c.in_ok-mark.ensures.many ∙ ap (λ k. k + 1) c.loop-l.invariant.many;
      vars = c.in_ok-mark.ensures.vars c.loop-l.invariant.vars;
      losses_vars = c.in_ok-mark.ensures.losses_vars c.loop-l.invariant.losses_vars;
    }

pub returns-clause-calculus : goal.returns-clause-calculus
returns-clause-calculus c =
    let p = c.args.plant.now in
    let a = plain_plant p in
    let region = plain_region c.args.region.now.pieces.items in
    let outs = outs_from a region in
    let kss = backs_from a region in
    let f = round_at a region outs kss c.args.number c.args.first in
    let past : length p.locs.items ≤ c.loop-l.l = search rules in
    numbered-end f plain_location p.locs.items (round_over a region outs kss c.args.number c.args.first) (plain_round c.loop-l.so_far) c.loop-l.l past c.loop-l.invariant.rest

pub returns-clause-reached : goal.returns-clause-reached
returns-clause-reached c = λ k place there.
    let p = c.args.plant.now in
    let past : length p.locs.items ≤ c.loop-l.l = search rules in
    let below = there-below (plain_plant p).locs k place there in
    let many = length-map p.locs.items plain_location in
    c.loop-l.invariant.reached k place (omega arith) there

pub step_place-requires-clause-is_quiet : goal.step_place-requires-clause-is_quiet
step_place-requires-clause-is_quiet c = λ yes place there. c.requires.quiet.quiet c.loop-l.l place there yes
