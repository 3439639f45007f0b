use Rattle.std.proofs.Common.{◌≡◌, length, sym, ap, ◌∙◌, subst, arith, rules}
use Rattle.std.proofs.lemmas.List.{length-map}
use Rattle.lhg_num.specs.MarkedLaws.{IsPart, part_self}
use Rattle.lhg_num.proofs.Halted.{part_halts}
use Rattle.lhg_union.specs.Regions.{plain_region}
use Rattle.lhg_plant.specs.Views.{plain_plant}
use Rattle.lhg_jump.specs.OutViews.{plain_outs}
use Rattle.lhg_loss.specs.Records.{round_at}
use Rattle.lhg_loss.specs.Views.{plain_loss, AllHaveVars}
use Rattle.lhg_quiet.specs.Quiet.{outs_from, backs_from}
use Rattle.lhg_iterate.specs.RoundViews.{plain_round}
use Rattle.lhg_iterate.proofs.Halting.{on_memory}
use Rattle.lhg_iterate.proofs.PassSteps.{passed-over}
use Rattle.lhg_iterate.proofs.passing.step_place.Goals as goal

-- ---- a quiet location
pub pass_place-requires-clause-there : goal.pass_place-requires-clause-there
pass_place-requires-clause-there c = let m = c.requires.lists.region_many in let t = c.requires.there in omega arith

pub pass_place-requires-clause-region : goal.pass_place-requires-clause-region
pass_place-requires-clause-region c = c.requires.lists.region_vars

pub returns-in_err-pass_place-clause-step : goal.returns-in_err-pass_place-clause-step
returns-in_err-pass_place-clause-step c = λ place there.
    let new = c.pass_place.new.so_far in
    on_memory c.from_residual.result c.in_err-pass_place.field-0.0 _ (λ _. plain_round new) _ (λ _. plain_region new.next.pieces.items) c.from_residual.ensures.1 c.in_err-pass_place.ensures.next

pub returns-then-quiet-clause-step : goal.returns-then-quiet-clause-step
returns-then-quiet-clause-step c = λ place there.
    let a = plain_plant c.args.plant.now in
    let s = c.args.site in
    passed-over a (plain_region c.args.region.now.pieces.items) s.round s.first s.loc place c.args.so_far.now c.pass_place.new.so_far (c.law_quiet.ensures a) (c.requires.is_quiet c.if-quiet.true place there)
    c.in_ok-pass_place.ensures.losses c.in_ok-pass_place.ensures.next

pub returns-then-quiet-clause-reached : goal.returns-then-quiet-clause-reached
returns-then-quiet-clause-reached c = λ place there. (c.requires.is_quiet c.if-quiet.true place there).reached

pub returns-then-quiet-clause-unchanged : goal.returns-then-quiet-clause-unchanged
returns-then-quiet-clause-unchanged c = λ place there no. record { next = c.in_ok-pass_place.ensures.next; quiet = λ other k. c.requires.is_quiet c.if-quiet.true other k }

pub returns-then-quiet-clause-few : goal.returns-then-quiet-clause-few
returns-then-quiet-clause-few c = let e = ap length c.in_ok-pass_place.ensures.losses in omega arith

pub returns-then-quiet-clause-losses_vars : goal.returns-then-quiet-clause-losses_vars
returns-then-quiet-clause-losses_vars c = λ v. subst (AllHaveVars (length c.args.plant.now.vars.items)) (sym c.in_ok-pass_place.ensures.losses) v

-- ---- another one
pub returns-in_err-add_place-clause-step : goal.returns-in_err-add_place-clause-step
returns-in_err-add_place-clause-step c = λ place there.
    let a = plain_plant c.args.plant.now in
    let region = plain_region c.args.region.now.pieces.items in
    let outs = plain_outs c.args.outs.now in
    let kss = plain_region c.args.backs.now in
    let s = c.args.site in
    let old = plain_round c.args.so_far.now in
    let new = c.add_place.new.so_far in
    let part = round_at a region outs kss s.round s.first old (s.loc, place) in
    let whole = round_at a region (outs_from a region) (backs_from a region) s.round s.first old (s.loc, place) in
    let e : part ≡ whole = (c.law_place.ensures a region s.loc place).round outs kss s.round s.first old (c.requires.sets c.if-quiet.false) in
    part_halts c.from_residual-in_err-add_place.result c.in_err-add_place.field-0.0 whole (λ _. plain_round new) part (λ _. plain_round new) c.from_residual-in_err-add_place.ensures.1 (c.in_err-add_place.ensures.step place there)
    (subst (λ m. IsPart m part) e (part_self part))

pub returns-then-after-before-clause-step : goal.returns-then-after-before-clause-step
returns-then-after-before-clause-step c = λ place there.
    let a = plain_plant c.args.plant.now in
    let s = c.args.site in
    c.in_ok-add_place.ensures.step place there
    ∙ ap (λ m. m.value) ((c.law_place.ensures a (plain_region c.args.region.now.pieces.items) s.loc place).round (plain_outs c.args.outs.now) (plain_region c.args.backs.now) s.round s.first (plain_round c.args.so_far.now) (c.requires.sets c.if-quiet.false))

pub returns-then-after-before-clause-reached : goal.returns-then-after-before-clause-reached
returns-then-after-before-clause-reached c = λ place there.
    let a = plain_plant c.args.plant.now in
    let s = c.args.site in
    (c.law_place.ensures a (plain_region c.args.region.now.pieces.items) s.loc place).reached (plain_outs c.args.outs.now) (plain_region c.args.backs.now) (c.requires.sets c.if-quiet.false) (c.in_ok-add_place.ensures.reached place there)

pub returns-then-after-before-clause-unchanged : goal.returns-then-after-before-clause-unchanged
returns-then-after-before-clause-unchanged c = λ place there no.
    let a = plain_plant c.args.plant.now in
    let region = plain_region c.args.region.now.pieces.items in
    let outs = plain_outs c.args.outs.now in
    let kss = plain_region c.args.backs.now in
    let s = c.args.site in
    let old = c.args.so_far.now in
    let new = c.add_place.new.so_far in
    let laws = c.law_place.ensures a region s.loc place in
    let sets = c.requires.sets c.if-quiet.false in
    let same : length new.losses.items ≡ length old.losses.items = search rules in
    let one : length (plain_round new).losses ≡ length new.losses.items = length-map new.losses.items plain_loss in
    let two : length (plain_round old).losses ≡ length old.losses.items = length-map old.losses.items plain_loss in
    laws.unchanged s.round s.first (plain_round old) (plain_round new) there (laws.reached outs kss sets (c.in_ok-add_place.ensures.reached place there))
    (c.in_ok-add_place.ensures.step place there ∙ ap (λ m. m.value) (laws.round outs kss s.round s.first (plain_round old) sets)) (omega arith)

pub returns-clause-step : goal.returns-clause-step
returns-clause-step c = λ place there.
    let a = plain_plant c.args.plant.now in
    let s = c.args.site in
    c.in_ok-add_place.ensures.step place there
    ∙ ap (λ m. m.value) ((c.law_place.ensures a (plain_region c.args.region.now.pieces.items) s.loc place).round (plain_outs c.args.outs.now) (plain_region c.args.backs.now) s.round s.first (plain_round c.args.so_far.now) (c.requires.sets c.if-quiet.false))

pub returns-clause-reached : goal.returns-clause-reached
returns-clause-reached c = λ place there.
    let a = plain_plant c.args.plant.now in
    let s = c.args.site in
    (c.law_place.ensures a (plain_region c.args.region.now.pieces.items) s.loc place).reached (plain_outs c.args.outs.now) (plain_region c.args.backs.now) (c.requires.sets c.if-quiet.false) (c.in_ok-add_place.ensures.reached place there)

pub returns-clause-unchanged : goal.returns-clause-unchanged
returns-clause-unchanged c = λ place there no. cc
