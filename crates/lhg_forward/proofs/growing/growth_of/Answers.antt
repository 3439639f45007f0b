use Rattle.std.proofs.Common.{◌≡◌, ◌<◌, length, sym, rules}
use Rattle.std.proofs.lemmas.List.{length-map}
use Rattle.lhg_num.proofs.Halted.{part_halts}
use Rattle.lhg_plant.specs.Views.{plain_location, plain_plant}
use Rattle.lhg_forward.specs.Views.{plain_growth, plain_stage}
use Rattle.lhg_forward.proofs.GrowthCode.{growth-start, growth-part, growth-step}
use Rattle.lhg_forward.proofs.growing.growth_of.Goals as goal

pub loop-l-init : goal.loop-l-init
loop-l-init c =
    let p = c.args.plant.now in
    record {
      rest = growth-start (plain_plant p) (plain_stage c.args.stage.now) (length p.locs.items) (sym (length-map p.locs.items plain_location)) (plain_growth c.in_ok-growth.growth) c.in_ok-growth.ensures.plain;
      lists = c.in_ok-growth.ensures.lists;
    }

pub returns-in_err-add_location-clause-calculus : goal.returns-in_err-add_location-clause-calculus
returns-in_err-add_location-clause-calculus c =
    let p = c.args.plant.now in
    let less : c.loop-l.l < length p.locs.items = search rules in
    part_halts c.from_residual-in_err-add_location.result c.in_err-add_location.field-0.0 _ plain_growth _ (λ _. plain_growth c.add_location.new.growth) c.from_residual-in_err-add_location.ensures.1 c.in_err-add_location.ensures.calculus
    (growth-part (plain_plant p) (plain_stage c.args.stage.now) (length p.locs.items) (sym (length-map p.locs.items plain_location)) (plain_growth c.loop-l.growth) c.loop-l.l c.loop-l.invariant.rest less)

pub loop-l-preserved : goal.loop-l-preserved
loop-l-preserved c =
    let p = c.args.plant.now in
    let less : c.loop-l.l < length p.locs.items = search rules in
    record {
      rest = growth-step (plain_plant p) (plain_stage c.args.stage.now) (length p.locs.items) (sym (length-map p.locs.items plain_location)) (plain_growth c.loop-l.growth) c.loop-l.l c.loop-l.invariant.rest less (plain_growth c.add_location.new.growth) c.in_ok-add_location.ensures.calculus;
      lists = c.in_ok-add_location.ensures.lists;
    }
