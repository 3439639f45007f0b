use Rattle.std.proofs.Common.{◌≤◌, ◌+◌, ◌∙◌, length, sym, ap, Some, arith}
use Rattle.lhg_read.specs.Options.{joined}
use Rattle.lhg_read.proofs.PointSteps.{rest_of, nothing_read, no_coordinate, coordinate_read}
use Rattle.lhg_read.proofs.points.point_from.Goals as goal

pub loop-name-init : goal.loop-name-init
loop-name-init c =
    nothing_read c.args.vars.now c.args.lines.now.bytes c.args.tokens.now
    ∙ ap (λ xs. joined (Some xs) (rest_of c.args.vars.now c.args.lines.now.bytes c.args.tokens.now 0 0)) (sym c.new-at.ensures.items)

pub returns-in_default : goal.returns-in_default
returns-in_default c =
    let within : c.loop-name.from ≤ length c.args.tokens.now = omega (arith, c.if-from-tokens.false) in
    no_coordinate c.args.vars.now c.args.lines.now.bytes c.args.tokens.now c.loop-name.name-index c.loop-name.from c.name-item.result c.loop-name-test.true c.name-item.is
    _ c.loop-name.at.items c.loop-name.invariant c.before_comma.result within c.before_comma.ensures.place (sym c.in_default.is ∙ c.read_coordinate.ensures)

pub loop-name-preserved : goal.loop-name-preserved
loop-name-preserved c =
    let within : c.loop-name.from ≤ length c.args.tokens.now = omega (arith, c.if-from-tokens.false) in
    coordinate_read c.args.vars.now c.args.lines.now.bytes c.args.tokens.now c.loop-name.name-index c.loop-name.from c.name-item.result c.loop-name-test.true c.name-item.is
    _ c.loop-name.at.items c.loop-name.invariant c.before_comma.result within c.before_comma.ensures.place c.in-Some.q (sym c.in-Some.is ∙ c.read_coordinate.ensures)
    ∙ ap (λ xs. joined (Some xs) (rest_of c.args.vars.now c.args.lines.now.bytes c.args.tokens.now (c.loop-name.name-index + 1) (c.loop-name.from + c.before_comma.result + 1))) (sym c.in_ok-push.ensures.items)
