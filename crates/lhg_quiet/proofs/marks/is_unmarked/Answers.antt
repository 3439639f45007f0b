use Rattle.std.proofs.Common.{◌≡◌, ◌<◌, true, length, rules, arith}
use Rattle.lhg_quiet.proofs.MarkSteps.{target-there, clear-more}
use Rattle.lhg_quiet.proofs.marks.is_unmarked.Goals as goal

pub loop-e-init : goal.loop-e-init
loop-e-init c = λ k x less there from. absurd (omega arith)

pub is_clear-clear-requires : goal.is_clear-clear-requires
is_clear-clear-requires c =
    let p = c.args.plant.now in
    let there : c.loop-e.e < length p.switches.items = search rules in
    let to = target-there p c.loop-e.e c.index.result.now there c.index.ensures in
    let many = c.requires.many in
    omega arith

pub loop-e-preserved : goal.loop-e-preserved
loop-e-preserved c =
    let p = c.args.plant.now in
    let there : c.loop-e.e < length p.switches.items = search rules in
    let clear : c.is_clear-clear.result ≡ true = search rules in
    clear-more p c.args.changed.now c.args.loc c.loop-e.e c.index.result.now there c.index.ensures c.loop-e.invariant (c.is_clear-clear.ensures clear)
