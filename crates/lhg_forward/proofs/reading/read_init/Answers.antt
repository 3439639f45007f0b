use Rattle.std.proofs.Common.{map, length, subst, inl, refl}
use Rattle.std.proofs.lemmas.List.{length-map}
use Rattle.std.proofs.lemmas.Result.{err_from_is_err_and}
use Rattle.lhg_math.specs.Tests.{AllOf}
use Rattle.lhg_plant.specs.Views.{plain_location, plain_plant}
use Rattle.lhg_read.proofs.LexedLines.{lexed_after}
use Rattle.lhg_ctl.specs.DraftStates.{IsPlaced}
use Rattle.lhg_ctl.specs.Views.{plain_placed}
use Rattle.lhg_forward.specs.InitViews.{plain_open}
use Rattle.lhg_forward.proofs.InitReading.{no_end, line_refused, line_taken, init_read}
use Rattle.lhg_forward.proofs.InitPlaced.{read_placed}
use Rattle.lhg_forward.proofs.reading.read_init.Goals as goal

pub loop-init-init : goal.loop-init-init
loop-init-init c = inl (refl, c.new-init.ensures)

pub returns-in_err-line-clause-err : goal.returns-in_err-line-clause-err
returns-in_err-line-clause-err c =
    let p = err_from_is_err_and c.from_residual.result c.from_residual.ensures.1 in
    rw (p.1, p.2) (no_end (plain_plant c.args.plant.now) c.args.lines.now c.loop-init.lines (plain_open c.loop-init.init) c.loop-init.invariant c.loop-init-test.true c.in_err-line.field-0.0 c.in_err-line.ensures.stop)

pub take_line-requires-clause-words : goal.take_line-requires-clause-words
take_line-requires-clause-words c = lexed_after c.loop-init.lines c.in_ok-line.line c.needed_line.new.lines c.in_ok-line.ensures.line c.in_ok-line.ensures.read c.deref.result.now c.deref.ensures.value

pub returns-in-Err-clause-err : goal.returns-in-Err-clause-err
returns-in-Err-clause-err c =
    rw c.stop_at.ensures
    (line_refused (plain_plant c.args.plant.now) c.args.lines.now c.loop-init.lines (plain_open c.loop-init.init) c.loop-init.invariant c.loop-init-test.true c.in_ok-line.line c.needed_line.new.lines
    c.in_ok-line.ensures.line c.in_ok-line.ensures.read c.deref.result.now c.deref.ensures.value c.in-Err.refusal c.in-Err.ensures)

pub loop-init-preserved : goal.loop-init-preserved
loop-init-preserved c =
    line_taken (plain_plant c.args.plant.now) c.args.lines.now c.loop-init.lines (plain_open c.loop-init.init) c.loop-init.invariant c.loop-init-test.true c.in_ok-line.line c.needed_line.new.lines
    c.in_ok-line.ensures.line c.in_ok-line.ensures.read c.deref.result.now c.deref.ensures.value
    (plain_open c.take_line.new.init) (c.in_default.ensures {u = c.in_default.field-0})

pub returns-clause-ok : goal.returns-clause-ok
returns-clause-ok c = init_read (plain_plant c.args.plant.now) c.args.lines.now c.loop-init.lines (plain_open c.loop-init.init) c.loop-init.invariant c.loop-init-test.false

pub returns-clause-placed : goal.returns-clause-placed
returns-clause-placed c =
    let p = c.args.plant.now in
    subst (λ n. AllOf (IsPlaced (length p.vars.items) n) (map plain_placed c.loop-init.init.states.items)) (length-map p.locs.items plain_location)
    (read_placed (plain_plant p) p.proper c.args.lines.now c.loop-init.lines (map plain_placed c.loop-init.init.states.items) (returns-clause-ok c))
