use Rattle.std.proofs.Common.{length, List, sym, ap, subst, arith}
use Rattle.std.proofs.lemmas.List.{length-map}
use Rattle.lhg_math.specs.Tests.{AllOf}
use Rattle.lhg_plant.specs.Plant.{PlainPlant}
use Rattle.lhg_plant.specs.Views.{plain_plant, plain_location}
use Rattle.lhg_ctl.specs.Draft.{PlainDraft}
use Rattle.lhg_ctl.specs.LogText.{PlainLog}
use Rattle.lhg_ctl.specs.LogViews.{plain_entry, plain_log}
use Rattle.lhg_ctl.specs.Views.{plain_draft}
use Rattle.lhg_ctl.specs.declared.entries.Entry.{Entry}
use Rattle.lhg_run.specs.Views.{plain_entries, IsOver}
use Rattle.lhg_input.specs.Inputs.{IsLogInput}
use Rattle.lhg_cli.specs.RunAnswer.{IsRan}
use Rattle.std.specs.Prelude.{IfOk}
use Rattle.lhg_cli.proofs.InputSteps.{value_answer, stop_answer}
use Rattle.lhg_cli.proofs.LogPlaces.{log_start, log_over, log_few}
use Rattle.lhg_cli.proofs.RunAnswers.{sure_run}
use Rattle.lhg_cli.proofs.running.ran.Goals as goal

pub run_written-requires-clause-there : goal.run_written-requires-clause-there
run_written-requires-clause-there c =
    let i = c.in-Ok.input in
    let place = (log_start c.args.bytes.now (plain_plant i.plant) (plain_draft i.draft) (plain_log i.start i.entries.items) c.in-Ok.ensures.ok).loc in
    let size = length-map i.plant.locs.items plain_location in
    omega (arith, place, size)

pub run_written-requires-clause-start : goal.run_written-requires-clause-start
run_written-requires-clause-start c =
    let i = c.in-Ok.input in
    (log_start c.args.bytes.now (plain_plant i.plant) (plain_draft i.draft) (plain_log i.start i.entries.items) c.in-Ok.ensures.ok).fits

pub run_written-requires-clause-ends : goal.run_written-requires-clause-ends
run_written-requires-clause-ends c =
    let i = c.in-Ok.input in
    subst (λ (es : List Entry). AllOf (IsOver (length i.plant.vars.items)) (plain_entries es)) (sym c.deref.ensures.value)
    (log_over c.args.bytes.now (plain_plant i.plant) (plain_draft i.draft) (plain_log i.start i.entries.items) c.in-Ok.ensures.ok)

pub run_written-requires-clause-few : goal.run_written-requires-clause-few
run_written-requires-clause-few c =
    let i = c.in-Ok.input in
    let few = log_few c.args.bytes.now (plain_plant i.plant) (plain_draft i.draft) (plain_log i.start i.entries.items) c.in-Ok.ensures.ok c.requires in
    let size = length-map i.entries.items plain_entry in
    let same = ap length c.deref.ensures.value in
    omega (arith, few, size, same)

pub returns-in-Ok-clause-answer : goal.returns-in-Ok-clause-answer
returns-in-Ok-clause-answer c =
    let i = c.in-Ok.input in
    let input : (PlainPlant × PlainDraft) × PlainLog = ((plain_plant i.plant, plain_draft i.draft), plain_log i.start i.entries.items) in
    value_answer IsLogInput IsRan c.args.bytes.now c.run_written.result input c.requires c.in-Ok.ensures.ok
    (subst (λ (es : List Entry). IfOk c.run_written.result (λ a. IsRan ((plain_plant i.plant, plain_draft i.draft), plain_log i.start es) a.status a.text.items)) c.deref.ensures.value c.run_written.ensures)

pub returns-in-Ok-clause-sure : goal.returns-in-Ok-clause-sure
returns-in-Ok-clause-sure c =
    let i = c.in-Ok.input in
    let input : (PlainPlant × PlainDraft) × PlainLog = ((plain_plant i.plant, plain_draft i.draft), plain_log i.start i.entries.items) in
    sure_run c.args.bytes.now c.run_written.result
    (value_answer IsLogInput IsRan c.args.bytes.now c.run_written.result input c.requires c.in-Ok.ensures.ok
    (subst (λ (es : List Entry). IfOk c.run_written.result (λ a. IsRan ((plain_plant i.plant, plain_draft i.draft), plain_log i.start es) a.status a.text.items)) c.deref.ensures.value c.run_written.ensures))

pub returns-in-Err-clause-sure : goal.returns-in-Err-clause-sure
returns-in-Err-clause-sure c =
    sure_run c.args.bytes.now c.refused.result
    (stop_answer IsLogInput IsRan c.args.bytes.now c.refused.result c.in-Err.stop c.requires c.in-Err.ensures.err c.refused.ensures.status c.refused.ensures.text)
