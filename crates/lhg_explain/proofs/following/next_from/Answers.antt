use Rattle.std.proofs.Common.{length, slice_get, sym, ap, ◌∙◌, subst}
use Rattle.lhg_num.specs.MarkedLaws.{IsPart, part_self}
use Rattle.lhg_num.proofs.Halted.{part_halts_rows}
use Rattle.lhg_motion.specs.Play.{PlainMove}
use Rattle.lhg_plant.specs.Loss.{PlainLoss, by_env, by_leave, by_flow}
use Rattle.lhg_plant.specs.Views.{plain_plant, plain_state}
use Rattle.lhg_loss.specs.Views.{plain_cause, plain_loss, plain_losses}
use Rattle.lhg_play.specs.Views.{plain_move}
use Rattle.lhg_loss.specs.Explanation.{flows_on, flows_out, switches, loss_at, flow_by, switch_by, next_by}
use Rattle.lhg_explain.specs.Views.{plain_next}
use Rattle.lhg_explain.proofs.NextSteps.{step_from, vars_at, crosses_out, env_vars, leave_vars, flow_vars, step_loc, step_vars, step_part, step_value, step_switch, step_result, step_counted, step_further, step_crosses}
use Rattle.lhg_explain.proofs.following.next_from.Goals as goal

pub switch_by-requires-clause-there : goal.switch_by-requires-clause-there
switch_by-requires-clause-there c =
    let p = c.args.plant.now in
    let f = step_from (plain_plant p) c.args.losses.now c.args.m c.args.x.now c.index-losses-m.result c.requires.records c.requires.held c.index-losses-m.is in
    step_switch p f c.in-Env.switch c.in-Env.into c.in-Env.is

pub switch_by-requires-clause-into : goal.switch_by-requires-clause-into
switch_by-requires-clause-into c =
    let p = c.args.plant.now in
    let f = step_from (plain_plant p) c.args.losses.now c.args.m c.args.x.now c.index-losses-m.result c.requires.records c.requires.held c.index-losses-m.is in
    let v = step_vars p f c.requires.vars c.index-losses-m.is in
    env_vars (length p.vars.items) c.index-losses-m.result c.in-Env.switch c.in-Env.into c.in-Env.is v

pub switch_by-requires-clause-result : goal.switch_by-requires-clause-result
switch_by-requires-clause-result c =
    let p = c.args.plant.now in
    let f = step_from (plain_plant p) c.args.losses.now c.args.m c.args.x.now c.index-losses-m.result c.requires.records c.requires.held c.index-losses-m.is in
    step_result p f c.in-Env.switch c.in-Env.into c.in-Env.is

pub returns-in_err-result-in-Env : goal.returns-in_err-result-in-Env
returns-in_err-result-in-Env c =
    let p = c.args.plant.now in
    let f = step_from (plain_plant p) c.args.losses.now c.args.m c.args.x.now c.index-losses-m.result c.requires.records c.requires.held c.index-losses-m.is in
    let L = plain_losses c.args.losses.now in
    let e = c.in-Env.switch in
    let into = c.in-Env.into.lines in
    let part = switch_by (length p.vars.items) e c.args.x.now into (slice_get (plain_plant p).switches e) in
    part_halts_rows c.from_residual.result c.in_err-result-in-Env.field-0.0 (next_by (plain_plant p) L (loss_at L c.args.m) c.args.x.now (loss_at L c.args.m).cause) plain_next part (λ s. switches e (plain_state s)) c.from_residual.ensures.1 c.in_err-result-in-Env.ensures
    (step_part p f (by_env e into) (ap plain_cause c.in-Env.is) part (part_self part))

pub flow_by-requires-clause-there : goal.flow_by-requires-clause-there
flow_by-requires-clause-there c =
    let p = c.args.plant.now in
    let f = step_from (plain_plant p) c.args.losses.now c.args.m c.args.x.now c.index-losses-m.result c.requires.records c.requires.held c.index-losses-m.is in
    step_loc p f

pub flow_by-requires-clause-start : goal.flow_by-requires-clause-start
flow_by-requires-clause-start c =
    let p = c.args.plant.now in
    let f = step_from (plain_plant p) c.args.losses.now c.args.m c.args.x.now c.index-losses-m.result c.requires.records c.requires.held c.index-losses-m.is in
    (step_vars p f c.requires.vars c.index-losses-m.is).0

pub flow_by-requires-clause-through : goal.flow_by-requires-clause-through
flow_by-requires-clause-through c =
    let p = c.args.plant.now in
    let f = step_from (plain_plant p) c.args.losses.now c.args.m c.args.x.now c.index-losses-m.result c.requires.records c.requires.held c.index-losses-m.is in
    let v = step_vars p f c.requires.vars c.index-losses-m.is in
    (leave_vars (length p.vars.items) c.index-losses-m.result c.in-Leave.through c.in-Leave.into c.in-Leave.is v).0

pub flow_by-requires-clause-into : goal.flow_by-requires-clause-into
flow_by-requires-clause-into c =
    let p = c.args.plant.now in
    let f = step_from (plain_plant p) c.args.losses.now c.args.m c.args.x.now c.index-losses-m.result c.requires.records c.requires.held c.index-losses-m.is in
    let v = step_vars p f c.requires.vars c.index-losses-m.is in
    (leave_vars (length p.vars.items) c.index-losses-m.result c.in-Leave.through c.in-Leave.into c.in-Leave.is v).1

pub flow_by-requires-clause-crosses : goal.flow_by-requires-clause-crosses
flow_by-requires-clause-crosses c =
    let p = c.args.plant.now in
    let f = step_from (plain_plant p) c.args.losses.now c.args.m c.args.x.now c.index-losses-m.result c.requires.records c.requires.held c.index-losses-m.is in
    crosses_out (plain_plant p) p.proper (plain_losses c.args.losses.now) (plain_loss c.index-losses-m.result) c.args.x.now f.taken_from c.in-Leave.through.lines c.in-Leave.into.lines (ap plain_cause c.in-Leave.is)

pub returns-in_err-step-in-Leave : goal.returns-in_err-step-in-Leave
returns-in_err-step-in-Leave c =
    let p = c.args.plant.now in
    let f = step_from (plain_plant p) c.args.losses.now c.args.m c.args.x.now c.index-losses-m.result c.requires.records c.requires.held c.index-losses-m.is in
    let L = plain_losses c.args.losses.now in
    let through = c.in-Leave.through.lines in
    let into = c.in-Leave.into.lines in
    let part = flow_by (plain_plant p) (plain_loss c.index-losses-m.result) c.args.x.now through into in
    part_halts_rows c.from_residual-in_err-step-in-Leave.result c.in_err-step-in-Leave.field-0.0 (next_by (plain_plant p) L (loss_at L c.args.m) c.args.x.now (loss_at L c.args.m).cause) plain_next part plain_move
    c.from_residual-in_err-step-in-Leave.ensures.1 c.in_err-step-in-Leave.ensures
    (step_part p f (by_leave through into) (ap plain_cause c.in-Leave.is) part (record { wide = λ h. h; rows = λ h. h; pieces = λ h. h }))

pub overflow_sub-further : goal.overflow_sub-further
overflow_sub-further c =
    let p = c.args.plant.now in
    let f = step_from (plain_plant p) c.args.losses.now c.args.m c.args.x.now c.index-losses-m.result c.requires.records c.requires.held c.index-losses-m.is in
    (step_counted p f c.requires.records c.in-Flow.to c.in-Flow.through c.in-Flow.is).0

pub bounds-losses-to : goal.bounds-losses-to
bounds-losses-to c =
    let p = c.args.plant.now in
    let f = step_from (plain_plant p) c.args.losses.now c.args.m c.args.x.now c.index-losses-m.result c.requires.records c.requires.held c.index-losses-m.is in
    (step_counted p f c.requires.records c.in-Flow.to c.in-Flow.through c.in-Flow.is).1

pub flow_by-requires-in-Flow-clause-there : goal.flow_by-requires-in-Flow-clause-there
flow_by-requires-in-Flow-clause-there c =
    let p = c.args.plant.now in
    let f = step_from (plain_plant p) c.args.losses.now c.args.m c.args.x.now c.index-losses-m.result c.requires.records c.requires.held c.index-losses-m.is in
    step_loc p f

pub flow_by-requires-in-Flow-clause-start : goal.flow_by-requires-in-Flow-clause-start
flow_by-requires-in-Flow-clause-start c =
    let p = c.args.plant.now in
    let f = step_from (plain_plant p) c.args.losses.now c.args.m c.args.x.now c.index-losses-m.result c.requires.records c.requires.held c.index-losses-m.is in
    (step_vars p f c.requires.vars c.index-losses-m.is).0

pub flow_by-requires-in-Flow-clause-through : goal.flow_by-requires-in-Flow-clause-through
flow_by-requires-in-Flow-clause-through c =
    let p = c.args.plant.now in
    let f = step_from (plain_plant p) c.args.losses.now c.args.m c.args.x.now c.index-losses-m.result c.requires.records c.requires.held c.index-losses-m.is in
    let v = step_vars p f c.requires.vars c.index-losses-m.is in
    flow_vars (length p.vars.items) c.index-losses-m.result c.in-Flow.to c.in-Flow.through c.in-Flow.is v

pub flow_by-requires-in-Flow-clause-into : goal.flow_by-requires-in-Flow-clause-into
flow_by-requires-in-Flow-clause-into c =
    let p = c.args.plant.now in
    let f = step_from (plain_plant p) c.args.losses.now c.args.m c.args.x.now c.index-losses-m.result c.requires.records c.requires.held c.index-losses-m.is in
    let below = (step_counted p f c.requires.records c.in-Flow.to c.in-Flow.through c.in-Flow.is).1 in
    (vars_at (length p.vars.items) c.in-Flow.to c.args.losses.now c.index-losses-to.result c.requires.vars c.index-losses-to.is below).0

pub flow_by-requires-in-Flow-clause-crosses : goal.flow_by-requires-in-Flow-clause-crosses
flow_by-requires-in-Flow-clause-crosses c =
    let p = c.args.plant.now in
    let f = step_from (plain_plant p) c.args.losses.now c.args.m c.args.x.now c.index-losses-m.result c.requires.records c.requires.held c.index-losses-m.is in
    step_crosses p f c.requires.records c.in-Flow.to c.in-Flow.through c.in-Flow.is c.index-losses-to.result c.index-losses-to.is

pub returns-in_err-step-in-Flow : goal.returns-in_err-step-in-Flow
returns-in_err-step-in-Flow c =
    let p = c.args.plant.now in
    let f = step_from (plain_plant p) c.args.losses.now c.args.m c.args.x.now c.index-losses-m.result c.requires.records c.requires.held c.index-losses-m.is in
    let L = plain_losses c.args.losses.now in
    let l = plain_loss c.index-losses-m.result in
    let x = c.args.x.now in
    let through = c.in-Flow.through.lines in
    let further = c.index-losses-to.result in
    let part = flow_by (plain_plant p) l x through further.piece.lines in
    let here : IsPart (next_by (plain_plant p) L l x (by_flow c.in-Flow.to through)) part =
    subst (λ (q : PlainLoss). IsPart (next_by (plain_plant p) L l x (by_flow c.in-Flow.to through)) (flow_by (plain_plant p) l x through q.piece))
    (step_further p f c.requires.records c.in-Flow.to c.in-Flow.through c.in-Flow.is further c.index-losses-to.is) (record { wide = λ h. h; rows = λ h. h; pieces = λ h. h }) in
    part_halts_rows c.from_residual-in_err-step-in-Flow.result c.in_err-step-in-Flow.field-0.0 (next_by (plain_plant p) L (loss_at L c.args.m) x (loss_at L c.args.m).cause) plain_next part plain_move
    c.from_residual-in_err-step-in-Flow.ensures.1 c.in_err-step-in-Flow.ensures (step_part p f (by_flow c.in-Flow.to through) (ap plain_cause c.in-Flow.is) part here)

pub returns-in_ok-result-in-Env : goal.returns-in_ok-result-in-Env
returns-in_ok-result-in-Env c =
    let p = c.args.plant.now in
    let f = step_from (plain_plant p) c.args.losses.now c.args.m c.args.x.now c.index-losses-m.result c.requires.records c.requires.held c.index-losses-m.is in
    c.in_ok-result-in-Env.ensures ∙ step_value p f (by_env c.in-Env.switch c.in-Env.into.lines) (ap plain_cause c.in-Env.is)

pub returns-in_ok-step-in-Leave : goal.returns-in_ok-step-in-Leave
returns-in_ok-step-in-Leave c =
    let p = c.args.plant.now in
    let f = step_from (plain_plant p) c.args.losses.now c.args.m c.args.x.now c.index-losses-m.result c.requires.records c.requires.held c.index-losses-m.is in
    ap flows_out c.in_ok-step-in-Leave.ensures ∙ step_value p f (by_leave c.in-Leave.through.lines c.in-Leave.into.lines) (ap plain_cause c.in-Leave.is)

pub returns-in_ok-step-in-Flow : goal.returns-in_ok-step-in-Flow
returns-in_ok-step-in-Flow c =
    let p = c.args.plant.now in
    let f = step_from (plain_plant p) c.args.losses.now c.args.m c.args.x.now c.index-losses-m.result c.requires.records c.requires.held c.index-losses-m.is in
    let further = c.index-losses-to.result in
    let there = step_further p f c.requires.records c.in-Flow.to c.in-Flow.through c.in-Flow.is further c.index-losses-to.is in
    ap (λ (m : PlainMove). flows_on m c.in-Flow.to) c.in_ok-step-in-Flow.ensures
    ∙ sym (ap (λ (q : PlainLoss). flows_on (flow_by (plain_plant p) (plain_loss c.index-losses-m.result) c.args.x.now c.in-Flow.through.lines q.piece).value c.in-Flow.to) there)
    ∙ step_value p f (by_flow c.in-Flow.to c.in-Flow.through.lines) (ap plain_cause c.in-Flow.is)
