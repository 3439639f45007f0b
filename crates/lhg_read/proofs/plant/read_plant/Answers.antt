use Rattle.std.proofs.Common.{◌≡◌, ◌∙◌, Some, sym, subst, map, arith}
use Rattle.std.proofs.lemmas.List.{length-map}
use Rattle.std.proofs.lemmas.Result.{err_from_is_err_and}
use Rattle.lhg_lex.specs.TextTokens.{plain_of}
use Rattle.lhg_plant.specs.Views.{plain_location}
use Rattle.lhg_read.specs.DraftView.{plain_draft}
use Rattle.lhg_read.specs.PlantSteps.{taken}
use Rattle.lhg_read.specs.Refusals.{IsRefused}
use Rattle.lhg_read.proofs.LexedLines.{lexed_after}
use Rattle.lhg_read.proofs.PlantReading.{nothing_comes, not_head, after_head, head_alone, not_vars, after_vars, few_locs, no_end_comes, not_taken, one_taken, plant_read, read_proper, read_printable}
use Rattle.lhg_read.proofs.plant.read_plant.Goals as goal

pub returns-in_err-line-clause-err : goal.returns-in_err-line-clause-err
returns-in_err-line-clause-err c =
    let p = err_from_is_err_and c.from_residual.result c.from_residual.ensures.1 in
    rw (p.1, p.2) (nothing_comes c.args.lines.now c.in_err-line.field-0.0 c.in_err-line.ensures.stop)

pub returns-then-not-is_head-clause-err : goal.returns-then-not-is_head-clause-err
returns-then-not-is_head-clause-err c =
    rw c.stop_at.ensures
    (not_head c.args.lines.now c.in_ok-line.line c.needed_line.new.lines c.in_ok-line.ensures.line c.in_ok-line.ensures.read c.deref.result.now c.deref.ensures.value
    (sym c.is_head.ensures ∙ c.if-not-is_head.true))

pub returns-in_err-line-2-clause-err : goal.returns-in_err-line-2-clause-err
returns-in_err-line-2-clause-err c =
    let p = err_from_is_err_and c.from_residual-in_err-line-2.result c.from_residual-in_err-line-2.ensures.1 in
    let a = after_head c.args.lines.now c.in_ok-line.line c.needed_line.new.lines c.in_ok-line.ensures.line c.in_ok-line.ensures.read c.deref.result.now c.deref.ensures.value
    (sym c.is_head.ensures ∙ c.if-not-is_head.false) in
    rw (p.1, p.2) (head_alone c.args.lines.now c.needed_line.new.lines a c.in_err-line-2.field-0.0 c.in_err-line-2.ensures.stop)

pub read_vars-requires-clause-words : goal.read_vars-requires-clause-words
read_vars-requires-clause-words c =
    lexed_after c.needed_line.new.lines c.in_ok-line-2.line c.needed_line-2.new.lines c.in_ok-line-2.ensures.line c.in_ok-line-2.ensures.read c.deref-2.result.now c.deref-2.ensures.value

pub returns-in-Err-clause-err : goal.returns-in-Err-clause-err
returns-in-Err-clause-err c =
    let a = after_head c.args.lines.now c.in_ok-line.line c.needed_line.new.lines c.in_ok-line.ensures.line c.in_ok-line.ensures.read c.deref.result.now c.deref.ensures.value
    (sym c.is_head.ensures ∙ c.if-not-is_head.false) in
    rw c.stop_at-in-Err.ensures
    (not_vars c.args.lines.now c.needed_line.new.lines a c.in_ok-line-2.line c.needed_line-2.new.lines c.in_ok-line-2.ensures.line c.in_ok-line-2.ensures.read c.deref-2.result.now c.deref-2.ensures.value
    c.in-Err.refusal c.in-Err.ensures)

pub loop-draft-init : goal.loop-draft-init
loop-draft-init c =
    let a = after_head c.args.lines.now c.in_ok-line.line c.needed_line.new.lines c.in_ok-line.ensures.line c.in_ok-line.ensures.read c.deref.result.now c.deref.ensures.value
    (sym c.is_head.ensures ∙ c.if-not-is_head.false) in
    after_vars c.args.lines.now c.needed_line.new.lines a c.in_ok-line-2.line c.needed_line-2.new.lines c.in_ok-line-2.ensures.line c.in_ok-line-2.ensures.read c.deref-2.result.now c.deref-2.ensures.value
    c.in-Ok.vars.items (plain_draft c.new-draft.result) c.in-Ok.ensures c.new-draft.ensures

pub returns-in_err-line-3-clause-err : goal.returns-in_err-line-3-clause-err
returns-in_err-line-3-clause-err c =
    let p = err_from_is_err_and c.from_residual-in_err-line-3.result c.from_residual-in_err-line-3.ensures.1 in
    rw (p.1, p.2)
    (no_end_comes c.args.lines.now c.loop-draft.lines c.in-Ok.vars.items (plain_draft c.loop-draft.draft) c.loop-draft.invariant c.loop-draft-test.true c.in_err-line-3.field-0.0 c.in_err-line-3.ensures.stop)

pub take_line-requires-clause-words : goal.take_line-requires-clause-words
take_line-requires-clause-words c =
    lexed_after c.loop-draft.lines c.in_ok-line-3.line c.needed_line-in-loop-draft.new.lines c.in_ok-line-3.ensures.line c.in_ok-line-3.ensures.read c.deref-in-loop-draft-2.result.now c.deref-in-loop-draft-2.ensures.value

pub take_line-requires-clause-few : goal.take_line-requires-clause-few
take_line-requires-clause-few c =
    let few = few_locs c.args.lines.now c.loop-draft.lines c.in-Ok.vars.items (plain_draft c.loop-draft.draft) c.loop-draft.invariant in
    let same = length-map c.loop-draft.draft.locs.items plain_location in
    let count = c.loop-draft.draft.locs.ok.0 in
    omega (arith, few, same, count)

pub returns-in-Err-take_line-clause-err : goal.returns-in-Err-take_line-clause-err
returns-in-Err-take_line-clause-err c =
    rw c.stop_at-in-Err-take_line.ensures
    (not_taken c.args.lines.now c.loop-draft.lines c.in-Ok.vars.items (plain_draft c.loop-draft.draft) c.loop-draft.invariant c.loop-draft-test.true c.in_ok-line-3.line c.needed_line-in-loop-draft.new.lines c.in_ok-line-3.ensures.line c.in_ok-line-3.ensures.read c.deref-in-loop-draft-2.result.now c.deref-in-loop-draft-2.ensures.value
    c.in-Err-take_line.refusal
    (subst (λ vars. IsRefused c.in-Err-take_line.refusal (taken vars (plain_draft c.loop-draft.draft) (map (plain_of c.needed_line-in-loop-draft.new.lines.bytes) c.deref-in-loop-draft-2.result.now))) c.deref-in-loop-draft.ensures.value c.in-Err-take_line.ensures))

pub loop-draft-preserved : goal.loop-draft-preserved
loop-draft-preserved c =
    one_taken c.args.lines.now c.loop-draft.lines c.in-Ok.vars.items (plain_draft c.loop-draft.draft) c.loop-draft.invariant c.loop-draft-test.true c.in_ok-line-3.line c.needed_line-in-loop-draft.new.lines c.in_ok-line-3.ensures.line c.in_ok-line-3.ensures.read c.deref-in-loop-draft-2.result.now c.deref-in-loop-draft-2.ensures.value
    (plain_draft c.take_line.new.draft)
    (subst (λ vars. taken vars (plain_draft c.loop-draft.draft) (map (plain_of c.needed_line-in-loop-draft.new.lines.bytes) c.deref-in-loop-draft-2.result.now) ≡ Some (plain_draft c.take_line.new.draft)) c.deref-in-loop-draft.ensures.value (c.in_default.ensures {u = c.in_default.field-0}))

pub returns-clause-ok : goal.returns-clause-ok
returns-clause-ok c = plant_read c.args.lines.now c.loop-draft.lines c.in-Ok.vars.items (plain_draft c.loop-draft.draft) c.loop-draft.invariant c.loop-draft-test.false

pub returns-clause-printable : goal.returns-clause-printable
returns-clause-printable c = read_printable c.args.lines.now c.loop-draft.lines c.in-Ok.vars.items (plain_draft c.loop-draft.draft) c.loop-draft.invariant c.loop-draft-test.false

pub invariant_of-result : goal.invariant_of-result
invariant_of-result c = record { proper = read_proper c.args.lines.now c.loop-draft.lines c.in-Ok.vars.items (plain_draft c.loop-draft.draft) c.loop-draft.invariant c.loop-draft-test.false }
