use Rattle.std.proofs.Common.{◌≡◌, ◌<◌, ◌≤◌, length, sym, ap, ◌∙◌, subst, rules, arith}
use Rattle.std.proofs.lemmas.List.{length-map}
use Rattle.lhg_num.specs.Marked.{valued}
use Rattle.lhg_num.specs.MarkedLaws.{IsPart}
use Rattle.lhg_num.proofs.Halted.{part_halts}
use Rattle.lhg_row.specs.System.{PlainSystem}
use Rattle.lhg_plant.specs.Views.{plain_plant, plain_switch}
use Rattle.lhg_union.specs.Regions.{plain_region}
use Rattle.lhg_jump.specs.PlantLists.{IsRegionOf}
use Rattle.lhg_jump.proofs.Answering.{switch-there}
use Rattle.lhg_ctl.specs.Views.{plain_controller}
use Rattle.lhg_check.specs.Check.{first_of, first_piece, broken_at, broken_guards}
use Rattle.lhg_check.specs.Views.{plain_piece, plain_first}
use Rattle.lhg_check.proofs.FirstSteps.{at_part, at_first, at_end, here_none, piece_some, piece_none, some_if}
use Rattle.lhg_check.proofs.GuardSteps.{guards-all}
use Rattle.lhg_check.proofs.InsideSteps.{invariants-inside}
use Rattle.lhg_check.proofs.guarding.first_broken.Goals as goal

pub broken_by-requires-clause-invs : goal.broken_by-requires-clause-invs
broken_by-requires-clause-invs c =
    let p = c.args.plant.now in
    invariants-inside p c.args.invs.now c.requires.invs.has_lists c.requires.invs.same

pub broken_by-requires-clause-away : goal.broken_by-requires-clause-away
broken_by-requires-clause-away c = subst (IsRegionOf c.args.plant.now) (sym c.deref.ensures.value) c.requires.away

pub broken_by-requires-clause-switch : goal.broken_by-requires-clause-switch
broken_by-requires-clause-switch c =
    let p = c.args.plant.now in
    let below : c.loop-e.e < length p.switches.items = search rules in
    switch-there p c.loop-e.e c.index-switch.result.now below c.index-switch.ensures

pub returns-in_err-piece-clause-calculus : goal.returns-in_err-piece-clause-calculus
returns-in_err-piece-clause-calculus c =
    let p = c.args.plant.now in
    let a = plain_plant p in
    let ct = plain_controller c.args.controller.now in
    let e = c.loop-e.e in
    let w = c.index-switch.result.now in
    let invs = plain_region c.args.invs.now in
    let away = plain_region c.args.away.now.pieces.items in
    let below : e < length p.switches.items = search rules in
    let is = switch-there p e w below c.index-switch.ensures in
    let others = c.deref.result.now in
    let same = ap (λ ys. broken_at a invs (plain_region ys) ct (e, plain_switch w)) c.deref.ensures.value in
    let whole = valued first_piece (broken_guards a ct away) in
    part_halts c.from_residual.result c.in_err-piece.field-0.0 whole plain_first (valued first_of (broken_at a (plain_region c.args.invs.now) (plain_region others) ct (e, plain_switch w))) plain_piece
    c.from_residual.ensures.1 c.in_err-piece.ensures.calculus
    (subst (λ m. IsPart whole (valued first_of m)) (sym same) (at_part (broken_at a invs away ct) a.switches (broken_guards a ct away) (guards-all a ct away invs c.requires.invs.same) e (plain_switch w) is))

pub returns-in-Some-clause-calculus : goal.returns-in-Some-clause-calculus
returns-in-Some-clause-calculus c =
    let p = c.args.plant.now in
    let a = plain_plant p in
    let ct = plain_controller c.args.controller.now in
    let e = c.loop-e.e in
    let w = c.index-switch.result.now in
    let invs = plain_region c.args.invs.now in
    let away = plain_region c.args.away.now.pieces.items in
    let below : e < length p.switches.items = search rules in
    let is = switch-there p e w below c.index-switch.ensures in
    let others = c.deref.result.now in
    let same = ap (λ ys. broken_at a invs (plain_region ys) ct (e, plain_switch w)) c.deref.ensures.value in
    let found = c.in_ok-piece.ensures.calculus ∙ ap (λ m. first_of m.value) same in
    at_first (broken_at a invs away ct) a.switches (broken_guards a ct away) (guards-all a ct away invs c.requires.invs.same) e (plain_switch w) is c.in-Some.piece.lines c.loop-e.invariant
    (piece_some c.in_ok-piece.piece c.in-Some.piece (first_of (broken_at a invs away ct (e, plain_switch w)).value) c.in-Some.is found)

pub returns-in-Some-clause-among : goal.returns-in-Some-clause-among
returns-in-Some-clause-among c =
    let p = c.args.plant.now in
    let n = length p.vars.items in
    let below : c.loop-e.e < length p.switches.items = search rules in
    record { vars = some_if (λ (q : PlainSystem). q.width ≡ n) c.in_ok-piece.piece c.in-Some.piece c.in-Some.is c.in_ok-piece.ensures.vars; there = below }

pub loop-e-preserved : goal.loop-e-preserved
loop-e-preserved c =
    let p = c.args.plant.now in
    let a = plain_plant p in
    let ct = plain_controller c.args.controller.now in
    let e = c.loop-e.e in
    let w = c.index-switch.result.now in
    let invs = plain_region c.args.invs.now in
    let away = plain_region c.args.away.now.pieces.items in
    let below : e < length p.switches.items = search rules in
    let is = switch-there p e w below c.index-switch.ensures in
    let others = c.deref.result.now in
    let same = ap (λ ys. broken_at a invs (plain_region ys) ct (e, plain_switch w)) c.deref.ensures.value in
    let found = c.in_ok-piece.ensures.calculus ∙ ap (λ m. first_of m.value) same in
    here_none (broken_at a invs away ct) a.switches e (plain_switch w) is c.loop-e.invariant
    (piece_none c.in_ok-piece.piece (first_of (broken_at a invs away ct (e, plain_switch w)).value) c.in_default.is found)

pub returns-clause-calculus : goal.returns-clause-calculus
returns-clause-calculus c =
    let p = c.args.plant.now in
    let a = plain_plant p in
    let ct = plain_controller c.args.controller.now in
    let invs = plain_region c.args.invs.now in
    let away = plain_region c.args.away.now.pieces.items in
    let past : length p.switches.items ≤ c.loop-e.e = search rules in
    let all : length a.switches ≤ c.loop-e.e = omega (arith, past, length-map p.switches.items plain_switch) in
    at_end (broken_at a invs away ct) a.switches (broken_guards a ct away) (guards-all a ct away invs c.requires.invs.same) c.loop-e.e all c.loop-e.invariant
