use Rattle.std.proofs.Common.{◌≡◌, ℕ, length, slice_get, Option, Some, None, refl, sym, ap, ◌∙◌, subst}
use Rattle.std.specs.Global.{Vec}
use Rattle.lhg_math.specs.Tests.{AllOf}
use Rattle.lhg_num.specs.FracArithmetic.{frac_arithmetic}
use Rattle.lhg_num.specs.Marked.{valued}
use Rattle.lhg_num.specs.MarkedLaws.{IsPart, part_part}
use Rattle.lhg_num.proofs.Halted.{part_halts}
use Rattle.lhg_row.specs.Piece.{PlainPiece}
use Rattle.lhg_row.specs.System.{PlainSystem}
use Rattle.lhg_plant.specs.Invariants.{invariants}
use Rattle.lhg_plant.specs.OutCalculus.{PlainOuts, out}
use Rattle.lhg_plant.specs.Views.{plain_plant, plain_state}
use Rattle.lhg_union.specs.PolyLists.{ArePolys}
use Rattle.lhg_union.specs.Regions.{plain_region}
use Rattle.lhg_union.proofs.Halts.{all_on_rows}
use Rattle.lhg_jump.specs.OutViews.{plain_outs}
use Rattle.lhg_jump.specs.PlantLists.{AreInvariantsOf}
use Rattle.lhg_jump.proofs.Answering.{switch-there}
use Rattle.lhg_jump.proofs.CallCode.{out-first}
use Rattle.lhg_ctl.specs.Views.{plain_controller}
use Rattle.lhg_check.specs.declared.firsts.First.{First}
use Rattle.lhg_check.specs.Check.{unsafe, bad_guard, escapes, first_piece, unsafe_pieces, broken_guards, lost_pieces, sample_at, from_of, check}
use Rattle.lhg_check.specs.CheckFacts.{HasReachedFor}
use Rattle.lhg_check.specs.Views.{plain_verdict, plain_first, IsFirstAmong}
use Rattle.lhg_check.proofs.Checks.{check_work}
use Rattle.lhg_check.proofs.FirstSteps.{part_valued, rest_part_of, first_some, first_missing, some_if}
use Rattle.lhg_check.proofs.InsideSteps.{is-checkable, away-inside}
use Rattle.lhg_check.proofs.VerdictSteps.{unsafe_rest, guard_rest, escape_rest, valid_rest, unsafe_exact, guard_exact, escape_exact, valid_exact}
use Rattle.lhg_check.proofs.checking.check.Goals as goal

pub returns-in_err-bad-clause-calculus : goal.returns-in_err-bad-clause-calculus
returns-in_err-bad-clause-calculus c =
    let p = c.args.plant.now in
    let a = plain_plant p in
    let ct = plain_controller c.args.controller.now in
    part_halts c.from_residual.result c.in_err-bad.field-0.0 (check a ct) plain_verdict (valued first_piece (unsafe_pieces a ct.region)) plain_first c.from_residual.ensures.1 c.in_err-bad.ensures.calculus
    (part_valued first_piece (check a ct) (unsafe_pieces a ct.region) (check_work a ct).first)

pub returns-in_err-state-clause-calculus : goal.returns-in_err-state-clause-calculus
returns-in_err-state-clause-calculus c =
    let p = c.args.plant.now in
    let a = plain_plant p in
    let n = length p.vars.items in
    let ct = plain_controller c.args.controller.now in
    let first = c.in-Some.first in
    let f : ℕ × PlainPiece = (first.place, first.piece.lines) in
    let h = first_some c.in_ok-bad.bad first (first_piece (unsafe_pieces a ct.region).value) c.in-Some.is c.in_ok-bad.ensures.calculus in
    let vars = (some_if (IsFirstAmong n (length p.locs.items)) c.in_ok-bad.bad first c.in-Some.is c.in_ok-bad.ensures.among).vars in
    let part = rest_part_of unsafe (check a ct) (sample_at n f.0 f.1) (unsafe_rest a ct f h) in
    all_on_rows c.from_residual-in_err-state.result c.in_err-state.field-0.0 (check a ct) plain_verdict (sample_at first.piece.width f.0 f.1) plain_state c.from_residual-in_err-state.ensures.1 c.in_err-state.ensures
    (subst (λ k. IsPart (check a ct) (sample_at k f.0 f.1)) (sym vars) part)

pub returns-in-Some-clause-calculus : goal.returns-in-Some-clause-calculus
returns-in-Some-clause-calculus c =
    let p = c.args.plant.now in
    let a = plain_plant p in
    let n = length p.vars.items in
    let ct = plain_controller c.args.controller.now in
    let first = c.in-Some.first in
    let f : ℕ × PlainPiece = (first.place, first.piece.lines) in
    let h = first_some c.in_ok-bad.bad first (first_piece (unsafe_pieces a ct.region).value) c.in-Some.is c.in_ok-bad.ensures.calculus in
    let vars = (some_if (IsFirstAmong n (length p.locs.items)) c.in_ok-bad.bad first c.in-Some.is c.in_ok-bad.ensures.among).vars in
    let state = c.in_ok-state.ensures ∙ ap (λ k. (sample_at k f.0 f.1).value) vars in
    ap unsafe state ∙ (unsafe_rest a ct f h).same

pub returns-in-Some-clause-exact : goal.returns-in-Some-clause-exact
returns-in-Some-clause-exact c =
    let p = c.args.plant.now in
    let a = plain_plant p in
    let n = length p.vars.items in
    let ct = plain_controller c.args.controller.now in
    let told : Vec PlainSystem → Type 0 = λ ps. ArePolys frac_arithmetic ps.items in
    let given = is-checkable p c.args.controller.now c.requires.controller c.requires.inside (subst (AllOf told) c.deref.ensures.value c.tell_lists.ensures) (subst (AllOf told) c.deref-2.ensures.value c.tell_lists-2.ensures) in
    let first = c.in-Some.first in
    let f : ℕ × PlainPiece = (first.place, first.piece.lines) in
    let h = first_some c.in_ok-bad.bad first (first_piece (unsafe_pieces a ct.region).value) c.in-Some.is c.in_ok-bad.ensures.calculus in
    let vars = (some_if (IsFirstAmong n (length p.locs.items)) c.in_ok-bad.bad first c.in-Some.is c.in_ok-bad.ensures.among).vars in
    let state = c.in_ok-state.ensures ∙ ap (λ k. (sample_at k f.0 f.1).value) vars in
    unsafe_exact a ct p.proper given f h (plain_state c.in_ok-state.state) state

pub returns-in_err-invs-clause-calculus : goal.returns-in_err-invs-clause-calculus
returns-in_err-invs-clause-calculus c =
    let p = c.args.plant.now in
    let a = plain_plant p in
    let ct = plain_controller c.args.controller.now in
    let work : IsPart (out a ct.region) (invariants a) = out-first a ct.region (invariants a).value refl in
    all_on_rows c.from_residual-in_err-invs.result c.in_err-invs.field-0.0 (check a ct) plain_verdict (invariants a) (λ v. plain_region v.items) c.from_residual-in_err-invs.ensures.1 c.in_err-invs.ensures.calculus
    (part_part (check a ct) (out a ct.region) (invariants a) (check_work a ct).outs work)

pub out_with-requires-clause-invs : goal.out_with-requires-clause-invs
out_with-requires-clause-invs c =
    subst (AreInvariantsOf c.args.plant.now) (sym c.deref-3.ensures.value) (record { has_lists = c.in_ok-invs.ensures.lists; same = c.in_ok-invs.ensures.calculus })

pub returns-in_err-outs-clause-calculus : goal.returns-in_err-outs-clause-calculus
returns-in_err-outs-clause-calculus c =
    let p = c.args.plant.now in
    let a = plain_plant p in
    let ct = plain_controller c.args.controller.now in
    part_halts c.from_residual-in_err-outs.result c.in_err-outs.field-0.0 (check a ct) plain_verdict (out a ct.region) plain_outs c.from_residual-in_err-outs.ensures.1 c.in_err-outs.ensures.calculus (check_work a ct).outs

pub first_broken-requires-clause-invs : goal.first_broken-requires-clause-invs
first_broken-requires-clause-invs c =
    subst (AreInvariantsOf c.args.plant.now) (sym c.deref-4.ensures.value) (record { has_lists = c.in_ok-invs.ensures.lists; same = c.in_ok-invs.ensures.calculus })

pub first_broken-requires-clause-away : goal.first_broken-requires-clause-away
first_broken-requires-clause-away c =
    let p = c.args.plant.now in
    let ct = plain_controller c.args.controller.now in
    away-inside p c.in_ok-outs.outs.away.pieces.items c.in_ok-outs.ensures.away ct.region (plain_outs c.in_ok-outs.outs) c.in_ok-outs.ensures.points refl

pub returns-in_err-broken-clause-calculus : goal.returns-in_err-broken-clause-calculus
returns-in_err-broken-clause-calculus c =
    let p = c.args.plant.now in
    let a = plain_plant p in
    let ct = plain_controller c.args.controller.now in
    let o = plain_outs c.in_ok-outs.outs in
    let outs_are : o ≡ (out a ct.region).value = c.in_ok-outs.ensures.calculus in
    let part = subst (λ (w : PlainOuts). IsPart (check a ct) (broken_guards a ct w.away)) (sym outs_are) (check_work a ct).second in
    part_halts c.from_residual-in_err-broken.result c.in_err-broken.field-0.0 (check a ct) plain_verdict (valued first_piece (broken_guards a ct o.away)) plain_first c.from_residual-in_err-broken.ensures.1 c.in_err-broken.ensures.calculus
    (part_valued first_piece (check a ct) (broken_guards a ct o.away) part)

pub returns-in_err-state-2-clause-calculus : goal.returns-in_err-state-2-clause-calculus
returns-in_err-state-2-clause-calculus c =
    let p = c.args.plant.now in
    let a = plain_plant p in
    let n = length p.vars.items in
    let ct = plain_controller c.args.controller.now in
    let o = plain_outs c.in_ok-outs.outs in
    let outs_are : o ≡ (out a ct.region).value = c.in_ok-outs.ensures.calculus in
    let h = first_missing c.in_ok-bad.bad (first_piece (unsafe_pieces a ct.region).value) c.in_default.is c.in_ok-bad.ensures.calculus in
    let first = c.in-Some-broken.first in
    let f : ℕ × PlainPiece = (first.place, first.piece.lines) in
    let i = ap (λ (w : PlainOuts). first_piece (broken_guards a ct w.away).value) (sym outs_are)
    ∙ first_some c.in_ok-broken.broken first (first_piece (broken_guards a ct o.away).value) c.in-Some-broken.is c.in_ok-broken.ensures.calculus in
    let among = some_if (IsFirstAmong n (length p.switches.items)) c.in_ok-broken.broken first c.in-Some-broken.is c.in_ok-broken.ensures.among in
    let from_is = ap from_of (switch-there p first.place c.index.result.now among.there c.index.ensures) in
    let from = c.index.result.now.from in
    let part = rest_part_of (bad_guard f.0) (check a ct) (sample_at n (from_of (slice_get a.switches f.0)) f.1) (guard_rest a ct f h i) in
    let there = subst (λ k. IsPart (check a ct) (sample_at n k f.1)) from_is part in
    all_on_rows c.from_residual-in_err-state-2.result c.in_err-state-2.field-0.0 (check a ct) plain_verdict (sample_at first.piece.width from f.1) plain_state c.from_residual-in_err-state-2.ensures.1 c.in_err-state-2.ensures
    (subst (λ k. IsPart (check a ct) (sample_at k from f.1)) (sym among.vars) there)

pub returns-in-Some-broken-clause-calculus : goal.returns-in-Some-broken-clause-calculus
returns-in-Some-broken-clause-calculus c =
    let p = c.args.plant.now in
    let a = plain_plant p in
    let n = length p.vars.items in
    let ct = plain_controller c.args.controller.now in
    let o = plain_outs c.in_ok-outs.outs in
    let outs_are : o ≡ (out a ct.region).value = c.in_ok-outs.ensures.calculus in
    let h = first_missing c.in_ok-bad.bad (first_piece (unsafe_pieces a ct.region).value) c.in_default.is c.in_ok-bad.ensures.calculus in
    let first = c.in-Some-broken.first in
    let f : ℕ × PlainPiece = (first.place, first.piece.lines) in
    let i = ap (λ (w : PlainOuts). first_piece (broken_guards a ct w.away).value) (sym outs_are)
    ∙ first_some c.in_ok-broken.broken first (first_piece (broken_guards a ct o.away).value) c.in-Some-broken.is c.in_ok-broken.ensures.calculus in
    let among = some_if (IsFirstAmong n (length p.switches.items)) c.in_ok-broken.broken first c.in-Some-broken.is c.in_ok-broken.ensures.among in
    let from_is = ap from_of (switch-there p first.place c.index.result.now among.there c.index.ensures) in
    let from = c.index.result.now.from in
    let state = c.in_ok-state-2.ensures ∙ ap (λ k. (sample_at k from f.1).value) among.vars ∙ ap (λ k. (sample_at n k f.1).value) (sym from_is) in
    ap (bad_guard f.0) state ∙ (guard_rest a ct f h i).same

pub returns-in-Some-broken-clause-exact : goal.returns-in-Some-broken-clause-exact
returns-in-Some-broken-clause-exact c =
    let p = c.args.plant.now in
    let a = plain_plant p in
    let n = length p.vars.items in
    let ct = plain_controller c.args.controller.now in
    let told : Vec PlainSystem → Type 0 = λ ps. ArePolys frac_arithmetic ps.items in
    let given = is-checkable p c.args.controller.now c.requires.controller c.requires.inside (subst (AllOf told) c.deref.ensures.value c.tell_lists.ensures) (subst (AllOf told) c.deref-2.ensures.value c.tell_lists-2.ensures) in
    let o = plain_outs c.in_ok-outs.outs in
    let outs_are : o ≡ (out a ct.region).value = c.in_ok-outs.ensures.calculus in
    let h = first_missing c.in_ok-bad.bad (first_piece (unsafe_pieces a ct.region).value) c.in_default.is c.in_ok-bad.ensures.calculus in
    let first = c.in-Some-broken.first in
    let f : ℕ × PlainPiece = (first.place, first.piece.lines) in
    let i = ap (λ (w : PlainOuts). first_piece (broken_guards a ct w.away).value) (sym outs_are)
    ∙ first_some c.in_ok-broken.broken first (first_piece (broken_guards a ct o.away).value) c.in-Some-broken.is c.in_ok-broken.ensures.calculus in
    let among = some_if (IsFirstAmong n (length p.switches.items)) c.in_ok-broken.broken first c.in-Some-broken.is c.in_ok-broken.ensures.among in
    let from_is = ap from_of (switch-there p first.place c.index.result.now among.there c.index.ensures) in
    let from = c.index.result.now.from in
    let state = c.in_ok-state-2.ensures ∙ ap (λ k. (sample_at k from f.1).value) among.vars ∙ ap (λ k. (sample_at n k f.1).value) (sym from_is) in
    guard_exact a ct p.proper given f h i (plain_state c.in_ok-state-2.state) state

pub returns-in_err-lost-clause-calculus : goal.returns-in_err-lost-clause-calculus
returns-in_err-lost-clause-calculus c =
    let p = c.args.plant.now in
    let a = plain_plant p in
    let ct = plain_controller c.args.controller.now in
    let o = plain_outs c.in_ok-outs.outs in
    let outs_are : o ≡ (out a ct.region).value = c.in_ok-outs.ensures.calculus in
    let part = subst (λ (w : PlainOuts). IsPart (check a ct) (lost_pieces a ct w)) (sym outs_are) (check_work a ct).third in
    part_halts c.from_residual-in_err-lost.result c.in_err-lost.field-0.0 (check a ct) plain_verdict (valued first_piece (lost_pieces a ct o)) plain_first c.from_residual-in_err-lost.ensures.1 c.in_err-lost.ensures.calculus
    (part_valued first_piece (check a ct) (lost_pieces a ct o) part)

pub returns-in_err-state-3-clause-calculus : goal.returns-in_err-state-3-clause-calculus
returns-in_err-state-3-clause-calculus c =
    let p = c.args.plant.now in
    let a = plain_plant p in
    let n = length p.vars.items in
    let ct = plain_controller c.args.controller.now in
    let o = plain_outs c.in_ok-outs.outs in
    let outs_are : o ≡ (out a ct.region).value = c.in_ok-outs.ensures.calculus in
    let h = first_missing c.in_ok-bad.bad (first_piece (unsafe_pieces a ct.region).value) c.in_default.is c.in_ok-bad.ensures.calculus in
    let i = ap (λ (w : PlainOuts). first_piece (broken_guards a ct w.away).value) (sym outs_are)
    ∙ first_missing c.in_ok-broken.broken (first_piece (broken_guards a ct o.away).value) c.in_default-broken.is c.in_ok-broken.ensures.calculus in
    let first = c.in-Some-lost.first in
    let f : ℕ × PlainPiece = (first.place, first.piece.lines) in
    let j = ap (λ (w : PlainOuts). first_piece (lost_pieces a ct w).value) (sym outs_are)
    ∙ first_some c.in_ok-lost.lost first (first_piece (lost_pieces a ct o).value) c.in-Some-lost.is c.in_ok-lost.ensures.calculus in
    let vars = (some_if (IsFirstAmong n (length p.locs.items)) c.in_ok-lost.lost first c.in-Some-lost.is c.in_ok-lost.ensures.among).vars in
    let part = rest_part_of escapes (check a ct) (sample_at n f.0 f.1) (escape_rest a ct f h i j) in
    all_on_rows c.from_residual-in_err-state-3.result c.in_err-state-3.field-0.0 (check a ct) plain_verdict (sample_at first.piece.width f.0 f.1) plain_state c.from_residual-in_err-state-3.ensures.1 c.in_err-state-3.ensures
    (subst (λ k. IsPart (check a ct) (sample_at k f.0 f.1)) (sym vars) part)

pub returns-in-Some-lost-clause-calculus : goal.returns-in-Some-lost-clause-calculus
returns-in-Some-lost-clause-calculus c =
    let p = c.args.plant.now in
    let a = plain_plant p in
    let n = length p.vars.items in
    let ct = plain_controller c.args.controller.now in
    let o = plain_outs c.in_ok-outs.outs in
    let outs_are : o ≡ (out a ct.region).value = c.in_ok-outs.ensures.calculus in
    let h = first_missing c.in_ok-bad.bad (first_piece (unsafe_pieces a ct.region).value) c.in_default.is c.in_ok-bad.ensures.calculus in
    let i = ap (λ (w : PlainOuts). first_piece (broken_guards a ct w.away).value) (sym outs_are)
    ∙ first_missing c.in_ok-broken.broken (first_piece (broken_guards a ct o.away).value) c.in_default-broken.is c.in_ok-broken.ensures.calculus in
    let first = c.in-Some-lost.first in
    let f : ℕ × PlainPiece = (first.place, first.piece.lines) in
    let j = ap (λ (w : PlainOuts). first_piece (lost_pieces a ct w).value) (sym outs_are)
    ∙ first_some c.in_ok-lost.lost first (first_piece (lost_pieces a ct o).value) c.in-Some-lost.is c.in_ok-lost.ensures.calculus in
    let vars = (some_if (IsFirstAmong n (length p.locs.items)) c.in_ok-lost.lost first c.in-Some-lost.is c.in_ok-lost.ensures.among).vars in
    let state = c.in_ok-state-3.ensures ∙ ap (λ k. (sample_at k f.0 f.1).value) vars in
    ap escapes state ∙ (escape_rest a ct f h i j).same

pub returns-in-Some-lost-clause-exact : goal.returns-in-Some-lost-clause-exact
returns-in-Some-lost-clause-exact c =
    let p = c.args.plant.now in
    let a = plain_plant p in
    let n = length p.vars.items in
    let ct = plain_controller c.args.controller.now in
    let told : Vec PlainSystem → Type 0 = λ ps. ArePolys frac_arithmetic ps.items in
    let given = is-checkable p c.args.controller.now c.requires.controller c.requires.inside (subst (AllOf told) c.deref.ensures.value c.tell_lists.ensures) (subst (AllOf told) c.deref-2.ensures.value c.tell_lists-2.ensures) in
    let o = plain_outs c.in_ok-outs.outs in
    let outs_are : o ≡ (out a ct.region).value = c.in_ok-outs.ensures.calculus in
    let h = first_missing c.in_ok-bad.bad (first_piece (unsafe_pieces a ct.region).value) c.in_default.is c.in_ok-bad.ensures.calculus in
    let i = ap (λ (w : PlainOuts). first_piece (broken_guards a ct w.away).value) (sym outs_are)
    ∙ first_missing c.in_ok-broken.broken (first_piece (broken_guards a ct o.away).value) c.in_default-broken.is c.in_ok-broken.ensures.calculus in
    let first = c.in-Some-lost.first in
    let f : ℕ × PlainPiece = (first.place, first.piece.lines) in
    let j = ap (λ (w : PlainOuts). first_piece (lost_pieces a ct w).value) (sym outs_are)
    ∙ first_some c.in_ok-lost.lost first (first_piece (lost_pieces a ct o).value) c.in-Some-lost.is c.in_ok-lost.ensures.calculus in
    let vars = (some_if (IsFirstAmong n (length p.locs.items)) c.in_ok-lost.lost first c.in-Some-lost.is c.in_ok-lost.ensures.among).vars in
    let state = c.in_ok-state-3.ensures ∙ ap (λ k. (sample_at k f.0 f.1).value) vars in
    let said = subst (λ (q : Option First). HasReachedFor a ct o (plain_first q)) c.in-Some-lost.is c.in_ok-lost.ensures.reached in
    let reached = subst (λ (w : PlainOuts). HasReachedFor a ct w (Some f)) outs_are said in
    escape_exact a ct p.proper given f h i j reached (plain_state c.in_ok-state-3.state) state

pub returns-clause-calculus : goal.returns-clause-calculus
returns-clause-calculus c =
    let p = c.args.plant.now in
    let a = plain_plant p in
    let ct = plain_controller c.args.controller.now in
    let o = plain_outs c.in_ok-outs.outs in
    let outs_are : o ≡ (out a ct.region).value = c.in_ok-outs.ensures.calculus in
    let h = first_missing c.in_ok-bad.bad (first_piece (unsafe_pieces a ct.region).value) c.in_default.is c.in_ok-bad.ensures.calculus in
    let i = ap (λ (w : PlainOuts). first_piece (broken_guards a ct w.away).value) (sym outs_are)
    ∙ first_missing c.in_ok-broken.broken (first_piece (broken_guards a ct o.away).value) c.in_default-broken.is c.in_ok-broken.ensures.calculus in
    let j = ap (λ (w : PlainOuts). first_piece (lost_pieces a ct w).value) (sym outs_are)
    ∙ first_missing c.in_ok-lost.lost (first_piece (lost_pieces a ct o).value) c.in_default-lost.is c.in_ok-lost.ensures.calculus in
    valid_rest a ct h i j

pub returns-clause-exact : goal.returns-clause-exact
returns-clause-exact c =
    let p = c.args.plant.now in
    let a = plain_plant p in
    let ct = plain_controller c.args.controller.now in
    let told : Vec PlainSystem → Type 0 = λ ps. ArePolys frac_arithmetic ps.items in
    let given = is-checkable p c.args.controller.now c.requires.controller c.requires.inside (subst (AllOf told) c.deref.ensures.value c.tell_lists.ensures) (subst (AllOf told) c.deref-2.ensures.value c.tell_lists-2.ensures) in
    let o = plain_outs c.in_ok-outs.outs in
    let outs_are : o ≡ (out a ct.region).value = c.in_ok-outs.ensures.calculus in
    let h = first_missing c.in_ok-bad.bad (first_piece (unsafe_pieces a ct.region).value) c.in_default.is c.in_ok-bad.ensures.calculus in
    let i = ap (λ (w : PlainOuts). first_piece (broken_guards a ct w.away).value) (sym outs_are)
    ∙ first_missing c.in_ok-broken.broken (first_piece (broken_guards a ct o.away).value) c.in_default-broken.is c.in_ok-broken.ensures.calculus in
    let j = ap (λ (w : PlainOuts). first_piece (lost_pieces a ct w).value) (sym outs_are)
    ∙ first_missing c.in_ok-lost.lost (first_piece (lost_pieces a ct o).value) c.in_default-lost.is c.in_ok-lost.ensures.calculus in
    let said = subst (λ (q : Option First). HasReachedFor a ct o (plain_first q)) c.in_default-lost.is c.in_ok-lost.ensures.reached in
    let reached = subst (λ (w : PlainOuts). HasReachedFor a ct w None) outs_are said in
    valid_exact a ct p.proper given h i j reached
