use Rattle.std.proofs.Common.{◌<◌, ◌++◌, length, ap, ◌∙◌, refl, subst, sym, arith}
use Rattle.lhg_math.specs.ListFacts.{member-at}
use Rattle.lhg_num.specs.AnswerLaws.{err_memory}
use Rattle.lhg_motion.specs.CheckPoint.{rows_of}
use Rattle.lhg_union.specs.PolyLists.{lines_of, AllVars}
use Rattle.lhg_run.proofs.RowSteps.{guards-taken, guards-passed, vars-at, ok_then}
use Rattle.lhg_run.proofs.rows.append_guard.Goals as goal

pub returns-then-switch-loc-clause-rows : goal.returns-then-switch-loc-clause-rows
returns-then-switch-loc-clause-rows c =
    let ws = c.args.plant.now.switches.items in
    let gs = c.args.guards.now in
    let e = c.args.e in
    let in_gs : e < length gs = omega (arith, c.requires.there, c.requires.many) in
    let g = member-at gs e in_gs in
    guards-passed ws gs c.args.loc e c.index-switch.result.now g.0 c.index-switch.ensures g.1 c.requires.there in_gs _ c.args.rows.now.items refl c.if-switch-loc.true

pub returns-clause-rows : goal.returns-clause-rows
returns-clause-rows c =
    let p = c.args.plant.now in
    let ws = p.switches.items in
    let gs = c.args.guards.now in
    let e = c.args.e in
    let w = c.index-switch.result.now in
    let g = c.index-guards-e.result in
    let in_gs : e < length gs = omega (arith, c.requires.there, c.requires.many) in
    ok_then c.append_pieces.result _ c.append_pieces.new.rows.items _ c.append_pieces.ensures.rows
    (λ new. guards-taken ws gs c.args.loc e w g c.index-switch.ensures c.index-guards-e.is c.requires.there in_gs _ c.args.rows.now.items refl c.append_pieces.new.rows.items c.if-switch-loc.false
    (new ∙ ap (λ ps. c.args.rows.now.items ++ rows_of (lines_of ps)) c.deref.ensures.value))

pub returns-clause-wide : goal.returns-clause-wide
returns-clause-wide c = λ n all wide.
    let gs = c.args.guards.now in
    let e = c.args.e in
    let in_gs : e < length gs = omega (arith, c.requires.there, c.requires.many) in
    let vars = vars-at n gs e c.index-guards-e.result c.index-guards-e.is in_gs all in
    c.append_pieces.ensures.wide n (subst (AllVars n) (sym c.deref.ensures.value) vars) wide

pub returns-clause-err : goal.returns-clause-err
returns-clause-err c = err_memory c.append_pieces.result _ (λ _. c.append_pieces.new.rows.items) c.append_pieces.ensures.rows
