use Rattle.std.proofs.Common.{length, sym, ap, ◌∙◌, subst}
use Rattle.lhg_num.specs.MarkedLaws.{IsPart}
use Rattle.lhg_plant.specs.Views.{plain_plant}
use Rattle.lhg_union.specs.PolyLists.{lines_of, AllVars}
use Rattle.lhg_union.proofs.Halts.{all_on_rows, all_on_pieces}
use Rattle.lhg_jump.proofs.PreSteps.{vars-append}
use Rattle.lhg_lazy.specs.RimCalculus.{flow_at, rim_list}
use Rattle.lhg_lazy.proofs.PlaceSteps.{at-piece}
use Rattle.lhg_lazy.proofs.RimSteps.{list-part, limit-part, list-step, list-end}
use Rattle.lhg_lazy.proofs.rims.rim_of.Goals as goal

pub rim_from-requires-clause-flow : goal.rim_from-requires-clause-flow
rim_from-requires-clause-flow c =
    let p = c.args.plant.now in
    (at-piece p c.args.l c.args.here.now c.args.outside.now c.requires.there c.requires.here c.requires.outside c.index.result.now c.index.ensures c.deref.result.now c.deref.ensures.value
    c.loop-piece.piece-index c.piece-item.result c.piece-item.is c.loop-piece-test.true).wide

pub returns-in_err-left-clause-calculus : goal.returns-in_err-left-clause-calculus
returns-in_err-left-clause-calculus c =
    let p = c.args.plant.now in
    let a = plain_plant p in
    let n = length p.vars.items in
    let outside = lines_of c.args.outside.now in
    let r = at-piece p c.args.l c.args.here.now c.args.outside.now c.requires.there c.requires.here c.requires.outside c.index.result.now c.index.ensures c.deref.result.now c.deref.ensures.value
    c.loop-piece.piece-index c.piece-item.result c.piece-item.is c.loop-piece-test.true in
    all_on_rows c.from_residual.result c.in_err-left.field-0.0 _ (λ v. lines_of v.items) _ (λ v. lines_of v.items) c.from_residual.ensures.1 c.in_err-left.ensures.calculus
    (subst (IsPart (rim_list n (flow_at a c.args.l) (lines_of c.args.here.now) outside)) (sym r.same)
    (list-part n (flow_at a c.args.l) outside c.args.here.now c.loop-piece.rim.items c.loop-piece.piece-index c.piece-item.result c.piece-item.is c.loop-piece-test.true c.loop-piece.invariant.built))

pub returns-in_err-gather-clause-calculus : goal.returns-in_err-gather-clause-calculus
returns-in_err-gather-clause-calculus c =
    let p = c.args.plant.now in
    let a = plain_plant p in
    let n = length p.vars.items in
    let outside = lines_of c.args.outside.now in
    let r = at-piece p c.args.l c.args.here.now c.args.outside.now c.requires.there c.requires.here c.requires.outside c.index.result.now c.index.ensures c.deref.result.now c.deref.ensures.value
    c.loop-piece.piece-index c.piece-item.result c.piece-item.is c.loop-piece-test.true in
    all_on_pieces c.from_residual-in_err-gather.result c.in_err-gather.field-0.0 _ (λ v. lines_of v.items) _ _ c.from_residual-in_err-gather.ensures.1 c.in_err-gather.ensures.limit
    (limit-part n (flow_at a c.args.l) outside c.args.here.now c.loop-piece.rim.items c.loop-piece.piece-index c.piece-item.result c.piece-item.is c.loop-piece-test.true c.loop-piece.invariant.built c.in_ok-left.left.items
    (c.in_ok-left.ensures.calculus ∙ ap (λ m. m.value) r.same))

pub loop-piece-preserved : goal.loop-piece-preserved
loop-piece-preserved c =
    let p = c.args.plant.now in
    let a = plain_plant p in
    let n = length p.vars.items in
    let outside = lines_of c.args.outside.now in
    let left = c.in_ok-left.left.items in
    let r = at-piece p c.args.l c.args.here.now c.args.outside.now c.requires.there c.requires.here c.requires.outside c.index.result.now c.index.ensures c.deref.result.now c.deref.ensures.value
    c.loop-piece.piece-index c.piece-item.result c.piece-item.is c.loop-piece-test.true in
    record {
      built = list-step n (flow_at a c.args.l) outside c.args.here.now c.loop-piece.rim.items c.loop-piece.piece-index c.piece-item.result c.piece-item.is c.loop-piece-test.true c.loop-piece.invariant.built left c.gather.new.out.items
          (c.in_ok-left.ensures.calculus ∙ ap (λ m. m.value) r.same) c.in_ok-gather.ensures.items;
      vars = vars-append n c.loop-piece.rim.items left c.gather.new.out.items c.loop-piece.invariant.vars (subst (λ k. AllVars k left) r.width c.in_ok-left.ensures.vars) c.in_ok-gather.ensures.items;
    }

pub returns-clause-calculus : goal.returns-clause-calculus
returns-clause-calculus c =
    list-end (length c.args.plant.now.vars.items) (flow_at (plain_plant c.args.plant.now) c.args.l) (lines_of c.args.outside.now) c.args.here.now c.loop-piece.rim.items c.loop-piece.piece-index c.loop-piece-test.false c.loop-piece.invariant.built
