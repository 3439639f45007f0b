use Rattle.std.proofs.Common.{◌≡◌, ◌<◌, length, drop, sym, ap, ◌∙◌, subst, arith}
use Rattle.lhg_num.specs.Marked.{walk}
use Rattle.lhg_num.specs.MarkedLaws.{IsPart}
use Rattle.lhg_num.proofs.Halted.{part_halts}
use Rattle.lhg_plant.specs.Views.{plain_plant}
use Rattle.lhg_plant.specs.Invariants.{pieces_at}
use Rattle.lhg_union.specs.PolyLists.{lines_of}
use Rattle.lhg_union.specs.Regions.{plain_region}
use Rattle.lhg_jump.proofs.WalkSteps.{walked-part, walked-step, walked-end}
use Rattle.lhg_forward.specs.Growth.{add_piece, newest_at, older_at}
use Rattle.lhg_forward.specs.Views.{plain_growth, plain_stage}
use Rattle.lhg_forward.proofs.SliceCode.{newest_slice, slice_inside}
use Rattle.lhg_forward.proofs.growing.add_location.Goals as goal

pub add_from-requires-clause-inside : goal.add_from-requires-clause-inside
add_from-requires-clause-inside c =
    let s = c.args.stage.now in
    let xs = s.region.pieces.items in
    let l = c.args.l in
    let in_xs : l < length xs = omega (arith, c.requires.there, c.requires.stage.lists.many) in
    let in_ks : l < length s.older.items = omega (arith, c.requires.there, c.requires.stage.older_many) in
    let newest = c.split_at.result.1.now in
    let same = newest_slice xs s.older.items l c.index-list.result.now c.index-list.ensures in_xs c.index.result.now c.index.ensures in_ks c.deref.result.now c.deref.ensures.value newest c.split_at.ensures.back in
    slice_inside (plain_plant c.args.plant.now) l (older_at (plain_stage s) l) (pieces_at (plain_region xs) l) newest c.requires.inside same c.loop-piece.piece-index c.piece-item.result c.piece-item.is c.loop-piece-test.true

pub returns-in_err-add_from-clause-calculus : goal.returns-in_err-add_from-clause-calculus
returns-in_err-add_from-clause-calculus c =
    let s = c.args.stage.now in
    let xs = s.region.pieces.items in
    let l = c.args.l in
    let in_xs : l < length xs = omega (arith, c.requires.there, c.requires.stage.lists.many) in
    let in_ks : l < length s.older.items = omega (arith, c.requires.there, c.requires.stage.older_many) in
    let newest = c.split_at.result.1.now in
    let same = newest_slice xs s.older.items l c.index-list.result.now c.index-list.ensures in_xs c.index.result.now c.index.ensures in_ks c.deref.result.now c.deref.ensures.value newest c.split_at.ensures.back in
    let f = add_piece (plain_plant c.args.plant.now) (plain_region xs) l in
    let g = plain_growth c.args.growth.now in
    part_halts c.from_residual.result c.in_err-add_from.field-0.0 _ _ _ (λ _. plain_growth c.add_from.new.growth) c.from_residual.ensures.1 c.in_err-add_from.ensures.calculus
    (subst (λ rs. IsPart (walk f g (newest_at (plain_stage s) l)) (add_piece (plain_plant c.args.plant.now) (plain_region rs) l (plain_growth c.loop-piece.growth) c.piece-item.result.lines)) (sym c.deref-in-loop-piece.ensures.value)
    (subst (λ ps. IsPart (walk f g ps) (f (plain_growth c.loop-piece.growth) c.piece-item.result.lines)) same
    (walked-part f (λ p. p.lines) newest (walk f g (lines_of newest)) (plain_growth c.loop-piece.growth) c.loop-piece.piece-index c.piece-item.result c.piece-item.is c.loop-piece-test.true c.loop-piece.invariant.rest)))

pub loop-piece-preserved : goal.loop-piece-preserved
loop-piece-preserved c =
    let xs = c.args.stage.now.region.pieces.items in
    let newest = c.split_at.result.1.now in
    let f = add_piece (plain_plant c.args.plant.now) (plain_region xs) c.args.l in
    let g = plain_growth c.args.growth.now in
    record {
      rest = walked-step f (λ p. p.lines) newest (walk f g (lines_of newest)) (plain_growth c.loop-piece.growth) c.loop-piece.piece-index c.piece-item.result c.piece-item.is c.loop-piece-test.true c.loop-piece.invariant.rest (plain_growth c.add_from.new.growth)
          (c.in_ok-add_from.ensures.calculus ∙ ap (λ rs. (add_piece (plain_plant c.args.plant.now) (plain_region rs) c.args.l (plain_growth c.loop-piece.growth) c.piece-item.result.lines).value) c.deref-in-loop-piece.ensures.value);
      lists = c.in_ok-add_from.ensures.lists;
    }

pub returns-clause-calculus : goal.returns-clause-calculus
returns-clause-calculus c =
    let s = c.args.stage.now in
    let xs = s.region.pieces.items in
    let l = c.args.l in
    let in_xs : l < length xs = omega (arith, c.requires.there, c.requires.stage.lists.many) in
    let in_ks : l < length s.older.items = omega (arith, c.requires.there, c.requires.stage.older_many) in
    let newest = c.split_at.result.1.now in
    let same = newest_slice xs s.older.items l c.index-list.result.now c.index-list.ensures in_xs c.index.result.now c.index.ensures in_ks c.deref.result.now c.deref.ensures.value newest c.split_at.ensures.back in
    let f = add_piece (plain_plant c.args.plant.now) (plain_region xs) l in
    let g = plain_growth c.args.growth.now in
    walked-end f (λ p. p.lines) newest (walk f g (lines_of newest)) (plain_growth c.loop-piece.growth) c.loop-piece.piece-index c.loop-piece-test.false c.loop-piece.invariant.rest ∙ ap (λ ps. (walk f g ps).value) same
