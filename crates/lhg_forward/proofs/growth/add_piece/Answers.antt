use Rattle.std.proofs.Common.{◌≡◌, ◌<◌, ◌++◌, ◌∷◌, [], length, true, false, sym, ap, ◌∙◌, subst, arith}
use Rattle.lhg_num.specs.FracArithmetic.{frac_arithmetic}
use Rattle.lhg_num.specs.MarkedLaws.{IsPart}
use Rattle.lhg_num.proofs.Halted.{part_halts}
use Rattle.lhg_row.specs.Lists.{covered}
use Rattle.lhg_plant.specs.Invariants.{pieces_at}
use Rattle.lhg_union.specs.PolyLists.{lines_of}
use Rattle.lhg_union.specs.Regions.{plain_region}
use Rattle.lhg_jump.proofs.RangeSteps.{lines-at}
use Rattle.std.specs.Prelude.{Some}
use Rattle.lhg_forward.specs.Growth.{add_new}
use Rattle.lhg_forward.specs.Views.{plain_growth}
use Rattle.lhg_forward.proofs.GrowthCode.{new-part, new-value, over_pushed}
use Rattle.lhg_forward.proofs.growth.add_piece.Goals as goal

pub returns-in_err-is_known-clause-calculus : goal.returns-in_err-is_known-clause-calculus
returns-in_err-is_known-clause-calculus c =
    let n = length c.args.plant.now.vars.items in
    let xs = c.args.region.now in
    let old = c.args.growth.now in
    let l = c.args.loc in
    let p = c.args.piece.lines in
    let in_xs : l < length xs = omega (arith, c.requires.there, c.requires.region.many) in
    let in_ys : l < length old.pieces.items = omega (arith, c.requires.there, c.requires.growth.many) in
    let older = ap lines_of c.deref.ensures.value ∙ lines-at xs l c.index-region-loc.result c.index-region-loc.is in_xs in
    let newer = ap lines_of c.deref-2.ensures.value ∙ lines-at old.pieces.items l c.index-newer.result.now c.index-newer.ensures in_ys in
    let same =
    ap (λ k. covered frac_arithmetic k (p ∷ []) (lines_of c.deref.result.now ++ lines_of c.deref-2.result.now)) c.requires.piece
    ∙ ap (λ ps. covered frac_arithmetic n (p ∷ []) (ps ++ lines_of c.deref-2.result.now)) older ∙ ap (λ ps. covered frac_arithmetic n (p ∷ []) (pieces_at (plain_region xs) l ++ ps)) newer in
    part_halts c.from_residual.result c.in_err-is_known.field-0.0 _ _ _ (λ b. b) c.from_residual.ensures.1 c.in_err-is_known.ensures
    (subst (IsPart (add_new n (plain_region xs) l (plain_growth old) (Some p))) (sym same) (new-part n (plain_region xs) l (plain_growth old) p))

pub returns-then-is_known-clause-calculus : goal.returns-then-is_known-clause-calculus
returns-then-is_known-clause-calculus c =
    let n = length c.args.plant.now.vars.items in
    let xs = c.args.region.now in
    let old = c.args.growth.now in
    let l = c.args.loc in
    let p = c.args.piece.lines in
    let in_xs : l < length xs = omega (arith, c.requires.there, c.requires.region.many) in
    let in_ys : l < length old.pieces.items = omega (arith, c.requires.there, c.requires.growth.many) in
    let older = ap lines_of c.deref.ensures.value ∙ lines-at xs l c.index-region-loc.result c.index-region-loc.is in_xs in
    let newer = ap lines_of c.deref-2.ensures.value ∙ lines-at old.pieces.items l c.index-newer.result.now c.index-newer.ensures in_ys in
    let same =
    ap (λ k. covered frac_arithmetic k (p ∷ []) (lines_of c.deref.result.now ++ lines_of c.deref-2.result.now)) c.requires.piece
    ∙ ap (λ ps. covered frac_arithmetic n (p ∷ []) (ps ++ lines_of c.deref-2.result.now)) older ∙ ap (λ ps. covered frac_arithmetic n (p ∷ []) (pieces_at (plain_region xs) l ++ ps)) newer in
    new-value n (plain_region xs) l (plain_growth old) p true (sym c.if-is_known.true ∙ c.in_ok-is_known.ensures ∙ ap (λ m. m.value) same)

pub returns-clause-calculus : goal.returns-clause-calculus
returns-clause-calculus c =
    let n = length c.args.plant.now.vars.items in
    let xs = c.args.region.now in
    let old = c.args.growth.now in
    let l = c.args.loc in
    let p = c.args.piece.lines in
    let in_xs : l < length xs = omega (arith, c.requires.there, c.requires.region.many) in
    let in_ys : l < length old.pieces.items = omega (arith, c.requires.there, c.requires.growth.many) in
    let older = ap lines_of c.deref.ensures.value ∙ lines-at xs l c.index-region-loc.result c.index-region-loc.is in_xs in
    let newer = ap lines_of c.deref-2.ensures.value ∙ lines-at old.pieces.items l c.index-newer.result.now c.index-newer.ensures in_ys in
    let same =
    ap (λ k. covered frac_arithmetic k (p ∷ []) (lines_of c.deref.result.now ++ lines_of c.deref-2.result.now)) c.requires.piece
    ∙ ap (λ ps. covered frac_arithmetic n (p ∷ []) (ps ++ lines_of c.deref-2.result.now)) older ∙ ap (λ ps. covered frac_arithmetic n (p ∷ []) (pieces_at (plain_region xs) l ++ ps)) newer in
    c.in_ok-push_new.ensures.plain ∙ new-value n (plain_region xs) l (plain_growth old) p false (sym c.if-is_known.false ∙ c.in_ok-is_known.ensures ∙ ap (λ m. m.value) same)

pub returns-clause-lists : goal.returns-clause-lists
returns-clause-lists c = record {
  many = c.in_ok-push_new.ensures.many ∙ c.requires.growth.many;
  vars = over_pushed (length c.args.plant.now.vars.items) c.args.growth.now.pieces.items c.push_new.new.growth.pieces.items c.args.loc c.args.piece c.in_ok-push_new.ensures.list c.requires.piece c.requires.growth.vars;
}
