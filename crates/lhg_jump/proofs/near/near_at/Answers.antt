use Rattle.std.proofs.Common.{◌≡◌, ◌<◌, ◌≤◌, [], List, cond, nat_eq, length, sym, ap, ◌∙◌, subst, rules, arith}
use Rattle.lhg_num.specs.FracArithmetic.{frac_arithmetic}
use Rattle.lhg_num.specs.MarkedLaws.{IsPart, rest_part}
use Rattle.lhg_num.proofs.Halted.{part_halts}
use Rattle.lhg_row.specs.Piece.{PlainPiece}
use Rattle.lhg_row.specs.Lists.{minus}
use Rattle.lhg_plant.specs.Invariants.{pieces_at}
use Rattle.lhg_plant.specs.BackCalculus.{joined_at, near_at}
use Rattle.lhg_plant.specs.Views.{plain_plant}
use Rattle.lhg_union.specs.PolyLists.{lines_of, AllVars}
use Rattle.lhg_union.specs.Regions.{plain_region}
use Rattle.lhg_jump.proofs.AwayCode.{vars-at}
use Rattle.lhg_jump.proofs.RangeSteps.{lines-at}
use Rattle.lhg_jump.proofs.NearSteps.{near-start, near-end, near-part, near-step, near-rest}
use Rattle.lhg_jump.proofs.near.near_at.Goals as goal

pub loop-e-init : goal.loop-e-init
loop-e-init c =
    let n = length c.args.plant.now.vars.items in
    let xs = c.args.region.now.pieces.items in
    let l = c.args.l in
    let lists = c.requires.region in
    let there : l < length xs = let t = c.requires.there in let m = lists.many in omega arith in
    let here = ap lines_of (c.in_ok-near.ensures.copies ∙ c.deref.ensures.value) ∙ lines-at xs l c.index.result.now c.index.ensures there in
    record {
      near = near-start n l (pieces_at (plain_region xs) l) c.args.plant.now.switches.items c.args.lists.now (lines_of c.in_ok-near.near.items) here;
      vars = subst (AllVars n) (sym c.in_ok-near.ensures.copies) (vars-at n xs l c.index.result.now c.deref.result.now c.deref.ensures.value c.index.ensures there lists.vars);
    }

pub returns-in_err-near-2-clause-calculus : goal.returns-in_err-near-2-clause-calculus
returns-in_err-near-2-clause-calculus c =
    let p = c.args.plant.now in
    let a = plain_plant p in
    let n = length p.vars.items in
    let region = plain_region c.args.region.now.pieces.items in
    let kss = plain_region c.args.lists.now in
    let l = c.args.l in
    let e = c.loop-e.e in
    let w = c.index-in-loop-e.result.now in
    let ks = c.index-lists-e.result in
    let near = lines_of c.loop-e.near.items in
    let there : e < length p.switches.items = search rules in
    let ks_there : e < length c.args.lists.now = let m = c.requires.lists.many in omega arith in
    let many : c.len.result ≡ n = search rules in
    let list = cond (nat_eq w.from l) (lines_of ks.items) [] in
    let same = ap (λ k. minus frac_arithmetic k near (cond (nat_eq w.from l) (lines_of c.deref-in-loop-e.result.now) [])) many
    ∙ ap (λ (ps : List PlainPiece). minus frac_arithmetic n near (cond (nat_eq w.from l) ps [])) (ap lines_of c.deref-in-loop-e.ensures.value) in
    let joined = minus frac_arithmetic n (pieces_at region l) (joined_at l a.switches kss) in
    let part = rest_part (near_at a region kss l) joined (minus frac_arithmetic n near list) (near-rest a region kss l)
    (near-part n l (pieces_at region l) p.switches.items c.args.lists.now e near c.loop-e.invariant.near w ks c.index-in-loop-e.ensures there c.index-lists-e.is ks_there) in
    part_halts c.from_residual-in_err-near-2.result c.in_err-near-2.field-0.0 (near_at a region kss l) (λ v. lines_of v.items) _ (λ v. lines_of v.items) c.from_residual-in_err-near-2.ensures.1 c.in_err-near-2.ensures.calculus
    (subst (IsPart (near_at a region kss l)) (sym same) part)

pub loop-e-preserved : goal.loop-e-preserved
loop-e-preserved c =
    let p = c.args.plant.now in
    let n = length p.vars.items in
    let l = c.args.l in
    let e = c.loop-e.e in
    let w = c.index-in-loop-e.result.now in
    let ks = c.index-lists-e.result in
    let near = lines_of c.loop-e.near.items in
    let more = c.in_ok-near-2.near.items in
    let there : e < length p.switches.items = search rules in
    let ks_there : e < length c.args.lists.now = let m = c.requires.lists.many in omega arith in
    let many : c.len.result ≡ n = search rules in
    let same = ap (λ k. minus frac_arithmetic k near (cond (nat_eq w.from l) (lines_of c.deref-in-loop-e.result.now) [])) many
    ∙ ap (λ (ps : List PlainPiece). minus frac_arithmetic n near (cond (nat_eq w.from l) ps [])) (ap lines_of c.deref-in-loop-e.ensures.value) in
    record {
      near = near-step n l (pieces_at (plain_region c.args.region.now.pieces.items) l) p.switches.items c.args.lists.now e near c.loop-e.invariant.near w ks c.index-in-loop-e.ensures there c.index-lists-e.is ks_there
          (lines_of more) (c.in_ok-near-2.ensures.calculus ∙ ap (λ m. m.value) same);
      vars = subst (λ k. AllVars k more) many c.in_ok-near-2.ensures.vars;
    }

pub returns-clause-calculus : goal.returns-clause-calculus
returns-clause-calculus c =
    let p = c.args.plant.now in
    let region = plain_region c.args.region.now.pieces.items in
    let l = c.args.l in
    let past : length p.switches.items ≤ c.loop-e.e = search rules in
    near-end (length p.vars.items) l (pieces_at region l) p.switches.items c.args.lists.now c.loop-e.e (lines_of c.loop-e.near.items) c.loop-e.invariant.near past
    ∙ (near-rest (plain_plant p) region (plain_region c.args.lists.now) l).same
