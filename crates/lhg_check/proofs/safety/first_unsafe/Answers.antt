use Rattle.std.proofs.Common.{◌≡◌, ◌<◌, ◌≤◌, length, sym, ap, ◌∙◌, subst, rules, arith}
use Rattle.std.proofs.lemmas.List.{length-map}
use Rattle.lhg_num.specs.FracArithmetic.{frac_arithmetic}
use Rattle.lhg_num.specs.Marked.{valued}
use Rattle.lhg_num.specs.MarkedLaws.{IsPart}
use Rattle.lhg_num.proofs.Halted.{part_halts}
use Rattle.lhg_row.specs.Lists.{minus}
use Rattle.lhg_row.specs.System.{PlainSystem}
use Rattle.lhg_plant.specs.Invariants.{pieces_at}
use Rattle.lhg_plant.specs.SafeRegion.{safe_region}
use Rattle.lhg_plant.specs.Views.{plain_location, plain_plant}
use Rattle.lhg_union.specs.Regions.{plain_region}
use Rattle.lhg_union.proofs.Halts.{all_on_rows}
use Rattle.lhg_jump.proofs.AwayCode.{less-at}
use Rattle.lhg_check.specs.Check.{first_of, first_piece, unsafe_at, unsafe_pieces}
use Rattle.lhg_check.specs.Views.{plain_piece, plain_first}
use Rattle.lhg_check.proofs.FirstSteps.{whole_part, at_part, at_first, at_end, here_none, piece_some, piece_none, some_if, there_is}
use Rattle.lhg_check.proofs.SafetySteps.{unsafe-safe, unsafe-all}
use Rattle.lhg_check.proofs.safety.first_unsafe.Goals as goal

pub returns-in_err-safe-clause-calculus : goal.returns-in_err-safe-clause-calculus
returns-in_err-safe-clause-calculus c =
    let a = plain_plant c.args.plant.now in
    let region = plain_region c.args.region.now.pieces.items in
    all_on_rows c.from_residual.result c.in_err-safe.field-0.0 (valued first_piece (unsafe_pieces a region)) plain_first (safe_region a) (λ r. plain_region r.pieces.items) c.from_residual.ensures.1 c.in_err-safe.ensures.calculus
    (whole_part first_piece (unsafe_pieces a region) (safe_region a) (unsafe-safe a region))

pub first_left-requires : goal.first_left-requires
first_left-requires c =
    let p = c.args.plant.now in
    let n = length p.vars.items in
    let l = c.loop-l.l in
    let xs = c.args.region.now.pieces.items in
    let ys = c.in_ok-safe.safe.pieces.items in
    let below : l < length p.locs.items = search rules in
    let r = less-at p xs ys l c.requires c.in_ok-safe.ensures.region.has_lists below c.index.result.now c.index-in-loop-l.result.now c.index.ensures c.index-in-loop-l.ensures
    c.deref.result.now c.deref-in-loop-l.result.now c.deref.ensures.value c.deref-in-loop-l.ensures.value in
    record { vars = n; first = r.first; second = r.second }

pub returns-in_err-piece-clause-calculus : goal.returns-in_err-piece-clause-calculus
returns-in_err-piece-clause-calculus c =
    let p = c.args.plant.now in
    let a = plain_plant p in
    let n = length p.vars.items in
    let l = c.loop-l.l in
    let xs = c.args.region.now.pieces.items in
    let ys = c.in_ok-safe.safe.pieces.items in
    let region = plain_region xs in
    let safe = plain_region ys in
    let below : l < length p.locs.items = search rules in
    let r = less-at p xs ys l c.requires c.in_ok-safe.ensures.region.has_lists below c.index.result.now c.index-in-loop-l.result.now c.index.ensures c.index-in-loop-l.ensures
    c.deref.result.now c.deref-in-loop-l.result.now c.deref.ensures.value c.deref-in-loop-l.ensures.value in
    let rest = unsafe-all a region safe c.in_ok-safe.ensures.calculus in
    let whole = valued first_piece (unsafe_pieces a region) in
    let in_locs : l < length a.locs = omega (arith, below, length-map p.locs.items plain_location) in
    let x = there_is a.locs l in_locs in
    part_halts c.from_residual-in_err-piece.result c.in_err-piece.field-0.0 whole plain_first _ plain_piece c.from_residual-in_err-piece.ensures.1 (c.in_err-piece.ensures.calculus n r.first r.second)
    (subst (λ m. IsPart whole (valued first_of m)) (sym r.same) (at_part (unsafe_at n safe region) a.locs (unsafe_pieces a region) rest l x.0 x.1))

pub returns-in-Some-clause-calculus : goal.returns-in-Some-clause-calculus
returns-in-Some-clause-calculus c =
    let p = c.args.plant.now in
    let a = plain_plant p in
    let n = length p.vars.items in
    let l = c.loop-l.l in
    let xs = c.args.region.now.pieces.items in
    let ys = c.in_ok-safe.safe.pieces.items in
    let region = plain_region xs in
    let safe = plain_region ys in
    let below : l < length p.locs.items = search rules in
    let r = less-at p xs ys l c.requires c.in_ok-safe.ensures.region.has_lists below c.index.result.now c.index-in-loop-l.result.now c.index.ensures c.index-in-loop-l.ensures
    c.deref.result.now c.deref-in-loop-l.result.now c.deref.ensures.value c.deref-in-loop-l.ensures.value in
    let in_locs : l < length a.locs = omega (arith, below, length-map p.locs.items plain_location) in
    let x = there_is a.locs l in_locs in
    let found = c.in_ok-piece.ensures.calculus n r.first r.second ∙ ap (λ m. first_of m.value) r.same in
    at_first (unsafe_at n safe region) a.locs (unsafe_pieces a region) (unsafe-all a region safe c.in_ok-safe.ensures.calculus) l x.0 x.1 c.in-Some.piece.lines c.loop-l.invariant
    (piece_some c.in_ok-piece.piece c.in-Some.piece (first_of (minus frac_arithmetic n (pieces_at region l) (pieces_at safe l)).value) c.in-Some.is found)

pub returns-in-Some-clause-among : goal.returns-in-Some-clause-among
returns-in-Some-clause-among c =
    let p = c.args.plant.now in
    let n = length p.vars.items in
    let l = c.loop-l.l in
    let xs = c.args.region.now.pieces.items in
    let ys = c.in_ok-safe.safe.pieces.items in
    let below : l < length p.locs.items = search rules in
    let r = less-at p xs ys l c.requires c.in_ok-safe.ensures.region.has_lists below c.index.result.now c.index-in-loop-l.result.now c.index.ensures c.index-in-loop-l.ensures
    c.deref.result.now c.deref-in-loop-l.result.now c.deref.ensures.value c.deref-in-loop-l.ensures.value in
    record { vars = some_if (λ (q : PlainSystem). q.width ≡ n) c.in_ok-piece.piece c.in-Some.piece c.in-Some.is (c.in_ok-piece.ensures.vars n r.first r.second); there = below }

pub loop-l-preserved : goal.loop-l-preserved
loop-l-preserved c =
    let p = c.args.plant.now in
    let a = plain_plant p in
    let n = length p.vars.items in
    let l = c.loop-l.l in
    let xs = c.args.region.now.pieces.items in
    let ys = c.in_ok-safe.safe.pieces.items in
    let region = plain_region xs in
    let safe = plain_region ys in
    let below : l < length p.locs.items = search rules in
    let r = less-at p xs ys l c.requires c.in_ok-safe.ensures.region.has_lists below c.index.result.now c.index-in-loop-l.result.now c.index.ensures c.index-in-loop-l.ensures
    c.deref.result.now c.deref-in-loop-l.result.now c.deref.ensures.value c.deref-in-loop-l.ensures.value in
    let in_locs : l < length a.locs = omega (arith, below, length-map p.locs.items plain_location) in
    let x = there_is a.locs l in_locs in
    let found = c.in_ok-piece.ensures.calculus n r.first r.second ∙ ap (λ m. first_of m.value) r.same in
    here_none (unsafe_at n safe region) a.locs l x.0 x.1 c.loop-l.invariant
    (piece_none c.in_ok-piece.piece (first_of (minus frac_arithmetic n (pieces_at region l) (pieces_at safe l)).value) c.in_default.is found)

pub returns-clause-calculus : goal.returns-clause-calculus
returns-clause-calculus c =
    let p = c.args.plant.now in
    let a = plain_plant p in
    let region = plain_region c.args.region.now.pieces.items in
    let safe = plain_region c.in_ok-safe.safe.pieces.items in
    let past : length p.locs.items ≤ c.loop-l.l = search rules in
    let all : length a.locs ≤ c.loop-l.l = omega (arith, past, length-map p.locs.items plain_location) in
    at_end (unsafe_at (length p.vars.items) safe region) a.locs (unsafe_pieces a region) (unsafe-all a region safe c.in_ok-safe.ensures.calculus) c.loop-l.l all c.loop-l.invariant
