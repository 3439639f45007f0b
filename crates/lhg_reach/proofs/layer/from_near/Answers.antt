use Rattle.std.proofs.Common.{◌≡◌, Bool, ◌+◌, ◌∙◌, sym, ap, subst, drop, arith}
use Rattle.lhg_num.specs.Marked.{walk}
use Rattle.lhg_num.specs.MarkedLaws.{IsPart}
use Rattle.lhg_num.proofs.Halted.{part_halts}
use Rattle.lhg_row.specs.System.{PlainSystem}
use Rattle.lhg_motion.specs.ReachCalculus.{Placed, through_ways, numbered}
use Rattle.lhg_math.specs.ListFacts.{drop_cons}
use Rattle.lhg_union.specs.PolyLists.{lines_of, AllVars}
use Rattle.lhg_union.proofs.ListFacts.{all_at}
use Rattle.lhg_reach.specs.FoundParts.{plain_founds, AllFoundVars}
use Rattle.lhg_reach.specs.Before.{IsOpening}
use Rattle.lhg_reach.specs.Neighbours.{EachWith, IsEntry, IsFlag, AreEntries}
use Rattle.lhg_reach.proofs.Pairs.{with_at, with_get, with_length, count-near}
use Rattle.lhg_reach.proofs.Searches.{searching-part, searching-step}
use Rattle.lhg_reach.proofs.layer.from_near.Goals as goal

pub loop-j-preserved : goal.loop-j-preserved
loop-j-preserved g c =
    let near = c.args.near.now in
    let j = c.loop-j.j in
    let from = c.index-near-j.result in
    let n = c.args.aim.now.piece.width in
    let aimed : Placed = record { place = c.args.aim.now.place; piece = c.args.aim.now.piece.lines } in
    let width : from.width ≡ n = all_at (λ (p : PlainSystem). p.width ≡ n) near j from c.index-near-j.is c.loop-j-test.true c.requires.near in
    record {
      walking = λ base s.
          let w = c.loop-j.invariant.walking base s in
          searching-step (through_ways g.N.Scalar.arithmetic n c.args.flow.now base c.args.aim.now.layer (numbered 0 (lines_of c.args.ways.now)) aimed) (lines_of near) base (plain_founds c.args.search.now.found.items)
          c.loop-j.search.known.items c.loop-j.search.found.items (lines_of (drop j near)) from.lines (lines_of (drop (j + 1) near))
          (ap lines_of (drop_cons near j from c.index-near-j.is c.loop-j-test.true)) w c.through_ways.new.search.known.items c.through_ways.new.search.found.items
          (c.in_ok-through_ways.ensures.step base w.search ∙ ap (λ m. (through_ways g.N.Scalar.arithmetic m c.args.flow.now base c.args.aim.now.layer (numbered 0 (lines_of c.args.ways.now)) aimed (plain_founds c.loop-j.search.found.items) from.lines).value) width)
          (c.in_ok-through_ways.ensures.known base w.search);
      vars = subst (λ m. AllVars m c.through_ways.new.search.known.items) width c.in_ok-through_ways.ensures.vars;
      found = λ h. subst (λ m. AllFoundVars m c.through_ways.new.search.found.items) width (c.in_ok-through_ways.ensures.found (subst (λ m. AllFoundVars m c.loop-j.search.found.items) (sym width) (c.loop-j.invariant.found h)));
      tally = let t = c.loop-j.invariant.tally in let u = c.through_ways.ensures.tally in omega arith;
      count = count-near g.N.Scalar.arithmetic n near (lines_of c.args.ways.now) j from c.index-near-j.is c.loop-j-test.true width c.args.tally.now c.loop-j.tally c.through_ways.new.tally c.loop-j.invariant.count c.in_ok-through_ways.ensures.count;
    }

pub bounds-table-j : goal.bounds-table-j
bounds-table-j g c = let many = with_length (AreEntries g.N.Scalar.arithmetic c.args.ways.now) c.args.near.now c.args.table.now c.requires.table in let there = c.loop-j-test.true in omega arith

pub through_ways-requires-clause-entries : goal.through_ways-requires-clause-entries
through_ways-requires-clause-entries g c =
    let from = c.index-near-j.result in
    subst (λ bs. EachWith (λ (way : PlainSystem) b. IsEntry g.N.Scalar.arithmetic from.width from.lines way.lines b) c.args.ways.now bs) (sym c.deref.ensures.value)
    (with_at (AreEntries g.N.Scalar.arithmetic c.args.ways.now) c.args.near.now c.args.table.now c.loop-j.j from c.index-table-j.result c.index-near-j.is c.index-table-j.is c.loop-j-test.true c.requires.table)

pub through_ways-requires-clause-flags : goal.through_ways-requires-clause-flags
through_ways-requires-clause-flags g c =
    let n = c.args.aim.now.piece.width in
    let from = c.index-near-j.result in
    let width : from.width ≡ n = all_at (λ (p : PlainSystem). p.width ≡ n) c.args.near.now c.loop-j.j from c.index-near-j.is c.loop-j-test.true c.requires.near in
    subst (λ m. EachWith (λ (way : PlainSystem) b. IsFlag g.N.Scalar.arithmetic m c.args.aim.now.piece.lines way.lines b) c.args.ways.now c.args.flags.now) (sym width) c.requires.flags

pub bounds-opens-j : goal.bounds-opens-j
bounds-opens-j g c =
    let aim = c.args.aim.now.piece in
    let many = with_length (λ (start : PlainSystem) (b : Bool). IsOpening g.N.Scalar.arithmetic aim.width aim.lines c.args.flow.now start.lines b) c.args.near.now c.args.opens.now c.requires.opens in let there = c.loop-j-test.true in omega arith

pub through_ways-requires-clause-opening : goal.through_ways-requires-clause-opening
through_ways-requires-clause-opening g c =
    let aim = c.args.aim.now.piece in
    let from = c.index-near-j.result in
    let width : from.width ≡ aim.width = all_at (λ (p : PlainSystem). p.width ≡ aim.width) c.args.near.now c.loop-j.j from c.index-near-j.is c.loop-j-test.true c.requires.near in
    rw width
    (with_get (λ (start : PlainSystem) (b : Bool). IsOpening g.N.Scalar.arithmetic aim.width aim.lines c.args.flow.now start.lines b) c.args.near.now c.args.opens.now c.loop-j.j from _ c.index-near-j.is c.loop-j-test.true c.requires.opens)

pub returns-in_err-through_ways-clause-step : goal.returns-in_err-through_ways-clause-step
returns-in_err-through_ways-clause-step g c = λ base s.
    let near = c.args.near.now in
    let j = c.loop-j.j in
    let from = c.index-near-j.result in
    let n = c.args.aim.now.piece.width in
    let aimed : Placed = record { place = c.args.aim.now.place; piece = c.args.aim.now.piece.lines } in
    let width : from.width ≡ n = all_at (λ (p : PlainSystem). p.width ≡ n) near j from c.index-near-j.is c.loop-j-test.true c.requires.near in
    let w = c.loop-j.invariant.walking base s in
    let f = through_ways g.N.Scalar.arithmetic n c.args.flow.now base c.args.aim.now.layer (numbered 0 (lines_of c.args.ways.now)) aimed in
    let whole = walk f (plain_founds c.args.search.now.found.items) (lines_of near) in
    part_halts c.from_residual.result c.in_err-through_ways.field-0.0 _ _ _ _ c.from_residual.ensures.1 (c.in_err-through_ways.ensures.step base w.search)
    (subst (λ m. IsPart whole (through_ways g.N.Scalar.arithmetic m c.args.flow.now base c.args.aim.now.layer (numbered 0 (lines_of c.args.ways.now)) aimed (plain_founds c.loop-j.search.found.items) from.lines)) (sym width)
    (searching-part f (lines_of near) base (plain_founds c.args.search.now.found.items) c.loop-j.search.known.items c.loop-j.search.found.items (lines_of (drop j near)) from.lines (lines_of (drop (j + 1) near))
    (ap lines_of (drop_cons near j from c.index-near-j.is c.loop-j-test.true)) w))
