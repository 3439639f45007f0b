use Rattle.std.proofs.Common.{Bool, ◌+◌, drop, arith}
use Rattle.lhg_motion.specs.ReachCalculus.{attempt, numbered}
use Rattle.lhg_row.specs.System.{PlainSystem}
use Rattle.lhg_union.specs.PolyLists.{lines_of}
use Rattle.lhg_reach.specs.FoundParts.{plain_founds}
use Rattle.lhg_reach.specs.Neighbours.{IsEntry, IsFlag}
use Rattle.lhg_reach.proofs.Pairs.{with_get, with_length, count-way}
use Rattle.lhg_reach.proofs.Searches.{searching-step, numbered_next}
use Rattle.lhg_reach.proofs.layer.through_ways.Goals as goal

pub loop-i-preserved : goal.loop-i-preserved
loop-i-preserved g c = record {
  walking = λ base s.
      let ways = c.args.ways.now in
      let i = c.loop-i.i in
      let w = c.loop-i.invariant.walking base s in
      searching-step (attempt g.N.Scalar.arithmetic c.args.from.now.width c.args.flow.now base c.args.aim.now.layer (record { place = c.args.aim.now.place; piece = c.args.aim.now.piece.lines }) c.args.from.now.lines) (numbered 0 (lines_of ways)) base (plain_founds c.args.search.now.found.items)
      c.loop-i.search.known.items c.loop-i.search.found.items (numbered i (lines_of (drop i ways))) (record { place = i; piece = c.index-ways-i.result.lines }) (numbered (i + 1) (lines_of (drop (i + 1) ways)))
      (numbered_next ways i c.index-ways-i.result c.index-ways-i.is c.loop-i-test.true) w c.through_way.new.search.known.items c.through_way.new.search.found.items
      (c.in_ok-through_way.ensures.step base w.search) (c.in_ok-through_way.ensures.known base w.search);
  vars = c.in_ok-through_way.ensures.vars;
  found = λ h. c.in_ok-through_way.ensures.found (c.loop-i.invariant.found h);
  tally = let t = c.loop-i.invariant.tally in let u = c.through_way.ensures.tally in omega arith;
  count = count-way g.N.Scalar.arithmetic c.args.from.now.width c.args.from.now.lines c.args.ways.now c.loop-i.i c.index-ways-i.result c.index-ways-i.is c.loop-i-test.true c.args.tally.now c.loop-i.tally c.through_way.new.tally c.loop-i.invariant.count c.through_way.ensures.count;
}

pub bounds-entries-i : goal.bounds-entries-i
bounds-entries-i g c = let many = with_length (λ (way : PlainSystem) (b : Bool). IsEntry g.N.Scalar.arithmetic c.args.from.now.width c.args.from.now.lines way.lines b) c.args.ways.now c.args.entries.now c.requires.entries in let there = c.loop-i-test.true in omega arith

pub through_way-requires-clause-entry : goal.through_way-requires-clause-entry
through_way-requires-clause-entry g c = with_get (λ (way : PlainSystem) (b : Bool). IsEntry g.N.Scalar.arithmetic c.args.from.now.width c.args.from.now.lines way.lines b) c.args.ways.now c.args.entries.now c.loop-i.i c.index-ways-i.result _ c.index-ways-i.is c.loop-i-test.true c.requires.entries

pub bounds-flags-i : goal.bounds-flags-i
bounds-flags-i g c = let many = with_length (λ (way : PlainSystem) (b : Bool). IsFlag g.N.Scalar.arithmetic c.args.from.now.width c.args.aim.now.piece.lines way.lines b) c.args.ways.now c.args.flags.now c.requires.flags in let there = c.loop-i-test.true in omega arith

pub through_way-requires-clause-flag : goal.through_way-requires-clause-flag
through_way-requires-clause-flag g c = with_get (λ (way : PlainSystem) (b : Bool). IsFlag g.N.Scalar.arithmetic c.args.from.now.width c.args.aim.now.piece.lines way.lines b) c.args.ways.now c.args.flags.now c.loop-i.i c.index-ways-i.result _ c.index-ways-i.is c.loop-i-test.true c.requires.flags
