use Rattle.std.proofs.Common.{get_or, ◌≡◌, arith, ℕ, List, [], replicate, rules, length, map, ap, ◌∙◌}
use Rattle.lhg_row.specs.Piece.{PlainPiece}
use Rattle.lhg_plant.specs.Views.{plain_plant}
use Rattle.lhg_union.specs.Regions.{plain_region}
use Rattle.lhg_ctl.specs.Making.{source_at, line_at, line_made, all_made}
use Rattle.lhg_ctl.specs.Views.{plain_placed}
use Rattle.lhg_ctl.proofs.MakingSteps.{start_rest, start_count, over_empty, line_rest, line_is, place_below, rows_wide, end_rest}
use Rattle.lhg_ctl.proofs.making.made_guards.Goals as goal

pub returns-clause-calculus : goal.returns-clause-calculus
returns-clause-calculus c =
    let a = plain_plant c.args.plant.now in
    end_rest a (source_at a) (all_made a (source_at a) (length c.args.plant.now.switches.items) (map plain_placed c.args.guards.now)) c.args.guards.now c.loop-i.i (plain_region c.loop-i.lists.pieces.items) c.loop-i-test.false c.loop-i.invariant.rest

pub source-from-requires : goal.source-from-requires
source-from-requires c =
    place_below (length c.args.plant.now.vars.items) (length c.args.plant.now.switches.items) c.args.guards.now c.loop-i.i c.index-guards-i.result c.requires c.loop-i-test.true c.index-guards-i.is

pub put_line-requires-clause-place : goal.put_line-requires-clause-place
put_line-requires-clause-place c =
    let below = place_below (length c.args.plant.now.vars.items) (length c.args.plant.now.switches.items) c.args.guards.now c.loop-i.i c.index-guards-i.result c.requires c.loop-i-test.true c.index-guards-i.is in
    let count = c.loop-i.invariant.count in
    omega (arith, below, count)

pub put_line-requires-clause-rows : goal.put_line-requires-clause-rows
put_line-requires-clause-rows c =
    rows_wide (length c.args.plant.now.vars.items) (length c.args.plant.now.switches.items) c.args.guards.now c.loop-i.i c.index-guards-i-in-loop-i.result c.requires c.loop-i-test.true c.index-guards-i-in-loop-i.is c.deref.result.now c.deref.ensures.value

pub loop-i-preserved : goal.loop-i-preserved
loop-i-preserved c =
    let a = plain_plant c.args.plant.now in
    let lists = plain_region c.loop-i.lists.pieces.items in
    let x = c.index-guards-i.result in
    let whole = all_made a (source_at a) (length c.args.plant.now.switches.items) (map plain_placed c.args.guards.now) in
    record {
      rest = line_rest a (source_at a) whole c.args.guards.now c.loop-i.i x c.index-guards-i.is c.loop-i-test.true lists c.loop-i.invariant.rest (plain_region c.put_line.new.lists.pieces.items)
          (c.in_ok-put_line.ensures.calculus ∙ ap (λ (l : ℕ). (line_at a l lists ((get_or c.args.guards.now c.loop-i.i x).0, c.deref.result.now)).value) c.source-from.ensures.source ∙ ap (λ p. (line_made a (source_at a) lists p).value) (line_is c.args.guards.now c.loop-i.i x c.index-guards-i-in-loop-i.result c.deref.result.now c.loop-i-test.true c.index-guards-i.is c.deref.ensures.value));
      vars = c.in_ok-put_line.ensures.vars;
      count = c.in_ok-put_line.ensures.count ∙ c.loop-i.invariant.count;
    }

pub loop-i-init : goal.loop-i-init
loop-i-init c =
    let a = plain_plant c.args.plant.now in
    let n : c.len.result ≡ length c.args.plant.now.switches.items = search rules in
    let empty = c.in_ok-lists.ensures ∙ ap (λ (k : ℕ). replicate k (let ps : List PlainPiece = [] in ps)) n in
    let lists = c.in_ok-lists.lists.pieces.items in
    record {
      rest = start_rest a (source_at a) (length c.args.plant.now.switches.items) (plain_region lists) (map plain_placed c.args.guards.now) empty;
      vars = over_empty (length c.args.plant.now.vars.items) lists (length c.args.plant.now.switches.items) empty;
      count = start_count lists (length c.args.plant.now.switches.items) empty;
    }
