use Rattle.std.proofs.Common.{◌≡◌, ◌++◌, ◌∙◌, ◌+◌, ◌≤◌, ◌*◌, true, false, List, sym, ap, subst, length, arith, rules, add-one, append-nil}
use Rattle.std.specs.Prelude.{◌↔◌}
use Rattle.std.proofs.lemmas.List.{length-append, length-map}
use Rattle.lhg_num.specs.Marked.{and_then}
use Rattle.lhg_num.specs.MarkedLaws.{IsPart}
use Rattle.lhg_num.proofs.Halted.{part_halts}
use Rattle.lhg_row.specs.Row.{PlainPoint}
use Rattle.lhg_row.specs.Piece.{InSome}
use Rattle.lhg_row.specs.System.{PlainSystem}
use Rattle.lhg_row.specs.Members.{all-append, all_split}
use Rattle.lhg_row.specs.Width.{AllWide}
use Rattle.lhg_row.specs.PieceFacts.{IsPoly}
use Rattle.lhg_row.specs.CoveredLaws.{polys-over}
use Rattle.lhg_row.specs.Lists.{counted_pieces, is_past_list}
use Rattle.lhg_row.specs.ListLimits.{within-part}
use Rattle.lhg_motion.specs.Reach.{HasPlay}
use Rattle.lhg_motion.specs.Found.{EachNamed, EachPlays, PlainReached, pieces_of}
use Rattle.lhg_motion.specs.Reached.{AreInLayers, EachInside, EachPoly}
use Rattle.lhg_motion.specs.ReachCalculus.{layer_of, reach}
use Rattle.lhg_union.specs.PolyLists.{lines_of, AllVars, ArePolys}
use Rattle.lhg_union.proofs.Halts.{all_on_pieces}
use Rattle.lhg_union.proofs.ListFacts.{lines_of-append, polys_over}
use Rattle.lhg_reach.specs.FoundParts.{plain_found, plain_founds, plain_reached, AllFoundVars}
use Rattle.lhg_reach.specs.Neighbours.{AreKept, pair_count}
use Rattle.lhg_reach.specs.Newest.{IsNewest}
use Rattle.lhg_reach.specs.Searching.{counted_layer}
use Rattle.lhg_reach.specs.Widths.{AllThree}
use Rattle.lhg_reach.proofs.Cases.{case_of}
use Rattle.lhg_reach.proofs.Growing.{IsReaching, reaching-start, reaching-part, reaching-same, reaching-stop, reaching-more, reaching-on, ways-part}
use Rattle.lhg_reach.proofs.Newest.{newest-first, newest-on, known-length}
use Rattle.lhg_reach.proofs.Pairs.{count-layer}
use Rattle.lhg_reach.proofs.reaching.reach.Goals as goal

pub returns-in_err-ways-clause-calculus : goal.returns-in_err-ways-clause-calculus
returns-in_err-ways-clause-calculus g c = λ n v.
    let whole = reach g.N.Scalar.arithmetic n (lines_of c.args.bad.now) (lines_of c.args.near.now) c.args.flow.now in
    all_on_pieces c.from_residual.result c.in_err-ways.field-0.0 whole plain_reached _ (λ t. lines_of t.items) c.from_residual.ensures.1 c.in_err-ways.ensures.limit
    (subst (λ ps. IsPart whole (counted_pieces ps)) (sym (lines_of-append c.args.bad.now c.args.near.now)) (ways-part g.N.Scalar.arithmetic n (lines_of c.args.bad.now) (lines_of c.args.near.now) c.args.flow.now))

pub loop-layers-init : goal.loop-layers-init
loop-layers-init g c =
    let bad = c.args.bad.now in
    let near = c.args.near.now in
    let copied = c.in_ok-copies.ensures.copies in
    record {
      reaching = λ n v. subst (λ fs. IsReaching g.N.Scalar.arithmetic n c.args.flow.now (lines_of bad) (lines_of near) 0 (plain_founds fs)) (sym c.new-found.ensures.items) (reaching-start g.N.Scalar.arithmetic n c.args.flow.now (lines_of bad) (lines_of near));
      search = ap lines_of copied ∙ sym (append-nil (lines_of bad)) ∙ ap (λ fs. lines_of bad ++ pieces_of (plain_founds fs)) (sym c.new-found.ensures.items);
      none = c.new.ensures.items;
      vars = λ n v. subst (AllVars n) (sym copied) v.first;
      found = λ n v. subst (AllFoundVars n) (sym c.new-found.ensures.items) tt;
      within = ap (λ ps. is_past_list (lines_of ps)) copied ∙ within-part (lines_of bad) (lines_of near) (ap is_past_list (sym (lines_of-append bad near)) ∙ ap (λ ps. is_past_list (lines_of ps)) (sym c.in_ok-ways.ensures.items) ∙ c.in_ok-ways.ensures.within);
      many = omega arith;
      tally = omega arith;
      newest = λ n v.
          let a = g.N.Scalar.arithmetic in
          let over_bad = polys-over a n (lines_of bad) (polys_over a n bad v.first c.in_ok-ways.ensures.bad) in
          let over_near = polys-over a n (lines_of near) (polys_over a n near v.second c.in_ok-ways.ensures.near) in
          subst (λ (ps : List PlainSystem). IsNewest n (lines_of near) (lines_of bad ++ lines_of near) (lines_of ps) c.args.flow.now 0) (sym copied)
          (newest-first n (lines_of near) (lines_of bad ++ lines_of near) (lines_of bad) c.args.flow.now over_near (all-append (AllWide n) (lines_of bad) (lines_of near) over_bad over_near) over_bad);
      count = λ n v. omega arith;
    }

pub kept_of-requires-clause-vars : goal.kept_of-requires-clause-vars
kept_of-requires-clause-vars g c =
    let n = c.requires.vars in
    let v = c.requires.over in
    record {
      vars = n;
      first = v.second;
      second = subst (AllVars n) (sym (c.deref.ensures.value ∙ c.in_ok-ways.ensures.items)) (all-append (λ (p : PlainSystem). p.width ≡ n) c.args.bad.now c.args.near.now v.first v.second);
    }

pub kept_of-requires-clause-ways : goal.kept_of-requires-clause-ways
kept_of-requires-clause-ways g c =
    subst (ArePolys g.N.Scalar.arithmetic) (sym (c.deref.ensures.value ∙ c.in_ok-ways.ensures.items))
    (all-append (λ (p : PlainSystem). IsPoly g.N.Scalar.arithmetic p.width p.lines) c.args.bad.now c.args.near.now c.in_ok-ways.ensures.bad c.in_ok-ways.ensures.near)

pub grow-requires-clause-kept : goal.grow-requires-clause-kept
grow-requires-clause-kept g c =
    subst (λ (ps : List PlainSystem). AreKept g.N.Scalar.arithmetic c.args.near.now ps c.in_ok-kept.kept.table.items c.in_ok-kept.kept.edges.items) (c.deref.ensures.value ∙ sym c.deref-in-loop-layers.ensures.value)
    c.in_ok-kept.ensures.kept

pub grow-requires-clause-newest : goal.grow-requires-clause-newest
grow-requires-clause-newest g c = λ n v.
    let bad = c.args.bad.now in
    let near = c.args.near.now in
    let all_ways : lines_of c.deref-in-loop-layers.result.now ≡ lines_of bad ++ lines_of near = ap lines_of (c.deref-in-loop-layers.ensures.value ∙ c.in_ok-ways.ensures.items) ∙ lines_of-append bad near in
    let first = (all_split (λ (p : PlainSystem). p.width ≡ n) bad near (subst (AllVars n) (c.deref-in-loop-layers.ensures.value ∙ c.in_ok-ways.ensures.items) v.ways)).0 in
    subst (λ ps. IsNewest n (lines_of near) ps (lines_of c.loop-layers.search.known.items) c.args.flow.now c.loop-layers.first) (sym all_ways) (c.loop-layers.invariant.newest n (record { first = first; second = v.near; rows = v.rows }))

pub grow-requires-clause-over : goal.grow-requires-clause-over
grow-requires-clause-over g c =
    let n = c.requires.vars in
    let v = c.requires.over in
    let bad = c.args.bad.now in
    let near = c.args.near.now in
    record {
      vars = n;
      over = record {
        near = v.second;
        ways = subst (AllVars n) (sym (c.deref-in-loop-layers.ensures.value ∙ c.in_ok-ways.ensures.items)) (all-append (λ (p : PlainSystem). p.width ≡ n) bad near v.first v.second);
        known = c.loop-layers.invariant.vars n v;
        rows = v.rows;
      };
    }

pub returns-in_err-more-clause-calculus : goal.returns-in_err-more-clause-calculus
returns-in_err-more-clause-calculus g c = λ n v.
    let a = g.N.Scalar.arithmetic in
    let bad = c.args.bad.now in
    let near = c.args.near.now in
    let flow = c.args.flow.now in
    let known = c.loop-layers.search.known.items in
    let found = plain_founds c.loop-layers.found.items in
    let i = c.loop-layers.layers in
    let all_ways : lines_of c.deref-in-loop-layers.result.now ≡ lines_of bad ++ lines_of near = ap lines_of (c.deref-in-loop-layers.ensures.value ∙ c.in_ok-ways.ensures.items) ∙ lines_of-append bad near in
    let three : AllThree n near c.deref-in-loop-layers.result.now known flow = record { near = v.second; ways = subst (AllVars n) (sym (c.deref-in-loop-layers.ensures.value ∙ c.in_ok-ways.ensures.items)) (all-append (λ (p : PlainSystem). p.width ≡ n) bad near v.first v.second); known = c.loop-layers.invariant.vars n v; rows = v.rows } in
    part_halts c.from_residual-in_err-more.result c.in_err-more.field-0.0 _ _ _ _ c.from_residual-in_err-more.ensures.1 (c.in_err-more.ensures.step n three)
    (subst (λ w. IsPart (reach a n (lines_of bad) (lines_of near) flow) (and_then (layer_of a n flow (lines_of near) w (lines_of known) (i + 1)) (counted_layer (lines_of known) found))) (sym all_ways)
    (reaching-part a n flow (lines_of bad) (lines_of near) i found (lines_of known) c.loop-layers.invariant.search (c.loop-layers.invariant.reaching n v) c.loop-layers-test.true (i + 1) (add-one i)))

pub returns-then-not-more-clause-calculus : goal.returns-then-not-more-clause-calculus
returns-then-not-more-clause-calculus g c = λ n v.
    let a = g.N.Scalar.arithmetic in
    let bad = c.args.bad.now in
    let near = c.args.near.now in
    let flow = c.args.flow.now in
    let known = c.loop-layers.search.known.items in
    let found = plain_founds c.loop-layers.found.items in
    let i = c.loop-layers.layers in
    let all_ways : lines_of c.deref-in-loop-layers.result.now ≡ lines_of bad ++ lines_of near = ap lines_of (c.deref-in-loop-layers.ensures.value ∙ c.in_ok-ways.ensures.items) ∙ lines_of-append bad near in
    let three : AllThree n near c.deref-in-loop-layers.result.now known flow = record { near = v.second; ways = subst (AllVars n) (sym (c.deref-in-loop-layers.ensures.value ∙ c.in_ok-ways.ensures.items)) (all-append (λ (p : PlainSystem). p.width ≡ n) bad near v.first v.second); known = c.loop-layers.invariant.vars n v; rows = v.rows } in
    let e : (c.in_ok-more.more, plain_founds c.grow.new.found.items) ≡ (and_then (layer_of a n flow (lines_of near) (lines_of bad ++ lines_of near) (lines_of known) (i + 1)) (counted_layer (lines_of known) found)).value
    = subst (λ w. (c.in_ok-more.more, plain_founds c.grow.new.found.items) ≡ (and_then (layer_of a n flow (lines_of near) w (lines_of known) (i + 1)) (counted_layer (lines_of known) found)).value) all_ways (c.in_ok-more.ensures.step n three) in
    let none : c.in_ok-more.more ≡ false = search rules in
    reaching-stop a n flow (lines_of bad) (lines_of near) i found (lines_of known) c.loop-layers.invariant.search (c.loop-layers.invariant.reaching n v) c.loop-layers-test.true (i + 1) (add-one i) c.in_ok-more.more (plain_founds c.grow.new.found.items) e none

pub returns-then-not-more-clause-within : goal.returns-then-not-more-clause-within
returns-then-not-more-clause-within g c =
    let n = c.requires.vars in
    let v = c.requires.over in
    let a = g.N.Scalar.arithmetic in
    let bad = c.args.bad.now in
    let near = c.args.near.now in
    let flow = c.args.flow.now in
    let known = c.loop-layers.search.known.items in
    let found = plain_founds c.loop-layers.found.items in
    let i = c.loop-layers.layers in
    let all_ways : lines_of c.deref-in-loop-layers.result.now ≡ lines_of bad ++ lines_of near = ap lines_of (c.deref-in-loop-layers.ensures.value ∙ c.in_ok-ways.ensures.items) ∙ lines_of-append bad near in
    let three : AllThree n near c.deref-in-loop-layers.result.now known flow = record { near = v.second; ways = subst (AllVars n) (sym (c.deref-in-loop-layers.ensures.value ∙ c.in_ok-ways.ensures.items)) (all-append (λ (p : PlainSystem). p.width ≡ n) bad near v.first v.second); known = c.loop-layers.invariant.vars n v; rows = v.rows } in
    let e : (c.in_ok-more.more, plain_founds c.grow.new.found.items) ≡ (and_then (layer_of a n flow (lines_of near) (lines_of bad ++ lines_of near) (lines_of known) (i + 1)) (counted_layer (lines_of known) found)).value
    = subst (λ w. (c.in_ok-more.more, plain_founds c.grow.new.found.items) ≡ (and_then (layer_of a n flow (lines_of near) w (lines_of known) (i + 1)) (counted_layer (lines_of known) found)).value) all_ways (c.in_ok-more.ensures.step n three) in
    let none : c.in_ok-more.more ≡ false = search rules in
    ap (λ fs. is_past_list (lines_of bad ++ pieces_of fs)) (reaching-same a n flow (lines_of bad) (lines_of near) i found (lines_of known) c.loop-layers.invariant.search (c.loop-layers.invariant.reaching n v) c.loop-layers-test.true (i + 1) (add-one i) c.in_ok-more.more (plain_founds c.grow.new.found.items) e none)
    ∙ ap is_past_list (sym c.loop-layers.invariant.search) ∙ c.loop-layers.invariant.within

pub returns-then-not-more-clause-vars : goal.returns-then-not-more-clause-vars
returns-then-not-more-clause-vars g c = λ n v.
    let bad = c.args.bad.now in
    let near = c.args.near.now in
    c.in_ok-more.ensures.found n
    (record { near = v.second; ways = subst (AllVars n) (sym (c.deref-in-loop-layers.ensures.value ∙ c.in_ok-ways.ensures.items)) (all-append (λ (p : PlainSystem). p.width ≡ n) bad near v.first v.second); known = c.loop-layers.invariant.vars n v; rows = v.rows })
    (c.loop-layers.invariant.found n v)

pub returns-then-not-more-clause-polys : goal.returns-then-not-more-clause-polys
returns-then-not-more-clause-polys g c = λ n v.
    subst (λ (r : PlainReached). EachPoly g.N.Scalar.arithmetic n r.found) (sym (returns-then-not-more-clause-calculus g c n v)) (case_of g.N.Scalar.arithmetic n g.met.N.Scalar.lawful c.args.bad.now c.args.near.now c.args.flow.now v c.in_ok-ways.ensures.bad c.in_ok-ways.ensures.near).reached.polys

pub returns-then-not-more-clause-points : goal.returns-then-not-more-clause-points
returns-then-not-more-clause-points g c = λ n v.
    subst (λ (r : PlainReached). (x : PlainPoint) → length x ≡ n → InSome (lines_of c.args.bad.now ++ pieces_of r.found) x ↔ HasPlay (lines_of c.args.bad.now) (lines_of c.args.near.now) c.args.flow.now x) (sym (returns-then-not-more-clause-calculus g c n v)) ((case_of g.N.Scalar.arithmetic n g.met.N.Scalar.lawful c.args.bad.now c.args.near.now c.args.flow.now v c.in_ok-ways.ensures.bad c.in_ok-ways.ensures.near).exact (subst (λ (r : PlainReached). is_past_list (lines_of c.args.bad.now ++ pieces_of r.found) ≡ false) (returns-then-not-more-clause-calculus g c n v) (returns-then-not-more-clause-within g c)))

pub returns-then-not-more-clause-named : goal.returns-then-not-more-clause-named
returns-then-not-more-clause-named g c = λ n v.
    subst (λ (r : PlainReached). EachNamed n (lines_of c.args.near.now) (lines_of c.args.bad.now ++ lines_of c.args.near.now) (lines_of c.args.bad.now) c.args.flow.now r.found) (sym (returns-then-not-more-clause-calculus g c n v)) (case_of g.N.Scalar.arithmetic n g.met.N.Scalar.lawful c.args.bad.now c.args.near.now c.args.flow.now v c.in_ok-ways.ensures.bad c.in_ok-ways.ensures.near).reached.named

pub returns-then-not-more-clause-plays : goal.returns-then-not-more-clause-plays
returns-then-not-more-clause-plays g c = λ n v.
    subst (λ (r : PlainReached). EachPlays n (lines_of c.args.bad.now) (lines_of c.args.near.now) (lines_of c.args.bad.now) c.args.flow.now r.found) (sym (returns-then-not-more-clause-calculus g c n v)) (case_of g.N.Scalar.arithmetic n g.met.N.Scalar.lawful c.args.bad.now c.args.near.now c.args.flow.now v c.in_ok-ways.ensures.bad c.in_ok-ways.ensures.near).plays

pub returns-then-not-more-clause-inside : goal.returns-then-not-more-clause-inside
returns-then-not-more-clause-inside g c = λ n v.
    subst (λ (r : PlainReached). EachInside n (lines_of c.args.near.now) r.found) (sym (returns-then-not-more-clause-calculus g c n v)) (case_of g.N.Scalar.arithmetic n g.met.N.Scalar.lawful c.args.bad.now c.args.near.now c.args.flow.now v c.in_ok-ways.ensures.bad c.in_ok-ways.ensures.near).reached.inside

pub returns-then-not-more-clause-layers : goal.returns-then-not-more-clause-layers
returns-then-not-more-clause-layers g c = λ n v.
    subst (λ (r : PlainReached). AreInLayers n (lines_of c.args.bad.now) (lines_of c.args.near.now) c.args.flow.now r) (sym (returns-then-not-more-clause-calculus g c n v)) (case_of g.N.Scalar.arithmetic n g.met.N.Scalar.lawful c.args.bad.now c.args.near.now c.args.flow.now v c.in_ok-ways.ensures.bad c.in_ok-ways.ensures.near).reached.layers

pub returns-then-not-more-clause-few : goal.returns-then-not-more-clause-few
returns-then-not-more-clause-few g c =
    let n = c.requires.vars in
    let v = c.requires.over in
    let is = ap (λ (r : PlainReached). r.layers) (returns-then-not-more-clause-calculus g c n v) in
    let few = (case_of g.N.Scalar.arithmetic n g.met.N.Scalar.lawful c.args.bad.now c.args.near.now c.args.flow.now v c.in_ok-ways.ensures.bad c.in_ok-ways.ensures.near).few in
    omega (arith, length-append (lines_of c.args.bad.now) (lines_of c.args.near.now), length-map c.args.bad.now (λ (p : PlainSystem). p.lines), length-map c.args.near.now (λ (p : PlainSystem). p.lines))

-- the crossings so far, with those of the layer at hand
pub returns-then-not-more-clause-count : goal.returns-then-not-more-clause-count
returns-then-not-more-clause-count g c = λ n v.
    let a = g.N.Scalar.arithmetic in
    let bad = c.args.bad.now in
    let near = c.args.near.now in
    let flow = c.args.flow.now in
    let known = c.loop-layers.search.known.items in
    let found = plain_founds c.loop-layers.found.items in
    let i = c.loop-layers.layers in
    let q = pair_count a n (lines_of near) (lines_of bad ++ lines_of near) in
    let all_ways : lines_of c.deref-in-loop-layers.result.now ≡ lines_of bad ++ lines_of near = ap lines_of (c.deref-in-loop-layers.ensures.value ∙ c.in_ok-ways.ensures.items) ∙ lines_of-append bad near in
    let three : AllThree n near c.deref-in-loop-layers.result.now known flow = record { near = v.second; ways = subst (AllVars n) (sym (c.deref-in-loop-layers.ensures.value ∙ c.in_ok-ways.ensures.items)) (all-append (λ (p : PlainSystem). p.width ≡ n) bad near v.first v.second); known = c.loop-layers.invariant.vars n v; rows = v.rows } in
    let e : (c.in_ok-more.more, plain_founds c.grow.new.found.items) ≡ (and_then (layer_of a n flow (lines_of near) (lines_of bad ++ lines_of near) (lines_of known) (i + 1)) (counted_layer (lines_of known) found)).value
    = subst (λ w. (c.in_ok-more.more, plain_founds c.grow.new.found.items) ≡ (and_then (layer_of a n flow (lines_of near) w (lines_of known) (i + 1)) (counted_layer (lines_of known) found)).value) all_ways (c.in_ok-more.ensures.step n three) in
    let none : c.in_ok-more.more ≡ false = search rules in
    let same = reaching-same a n flow (lines_of bad) (lines_of near) i found (lines_of known) c.loop-layers.invariant.search (c.loop-layers.invariant.reaching n v) c.loop-layers-test.true (i + 1) (add-one i) c.in_ok-more.more (plain_founds c.grow.new.found.items) e none in
    let layer = subst (λ ps. c.grow.new.tally + c.loop-layers.first * pair_count a n (lines_of near) ps ≤ c.loop-layers.tally + length known * pair_count a n (lines_of near) ps) all_ways (c.in_ok-more.ensures.count n three) in
    let many : length known ≡ length bad + length c.grow.new.found.items = known-length bad known c.loop-layers.found.items (plain_founds c.grow.new.found.items) c.loop-layers.invariant.search same ∙ ap (λ k. length bad + k) (length-map c.grow.new.found.items plain_found) in
    subst (λ k. c.grow.new.tally ≤ c.args.tally.now + k * q) many
    (count-layer q c.loop-layers.first (length known) c.args.tally.now c.loop-layers.tally c.grow.new.tally (c.loop-layers.invariant.count n v) layer)

pub loop-layers-preserved : goal.loop-layers-preserved
loop-layers-preserved g c =
    let some : c.in_ok-more.more ≡ true = search rules in
    let next = c.in_ok-more.ensures.known (lines_of c.args.bad.now) c.loop-layers.invariant.search in
    let within = c.in_ok-more.ensures.within some in
    let all_known : c.len-next.result ≡ length c.loop-layers.search.known.items = search rules in
    record {
      reaching = λ n v.
          let a = g.N.Scalar.arithmetic in
          let bad = c.args.bad.now in
          let near = c.args.near.now in
          let flow = c.args.flow.now in
          let known = c.loop-layers.search.known.items in
          let found = plain_founds c.loop-layers.found.items in
          let i = c.loop-layers.layers in
          let all_ways : lines_of c.deref-in-loop-layers.result.now ≡ lines_of bad ++ lines_of near = ap lines_of (c.deref-in-loop-layers.ensures.value ∙ c.in_ok-ways.ensures.items) ∙ lines_of-append bad near in
          let three : AllThree n near c.deref-in-loop-layers.result.now known flow = record { near = v.second; ways = subst (AllVars n) (sym (c.deref-in-loop-layers.ensures.value ∙ c.in_ok-ways.ensures.items)) (all-append (λ (p : PlainSystem). p.width ≡ n) bad near v.first v.second); known = c.loop-layers.invariant.vars n v; rows = v.rows } in
          let e : (c.in_ok-more.more, plain_founds c.grow.new.found.items) ≡ (and_then (layer_of a n flow (lines_of near) (lines_of bad ++ lines_of near) (lines_of known) (i + 1)) (counted_layer (lines_of known) found)).value
          = subst (λ w. (c.in_ok-more.more, plain_founds c.grow.new.found.items) ≡ (and_then (layer_of a n flow (lines_of near) w (lines_of known) (i + 1)) (counted_layer (lines_of known) found)).value) all_ways (c.in_ok-more.ensures.step n three) in
          reaching-on a n flow (lines_of bad) (lines_of near) i found (lines_of known) c.loop-layers.invariant.search (c.loop-layers.invariant.reaching n v) c.loop-layers-test.true (i + 1) (add-one i) c.in_ok-more.more (plain_founds c.grow.new.found.items) e some (ap is_past_list (sym next) ∙ within);
      search = next;
      none = c.in_ok-more.ensures.none;
      vars = λ n v.
          let a = g.N.Scalar.arithmetic in
          let bad = c.args.bad.now in
          let near = c.args.near.now in
          let flow = c.args.flow.now in
          let known = c.loop-layers.search.known.items in
          let found = plain_founds c.loop-layers.found.items in
          let i = c.loop-layers.layers in
          let all_ways : lines_of c.deref-in-loop-layers.result.now ≡ lines_of bad ++ lines_of near = ap lines_of (c.deref-in-loop-layers.ensures.value ∙ c.in_ok-ways.ensures.items) ∙ lines_of-append bad near in
          let three : AllThree n near c.deref-in-loop-layers.result.now known flow = record { near = v.second; ways = subst (AllVars n) (sym (c.deref-in-loop-layers.ensures.value ∙ c.in_ok-ways.ensures.items)) (all-append (λ (p : PlainSystem). p.width ≡ n) bad near v.first v.second); known = c.loop-layers.invariant.vars n v; rows = v.rows } in
          c.in_ok-more.ensures.vars n three;
      found = λ n v.
          let a = g.N.Scalar.arithmetic in
          let bad = c.args.bad.now in
          let near = c.args.near.now in
          let flow = c.args.flow.now in
          let known = c.loop-layers.search.known.items in
          let found = plain_founds c.loop-layers.found.items in
          let i = c.loop-layers.layers in
          let all_ways : lines_of c.deref-in-loop-layers.result.now ≡ lines_of bad ++ lines_of near = ap lines_of (c.deref-in-loop-layers.ensures.value ∙ c.in_ok-ways.ensures.items) ∙ lines_of-append bad near in
          let three : AllThree n near c.deref-in-loop-layers.result.now known flow = record { near = v.second; ways = subst (AllVars n) (sym (c.deref-in-loop-layers.ensures.value ∙ c.in_ok-ways.ensures.items)) (all-append (λ (p : PlainSystem). p.width ≡ n) bad near v.first v.second); known = c.loop-layers.invariant.vars n v; rows = v.rows } in
          c.in_ok-more.ensures.found n three (c.loop-layers.invariant.found n v);
      within = within;
      many =
          let n = c.requires.vars in
          let v = c.requires.over in
          let a = g.N.Scalar.arithmetic in
          let bad = c.args.bad.now in
          let near = c.args.near.now in
          let flow = c.args.flow.now in
          let known = c.loop-layers.search.known.items in
          let found = plain_founds c.loop-layers.found.items in
          let i = c.loop-layers.layers in
          let all_ways : lines_of c.deref-in-loop-layers.result.now ≡ lines_of bad ++ lines_of near = ap lines_of (c.deref-in-loop-layers.ensures.value ∙ c.in_ok-ways.ensures.items) ∙ lines_of-append bad near in
          let three : AllThree n near c.deref-in-loop-layers.result.now known flow = record { near = v.second; ways = subst (AllVars n) (sym (c.deref-in-loop-layers.ensures.value ∙ c.in_ok-ways.ensures.items)) (all-append (λ (p : PlainSystem). p.width ≡ n) bad near v.first v.second); known = c.loop-layers.invariant.vars n v; rows = v.rows } in
          let e : (c.in_ok-more.more, plain_founds c.grow.new.found.items) ≡ (and_then (layer_of a n flow (lines_of near) (lines_of bad ++ lines_of near) (lines_of known) (i + 1)) (counted_layer (lines_of known) found)).value
          = subst (λ w. (c.in_ok-more.more, plain_founds c.grow.new.found.items) ≡ (and_then (layer_of a n flow (lines_of near) w (lines_of known) (i + 1)) (counted_layer (lines_of known) found)).value) all_ways (c.in_ok-more.ensures.step n three) in
          let grown = reaching-more a n flow (lines_of bad) (lines_of near) i found (lines_of known) c.loop-layers.invariant.search (c.loop-layers.invariant.reaching n v) c.loop-layers-test.true (i + 1) (add-one i) c.in_ok-more.more (plain_founds c.grow.new.found.items) e some in
          let before = c.loop-layers.invariant.many in
          omega (arith, length-map c.loop-layers.found.items plain_found, length-map c.grow.new.found.items plain_found);
      tally = let t = c.loop-layers.invariant.tally in let u = c.grow.ensures.tally in omega arith;
      newest = λ n v.
          let a = g.N.Scalar.arithmetic in
          let bad = c.args.bad.now in
          let near = c.args.near.now in
          let flow = c.args.flow.now in
          let known = c.loop-layers.search.known.items in
          let found = plain_founds c.loop-layers.found.items in
          let i = c.loop-layers.layers in
          let all_ways : lines_of c.deref-in-loop-layers.result.now ≡ lines_of bad ++ lines_of near = ap lines_of (c.deref-in-loop-layers.ensures.value ∙ c.in_ok-ways.ensures.items) ∙ lines_of-append bad near in
          let three : AllThree n near c.deref-in-loop-layers.result.now known flow = record { near = v.second; ways = subst (AllVars n) (sym (c.deref-in-loop-layers.ensures.value ∙ c.in_ok-ways.ensures.items)) (all-append (λ (p : PlainSystem). p.width ≡ n) bad near v.first v.second); known = c.loop-layers.invariant.vars n v; rows = v.rows } in
          let e : (c.in_ok-more.more, plain_founds c.grow.new.found.items) ≡ (and_then (layer_of a n flow (lines_of near) (lines_of bad ++ lines_of near) (lines_of known) (i + 1)) (counted_layer (lines_of known) found)).value
          = subst (λ w. (c.in_ok-more.more, plain_founds c.grow.new.found.items) ≡ (and_then (layer_of a n flow (lines_of near) w (lines_of known) (i + 1)) (counted_layer (lines_of known) found)).value) all_ways (c.in_ok-more.ensures.step n three) in
          subst (λ k. IsNewest n (lines_of near) (lines_of bad ++ lines_of near) (lines_of c.grow.new.search.known.items) flow k) (length-map known (λ (p : PlainSystem). p.lines) ∙ sym all_known)
          (newest-on a n g.met.N.Scalar.lawful (lines_of bad) (lines_of near) (lines_of bad ++ lines_of near) (lines_of known) (lines_of c.grow.new.search.known.items) flow c.loop-layers.first (i + 1) v.rows (c.loop-layers.invariant.newest n v) found (plain_founds c.grow.new.found.items) c.in_ok-more.more c.loop-layers.invariant.search next e some);
      count = λ n v.
          let a = g.N.Scalar.arithmetic in
          let bad = c.args.bad.now in
          let near = c.args.near.now in
          let flow = c.args.flow.now in
          let known = c.loop-layers.search.known.items in
          let found = plain_founds c.loop-layers.found.items in
          let i = c.loop-layers.layers in
          let all_ways : lines_of c.deref-in-loop-layers.result.now ≡ lines_of bad ++ lines_of near = ap lines_of (c.deref-in-loop-layers.ensures.value ∙ c.in_ok-ways.ensures.items) ∙ lines_of-append bad near in
          let three : AllThree n near c.deref-in-loop-layers.result.now known flow = record { near = v.second; ways = subst (AllVars n) (sym (c.deref-in-loop-layers.ensures.value ∙ c.in_ok-ways.ensures.items)) (all-append (λ (p : PlainSystem). p.width ≡ n) bad near v.first v.second); known = c.loop-layers.invariant.vars n v; rows = v.rows } in
          let layer = subst (λ ps. c.grow.new.tally + c.loop-layers.first * pair_count a n (lines_of near) ps ≤ c.loop-layers.tally + length known * pair_count a n (lines_of near) ps) all_ways (c.in_ok-more.ensures.count n three) in
          let q = pair_count a n (lines_of near) (lines_of bad ++ lines_of near) in
          subst (λ k. c.grow.new.tally ≤ c.args.tally.now + k * q) (sym all_known)
          (count-layer q c.loop-layers.first (length known) c.args.tally.now c.loop-layers.tally c.grow.new.tally (c.loop-layers.invariant.count n v) layer);
    }
