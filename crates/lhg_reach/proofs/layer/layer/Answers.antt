use Rattle.std.proofs.Common.{◌≡◌, ◌+◌, ◌*◌, ◌<◌, ◌≤◌, ◌∙◌, ◌++◌, [], List, sym, ap, subst, length, drop, get_or, arith, rules, append-nil}
use Rattle.std.proofs.lemmas.List.{length-map}
use Rattle.lhg_num.specs.Marked.{walk}
use Rattle.lhg_num.specs.MarkedLaws.{IsPart, rest_part}
use Rattle.lhg_num.proofs.Halted.{part_halts}
use Rattle.lhg_row.specs.System.{PlainSystem}
use Rattle.lhg_motion.specs.Found.{PlainFound, pieces_of}
use Rattle.lhg_motion.specs.ReachCalculus.{from_near, layer_of, numbered}
use Rattle.lhg_union.specs.PolyLists.{lines_of}
use Rattle.lhg_reach.specs.FoundParts.{plain_founds, AllFoundVars}
use Rattle.lhg_reach.specs.Neighbours.{pair_count}
use Rattle.lhg_reach.proofs.Pairs.{count-into}
use Rattle.lhg_reach.proofs.Newest.{code-rest}
use Rattle.lhg_reach.proofs.Searches.{IsSearching, searching-start, searching-part, searching-step, searching-end, place_next, numbered_none, known_place}
use Rattle.lhg_reach.proofs.layer.layer.Goals as goal

pub loop-place-init : goal.loop-place-init
loop-place-init g c =
    let a = g.N.Scalar.arithmetic in
    let entry = c.args.search.now.known.items in
    let found = c.args.search.now.found.items in
    let first = c.args.first in
    record {
      walking = λ n v.
          let f = from_near a n c.args.flow.now (lines_of entry) c.args.number (lines_of c.args.near.now) (numbered 0 (lines_of c.args.ways.now)) in
          let items = numbered first (lines_of (drop first entry)) in
          subst (λ (s : List PlainFound). IsSearching f items s (lines_of entry) entry found items) (ap plain_founds c.requires.none)
          (searching-start f items (lines_of entry) entry found (sym (append-nil (lines_of entry)) ∙ ap (λ fs. lines_of entry ++ pieces_of (plain_founds fs)) (sym c.requires.none)));
      search = sym (append-nil (lines_of entry)) ∙ ap (λ fs. lines_of entry ++ pieces_of (plain_founds fs)) (sym c.requires.none);
      vars = λ n v. v.known;
      found = λ n v. subst (AllFoundVars n) (sym c.requires.none) tt;
      tally = omega arith;
      upto = let t = (c.requires.newest c.requires.over.vars c.requires.over.over).there in omega (arith, length-map entry (λ (p : PlainSystem). p.lines));
      count = λ n v. omega arith;
    }

pub into_place-requires-clause-over : goal.into_place-requires-clause-over
into_place-requires-clause-over g c =
    let o = c.requires.over.over in
    record { vars = c.requires.over.vars; over = record { near = o.near; ways = o.ways; known = c.loop-place.invariant.vars c.requires.over.vars o; rows = o.rows } }

pub returns-in_err-into_place-clause-layer : goal.returns-in_err-into_place-clause-layer
returns-in_err-into_place-clause-layer g c = λ n v.
    let a = g.N.Scalar.arithmetic in
    let entry = c.args.search.now.known.items in
    let near = lines_of c.args.near.now in
    let ways = lines_of c.args.ways.now in
    let i = c.loop-place.place in
    let many : c.len-place-end.result ≡ length entry = search rules in
    let there : i < length entry = subst (λ m. i < m) many c.loop-place-test.true in
    let f = from_near a n c.args.flow.now (lines_of entry) c.args.number near (numbered 0 ways) in
    let items = numbered c.args.first (lines_of (drop c.args.first entry)) in
    let w = c.loop-place.invariant.walking n v in
    let part = searching-part f items (lines_of entry) [] c.loop-place.search.known.items c.loop-place.search.found.items (numbered i (lines_of (drop i entry))) (record { place = i; piece = get_or (lines_of entry) i [] }) (numbered (i + 1) (lines_of (drop (i + 1) entry)))
    (place_next entry i i there) w in
    let whole = layer_of a n c.args.flow.now near ways (lines_of entry) c.args.number in
    part_halts c.from_residual.result c.in_err-into_place.field-0.0 _ _ _ _ c.from_residual.ensures.1
    (c.in_err-into_place.ensures.step n (lines_of entry) (record { near = v.near; ways = v.ways; known = c.loop-place.invariant.vars n v; rows = v.rows }) c.loop-place.invariant.search)
    (subst (λ p. IsPart whole (f (plain_founds c.loop-place.search.found.items) (record { place = i; piece = p })))
    (known_place entry c.loop-place.search.known.items c.loop-place.search.found.items i there c.loop-place.invariant.search)
    (rest_part whole (walk f [] items) (f (plain_founds c.loop-place.search.found.items) (record { place = i; piece = get_or (lines_of entry) i [] }))
    (code-rest a n g.met.N.Scalar.lawful near ways entry c.args.flow.now c.args.first c.args.number v.rows (c.requires.newest n v)) part))

pub loop-place-preserved : goal.loop-place-preserved
loop-place-preserved g c =
    let a = g.N.Scalar.arithmetic in
    let entry = c.args.search.now.known.items in
    let i = c.loop-place.place in
    let many : c.len-place-end.result ≡ length entry = search rules in
    let there : i < length entry = subst (λ m. i < m) many c.loop-place-test.true in
    let next = c.in_ok-into_place.ensures.known (lines_of entry) c.loop-place.invariant.search in
    record {
      walking = λ n v.
          let f = from_near a n c.args.flow.now (lines_of entry) c.args.number (lines_of c.args.near.now) (numbered 0 (lines_of c.args.ways.now)) in
          searching-step f (numbered c.args.first (lines_of (drop c.args.first entry))) (lines_of entry) [] c.loop-place.search.known.items c.loop-place.search.found.items (numbered i (lines_of (drop i entry))) (record { place = i; piece = get_or (lines_of entry) i [] }) (numbered (i + 1) (lines_of (drop (i + 1) entry)))
          (place_next entry i i there) (c.loop-place.invariant.walking n v) c.into_place.new.search.known.items c.into_place.new.search.found.items
          (c.in_ok-into_place.ensures.step n (lines_of entry) (record { near = v.near; ways = v.ways; known = c.loop-place.invariant.vars n v; rows = v.rows }) c.loop-place.invariant.search
          ∙ ap (λ p. (f (plain_founds c.loop-place.search.found.items) (record { place = i; piece = p })).value) (sym (known_place entry c.loop-place.search.known.items c.loop-place.search.found.items i there c.loop-place.invariant.search)))
          next;
      search = next;
      vars = λ n v. c.in_ok-into_place.ensures.vars n (record { near = v.near; ways = v.ways; known = c.loop-place.invariant.vars n v; rows = v.rows });
      found = λ n v. c.in_ok-into_place.ensures.found n (record { near = v.near; ways = v.ways; known = c.loop-place.invariant.vars n v; rows = v.rows }) (c.loop-place.invariant.found n v);
      tally = let t = c.loop-place.invariant.tally in let u = c.into_place.ensures.tally in omega arith;
      upto = omega arith;
      count = λ n v.
          count-into (pair_count a n (lines_of c.args.near.now) (lines_of c.args.ways.now)) c.args.first i c.args.tally.now c.loop-place.tally c.into_place.new.tally (c.loop-place.invariant.count n v)
          (c.in_ok-into_place.ensures.count n (record { near = v.near; ways = v.ways; known = c.loop-place.invariant.vars n v; rows = v.rows }));
    }

pub returns-clause-layer : goal.returns-clause-layer
returns-clause-layer g c = λ n v.
    let a = g.N.Scalar.arithmetic in
    let entry = c.args.search.now.known.items in
    let near = lines_of c.args.near.now in
    let ways = lines_of c.args.ways.now in
    let i = c.loop-place.place in
    let many : c.len-place-end.result ≡ length entry = search rules in
    let done : length entry ≤ i = subst (λ m. m ≤ i) many c.loop-place-test.false in
    searching-end (from_near a n c.args.flow.now (lines_of entry) c.args.number near (numbered 0 ways)) (numbered c.args.first (lines_of (drop c.args.first entry))) (lines_of entry) [] c.loop-place.search.known.items c.loop-place.search.found.items (numbered i (lines_of (drop i entry)))
    (numbered_none entry i done) (c.loop-place.invariant.walking n v)
    ∙ (code-rest a n g.met.N.Scalar.lawful near ways entry c.args.flow.now c.args.first c.args.number v.rows (c.requires.newest n v)).same

pub returns-clause-count : goal.returns-clause-count
returns-clause-count g c = λ n v.
    let entry = c.args.search.now.known.items in
    let q = pair_count g.N.Scalar.arithmetic n (lines_of c.args.near.now) (lines_of c.args.ways.now) in
    let i = c.loop-place.place in
    let many : c.len-place-end.result ≡ length entry = search rules in
    let done : length entry ≤ i = subst (λ m. m ≤ i) many c.loop-place-test.false in
    let at_end : i ≡ length entry = let u = c.loop-place.invariant.upto in omega arith in
    subst (λ k. c.loop-place.tally + c.args.first * q ≤ c.args.tally.now + k * q) at_end (c.loop-place.invariant.count n v)
