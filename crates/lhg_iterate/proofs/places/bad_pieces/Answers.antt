use Rattle.std.proofs.Common.{◌≡◌, ◌+◌, ◌∷◌, ◌++◌, [], drop, sym, ap, ◌∙◌, subst}
use Rattle.std.proofs.lemmas.List.{drop_all}
use Rattle.lhg_row.specs.Members.{all-append}
use Rattle.lhg_row.specs.System.{PlainSystem}
use Rattle.lhg_math.specs.ListFacts.{drop_cons}
use Rattle.lhg_plant.specs.OutCalculus.{hit_pieces}
use Rattle.lhg_union.specs.PolyLists.{lines_of, AllVars}
use Rattle.lhg_union.proofs.ListFacts.{all_at}
use Rattle.lhg_jump.specs.HitViews.{plain_hits, HasVars}
use Rattle.lhg_iterate.proofs.Built.{built-step, built-all}
use Rattle.lhg_iterate.proofs.places.bad_pieces.Goals as goal

pub loop-hit-init : goal.loop-hit-init
loop-hit-init c = record {
  pieces = ap (λ xs. lines_of xs ++ hit_pieces (plain_hits c.args.hits.now)) c.in_ok-bad.ensures.copies;
  vars = λ n va vh. subst (AllVars n) (sym c.in_ok-bad.ensures.copies) va;
}

pub loop-hit-preserved : goal.loop-hit-preserved
loop-hit-preserved c =
    let hits = c.args.hits.now in
    let i = c.loop-hit.hit-index in
    let h = c.hit-item.result in
    let is = c.hit-item.is in
    let there = c.loop-hit-test.true in
    let out = c.loop-hit.bad.items in
    let copy = c.in_ok-copy.copy in
    let whole = lines_of c.args.away.now ++ hit_pieces (plain_hits hits) in
    record {
      pieces = built-step (λ (p : PlainSystem). p.lines) out c.push.new.self.items copy h.piece.lines (hit_pieces (plain_hits (drop (i + 1) hits))) whole (ap (λ (p : PlainSystem). p.lines) c.in_ok-copy.ensures.copy) c.in_ok-push.ensures.items
          (ap (λ hs. lines_of out ++ hit_pieces (plain_hits hs)) (sym (drop_cons hits i h is there)) ∙ c.loop-hit.invariant.pieces);
      vars = λ n va vh. subst (AllVars n) (sym c.in_ok-push.ensures.items)
          (all-append (λ p. p.width ≡ n) out (copy ∷ []) (c.loop-hit.invariant.vars n va vh) (ap (λ (p : PlainSystem). p.width) c.in_ok-copy.ensures.copy ∙ (all_at (HasVars n) hits i h is there vh).1, tt));
    }

pub returns-clause-pieces : goal.returns-clause-pieces
returns-clause-pieces c =
    let hits = c.args.hits.now in
    let out = c.loop-hit.bad.items in
    built-all (λ (p : PlainSystem). p.lines) out (lines_of c.args.away.now ++ hit_pieces (plain_hits hits))
    (ap (λ hs. lines_of out ++ hit_pieces (plain_hits hs)) (sym (drop_all c.loop-hit.hit-index hits c.loop-hit-test.false)) ∙ c.loop-hit.invariant.pieces)
