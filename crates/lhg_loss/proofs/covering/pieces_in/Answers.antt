use Rattle.std.proofs.Common.{◌≡◌, ◌∷◌, ◌++◌, [], ap, sym, ◌∙◌, subst}
use Rattle.std.proofs.lemmas.Bool.{eq-eqb, ne_eqb}
use Rattle.lhg_row.specs.Members.{all-append}
use Rattle.lhg_union.specs.PolyLists.{lines_of, AllVars}
use Rattle.lhg_union.proofs.ListFacts.{lines_of-append, all_at}
use Rattle.lhg_loss.proofs.CoverSteps.{pieces_more, pieces_same}
use Rattle.lhg_loss.proofs.covering.pieces_in.Goals.{then-loss-loc+in_ok-copy+in_ok-push, else-loss-loc}
use Rattle.lhg_loss.proofs.covering.pieces_in.Goals as goal

pub loop-loss-preserved : goal.loop-loss-preserved
loop-loss-preserved c =
    let item = c.loss-item.result in
    let i = c.loop-loss.loss-index in
    let losses = c.args.losses.now in
    let loc = c.args.loc in
    let out = c.loop-loss.out.items in
    elim c.if-loss-loc.branch [
      | then-loss-loc+in_ok-copy+in_ok-push w ↦
          let items : c.if-loss-loc.out.items ≡ out ++ item.piece ∷ [] = ap (λ v. v.items) w.out-is ∙ w.in_ok-push.ensures.items ∙ ap (λ y. out ++ y ∷ []) w.in_ok-copy.ensures.copy in (
            ap lines_of items ∙ lines_of-append out (item.piece ∷ []) ∙ pieces_more loc losses i item c.loss-item.is c.loop-loss-test.true (lines_of out) c.loop-loss.invariant.0 (eq-eqb item.loc loc w.if-loss-loc.true),
            λ n over. subst (AllVars n) (sym items) (all-append (λ p. p.width ≡ n) out (item.piece ∷ []) (c.loop-loss.invariant.1 n over) (all_at (λ r. r.piece.width ≡ n) losses i item c.loss-item.is c.loop-loss-test.true over, tt)),
          )
      | else-loss-loc w ↦
          let items : c.if-loss-loc.out.items ≡ out = ap (λ v. v.items) w.out-is in (
            ap lines_of items ∙ pieces_same loc losses i item c.loss-item.is c.loop-loss-test.true (lines_of out) c.loop-loss.invariant.0 (ne_eqb item.loc loc w.if-loss-loc.false),
            λ n over. subst (AllVars n) (sym items) (c.loop-loss.invariant.1 n over),
          )
    ]
