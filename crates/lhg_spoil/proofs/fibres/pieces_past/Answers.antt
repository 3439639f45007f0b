use Rattle.std.proofs.Common.{◌≡◌, ◌∷◌, ◌++◌, [], ap, sym, ◌∙◌, subst}
use Rattle.lhg_row.specs.Members.{all-append}
use Rattle.lhg_union.specs.PolyLists.{lines_of, AllVars}
use Rattle.lhg_union.proofs.ListFacts.{lines_of-append, all_at}
use Rattle.lhg_loss.specs.Views.{LossVars}
use Rattle.lhg_spoil.proofs.FibreCode.{past-more, past-same}
use Rattle.lhg_spoil.proofs.fibres.pieces_past.Goals.{then-is_past+in_ok-copy+in_ok-push, else-is_past}
use Rattle.lhg_spoil.proofs.fibres.pieces_past.Goals as goal

pub loop-loss-preserved : goal.loop-loss-preserved
loop-loss-preserved c =
    let item = c.loss-item.result in
    let i = c.loop-loss.loss-index in
    let losses = c.args.losses.now in
    let loc = c.args.loc in
    let out = c.loop-loss.out.items in
    elim c.if-is_past.branch [
      | then-is_past+in_ok-copy+in_ok-push w ↦
          let items : c.if-is_past.out.items ≡ out ++ item.piece ∷ [] = ap (λ v. v.items) w.out-is ∙ w.in_ok-push.ensures.items ∙ ap (λ y. out ++ y ∷ []) w.in_ok-copy.ensures.copy in (
            ap lines_of items ∙ lines_of-append out (item.piece ∷ []) ∙ past-more loc c.args.j losses i item c.loss-item.is c.loop-loss-test.true (lines_of out) c.loop-loss.invariant.0 (sym c.is_past.ensures ∙ w.if-is_past.true),
            λ n over. subst (AllVars n) (sym items) (all-append (λ p. p.width ≡ n) out (item.piece ∷ []) (c.loop-loss.invariant.1 n over) ((all_at (LossVars n) losses i item c.loss-item.is c.loop-loss-test.true over).0, tt)),
          )
      | else-is_past w ↦
          let items : c.if-is_past.out.items ≡ out = ap (λ v. v.items) w.out-is in (
            ap lines_of items ∙ past-same loc c.args.j losses i item c.loss-item.is c.loop-loss-test.true (lines_of out) c.loop-loss.invariant.0 (sym c.is_past.ensures ∙ w.if-is_past.false),
            λ n over. subst (AllVars n) (sym items) (c.loop-loss.invariant.1 n over),
          )
    ]
