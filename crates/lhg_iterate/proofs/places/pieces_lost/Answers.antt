use Rattle.std.proofs.Common.{◌≡◌, ◌+◌, ◌∷◌, ◌++◌, [], drop, sym, ap, ◌∙◌, subst}
use Rattle.std.proofs.lemmas.List.{drop_all}
use Rattle.lhg_row.specs.Members.{all-append}
use Rattle.lhg_row.specs.System.{PlainSystem}
use Rattle.lhg_math.specs.ListFacts.{drop_cons}
use Rattle.lhg_union.specs.PolyLists.{lines_of, AllVars}
use Rattle.lhg_union.proofs.ListFacts.{all_at}
use Rattle.lhg_loss.specs.Records.{pieces_lost}
use Rattle.lhg_loss.specs.Views.{plain_losses, LossVars}
use Rattle.lhg_iterate.proofs.Built.{built-step, built-all}
use Rattle.lhg_iterate.proofs.places.pieces_lost.Goals as goal

pub loop-loss-init : goal.loop-loss-init
loop-loss-init c = record {
  pieces = ap (λ xs. lines_of xs ++ pieces_lost (plain_losses c.args.losses.now)) c.in_ok-lost.ensures.items;
  vars = λ n all. subst (AllVars n) (sym c.in_ok-lost.ensures.items) tt;
}

pub loop-loss-preserved : goal.loop-loss-preserved
loop-loss-preserved c =
    let losses = c.args.losses.now in
    let i = c.loop-loss.loss-index in
    let r = c.loss-item.result in
    let is = c.loss-item.is in
    let there = c.loop-loss-test.true in
    let out = c.loop-loss.lost.items in
    let copy = c.in_ok-copy.copy in
    record {
      pieces = built-step (λ (p : PlainSystem). p.lines) out c.push.new.self.items copy r.piece.lines (pieces_lost (plain_losses (drop (i + 1) losses))) (pieces_lost (plain_losses losses)) (ap (λ (p : PlainSystem). p.lines) c.in_ok-copy.ensures.copy) c.in_ok-push.ensures.items
          (ap (λ rs. lines_of out ++ pieces_lost (plain_losses rs)) (sym (drop_cons losses i r is there)) ∙ c.loop-loss.invariant.pieces);
      vars = λ n all. subst (AllVars n) (sym c.in_ok-push.ensures.items)
          (all-append (λ p. p.width ≡ n) out (copy ∷ []) (c.loop-loss.invariant.vars n all) (ap (λ (p : PlainSystem). p.width) c.in_ok-copy.ensures.copy ∙ (all_at (LossVars n) losses i r is there all).0, tt));
    }

pub returns-clause-pieces : goal.returns-clause-pieces
returns-clause-pieces c =
    let losses = c.args.losses.now in
    let out = c.loop-loss.lost.items in
    built-all (λ (p : PlainSystem). p.lines) out (pieces_lost (plain_losses losses))
    (ap (λ rs. lines_of out ++ pieces_lost (plain_losses rs)) (sym (drop_all c.loop-loss.loss-index losses c.loop-loss-test.false)) ∙ c.loop-loss.invariant.pieces)
