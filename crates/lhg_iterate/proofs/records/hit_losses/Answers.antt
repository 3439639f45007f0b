use Rattle.std.proofs.Common.{◌+◌, ◌∷◌, ◌++◌, [], drop, sym, ap, ◌∙◌, subst, arith}
use Rattle.std.proofs.lemmas.List.{drop_all}
use Rattle.lhg_row.specs.Members.{all-append}
use Rattle.lhg_union.proofs.ListFacts.{all_at}
use Rattle.lhg_jump.specs.HitViews.{plain_hit, plain_hits, HasVars}
use Rattle.lhg_loss.specs.Records.{hit_loss, hit_losses}
use Rattle.lhg_loss.specs.Views.{plain_loss, plain_losses, LossVars, AllHaveVars}
use Rattle.lhg_iterate.proofs.Built.{built-step, built-all}
use Rattle.lhg_iterate.proofs.RecordSteps.{hits-next}
use Rattle.lhg_iterate.proofs.records.hit_losses.Goals as goal

pub loop-i-init : goal.loop-i-init
loop-i-init c =
    let s = c.args.site in
    let hits = c.args.hits.now in
    record {
      losses = ap (λ xs. plain_losses xs ++ hit_losses s.round s.loc (s.first + 0) (plain_hits hits)) c.in_ok-losses.ensures.items ∙ ap (λ k. hit_losses s.round s.loc k (plain_hits hits)) (omega arith);
      vars = λ n all. subst (AllHaveVars n) (sym c.in_ok-losses.ensures.items) tt;
    }

pub loop-i-preserved : goal.loop-i-preserved
loop-i-preserved c =
    let s = c.args.site in
    let hits = c.args.hits.now in
    let i = c.loop-i.i in
    let h = c.index-hits-i.result in
    let out = c.loop-i.losses.items in
    let loss = c.in_ok-loss.loss in
    let rest = hit_losses s.round s.loc (s.first + (i + 1)) (plain_hits (drop (i + 1) hits)) in
    record {
      losses = built-step plain_loss out c.push.new.self.items loss (hit_loss s.round s.loc (s.first + i) (plain_hit h)) rest (hit_losses s.round s.loc s.first (plain_hits hits)) c.in_ok-loss.ensures.loss c.in_ok-push.ensures.items
          (ap (λ ls. plain_losses out ++ ls) (sym (hits-next s.round s.loc s.first i hits h c.index-hits-i.is c.loop-i-test.true)) ∙ c.loop-i.invariant.losses);
      vars = λ n all. subst (AllHaveVars n) (sym c.in_ok-push.ensures.items)
          (all-append (LossVars n) out (loss ∷ []) (c.loop-i.invariant.vars n all) (c.in_ok-loss.ensures.vars n (all_at (HasVars n) hits i h c.index-hits-i.is c.loop-i-test.true all), tt));
    }

pub returns-clause-losses : goal.returns-clause-losses
returns-clause-losses c =
    let s = c.args.site in
    let hits = c.args.hits.now in
    let i = c.loop-i.i in
    let out = c.loop-i.losses.items in
    built-all plain_loss out (hit_losses s.round s.loc s.first (plain_hits hits))
    (ap (λ hs. plain_losses out ++ hit_losses s.round s.loc (s.first + i) (plain_hits hs)) (sym (drop_all i hits c.loop-i-test.false)) ∙ c.loop-i.invariant.losses)
