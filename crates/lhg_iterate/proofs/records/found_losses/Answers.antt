use Rattle.std.proofs.Common.{◌≡◌, ◌+◌, ◌∷◌, ◌++◌, [], length, drop, sym, ap, ◌∙◌, subst, arith}
use Rattle.std.proofs.lemmas.List.{drop_all}
use Rattle.lhg_row.specs.Members.{all-append}
use Rattle.lhg_union.specs.PolyLists.{lines_of}
use Rattle.lhg_union.proofs.ListFacts.{all_at}
use Rattle.lhg_reach.specs.FoundParts.{plain_found, plain_founds}
use Rattle.lhg_loss.specs.Records.{found_cause, found_loss, found_losses}
use Rattle.lhg_loss.specs.Views.{plain_loss, plain_losses, LossVars, AllHaveVars}
use Rattle.lhg_iterate.proofs.Built.{built-step, built-all}
use Rattle.lhg_iterate.proofs.RecordSteps.{found-next}
use Rattle.lhg_iterate.specs.Naming.{IsNameable}
use Rattle.lhg_iterate.proofs.records.found_losses.Goals as goal

pub loop-i-init : goal.loop-i-init
loop-i-init c =
    let s = c.args.site in
    let why = found_cause (lines_of c.args.away.now) (lines_of c.args.ways.now) s.first in
    let fs = c.args.found.now in
    record {
      losses = ap (λ xs. plain_losses xs ++ found_losses s.round s.loc why (c.args.next + 0) (plain_founds fs)) c.in_ok-losses.ensures.items ∙ ap (λ k. found_losses s.round s.loc why k (plain_founds fs)) (omega arith);
      vars = λ n aw ws all. subst (AllHaveVars n) (sym c.in_ok-losses.ensures.items) tt;
    }

pub found_loss-requires : goal.found_loss-requires
found_loss-requires c = all_at (IsNameable c.args.site.first (length c.args.ways.now)) c.args.found.now c.loop-i.i c.index-found-i.result c.index-found-i.is c.loop-i-test.true c.requires.named

pub loop-i-preserved : goal.loop-i-preserved
loop-i-preserved c =
    let s = c.args.site in
    let why = found_cause (lines_of c.args.away.now) (lines_of c.args.ways.now) s.first in
    let fs = c.args.found.now in
    let i = c.loop-i.i in
    let f = c.index-found-i.result in
    let out = c.loop-i.losses.items in
    let loss = c.in_ok-loss.loss in
    let rest = found_losses s.round s.loc why (c.args.next + (i + 1)) (plain_founds (drop (i + 1) fs)) in
    record {
      losses = built-step plain_loss out c.push.new.self.items loss (found_loss s.round s.loc why (c.args.next + i) (plain_found f)) rest (found_losses s.round s.loc why c.args.next (plain_founds fs)) c.in_ok-loss.ensures.loss c.in_ok-push.ensures.items
          (ap (λ ls. plain_losses out ++ ls) (sym (found-next s.round s.loc c.args.next i why fs f c.index-found-i.is c.loop-i-test.true)) ∙ c.loop-i.invariant.losses);
      vars = λ n aw ws all. subst (AllHaveVars n) (sym c.in_ok-push.ensures.items)
          (all-append (LossVars n) out (loss ∷ []) (c.loop-i.invariant.vars n aw ws all) (c.in_ok-loss.ensures.vars n aw ws (all_at (λ g. g.piece.width ≡ n) fs i f c.index-found-i.is c.loop-i-test.true all), tt));
    }

pub returns-clause-losses : goal.returns-clause-losses
returns-clause-losses c =
    let s = c.args.site in
    let why = found_cause (lines_of c.args.away.now) (lines_of c.args.ways.now) s.first in
    let fs = c.args.found.now in
    let i = c.loop-i.i in
    let out = c.loop-i.losses.items in
    built-all plain_loss out (found_losses s.round s.loc why c.args.next (plain_founds fs))
    (ap (λ gs. plain_losses out ++ found_losses s.round s.loc why (c.args.next + i) (plain_founds gs)) (sym (drop_all i fs c.loop-i-test.false)) ∙ c.loop-i.invariant.losses)
