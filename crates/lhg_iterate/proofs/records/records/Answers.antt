use Rattle.std.proofs.Common.{◌++◌, sym, ap, ◌∙◌, subst}
use Rattle.std.proofs.lemmas.List.{map-append}
use Rattle.lhg_row.specs.Members.{all-append}
use Rattle.lhg_jump.specs.HitViews.{plain_hits}
use Rattle.lhg_loss.specs.Records.{hit_losses}
use Rattle.lhg_loss.specs.Views.{plain_loss, plain_losses, LossVars, AllHaveVars}
use Rattle.lhg_iterate.proofs.records.records.Goals as goal

pub returns-clause-losses : goal.returns-clause-losses
returns-clause-losses c =
    let s = c.args.site in
    let first = c.in_ok-losses.losses.items in
    let more = c.in_ok-others.others.items in
    ap plain_losses c.in_ok-append.ensures.items ∙ map-append plain_loss first more ∙ ap (λ x. x ++ plain_losses more) c.in_ok-losses.ensures.losses
    ∙ ap (λ y. hit_losses s.round s.loc s.first (plain_hits c.args.hits.now) ++ y) c.in_ok-others.ensures.losses

pub returns-clause-vars : goal.returns-clause-vars
returns-clause-vars c = λ n hs aw ws fs.
    subst (AllHaveVars n) (sym c.in_ok-append.ensures.items)
    (all-append (LossVars n) c.in_ok-losses.losses.items c.in_ok-others.others.items (c.in_ok-losses.ensures.vars n hs) (c.in_ok-others.ensures.vars n aw ws fs))
