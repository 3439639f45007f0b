use Rattle.std.proofs.Common.{rules, ◌≡◌, ◌+◌, [], ◌∷◌, ◌++◌, sym, ◌∙◌, subst}
use Rattle.lhg_math.specs.Tests.{false_true}
use Rattle.lhg_plant.specs.Views.{plain_plant, plain_state}
use Rattle.lhg_union.specs.Regions.{plain_region}
use Rattle.lhg_uses.specs.Allowed.{AreAllowed}
use Rattle.lhg_uses.proofs.AdviceSteps.{allowed-more, allowed-same}
use Rattle.lhg_uses.proofs.advising.allowed_at.Goals as goal
use Rattle.lhg_uses.proofs.advising.allowed_at.Goals.{then-here+in_ok-push, else-here}

pub loop-e-preserved : goal.loop-e-preserved
loop-e-preserved c =
    let a = plain_plant c.args.plant.now in
    let guards = plain_region c.args.guards.now in
    let s = plain_state c.args.state.now in
    let k = c.loop-e.e in
    let xs = c.loop-e.allowed.items in
    elim c.if-here.branch [
      | then-here+in_ok-push w ↦
          let is : c.if-here.allowed.items ≡ xs ++ k ∷ [] = search rules in
          subst (AreAllowed a guards s (k + 1)) (sym is) (allowed-more a guards s k xs c.loop-e.invariant (c.in_ok-here.ensures.exact.0 w.if-here.true))
      | else-here w ↦
          let is : c.if-here.allowed.items ≡ xs = search rules in
          subst (AreAllowed a guards s (k + 1)) (sym is) (allowed-same a guards s k xs c.loop-e.invariant (λ h. false_true (sym w.if-here.false ∙ c.in_ok-here.ensures.exact.1 h)))
    ]
