use Rattle.std.proofs.Common.{◌≡◌, ◌+◌, ◌∷◌, ap, sym, ◌∙◌, subst, drop}
use Rattle.std.specs.Prelude.{Some, None}
use Rattle.std.proofs.lemmas.Bool.{eq-eqb}
use Rattle.std.proofs.lemmas.List.{drop_all}
use Rattle.lhg_math.specs.ListFacts.{drop_cons}
use Rattle.lhg_plant.specs.Views.{plain_state}
use Rattle.lhg_loss.specs.Holding.{holding, IsFirstHolding}
use Rattle.lhg_loss.specs.Views.{plain_loss, plain_losses}
use Rattle.lhg_loss.proofs.HoldingSteps.{found_value, holding_first}
use Rattle.lhg_loss.proofs.holding.first_holding.Goals as goal

pub returns-then-here-clause-exact : goal.returns-then-here-clause-exact
returns-then-here-clause-exact c =
    let s = plain_state c.args.state.now in
    let item = c.loss-item.result in
    let i = c.loop-loss.loss-index in
    let losses = c.args.losses.now in
    let rest = plain_losses (drop (i + 1) losses) in
    let there : (holding s (plain_losses (drop i losses))).value ≡ (holding s (plain_loss item ∷ rest)).value = ap (λ w. (holding s (plain_losses w)).value) (drop_cons losses i item c.loss-item.is c.loop-loss-test.true) in
    let value : (holding s (plain_losses losses)).value ≡ Some item.number =
    sym c.loop-loss.invariant.same ∙ there ∙ found_value s (plain_loss item) rest (eq-eqb item.loc s.loc c.if-loss-state.true) (sym c.in_ok-here.ensures.calculus ∙ c.if-here.true) in
    subst (λ o. IsFirstHolding s (plain_losses losses) o) value (holding_first s (plain_losses losses))

pub returns-clause-exact : goal.returns-clause-exact
returns-clause-exact c =
    let s = plain_state c.args.state.now in
    let losses = c.args.losses.now in
    let value : (holding s (plain_losses losses)).value ≡ None =
    sym c.loop-loss.invariant.same ∙ ap (λ w. (holding s (plain_losses w)).value) (drop_all c.loop-loss.loss-index losses c.loop-loss-test.false) in
    subst (λ o. IsFirstHolding s (plain_losses losses) o) value (holding_first s (plain_losses losses))
