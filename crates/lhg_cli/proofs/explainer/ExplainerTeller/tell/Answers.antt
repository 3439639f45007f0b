use Rattle.std.proofs.Common.{◌∙◌, ℕ, Option, sym, subst}
use Rattle.std.proofs.lemmas.Result.{err_from_is_err_and}
use Rattle.lhg_plant.specs.Plant.{PlainPlant}
use Rattle.lhg_plant.specs.Views.{plain_plant, plain_state}
use Rattle.lhg_play.specs.Views.{plain_escape}
use Rattle.lhg_loss.specs.Holding.{IsFirstHolding}
use Rattle.lhg_loss.specs.Views.{plain_losses}
use Rattle.lhg_cli.specs.Knowing.{AreRecordsUpto}
use Rattle.lhg_cli.proofs.ExplainerSteps.{past_state, is_unsafe, is_held, escape_is, escape_halt}
use Rattle.lhg_cli.proofs.explainer.ExplainerTeller.tell.Goals as goal

pub explain-requires-clause-held : goal.explain-requires-clause-held
explain-requires-clause-held c =
    let p = plain_plant c.args.plant.now in
    let s = plain_state c.args.state.now in
    let t = c.args.self.now in
    let knows = subst (λ (g : PlainPlant). AreRecordsUpto g t.upto t.losses.now) (sym c.requires.same) c.requires.knows in
    is_held p t.upto t.losses.now knows s c.in-Some.number (past_state p t.upto s c.requires.rank)
    (subst (λ (o : Option ℕ). IsFirstHolding s (plain_losses t.losses.now) o) c.in-Some.is c.in_ok-first_holding.ensures.exact)

pub returns-in_err-escape-in-Some-clause-halt : goal.returns-in_err-escape-in-Some-clause-halt
returns-in_err-escape-in-Some-clause-halt c =
    let p = plain_plant c.args.plant.now in
    let s = plain_state c.args.state.now in
    let t = c.args.self.now in
    let knows = subst (λ (g : PlainPlant). AreRecordsUpto g t.upto t.losses.now) (sym c.requires.same) c.requires.knows in
    let e = err_from_is_err_and c.from_residual-in_err-escape-in-Some.result c.from_residual-in_err-escape-in-Some.ensures.1 in
    rw (e.1, e.2)
    (escape_halt p t.upto t.losses.now knows s c.in-Some.number plain_escape c.in_err-escape-in-Some.field-0.0 (sym c.in-Some.is ∙ c.in_ok-first_holding.ensures.calculus) c.in_err-escape-in-Some.ensures.calculus)

pub returns-in-None-clause-told : goal.returns-in-None-clause-told
returns-in-None-clause-told c =
    let p = plain_plant c.args.plant.now in
    let s = plain_state c.args.state.now in
    let t = c.args.self.now in
    let knows = subst (λ (g : PlainPlant). AreRecordsUpto g t.upto t.losses.now) (sym c.requires.same) c.requires.knows in
    is_unsafe p t.upto t.losses.now knows s (subst (λ (o : Option ℕ). IsFirstHolding s (plain_losses t.losses.now) o) c.in-None.is c.in_ok-first_holding.ensures.exact) c.requires.rank

pub returns-in_ok-escape-in-Some-clause-told : goal.returns-in_ok-escape-in-Some-clause-told
returns-in_ok-escape-in-Some-clause-told c =
    let p = plain_plant c.args.plant.now in
    let s = plain_state c.args.state.now in
    let t = c.args.self.now in
    let knows = subst (λ (g : PlainPlant). AreRecordsUpto g t.upto t.losses.now) (sym c.requires.same) c.requires.knows in
    let e = c.in_ok-escape-in-Some in
    (escape_is p t.upto t.losses.now knows s c.in-Some.number (plain_escape e.escape) (sym c.in-Some.is ∙ c.in_ok-first_holding.ensures.calculus) e.ensures.calculus, e.ensures.escape, e.ensures.fits)
