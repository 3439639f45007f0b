use Rattle.std.proofs.Common.{◌<◌, ◌∙◌, sym, ap, subst, map, length, cond, Some, None}
use Rattle.std.specs.Option.{option_and_then}
use Rattle.lhg_lex.specs.TextTokens.{plain_of}
use Rattle.lhg_plant.specs.Views.{plain_switch, plain_plant}
use Rattle.lhg_read.specs.SwitchName.{is_controllable, if_of}
use Rattle.lhg_read.proofs.SwitchSteps.{switch_found, side_at}
use Rattle.lhg_read.proofs.places.controllable_named.Goals as goal

pub returns-in_default-place_of-clause-place : goal.returns-in_default-place_of-clause-place
returns-in_default-place_of-clause-place c =
    let p = plain_plant c.args.plant.now in
    sym (switch_found is_controllable p (plain_of c.args.lines.now.bytes c.args.token.now) c.in-Some.name c.deref.result.now _ (sym c.read_name.ensures ∙ c.in-Some.is) (ap (map plain_switch) c.deref.ensures.value) c.place_of.ensures.place
    ∙ ap (option_and_then (if_of is_controllable p)) c.in_default-place_of.is)

pub returns-then-not-is_controllable-clause-place : goal.returns-then-not-is_controllable-clause-place
returns-then-not-is_controllable-clause-place c =
    let p = plain_plant c.args.plant.now in
    let k = c.in-Some-place_of.place in
    let side = side_at is_controllable c.args.plant.now.switches.items k c.index.result.now (subst (λ xs. k < length xs) c.deref.ensures.value c.in-Some-place_of.ensures.below) c.index.ensures in
    sym (switch_found is_controllable p (plain_of c.args.lines.now.bytes c.args.token.now) c.in-Some.name c.deref.result.now _ (sym c.read_name.ensures ∙ c.in-Some.is) (ap (map plain_switch) c.deref.ensures.value) c.place_of.ensures.place
    ∙ ap (option_and_then (if_of is_controllable p)) c.in-Some-place_of.is ∙ ap (λ b. cond b (Some k) None) (side ∙ sym c.is_controllable.ensures ∙ c.if-not-is_controllable.true))

pub returns-clause-place : goal.returns-clause-place
returns-clause-place c =
    let p = plain_plant c.args.plant.now in
    let k = c.in-Some-place_of.place in
    let side = side_at is_controllable c.args.plant.now.switches.items k c.index.result.now (subst (λ xs. k < length xs) c.deref.ensures.value c.in-Some-place_of.ensures.below) c.index.ensures in
    sym (switch_found is_controllable p (plain_of c.args.lines.now.bytes c.args.token.now) c.in-Some.name c.deref.result.now _ (sym c.read_name.ensures ∙ c.in-Some.is) (ap (map plain_switch) c.deref.ensures.value) c.place_of.ensures.place
    ∙ ap (option_and_then (if_of is_controllable p)) c.in-Some-place_of.is ∙ ap (λ b. cond b (Some k) None) (side ∙ sym c.is_controllable.ensures ∙ c.if-not-is_controllable.false))
