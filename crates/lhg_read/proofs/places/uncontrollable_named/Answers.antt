use Rattle.std.proofs.Common.{◌<◌, ◌∙◌, sym, ap, subst, map, length, cond, Some, None}
use Rattle.std.specs.Option.{option_and_then}
use Rattle.lhg_lex.specs.TextTokens.{plain_of}
use Rattle.lhg_plant.specs.Views.{plain_switch, plain_plant}
use Rattle.lhg_read.specs.SwitchName.{is_uncontrollable, if_of}
use Rattle.lhg_read.proofs.SwitchSteps.{switch_found, side_at}
use Rattle.lhg_read.proofs.places.uncontrollable_named.Goals as goal

pub returns-in_default-place_of : goal.returns-in_default-place_of
returns-in_default-place_of c =
    let p = plain_plant c.args.plant.now in
    sym (switch_found is_uncontrollable p (plain_of c.args.lines.now.bytes c.args.token.now) c.in-Some.name c.deref.result.now _ (sym c.read_name.ensures ∙ c.in-Some.is) (ap (map plain_switch) c.deref.ensures.value) c.place_of.ensures.place
    ∙ ap (option_and_then (if_of is_uncontrollable p)) c.in_default-place_of.is)

pub returns-then-not-is_uncontrollable : goal.returns-then-not-is_uncontrollable
returns-then-not-is_uncontrollable c =
    let p = plain_plant c.args.plant.now in
    let k = c.in-Some-place_of.place in
    let side = side_at is_uncontrollable c.args.plant.now.switches.items k c.index.result.now (subst (λ xs. k < length xs) c.deref.ensures.value c.in-Some-place_of.ensures.below) c.index.ensures in
    sym (switch_found is_uncontrollable p (plain_of c.args.lines.now.bytes c.args.token.now) c.in-Some.name c.deref.result.now _ (sym c.read_name.ensures ∙ c.in-Some.is) (ap (map plain_switch) c.deref.ensures.value) c.place_of.ensures.place
    ∙ ap (option_and_then (if_of is_uncontrollable p)) c.in-Some-place_of.is ∙ ap (λ b. cond b (Some k) None) (side ∙ sym c.is_uncontrollable.ensures ∙ c.if-not-is_uncontrollable.true))

pub returns : goal.returns
returns c =
    let p = plain_plant c.args.plant.now in
    let k = c.in-Some-place_of.place in
    let side = side_at is_uncontrollable c.args.plant.now.switches.items k c.index.result.now (subst (λ xs. k < length xs) c.deref.ensures.value c.in-Some-place_of.ensures.below) c.index.ensures in
    sym (switch_found is_uncontrollable p (plain_of c.args.lines.now.bytes c.args.token.now) c.in-Some.name c.deref.result.now _ (sym c.read_name.ensures ∙ c.in-Some.is) (ap (map plain_switch) c.deref.ensures.value) c.place_of.ensures.place
    ∙ ap (option_and_then (if_of is_uncontrollable p)) c.in-Some-place_of.is ∙ ap (λ b. cond b (Some k) None) (side ∙ sym c.is_uncontrollable.ensures ∙ c.if-not-is_uncontrollable.false))
