use Rattle.std.proofs.Common.{◌<◌, List, ◌∷◌, ◌++◌, length, ap, sym, subst, ◌∙◌, codes, append-nil, arith}
use Rattle.std.specs.List.{flat_map}
use Rattle.std.proofs.lemmas.List.{length-map}
use Rattle.lhg_plant.specs.Views.{plain_plant, plain_switch}
use Rattle.lhg_loss.specs.declared.losses.Cause.{Cause}
use Rattle.lhg_loss.specs.Views.{plain_cause}
use Rattle.lhg_row_text.proofs.Appended.{appended}
use Rattle.lhg_row_text.proofs.HeldNames.{switch_at}
use Rattle.lhg_text.specs.ReportConditions.{IsPlacedCause}
use Rattle.lhg_text.specs.ReportText.{cause_words}
use Rattle.lhg_text.proofs.losses.push_cause.Goals as goal

pub returns-in_ok-push_word-in-Env-clause-text : goal.returns-in_ok-push_word-in-Env-clause-text
returns-in_ok-push_word-in-Env-clause-text c =
    let a = plain_plant c.args.plant.now in
    let switches = c.args.plant.now.switches.items in
    let placed : c.in-Env.switch < length a.switches = subst (λ (x : Cause). IsPlacedCause a (plain_cause x)) c.in-Env.is c.requires in
    let size = length-map switches plain_switch in
    let name = switch_at switches c.in-Env.switch c.index.result.now (omega (arith, placed, size)) c.index.ensures in
    appended c.push_word-in-Env.result _ _ _ (32 ∷ codes "env") (32 ∷ c.bytes.result.now) _ c.push_word-in-Env.ensures c.in_ok-push_word-in-Env.ensures
    (ap (λ (x : Cause). flat_map (λ w. 32 ∷ w) (cause_words a (plain_cause x))) c.in-Env.is ∙ ap (λ w. 32 ∷ codes "env" ++ 32 ∷ w) (append-nil _ ∙ name ∙ sym c.bytes.ensures.same))
