use Rattle.std.proofs.Common.{◌≡◌, ap, ◌∙◌, subst}
use Rattle.lhg_plant.specs.Views.{plain_plant}
use Rattle.lhg_read.specs.PlantText.{IsPlant, IsSomePlantText}
use Rattle.lhg_read.specs.TokenText.{ReadsText, HasCause}
use Rattle.lhg_gen.specs.GeneratedPlant.{generated_plant}
use Rattle.lhg_gen.proofs.ReadsBack.{start, one_read, not_refused}
use Rattle.lhg_gen.proofs.reading.generate.Goals as goal

pub returns-in-Ok-clause-plant : goal.returns-in-Ok-clause-plant
returns-in-Ok-clause-plant c =
    let p = plain_plant c.in-Ok.plant in
    let begun : c.new.result ≡ start c.in_ok-text.text.items = c.new.ensures ∙ ap start c.deref.ensures.value in
    one_read c.in_ok-text.text.items (generated_plant c.args.k) c.in_ok-text.ensures.plant p c.read_plant.new.lines
    (subst (λ s. ReadsText (λ tokens. IsPlant tokens p) s c.read_plant.new.lines) begun c.in-Ok.ensures.ok)

pub unreachable-requires : goal.unreachable-requires
unreachable-requires c =
    let begun : c.new.result ≡ start c.in_ok-text.text.items = c.new.ensures ∙ ap start c.deref.ensures.value in
    let cause : HasCause IsSomePlantText (start c.in_ok-text.text.items) c.in-Err-Bad.field-0 = subst (λ s. HasCause IsSomePlantText s c.in-Err-Bad.field-0) begun c.in-Err-Bad.ensures.err in
    not_refused c.in_ok-text.text.items (generated_plant c.args.k) c.in_ok-text.ensures.plant c.in-Err-Bad.field-0-0 c.in-Err-Bad.field-0-1 c.in-Err-Bad.field-0-2
    (subst (λ stop. HasCause IsSomePlantText (start c.in_ok-text.text.items) stop) c.in-Err-Bad.field-0-is cause)
