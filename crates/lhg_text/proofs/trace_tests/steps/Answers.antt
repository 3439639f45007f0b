use Rattle.std.proofs.Common.{◌≡◌, List, ◌∷◌, ◌++◌, [], map, sym, ap, ◌∙◌, subst}
use Rattle.std.proofs.lemmas.List.{map-append}
use Rattle.lhg_math.specs.Tests.{AllOf}
use Rattle.lhg_row.specs.Members.{all-append}
use Rattle.lhg_plant.specs.Views.{plain_plant}
use Rattle.lhg_play.specs.Views.{plain_step, plain_steps}
use Rattle.lhg_text.specs.TraceText.{IsPlacedStep}
use Rattle.lhg_text.proofs.trace_tests.steps.Goals as goal

pub loop-told-preserved : goal.loop-told-preserved
loop-told-preserved c =
    let placed = IsPlacedStep (plain_plant c.args.plant.now) in
    let next = c.in_ok-next.next in
    let old = c.loop-told.out.items in
    subst (AllOf placed) (sym (ap plain_steps c.in_ok-push.ensures.items ∙ map-append plain_step old (next ∷ []))) (all-append placed (plain_steps old) (plain_step next ∷ []) c.loop-told.invariant (c.in_ok-next.ensures, tt))
