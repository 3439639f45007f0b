use Rattle.std.proofs.Common.{◌≡◌, List, ◌∷◌, ◌++◌, [], map, sym, ap, ◌∙◌, subst}
use Rattle.std.proofs.lemmas.List.{map-append}
use Rattle.lhg_math.specs.Tests.{AllOf}
use Rattle.lhg_row.specs.Members.{all-append}
use Rattle.lhg_plant.specs.Views.{plain_plant}
use Rattle.lhg_loss.specs.declared.losses.Loss.{Loss}
use Rattle.lhg_loss.specs.Views.{plain_loss, plain_losses}
use Rattle.lhg_text.specs.ReportConditions.{IsPlacedLoss}
use Rattle.lhg_text.proofs.report_tests.losses.Goals as goal

pub loop-record-preserved : goal.loop-record-preserved
loop-record-preserved c =
    let over : Loss → Type 0 = λ r. r.piece.width ≡ 1 in
    let placed = IsPlacedLoss (plain_plant c.args.plant.now) in
    let next = c.in_ok-next.next in
    let old = c.loop-record.out.items in
    record {
      places = subst (AllOf placed) (sym (ap plain_losses c.in_ok-push.ensures.items ∙ map-append plain_loss old (next ∷ []))) (all-append placed (plain_losses old) (plain_loss next ∷ []) c.loop-record.invariant.places (c.in_ok-next.ensures.place, tt));
      vars = subst (AllOf over) (sym c.in_ok-push.ensures.items) (all-append over old (next ∷ []) c.loop-record.invariant.vars (c.in_ok-next.ensures.vars, tt));
    }
