use Rattle.std.proofs.Common.{◌++◌, sym, ap, ◌∙◌}
use Rattle.lhg_plant.specs.Views.{plain_plant}
use Rattle.lhg_union.specs.Regions.{plain_region}
use Rattle.lhg_text.specs.ForwardText.{forward_text}
use Rattle.lhg_text.proofs.ForwardReading.{one_forward}
use Rattle.lhg_text.proofs.forwards.print_forward.Goals as goal

pub returns-clause-one_reading : goal.returns-clause-one_reading
returns-clause-one_reading c = λ s r h e.
    let a = plain_plant c.args.plant.now in
    let region = plain_region c.args.region.now.pieces.items in
    let text = c.in_ok-push_forward.ensures.text ∙ ap (λ w. w ++ forward_text a region c.args.rounds) c.new-text.ensures.items in
    one_forward a c.args.plant.now.proper region c.args.rounds s r c.in_ok-push_forward.ensures.written h (sym text ∙ sym e)
