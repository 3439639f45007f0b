use Rattle.std.proofs.Common.{◌++◌, sym, ap, ◌∙◌, subst}
use Rattle.lhg_lex.specs.Lines.{lines_of}
use Rattle.lhg_plant.specs.Views.{plain_plant}
use Rattle.lhg_read.specs.PlantText.{IsPlantText}
use Rattle.lhg_text.specs.PlantText.{plant_text}
use Rattle.lhg_text.proofs.PlantReads.{plant_reads}
use Rattle.lhg_text.proofs.plants.print_plant.Goals as goal

pub returns-clause-reads_back : goal.returns-clause-reads_back
returns-clause-reads_back c =
    let a = plain_plant c.args.plant.now in
    let text = c.in_ok-push_plant.ensures.text ∙ ap (λ w. w ++ plant_text a) c.new-text.ensures.items in
    subst (λ bytes. IsPlantText (lines_of bytes) a) (sym text) (plant_reads a c.args.plant.now.proper c.requires c.in_ok-push_plant.ensures.short)
