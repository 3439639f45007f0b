use Rattle.std.proofs.Common.{◌≤◌, length, sym, subst, arith}
use Rattle.lhg_lex.specs.Lines.{lines_of, most_bytes}
use Rattle.lhg_read.specs.PlantText.{IsPlantText}
use Rattle.lhg_gen.specs.GeneratedPlant.{generated_plant}
use Rattle.lhg_gen.proofs.Lengths.{text_short}
use Rattle.lhg_gen.proofs.PlantIs.{generated_reads}
use Rattle.lhg_gen.proofs.plants.plant_of.Goals as goal

pub returns-clause-plant : goal.returns-clause-plant
returns-clause-plant c =
    let low = c.if-k-lt1.false in
    let high = c.if-k-gt-MOST_LOCATIONS.false in
    subst (λ t. IsPlantText (lines_of t) (generated_plant c.args.k)) (sym c.in_ok-text.ensures) (generated_reads c.args.k (record { some = omega arith; few = omega arith }))

pub returns-clause-short : goal.returns-clause-short
returns-clause-short c =
    let low = c.if-k-lt1.false in
    let high = c.if-k-gt-MOST_LOCATIONS.false in
    subst (λ t. length t ≤ most_bytes) (sym c.in_ok-text.ensures) (text_short c.args.k (record { some = omega arith; few = omega arith }))
