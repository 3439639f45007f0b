use Rattle.std.proofs.Common.{map, ap, ◌∙◌, arith, ℤ}
use Rattle.std.proofs.lemmas.Int.{to_z_pos}
use Rattle.std.specs.Int.{w128}
use Rattle.std.specs.Int.RustNames.{int_div}
use Rattle.lhg_math.specs.Number.{whole}
use Rattle.lhg_whole.specs.ContentLaws.{scaled_by, scaled_already}
use Rattle.lhg_whole.proofs.contents.scale_row.Goals as goal

pub returns-then-g-gt1 : goal.returns-then-g-gt1
returns-then-g-gt1 c =
    let zs = c.args.row.now in
    ap (map whole) c.divide.ensures ∙ ap (λ (k : ℤ). map whole (map (λ z. int_div z k) zs)) (to_z_pos w128 c.common-g.result c.common-g.ensures.small) ∙ scaled_by zs c.common-g.result c.common-g.ensures.value (omega arith)

pub returns-else-g-gt1 : goal.returns-else-g-gt1
returns-else-g-gt1 c = scaled_already c.args.row.now c.common-g.result c.common-g.ensures.value (omega arith)
