use Rattle.std.proofs.Common.{◌∙◌, ap, refl}
use Rattle.std.proofs.lemmas.List.{drop_all}
use Rattle.lhg_math.specs.Signs.{lead, is_nought}
use Rattle.lhg_math.specs.SignLaws.{is_nought-nought}
use Rattle.lhg_num.proofs.scaling.leading_size.Goals as goal

pub returns : goal.returns
returns c = rw (ap is_nought (c.loop-entry.invariant ∙ ap lead (drop_all c.loop-entry.entry-index c.args.row.now c.loop-entry-test.false)) ∙ is_nought-nought) refl
