use Rattle.std.proofs.Common.{◌≡◌, None, sym, ◌∙◌}
use Rattle.lhg_prune.proofs.ProjectSteps.{none-is, has_last}
use Rattle.lhg_prune.proofs.pruning.is_short.Goals as goal

pub pair-requires : goal.pair-requires
pair-requires g c = has_last c.args.k c.args.rows.now c.requires

pub returns : goal.returns
returns g c = λ _. sym c.in_ok-mates.ensures ∙ none-is c.in_ok-mates.mates (sym c.is_some.ensures ∙ c.if-is_some.false)
