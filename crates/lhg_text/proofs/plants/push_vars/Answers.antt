use Rattle.std.proofs.Common.{rules, append_assoc, codes}
use Rattle.std.proofs.lemmas.Result.{IfOk-equal}
use Rattle.lhg_text.proofs.SpacedWords.{spaced-flat}
use Rattle.lhg_text.proofs.plants.push_vars.Goals as goal

pub returns : goal.returns
returns c = rw (spaced-flat (codes "vars") c.args.vars.now) (search (rules, IfOk-equal, append_assoc))
