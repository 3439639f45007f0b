use Rattle.std.proofs.Common.{map, ◌++◌, codes}
use Rattle.lhg_row_text.proofs.Appended.{appended_as}
use Rattle.lhg_row_text.proofs.OldNames.{rows_text-old}
use Rattle.lhg_row_text.proofs.rows.push_rows.Goals as goal

pub returns-clause-text : goal.returns-clause-text
returns-clause-text c = appended_as c.push_list.result _ _ _ _ c.push_list.ensures.text (rows_text-old (map (λ v. v ++ codes "'") c.args.vars.now) c.args.vars.now c.args.rows.now c.requires)
