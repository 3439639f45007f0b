use Rattle.lhg_row.specs.ValueLaws.{truth-value}
use Rattle.lhg_row.specs.MoveLaws.{negated-holds, shift-holds, renamed-holds}
use Rattle.lhg_row.specs.PutInLaws.{put_in-holds, put_in-wide}
use Rattle.lhg_row.proofs.calculus_laws.law_rows.Goals as goal

pub returns : goal.returns
returns c = record { truth = truth-value; negate = negated-holds; shift = shift-holds; rename = renamed-holds; put_in = put_in-holds; put_in_wide = put_in-wide }
