use Rattle.lhg_row.specs.Truths.{piece_truth-value, some_truth-value}
use Rattle.lhg_row.proofs.piece_laws.law_membership.Goals as goal

pub returns : goal.returns
returns c = record { piece = piece_truth-value; some = some_truth-value }
