use Rattle.lhg_row.specs.PieceLemmas.{row_decided, in_piece_is, in_some_is, piece_decided, some_decided}
use Rattle.lhg_row.proofs.laws.law_truth.Goals as goal

pub returns : goal.returns
returns c = record { row_decided = row_decided; piece = in_piece_is; some = in_some_is; piece_decided = piece_decided; some_decided = some_decided }
