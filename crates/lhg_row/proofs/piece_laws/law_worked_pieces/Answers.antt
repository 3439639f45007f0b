use Rattle.lhg_row.specs.WorkedPieces.{piece_rows, list_rows, limit_rows, sample_rows}
use Rattle.lhg_row.proofs.piece_laws.law_worked_pieces.Goals as goal

pub returns-clause-pieces : goal.returns-clause-pieces
returns-clause-pieces c = piece_rows

pub returns-clause-lists : goal.returns-clause-lists
returns-clause-lists c = list_rows

pub returns-clause-samples : goal.returns-clause-samples
returns-clause-samples c = sample_rows

pub returns-clause-limits : goal.returns-clause-limits
returns-clause-limits c = limit_rows
