use Rattle.lhg_motion.specs.SegmentLemmas.{value_along, along_start, along_end, along_twice}
use Rattle.lhg_motion.specs.Convex.{row_constant, row_turns, piece_convex, piece_towards, piece_ends}
use Rattle.lhg_motion.proofs.laws.law_segments.Goals as goal

pub returns-clause-places : goal.returns-clause-places
returns-clause-places c = record { start = along_start; end_at = along_end; twice = along_twice }

pub returns-clause-turns : goal.returns-clause-turns
returns-clause-turns c = record { value = value_along; constant = row_constant; one_turn = row_turns }

pub returns-clause-convex : goal.returns-clause-convex
returns-clause-convex c = record { convex = piece_convex; towards = piece_towards; ends = piece_ends }
