-- What is a controller as it is written, and which one writes a given controller?
use Rattle.std.specs.Prelude.{ℕ, zero, suc, List, [], ◌∷◌, ◌++◌, length, map, codes, decimal}
use Rattle.lhg_row.specs.Piece.{PlainPiece}
use Rattle.lhg_plant.specs.Controller.{PlainController}

-- pieces, each with the place of its location, and guards, each with the place of its switch, in the order of their lines; the number of
-- rounds in which it was found, 0 where that is not known; and a name for each guard
pub record PlainDraft : Type 0 where
  pub pieces : List (ℕ × PlainPiece)
  pub guards : List (ℕ × PlainPiece)
  pub rounds : ℕ
  pub names : List (List ℕ)

-- the name of a guard that is written without one, by its number: g1, g2 and so on
abbrev pub guard_name : ℕ → List ℕ
guard_name k = codes "g" ++ decimal k

-- the names of so many such guards, from number k on
abbrev pub guard_names : ℕ → ℕ → List (List ℕ)
guard_names k zero = []
guard_names k (suc n) = guard_name k ∷ guard_names (suc k) n

-- the pieces of one list, each with the place of the list
abbrev pub all_at : ℕ → List PlainPiece → List (ℕ × PlainPiece)
all_at k ps = map (λ p. (k, p)) ps

-- the pieces of lists, in order, each with the place of its list; the first list is at place k
abbrev pub placed_from : ℕ → List (List PlainPiece) → List (ℕ × PlainPiece)
placed_from k [] = []
placed_from k (ps ∷ lists) = all_at k ps ++ placed_from (suc k) lists

-- pieces in the order of locations and then of the list, guards in the order of switches and then of the list; the number of rounds is
-- not said, and the guards have no names of their own
abbrev pub draft_of : PlainController → PlainDraft
draft_of c = record { pieces = placed_from 0 c.region; guards = placed_from 0 c.guards; rounds = 0; names = guard_names 1 (length (placed_from 0 c.guards)) }
