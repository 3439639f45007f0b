-- How is a controller printed?
use Rattle.std.specs.Prelude.{ℕ, List, [], ◌∷◌, ◌++◌, codes, decimal, map, slice_get}
use Rattle.std.specs.List.{flat_map}
use Rattle.lhg_row.specs.Piece.{PlainPiece}
use Rattle.lhg_plant.specs.Controller.{PlainController}
use Rattle.lhg_plant.specs.Plant.{PlainPlant}
use Rattle.lhg_row_text.specs.PrintedLine.{line, spaced, location_name, switch_name}
use Rattle.lhg_row_text.specs.RowText.{rows_text}
use Rattle.lhg_ctl.specs.Draft.{PlainDraft, draft_of}

-- the line of a piece of a location
abbrev pub piece_line : PlainPlant → ℕ × PlainPiece → List ℕ
piece_line a p = spaced (codes "piece" ∷ location_name (slice_get a.locs p.0) ∷ rows_text a.vars p.1 ∷ [])

-- the line of a guard of a switch
abbrev pub guard_line : PlainPlant → ℕ × PlainPiece → List ℕ
guard_line a g = spaced (codes "guard" ∷ switch_name (slice_get a.switches g.0) ∷ rows_text a.vars g.1 ∷ [])

-- the lines of a controller as it is written in version 1: the head, the pieces, the guards, and the end
abbrev pub draft_lines : PlainPlant → PlainDraft → List (List ℕ)
draft_lines a d = codes "controller 1" ∷ (map (piece_line a) d.pieces ++ (map (guard_line a) d.guards ++ codes "end" ∷ []))

-- each line ends with a line feed
abbrev pub draft_text : PlainPlant → PlainDraft → List ℕ
draft_text a d = flat_map line (draft_lines a d)

-- the line of a guard of a switch with its name
abbrev pub named_guard_line : PlainPlant → List ℕ → ℕ × PlainPiece → List ℕ
named_guard_line a name g = spaced (codes "guard" ∷ switch_name (slice_get a.switches g.0) ∷ name ∷ rows_text a.vars g.1 ∷ [])

-- those of guards with their names
abbrev pub named_guard_lines : PlainPlant → List (List ℕ) → List (ℕ × PlainPiece) → List (List ℕ)
named_guard_lines a [] gs = []
named_guard_lines a (name ∷ names) [] = []
named_guard_lines a (name ∷ names) (g ∷ gs) = named_guard_line a name g ∷ named_guard_lines a names gs

-- the line of the number of rounds
abbrev pub rounds_text : ℕ → List ℕ
rounds_text n = spaced (codes "rounds" ∷ decimal n ∷ [])

-- the lines of a controller as it is written in version 2: the head, the number of rounds, the pieces, the guards with their names, and
-- the end
abbrev pub second_lines : PlainPlant → PlainDraft → List (List ℕ)
second_lines a d = codes "controller 2" ∷ rounds_text d.rounds ∷ (map (piece_line a) d.pieces ++ (named_guard_lines a d.names d.guards ++ codes "end" ∷ []))

-- each line ends with a line feed
abbrev pub second_text : PlainPlant → PlainDraft → List ℕ
second_text a d = flat_map line (second_lines a d)

-- the lines of a controller, and its text
abbrev pub controller_lines : PlainPlant → PlainController → List (List ℕ)
controller_lines a c = draft_lines a (draft_of c)

abbrev pub controller_text : PlainPlant → PlainController → List ℕ
controller_text a c = draft_text a (draft_of c)
