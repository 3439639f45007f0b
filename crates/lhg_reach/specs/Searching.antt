-- What does a search hold?
use Rattle.std.specs.Prelude.{◌≡◌, Bool, true, false, List, [], ◌∷◌, ◌++◌}
use Rattle.lhg_num.specs.Marked.{Marked, done, valued}
use Rattle.lhg_row.specs.Piece.{PlainPiece}
use Rattle.lhg_row.specs.System.{PlainSystem}
use Rattle.lhg_row.specs.Lists.{counted_pieces}
use Rattle.lhg_motion.specs.Found.{PlainFound, pieces_of}
use Rattle.lhg_union.specs.PolyLists.{lines_of}
use Rattle.lhg_reach.specs.declared.found.Found.{Found}
use Rattle.lhg_reach.specs.FoundParts.{plain_founds}

-- the known pieces are those of the base, followed by the new ones
abbrev pub IsSearch : {N : Type 0} → List PlainPiece → List PlainSystem → List (Found N) → Type 0
IsSearch base known found = lines_of known ≡ base ++ pieces_of (plain_founds found)

-- whether a layer found a piece, and all that is found then; the list of the pieces is counted where there is a new one
abbrev pub counted_layer : List PlainPiece → List PlainFound → List PlainFound → Marked (Bool × List PlainFound)
counted_layer known before [] = done (false, before)
counted_layer known before (f ∷ fs) = valued (λ ps. (true, before ++ f ∷ fs)) (counted_pieces (known ++ pieces_of (f ∷ fs)))
