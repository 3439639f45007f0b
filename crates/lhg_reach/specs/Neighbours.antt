-- Which pairs of a near piece and a way can have a crossing, how many pairs count, and what is told of pairs?
use Rattle.std.specs.Prelude.{◌≡◌, ℕ, ◌+◌, Bool, true, false, ◌||◌, cond, List, [], ◌∷◌, length, Option, Some, None}
use Rattle.std.specs.Global.{Vec}
use Rattle.lhg_num.specs.Arithmetic.{Arithmetic}
use Rattle.lhg_num.specs.Marked.{Marked, done, and_then}
use Rattle.lhg_row.specs.Row.{PlainPoint}
use Rattle.lhg_row.specs.Piece.{PlainPiece, InPiece}
use Rattle.lhg_row.specs.System.{PlainSystem}
use Rattle.lhg_row.specs.Width.{AllWide}
use Rattle.lhg_row.specs.Pieces.{meet, closure}
use Rattle.lhg_motion.specs.CrossCalculus.{cross}
use Rattle.lhg_union.specs.PolyLists.{ArePolys}

-- ---- pairs that count
-- the common points of a piece and of an edge, where there is one
abbrev pub meet_edge : Arithmetic → ℕ → PlainPiece → Option PlainPiece → Marked (Option PlainPiece)
meet_edge a n start None = done None
meet_edge a n start (Some edge) = meet a n start edge

-- the common points of a piece and of the closure of a way
abbrev pub meet_closure : Arithmetic → ℕ → PlainPiece → PlainPiece → Marked (Option PlainPiece)
meet_closure a n start way = and_then (closure a n way) (meet_edge a n start)

-- there is a piece
abbrev pub is_there : Option PlainPiece → Bool
is_there None = false
is_there (Some piece) = true

-- some limit was passed
abbrev pub is_marked : {A : Type 0} → Marked A → Bool
is_marked m = m.wide || (m.rows || m.pieces)

-- a near piece and a way count where the near piece meets the closure of the way, and where a limit is passed on the way to know it
abbrev pub counts : Arithmetic → ℕ → PlainPiece → PlainPiece → Bool
counts a n start way = let m = meet_closure a n start way in is_there m.value || is_marked m

-- 1 where the near piece and the way count, and else 0
abbrev pub way_count : Arithmetic → ℕ → PlainPiece → PlainPiece → ℕ
way_count a n start way = cond (counts a n start way) 1 0

-- how many of the ways count with the near piece
abbrev pub ways_count : Arithmetic → ℕ → PlainPiece → List PlainPiece → ℕ
ways_count a n start [] = 0
ways_count a n start (way ∷ ways) = way_count a n start way + ways_count a n start ways

-- how many pairs count
abbrev pub pair_count : Arithmetic → ℕ → List PlainPiece → List PlainPiece → ℕ
pair_count a n [] ways = 0
pair_count a n (start ∷ near) ways = ways_count a n start ways + pair_count a n near ways

-- ---- the table
-- the fact holds of each member of the one list with the member of the other at its place, and there are as many
abbrev pub EachWith : {A B : Type 0} → (A → B → Type 0) → List A → List B → Type 0
EachWith R [] [] = Unit {0}
EachWith R [] (y ∷ ys) = ⊥
EachWith R (x ∷ xs) [] = ⊥
EachWith R (x ∷ xs) (y ∷ ys) = R x y × EachWith R xs ys

-- an entry: false says that no crossing leads from the piece through the way, whatever it leads into, and true that the pair counts
abbrev pub IsEntry : Arithmetic → ℕ → PlainPiece → PlainPiece → Bool → Type 0
IsEntry a n start way false = (into flow : PlainPiece) → AllWide n into → AllWide n flow → (cross a n start way into flow).value ≡ None
IsEntry a n start way true = counts a n start way ≡ true

-- a flag: false says that no crossing leads through the way into the piece, wherever it starts; true says nothing
abbrev pub IsFlag : Arithmetic → ℕ → PlainPiece → PlainPiece → Bool → Type 0
IsFlag a n into way false = (start flow : PlainPiece) → AllWide n start → AllWide n flow → (cross a n start way into flow).value ≡ None
IsFlag a n into way true = Unit {0}

-- the entries of one near piece, one for each way
abbrev pub AreEntries : Arithmetic → List PlainSystem → PlainSystem → Vec Bool → Type 0
AreEntries a ways start row = EachWith (λ (way : PlainSystem) b. IsEntry a start.width start.lines way.lines b) ways row.items

-- the entries of all near pieces
abbrev pub IsTable : Arithmetic → List PlainSystem → List PlainSystem → List (Vec Bool) → Type 0
IsTable a near ways table = EachWith (AreEntries a ways) near table

-- ---- the closures of the ways
-- what is kept of a way: its closure, or none where a limit is passed
abbrev pub IsEdge : Arithmetic → PlainSystem → Option PlainSystem → Type 0
IsEdge a way None = is_marked (closure a way.width way.lines) ≡ true
IsEdge a way (Some edge) = (edge.width ≡ way.width) × (Some edge.lines ≡ (closure a way.width way.lines).value)

-- what is told of a piece and what is kept of a way: false says that they have no common point, and true that they have one, or that a limit is passed
abbrev pub IsTold : Arithmetic → ℕ → PlainPiece → Option PlainSystem → Bool → Type 0
IsTold a n start None b = b ≡ true
IsTold a n start (Some edge) false = (x : PlainPoint) → length x ≡ n → InPiece start x → ¬ InPiece edge.lines x
IsTold a n start (Some edge) true = (is_there (meet a n start edge.lines).value || is_marked (meet a n start edge.lines)) ≡ true

-- the same, but true says nothing
abbrev pub IsHint : Arithmetic → ℕ → PlainPiece → Option PlainSystem → Bool → Type 0
IsHint a n into edge false = IsTold a n into edge false
IsHint a n into edge true = Unit {0}

-- ---- all that is kept
-- the table, and the closures of the ways, which are pieces
pub record AreKept (a : Arithmetic) (near ways : List PlainSystem) (table : List (Vec Bool)) (edges : List (Option PlainSystem)) : Type 0 where
  pub pieces : ArePolys a ways
  pub closures : EachWith (IsEdge a) ways edges
  pub entries : IsTable a near ways table
