-- What do the operations on pieces say of points?
use Rattle.std.specs.Prelude.{◌≡◌, ◌↔◌, ℕ, ◌<◌, Bool, true, false, not, ◌&&◌, List, length, remove, Option, Some, None}
use Rattle.lhg_num.specs.Arithmetic.{Arithmetic}
use Rattle.lhg_row.specs.Row.{PlainRow, PlainPoint, Holds}
use Rattle.lhg_row.specs.Piece.{PlainPiece, InPiece, in_piece, InClosure, in_some}
use Rattle.lhg_math.specs.Tests.{AllOf}
use Rattle.lhg_row.specs.Trim.{IsTrimmed}
use Rattle.lhg_row.specs.Width.{AllWide}
use Rattle.lhg_row.specs.Eliminate.{row_at}
use Rattle.lhg_row.specs.HasValue.{HasPoint, Completes}

-- ---- entails
-- some point over n variables at which the rows hold and the row r does not
pub record HasCounter (n : ℕ) (rows : PlainPiece) (r : PlainRow) : Type 0 where
  pub point : PlainPoint
  pub wide : length point ≡ n
  pub inside : InPiece rows point
  pub fails : ¬ Holds r point

-- true says that r holds at each point of the rows, and false that it fails at one
abbrev pub IsEntailment : ℕ → PlainPiece → PlainRow → Bool → Type 0
IsEntailment n rows r true = (x : PlainPoint) → length x ≡ n → InPiece rows x → Holds r x
IsEntailment n rows r false = HasCounter n rows r

-- each row fails at some point of the others
abbrev pub IsIrredundant : ℕ → PlainPiece → Type 0
IsIrredundant n piece = (i : ℕ) → i < length piece → HasCounter n (remove piece i) (row_at piece i)

-- ---- pieces
-- trimmed rows over n variables that have a point, each of which fails at some point of the others
pub record IsPoly (a : Arithmetic) (n : ℕ) (piece : PlainPiece) : Type 0 where
  pub wide : AllWide n piece
  pub trimmed : IsTrimmed a piece
  pub point : HasPoint n piece
  pub irredundant : IsIrredundant n piece

-- the point is over n variables and lies in the piece
pub record IsPointOf (n : ℕ) (piece : PlainPiece) (x : PlainPoint) : Type 0 where
  pub wide : length x ≡ n
  pub inside : InPiece piece x

-- each piece of the list is over n variables
abbrev pub AllOver : ℕ → List PlainPiece → Type 0
AllOver n ps = AllOf (AllWide n) ps

-- each list of rows is a piece
abbrev pub AllPolys : Arithmetic → ℕ → List PlainPiece → Type 0
AllPolys a n ps = AllOf (IsPoly a n) ps

-- ---- make
-- a piece with the points of the rows
pub record IsPieceOf (a : Arithmetic) (n : ℕ) (rows piece : PlainPiece) : Type 0 where
  pub points : (x : PlainPoint) → length x ≡ n → in_piece piece x ≡ in_piece rows x
  pub poly : IsPoly a n piece

-- none says that the rows have no point, and a piece that it has their points
abbrev pub IsMade : Arithmetic → ℕ → PlainPiece → Option PlainPiece → Type 0
IsMade a n rows None = (x : PlainPoint) → length x ≡ n → ¬ InPiece rows x
IsMade a n rows (Some piece) = IsPieceOf a n rows piece

-- ---- meet
-- a piece with the common points of two
pub record IsMeetOf (a : Arithmetic) (n : ℕ) (p q piece : PlainPiece) : Type 0 where
  pub points : (x : PlainPoint) → length x ≡ n → in_piece piece x ≡ (in_piece p x && in_piece q x)
  pub poly : IsPoly a n piece

-- none says that two pieces have no common point, and a piece that it has their common points
abbrev pub IsMeet : Arithmetic → ℕ → PlainPiece → PlainPiece → Option PlainPiece → Type 0
IsMeet a n p q None = (x : PlainPoint) → length x ≡ n → InPiece p x → ¬ InPiece q x
IsMeet a n p q (Some piece) = IsMeetOf a n p q piece

-- ---- closure
-- a piece with the points at which all relaxed rows of another hold
pub record IsClosureOf (a : Arithmetic) (n : ℕ) (p piece : PlainPiece) : Type 0 where
  pub points : (x : PlainPoint) → length x ≡ n → InPiece piece x ↔ InClosure p x
  pub poly : IsPoly a n piece

-- there is such a piece
abbrev pub IsClosure : Arithmetic → ℕ → PlainPiece → Option PlainPiece → Type 0
IsClosure a n p None = ⊥
IsClosure a n p (Some piece) = IsClosureOf a n p piece

-- ---- includes
-- some point over n variables is one of q and not of p
pub record HasOutside (n : ℕ) (p q : PlainPiece) : Type 0 where
  pub point : PlainPoint
  pub wide : length point ≡ n
  pub inside : InPiece q point
  pub outside : ¬ InPiece p point

-- true says that each point of q is one of p, and false that one is not
abbrev pub IsInclusion : ℕ → PlainPiece → PlainPiece → Bool → Type 0
IsInclusion n p q true = (x : PlainPoint) → length x ≡ n → InPiece q x → InPiece p x
IsInclusion n p q false = HasOutside n p q

-- ---- project
-- a piece with the points that some values of the later variables complete
pub record IsProjectionOf (a : Arithmetic) (kept count : ℕ) (rows piece : PlainPiece) : Type 0 where
  pub points : (x : PlainPoint) → length x ≡ kept → InPiece piece x ↔ Completes count rows x
  pub poly : IsPoly a kept piece

-- none says that no point is completed, and a piece that it has the points that are
abbrev pub IsProjection : Arithmetic → ℕ → ℕ → PlainPiece → Option PlainPiece → Type 0
IsProjection a kept count rows None = (x : PlainPoint) → length x ≡ kept → ¬ Completes count rows x
IsProjection a kept count rows (Some piece) = IsProjectionOf a kept count rows piece

-- ---- lists
-- the pieces have the points of some p and of no q
abbrev pub IsDifference : ℕ → List PlainPiece → List PlainPiece → List PlainPiece → Type 0
IsDifference n ps qs pieces = (x : PlainPoint) → length x ≡ n → in_some pieces x ≡ (in_some ps x && not (in_some qs x))

-- the pieces have the points of some p and of some q
abbrev pub IsIntersection : ℕ → List PlainPiece → List PlainPiece → List PlainPiece → Type 0
IsIntersection n ps qs pieces = (x : PlainPoint) → length x ≡ n → in_some pieces x ≡ (in_some ps x && in_some qs x)

-- some point over n variables is one of some p and of no q
pub record HasUncovered (n : ℕ) (ps qs : List PlainPiece) : Type 0 where
  pub point : PlainPoint
  pub wide : length point ≡ n
  pub inside : in_some ps point ≡ true
  pub outside : in_some qs point ≡ false

-- true says that each point of some p is one of some q, and false that one is not
abbrev pub IsCovering : ℕ → List PlainPiece → List PlainPiece → Bool → Type 0
IsCovering n ps qs true = (x : PlainPoint) → length x ≡ n → in_some ps x ≡ true → in_some qs x ≡ true
IsCovering n ps qs false = HasUncovered n ps qs
