-- What do contracts see of lists of pieces that the code holds?
use Rattle.std.specs.Prelude.{◌≡◌, ℕ, List, [], ◌∷◌, map, Option, Some, None}
use Rattle.lhg_math.specs.Tests.{AllOf}
use Rattle.lhg_num.specs.Arithmetic.{Arithmetic}
use Rattle.lhg_row.specs.Piece.{PlainPiece}
use Rattle.lhg_row.specs.System.{PlainSystem}
use Rattle.lhg_row.specs.PieceFacts.{IsPoly}

-- the rows of each piece
abbrev pub lines_of : List PlainSystem → List PlainPiece
lines_of ps = map (λ p. p.lines) ps

-- the piece alone, or no piece
abbrev pub as_list : Option PlainSystem → List PlainSystem
as_list None = []
as_list (Some p) = p ∷ []

-- each piece is over n variables
abbrev pub AllVars : ℕ → List PlainSystem → Type 0
AllVars n ps = AllOf (λ p. p.width ≡ n) ps

-- each piece has trimmed rows, a point, and no row that follows from its others
abbrev pub ArePolys : Arithmetic → List PlainSystem → Type 0
ArePolys a ps = AllOf (λ p. IsPoly a p.width p.lines) ps

-- all pieces of both lists are over one number of variables
pub record HaveVars (ps qs : List PlainSystem) : Type 0 where
  pub vars : ℕ
  pub first : AllVars vars ps
  pub second : AllVars vars qs
