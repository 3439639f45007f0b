-- What has been found: in which layer, by which crossing, and from which near piece?
use Rattle.std.specs.Prelude.{◌≡◌, ℕ, suc, List, [], ◌∷◌, ◌++◌, length, map}
use Rattle.lhg_math.specs.Tests.{AllOf}
use Rattle.lhg_num.specs.Arithmetic.{Arithmetic}
use Rattle.lhg_row.specs.Row.{PlainPoint}
use Rattle.lhg_row.specs.Piece.{PlainPiece, InPiece}
use Rattle.lhg_row.specs.PieceFacts.{IsPoly}
use Rattle.lhg_row.specs.Members.{SomeOf}
use Rattle.lhg_motion.specs.Reach.{AreLayers}
use Rattle.lhg_motion.specs.Found.{PlainFound, PlainReached, pieces_of, EachNamed}

-- all members of some lists, one list after the other
abbrev pub all_found : List (List PlainFound) → List PlainFound
all_found [] = []
all_found (l ∷ ls) = l ++ all_found ls

-- each piece of the first list says that it was found in layer k, each of the next one in layer k + 1, and so on
abbrev pub AreNumbered : ℕ → List (List PlainFound) → Type 0
AreNumbered k [] = Unit {0}
AreNumbered k (l ∷ ls) = AllOf (λ f. f.layer ≡ k) l × AreNumbered (suc k) ls

-- each point over n variables of the second piece is one of the first
abbrev pub IsInside : ℕ → PlainPiece → PlainPiece → Type 0
IsInside n outer inner = (x : PlainPoint) → length x ≡ n → InPiece inner x → InPiece outer x

-- each found piece lies inside one of the near pieces
abbrev pub EachInside : ℕ → List PlainPiece → List PlainFound → Type 0
EachInside n near fs = AllOf (λ f. SomeOf (λ from. IsInside n from f.piece) near) fs

-- the found pieces are those of layers, one layer after the other, each numbered from 1
pub record AreInLayers (n : ℕ) (bad near : List PlainPiece) (flow : PlainPiece) (r : PlainReached) : Type 0 where
  pub lists : List (List PlainFound)
  pub found : all_found lists ≡ r.found
  pub many : length lists ≡ r.layers
  pub layers : AreLayers n near (bad ++ near) bad flow (map pieces_of lists)
  pub numbers : AreNumbered 1 lists

-- each found piece has trimmed rows and a point, and no row that follows from its others
abbrev pub EachPoly : Arithmetic → ℕ → List PlainFound → Type 0
EachPoly a n fs = AllOf (λ f. IsPoly a n f.piece) fs

-- what is said of the found pieces: they are those of layers, each names a crossing, lies inside a near piece, and is a piece
pub record IsReached (a : Arithmetic) (n : ℕ) (bad near : List PlainPiece) (flow : PlainPiece) (r : PlainReached) : Type 0 where
  pub layers : AreInLayers n bad near flow r
  pub named : EachNamed n near (bad ++ near) bad flow r.found
  pub inside : EachInside n near r.found
  pub polys : EachPoly a n r.found
