-- Which crossing does a found piece name, and which plays begin with it?
use Rattle.std.specs.Prelude.{◌≡◌, ◌<◌, ℕ, List, [], ◌∷◌, ◌++◌, length, get_or, map}
use Rattle.lhg_row.specs.Row.{PlainPoint}
use Rattle.lhg_row.specs.Piece.{PlainPiece, InPiece, InSome}
use Rattle.lhg_motion.specs.Play.{PlainMove, IsPlay, last_point, EachPoint}
use Rattle.lhg_row.specs.Members.{SomeOf}
use Rattle.lhg_motion.specs.Crossing.{GoesThrough, HasCrossing}

-- a found piece, with the place of the way that its crossing goes through, the place of the piece that it leads to, among the bad
-- pieces followed by the found ones, and the number of its layer
pub record PlainFound : Type 0 where
  pub piece : PlainPiece
  pub through : ℕ
  pub to : ℕ
  pub layer : ℕ

-- all found pieces, and how many layers were counted
pub record PlainReached : Type 0 where
  pub found : List PlainFound
  pub layers : ℕ

-- the pieces alone
abbrev pub pieces_of : List PlainFound → List PlainPiece
pieces_of fs = map (λ f. f.piece) fs

-- each point has a crossing through the one and into the other
pub record NamesCrossing (n : ℕ) (near ways known : List PlainPiece) (flow : PlainPiece) (f : PlainFound) : Type 0 where
  pub through_there : f.through < length ways
  pub to_there : f.to < length known
  pub crosses : (x : PlainPoint) → length x ≡ n → InPiece f.piece x → SomeOf (λ from. HasCrossing from (get_or ways f.through []) (get_or known f.to []) flow x) near

-- each found piece names a crossing into a piece known before or into an earlier found one
abbrev pub EachNamed : ℕ → List PlainPiece → List PlainPiece → List PlainPiece → PlainPiece → List PlainFound → Type 0
EachNamed n near ways known flow [] = Unit {0}
EachNamed n near ways known flow (f ∷ fs) = NamesCrossing n near ways known flow f × EachNamed n near ways (known ++ (f.piece ∷ [])) flow fs

-- a play whose first flow is a crossing through the one piece and into the other
pub record PlaysBy (bad near : List PlainPiece) (flow through into : PlainPiece) (x : PlainPoint) : Type 0 where
  pub first : PlainMove
  pub more : List PlainMove
  pub legal : IsPlay [] flow x (first ∷ more)
  pub inside : EachPoint (λ p. InSome (bad ++ near) p) x (first ∷ more)
  pub ends : InSome bad (last_point x (first ∷ more))
  pub passes : GoesThrough through x first.to
  pub into_in : InPiece into first.to

-- each point of each found piece has a play by way of the crossing that the piece names
abbrev pub EachPlays : ℕ → List PlainPiece → List PlainPiece → List PlainPiece → PlainPiece → List PlainFound → Type 0
EachPlays n bad near known flow [] = Unit {0}
EachPlays n bad near known flow (f ∷ fs) =
    ((x : PlainPoint) → length x ≡ n → InPiece f.piece x → PlaysBy bad near flow (get_or (bad ++ near) f.through []) (get_or known f.to []) x) × EachPlays n bad near (known ++ (f.piece ∷ [])) flow fs
