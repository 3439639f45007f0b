-- When is one list of rows, row by row, a positive multiple of another?
use Rattle.std.specs.Prelude.{◌≡◌, true, List, [], ◌∷◌}
use Rattle.lhg_math.specs.Number.{Number, lt, nought}
use Rattle.lhg_math.specs.Tests.{Every}
use Rattle.lhg_num.specs.Arithmetic.{Arithmetic}
use Rattle.lhg_row.specs.Row.{PlainRow}
use Rattle.lhg_row.specs.Piece.{PlainPiece}
use Rattle.lhg_row.specs.ValueLaws.{scaled_row}

-- the first row has numbers that its type holds, and the second is a positive multiple of it
pub record IsAlike (a : Arithmetic) (r s : PlainRow) : Type 0 where
  pub factor : Number
  pub positive : lt nought factor ≡ true
  pub is : s ≡ scaled_row factor r
  pub coefs_held : Every a.holds r.coefs
  pub bound_held : a.holds r.bound ≡ true

-- the fact holds of the members of two lists one by one
abbrev pub AllBeside : {A B : Type 0} → (A → B → Type 0) → List A → List B → Type 0
AllBeside R [] [] = Unit {0}
AllBeside R [] (y ∷ ys) = ⊥
AllBeside R (x ∷ xs) [] = ⊥
AllBeside R (x ∷ xs) (y ∷ ys) = R x y × AllBeside R xs ys

-- the rows of two lists are alike one by one
abbrev pub AllAlike : Arithmetic → PlainPiece → PlainPiece → Type 0
AllAlike a rs ss = AllBeside (IsAlike a) rs ss
