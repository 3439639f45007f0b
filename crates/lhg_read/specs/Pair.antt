-- Which rows does a pair `SUM OP SUM` give?
use Rattle.std.specs.Prelude.{ℕ, Bool, true, false, ◌&&◌, ◌==◌, nat_le, not, if◌then◌else◌, List, [], ◌∷◌, ◌++◌, map, count_by, Option, Some, None}
use Rattle.std.specs.List.{list_all, list_any, range_with_len}
use Rattle.std.specs.Option.{option_and_then}
use Rattle.lhg_math.specs.Number.{Number, neg, nought}
use Rattle.lhg_row.specs.Row.{PlainRow}
use Rattle.lhg_row.specs.Piece.{PlainPiece}
use Rattle.lhg_lex.specs.PlainToken.{PlainToken}
use Rattle.lhg_read.specs.Signs.{operator_of}
use Rattle.lhg_read.specs.Term.{width}
use Rattle.lhg_read.specs.Sum.{sum_of, opposite}
use Rattle.lhg_read.specs.declared.forms.Form.{Form}
use Rattle.lhg_read.specs.declared.operators.Operator.{Operator}
use Rattle.lhg_read.specs.declared.operators.Operator.TheVariants.{Less, AtMost, Equal, AtLeast, Greater}
use Rattle.lhg_read.specs.declared.terms.Term.{Term}
use Rattle.lhg_read.specs.declared.terms.Term.TheVariants.{Times, Alone}

-- the term is of the variable at this place
abbrev pub is_at : ℕ → Term → Bool
is_at i (Times q j) = j == i
is_at i (Alone q) = false

-- the term is a number alone
abbrev pub is_alone : Term → Bool
is_alone (Times q i) = false
is_alone (Alone q) = true

-- the factor of a variable, or the number alone
abbrev pub factor_of : Term → Number
factor_of (Times q i) = q
factor_of (Alone q) = q

-- the factor of the first term that passes, and 0 where none does
abbrev pub factor_in : (Term → Bool) → List Term → Number
factor_in test [] = nought
factor_in test (term ∷ terms) = if test term then factor_of term else factor_in test terms

-- of n variables each occurs at most once, at most one number stands alone, and at least one variable occurs
abbrev pub is_proper : ℕ → List Term → Bool
is_proper n terms =
    list_all (λ i. nat_le (count_by (is_at i) terms) 1) (range_with_len 0 n)
    && (nat_le (count_by is_alone terms) 1 && list_any (λ term. not (is_alone term)) terms)

-- the row: the variables on the left, the number on the right
abbrev pub row_of : ℕ → Bool → List Term → PlainRow
row_of n strict terms = record { coefs = map (λ i. factor_in (is_at i) terms) (range_with_len 0 n); strict = strict; bound = neg (factor_in is_alone terms) }

-- the row with the other sign on both sides
abbrev pub opposite_row : PlainRow → PlainRow
opposite_row r = record { coefs = map neg r.coefs; strict = r.strict; bound = neg r.bound }

-- the rows of `a OP b`, given the row of a - b, weak or strict
abbrev pub rows_by : Operator → (Bool → PlainRow) → PlainPiece
rows_by AtMost row = row false ∷ []
rows_by Less row = row true ∷ []
rows_by AtLeast row = opposite_row (row false) ∷ []
rows_by Greater row = opposite_row (row true) ∷ []
rows_by Equal row = row false ∷ opposite_row (row false) ∷ []

-- the terms of a - b are proper, and then these are the rows
abbrev pub pair_rows : ℕ → Operator → List Term → List Term → Option PlainPiece
pair_rows n op a b = if is_proper n (a ++ map opposite b) then Some (rows_by op (λ strict. row_of n strict (a ++ map opposite b))) else None

-- `SUM OP SUM`
unfoldable pub pair_of : Form → List (List ℕ) → (left : List PlainToken) → PlainToken → (right : List PlainToken) → Option PlainPiece
pair_of form vars left op right =
    option_and_then (λ o. option_and_then (λ a. option_and_then (λ b. pair_rows (width form vars) o a b) (sum_of form vars right)) (sum_of form vars left)) (operator_of op)
