-- How are the terms of a pair collected, one after another?
use Rattle.std.specs.Prelude.{◌≡◌, ℕ, Bool, true, false, if◌then◌else◌, List, [], ◌∷◌, map, replicate, Option, Some, None, slice_index_or, slice_set, is_some, not}
use Rattle.std.specs.List.{list_any}
use Rattle.std.specs.Option.{option_and_then, unwrap_or}
use Rattle.lhg_math.specs.Number.{Number, neg, nought}
use Rattle.lhg_math.specs.Signs.{is_nought}
use Rattle.lhg_row.specs.Row.{PlainRow}
use Rattle.lhg_row.specs.Piece.{PlainPiece}
use Rattle.lhg_read.specs.Pair.{rows_by}
use Rattle.lhg_read.specs.Sum.{signed}
use Rattle.lhg_read.specs.declared.operators.Operator.{Operator}
use Rattle.lhg_read.specs.declared.sums.Sum.{Sum}
use Rattle.lhg_read.specs.declared.terms.Term.{Term}
use Rattle.lhg_read.specs.declared.terms.Term.TheVariants.{Times, Alone}

-- a factor for each variable, 0 where it has not occurred, and the number that stands alone
pub record Collected : Type 0 where
  pub coefs : List Number
  pub number : Option Number

-- no term of n variables
abbrev pub none_of : ℕ → Collected
none_of n = record { coefs = replicate n nought; number = None }

-- a term more; a variable that has occurred and a second number cannot come
abbrev pub with_term : Collected → Term → Option Collected
with_term c (Times q i) = if is_nought (slice_index_or c.coefs i nought) then Some (record c { coefs = slice_set c.coefs i q }) else None
with_term c (Alone q) = if is_some c.number then None else Some (record c { number = Some q })

-- terms more
abbrev pub with_terms : Collected → List Term → Option Collected
with_terms c [] = Some c
with_terms c (term ∷ terms) = option_and_then (λ d. with_terms d terms) (with_term c term)

-- the terms of a sum more, each turned to the other side or not
abbrev pub with_turned : Bool → Collected → Option (List Term) → Option Collected
with_turned turned c terms = option_and_then (λ ts. with_terms c (map (signed turned) ts)) terms

-- what the code holds as plain data
abbrev pub collected : Sum → Collected
collected s = record { coefs = s.coefs.items; number = s.number }

-- the answer says whether there is a value, and what is there now is the value
abbrev pub Takes : {A : Type 0} → Bool → A → Option A → Type 0
Takes true now o = o ≡ Some now
Takes false now o = o ≡ None

-- some variable has occurred
abbrev pub has_variable : Collected → Bool
has_variable c = list_any (λ q. not (is_nought q)) c.coefs

-- the row: the variables on the left, the number on the right
abbrev pub row_from : Collected → Bool → PlainRow
row_from c strict = record { coefs = c.coefs; strict = strict; bound = neg (unwrap_or c.number nought) }

-- the rows of a pair with these terms, where some variable has occurred
abbrev pub rows_from : Operator → Collected → Option PlainPiece
rows_from op c = if has_variable c then Some (rows_by op (row_from c)) else None
