-- What is a list of rows after trim, and which lists does trim leave as they are?
use Rattle.std.specs.Prelude.{◌≡◌, ◌⊎◌, ℕ, ◌+◌, ◌-◌, Bool, true, false, cond, not, ◌&&◌, ◌||◌, nat_lt, List, [], ◌∷◌, ◌++◌, length, take, get_or, filter, Option, Some, None}
use Rattle.std.specs.declared.cmp.Ordering.{Ordering}
use Rattle.std.specs.declared.cmp.Ordering.TheVariants.{Less, Equal, Greater}
use Rattle.lhg_math.specs.Number.{Number, nought}
use Rattle.lhg_math.specs.Signs.{size_of, same_number, lead}
use Rattle.lhg_math.specs.Tests.{AllOf, Every, any_of}
use Rattle.lhg_num.specs.Arithmetic.{Arithmetic, scaled}
use Rattle.lhg_num.specs.Marked.{Marked, done, refusing, and_then, valued, each, walk, marked_mul, marked_cmp}
use Rattle.lhg_row.specs.Row.{PlainRow}
use Rattle.lhg_row.specs.Piece.{PlainPiece}
use Rattle.lhg_row.specs.Constant.{is_constant, varies, is_true, is_false, never, is_nothing}

-- how many rows a list may have
abbrev pub row_limit : ℕ
row_limit = 8192

-- the list, with the mark that it has more rows than it may
abbrev pub counted : PlainPiece → Marked PlainPiece
counted rows = record { value = rows; wide = false; rows = nat_lt row_limit (length rows); pieces = false }

-- ---- canon
-- the coefficients and then the bound
abbrev pub entries_of : PlainRow → List Number
entries_of r = r.coefs ++ r.bound ∷ []

-- the row of these entries, the last one being its bound
abbrev pub row_of : Bool → List Number → PlainRow
row_of strict xs = record { coefs = take (length xs - 1) xs; strict = strict; bound = get_or xs (length xs - 1) nought }

-- the row scaled by its type's rule; a row without a variable stays
abbrev pub canon : Arithmetic → PlainRow → Marked PlainRow
canon a r = cond (is_constant r) (done r) (refusing (a.refuses_canon (entries_of r)) (row_of r.strict (scaled a (entries_of r))))

-- ---- rows of one direction
-- the size of the first coefficient that is not 0
abbrev pub lead_size : PlainRow → Number
lead_size r = size_of (lead r.coefs)

-- f * c is what is made of g * d
abbrev pub agree_at : Arithmetic → (Number → Number) → Number → Number → Number → Number → Marked Bool
agree_at a made f g c d = and_then (marked_mul a f c) (λ x. valued (λ y. same_number x (made y)) (marked_mul a g d))

-- the same of each two entries of two lists of one length
abbrev pub agree : Arithmetic → (Number → Number) → Number → Number → List Number → List Number → Marked Bool
agree a made f g [] [] = done true
agree a made f g [] (d ∷ ds) = done false
agree a made f g (c ∷ cs) [] = done false
agree a made f g (c ∷ cs) (d ∷ ds) = and_then (agree_at a made f g c d) (λ b. valued (λ t. b && t) (agree a made f g cs ds))

-- the coefficients are the same after each row was multiplied by the size of the other's leading coefficient
abbrev pub same_direction : Arithmetic → PlainRow → PlainRow → Marked Bool
same_direction a r s = agree a (λ y. y) (lead_size s) (lead_size r) r.coefs s.coefs

-- the order of the two bounds after the same factors
abbrev pub bound_order : Arithmetic → PlainRow → PlainRow → Marked Ordering
bound_order a r s =
    and_then (marked_mul a (lead_size s) r.bound) (λ x. and_then (marked_mul a (lead_size r) s.bound) (λ y. marked_cmp a x y))

-- the tighter of a kept row and a new one of its direction, by the order of the new bound against the kept one
abbrev pub tighter : Ordering → PlainRow → PlainRow → PlainRow
tighter Less kept r = r
tighter Equal kept r = record { coefs = kept.coefs; strict = kept.strict || r.strict; bound = kept.bound }
tighter Greater kept r = kept

-- a row put among the kept ones: in the place of the first of its direction, else at the end
abbrev pub placed : Arithmetic → PlainRow → PlainPiece → Marked PlainPiece
placed a r [] = done (r ∷ [])
placed a r (s ∷ ss) =
    and_then (same_direction a r s) (λ same.
    let here = valued (λ o. tighter o s r ∷ ss) (bound_order a r s) in
    let later = valued (λ ts. s ∷ ts) (placed a r ss) in
    cond same here later)

-- the place, counted from j, of the first kept row that has the direction of r
abbrev pub place_along : Arithmetic → PlainRow → ℕ → PlainPiece → Marked (Option ℕ)
place_along a r j [] = done None
place_along a r j (s ∷ ss) =
    and_then (same_direction a r s) (λ same.
    let later = place_along a r (j + 1) ss in
    cond same (done (Some j)) later)

-- ---- trim
-- each row put among those before it
abbrev pub gathered : Arithmetic → PlainPiece → PlainPiece → Marked PlainPiece
gathered a kept rows = walk (λ ks r. placed a r ks) kept rows

-- the rows that are not true, gathered; or 0 < 0 alone where a row is false
abbrev pub settled : Arithmetic → PlainPiece → Marked PlainPiece
settled a [] = done []
settled a (r ∷ rows) =
    let rest = gathered a [] (filter (λ s. not (is_true s)) (r ∷ rows)) in
    cond (any_of is_false (r ∷ rows)) (done (never (length r.coefs) ∷ [])) rest

-- the rows scaled and gathered
unfoldable pub trim : Arithmetic → PlainPiece → Marked PlainPiece
trim a rows = and_then (counted rows) (λ rs. and_then (each (canon a) rs) (settled a))

-- ---- trimmed lists
-- the value of trim of the list, whatever its marks, is the list
abbrev pub IsTrimmed : Arithmetic → PlainPiece → Type 0
IsTrimmed a rows = (trim a rows).value ≡ rows

-- the row is as its type scales it
abbrev pub IsScaled : Arithmetic → PlainRow → Type 0
IsScaled a r = (canon a r).value ≡ r

-- no row of the list has the direction of s
abbrev pub IsAway : Arithmetic → PlainRow → PlainPiece → Type 0
IsAway a s rows = Every (λ t. not (same_direction a t s).value) rows

-- no row has the direction of one before it
abbrev pub AreApart : Arithmetic → PlainPiece → Type 0
AreApart a [] = Unit {0}
AreApart a (s ∷ ss) = IsAway a s ss × AreApart a ss

-- scaled rows of different directions, each with a variable
pub record IsSettled (a : Arithmetic) (rows : PlainPiece) : Type 0 where
  pub vary : Every varies rows
  pub scaled : AllOf (IsScaled a) rows
  pub apart : AreApart a rows

-- such rows, or 0 < 0 alone
abbrev pub IsSettledOrNothing : Arithmetic → PlainPiece → Type 0
IsSettledOrNothing a rows = (is_nothing rows ≡ true) ⊎ IsSettled a rows
