-- How numbers, rows and lists of rows are printed.
use Rattle.std.specs.Prelude.{ℕ, zero, suc, List, [], ◌∷◌, ◌++◌, Bool, true, false, ◌==◌, ◌&&◌, if◌then◌else◌, codes, decimal, map}
use Rattle.std.specs.Int.RustNames.{unsigned_abs}
use Rattle.lhg_math.specs.Number.{Number, neg, lt, nought}
use Rattle.lhg_math.specs.Signs.{is_nought, lead}
use Rattle.lhg_row.specs.Row.{PlainRow}
use Rattle.lhg_row.specs.Piece.{PlainPiece}

-- a slash and the denominator, where that is not 1
abbrev pub denominator_text : Number → List ℕ
denominator_text x = if x.bottom == 1 then [] else codes "/" ++ decimal x.bottom

-- the number without its sign: the numerator, and the denominator where that is not 1
abbrev pub size_text : Number → List ℕ
size_text x = decimal (unsigned_abs x.top) ++ denominator_text x

-- a minus where the number is negative, and the number without its sign
abbrev pub number_text : Number → List ℕ
number_text x = (if lt x nought then codes "-" else []) ++ size_text x

-- a coefficient without its sign, a star and its variable; a coefficient of size 1 and the star are left out
abbrev pub term_text : Number → List ℕ → List ℕ
term_text c v = if (unsigned_abs c.top == 1) && (c.bottom == 1) then v else size_text c ++ codes "*" ++ v

-- a term behind the first, with its sign; a term with the coefficient zero is left out
abbrev pub next_term : Number → List ℕ → List ℕ
next_term c v = if is_nought c then [] else (if lt c nought then codes " - " else codes " + ") ++ term_text c v

-- the terms behind the first
abbrev pub next_terms : List (List ℕ) → List Number → List ℕ
next_terms [] cs = []
next_terms (v ∷ vs) [] = []
next_terms (v ∷ vs) (c ∷ cs) = next_term c v ++ next_terms vs cs

-- the terms, the first one without a sign
abbrev pub terms_text : List (List ℕ) → List Number → List ℕ
terms_text [] cs = []
terms_text (v ∷ vs) [] = []
terms_text (v ∷ vs) (c ∷ cs) = if is_nought c then terms_text vs cs else term_text c v ++ next_terms vs cs

-- the terms from a place on, the first of them without a sign
abbrev pub terms_from : ℕ → List (List ℕ) → List Number → List ℕ
terms_from k [] cs = []
terms_from k (v ∷ vs) [] = []
terms_from zero (v ∷ vs) (c ∷ cs) = term_text c v ++ next_terms vs cs
terms_from (suc k) (v ∷ vs) (c ∷ cs) = terms_from k vs cs

-- the operator of a row, turned round where the row was negated
abbrev pub operator_text : Bool → Bool → List ℕ
operator_text true true = codes " > "
operator_text true false = codes " >= "
operator_text false true = codes " < "
operator_text false false = codes " <= "

-- the first coefficient that is not zero is negative
abbrev pub leads_negative : PlainRow → Bool
leads_negative r = lt (lead r.coefs) nought

-- the number, negated where the row is
abbrev pub turned : Bool → Number → Number
turned flip x = if flip then neg x else x

-- a row, negated with the operator turned round where the flag says so
abbrev pub row_text_by : Bool → List (List ℕ) → PlainRow → List ℕ
row_text_by flip vars r = terms_text vars (map (turned flip) r.coefs) ++ (operator_text flip r.strict ++ number_text (turned flip r.bound))

-- a row, negated where its first coefficient that is not zero is negative
abbrev pub row_text : List (List ℕ) → PlainRow → List ℕ
row_text vars r = row_text_by (leads_negative r) vars r

-- each row after a comma
abbrev pub next_rows : List (List ℕ) → PlainPiece → List ℕ
next_rows vars [] = []
next_rows vars (r ∷ rs) = codes ", " ++ (row_text vars r ++ next_rows vars rs)

-- the names of the old variables and then those of the new ones, each with `'`
abbrev pub jump_names : List (List ℕ) → List (List ℕ)
jump_names vars = vars ++ map (λ v. v ++ codes "'") vars

-- a list of rows, which is `all` where it is empty
abbrev pub rows_text : List (List ℕ) → PlainPiece → List ℕ
rows_text vars [] = codes "all"
rows_text vars (r ∷ rs) = row_text vars r ++ next_rows vars rs
