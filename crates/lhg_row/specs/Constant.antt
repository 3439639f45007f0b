-- Which rows have no variable, and do they hold everywhere or nowhere?
use Rattle.std.specs.Prelude.{ℕ, Bool, true, false, cond, not, ◌&&◌, [], ◌∷◌, replicate}
use Rattle.lhg_math.specs.Number.{lt, nought}
use Rattle.lhg_math.specs.Signs.{is_nought, lead}
use Rattle.lhg_row.specs.Row.{PlainRow}
use Rattle.lhg_row.specs.Piece.{PlainPiece}

-- all coefficients are 0
abbrev pub is_constant : PlainRow → Bool
is_constant r = is_nought (lead r.coefs)

-- some coefficient is not 0
abbrev pub varies : PlainRow → Bool
varies r = not (is_constant r)

-- 0 is at most the bound, or below it where the row is strict
abbrev pub stands_alone : PlainRow → Bool
stands_alone r = cond r.strict (lt nought r.bound) (not (lt r.bound nought))

-- a row without a variable that holds at every point
abbrev pub is_true : PlainRow → Bool
is_true r = is_constant r && stands_alone r

-- a row without a variable that holds at no point
abbrev pub is_false : PlainRow → Bool
is_false r = is_constant r && not (stands_alone r)

-- 0 < 0 over n variables
abbrev pub never : ℕ → PlainRow
never n = record { coefs = replicate n nought; strict = true; bound = nought }

-- the row is 0 < 0
abbrev pub is_never : PlainRow → Bool
is_never r = is_constant r && (r.strict && is_nought r.bound)

-- the list is the one row 0 < 0
abbrev pub is_nothing : PlainPiece → Bool
is_nothing [] = false
is_nothing (r ∷ []) = is_never r
is_nothing (r ∷ s ∷ rows) = false
