-- What does a row say of one variable, and what is left of it without that variable?
use Rattle.std.specs.Prelude.{ℕ, Bool, get_or, remove}
use Rattle.lhg_math.specs.Number.{Number, lt, nought}
use Rattle.lhg_math.specs.Signs.{is_nought}
use Rattle.lhg_row.specs.Row.{PlainRow}

-- the coefficient of variable k, and 0 where there is none
abbrev pub coef_at : ℕ → PlainRow → Number
coef_at k r = get_or r.coefs k nought

-- the row bounds variable k from above
abbrev pub upper_at : ℕ → PlainRow → Bool
upper_at k r = lt nought (coef_at k r)

-- the row bounds variable k from below
abbrev pub lower_at : ℕ → PlainRow → Bool
lower_at k r = lt (coef_at k r) nought

-- the row says nothing of variable k
abbrev pub level_at : ℕ → PlainRow → Bool
level_at k r = is_nought (coef_at k r)

-- the row over the other variables
abbrev pub drop_column : ℕ → PlainRow → PlainRow
drop_column k r = record { coefs = remove r.coefs k; strict = r.strict; bound = r.bound }
