-- What is a row over more variables, with some before its own and some after them?
use Rattle.std.specs.Prelude.{ℕ, ◌++◌, replicate}
use Rattle.lhg_math.specs.Number.{nought}
use Rattle.lhg_row.specs.Row.{PlainRow}

-- the row with so many variables before its own and so many after them, whose coefficients are 0
abbrev pub widened : ℕ → ℕ → PlainRow → PlainRow
widened before after r = record { coefs = replicate before nought ++ r.coefs ++ replicate after nought; strict = r.strict; bound = r.bound }
