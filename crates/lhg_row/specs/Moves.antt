-- What are the negation of a row, a point that is moved, and a row over other variables?
use Rattle.std.specs.Prelude.{ℕ, cond, not, nat_eq, List, [], ◌∷◌, map, get_or}
use Rattle.std.specs.List.{range_with_len}
use Rattle.lhg_math.specs.Number.{Number, add, mul, neg, nought}
use Rattle.lhg_row.specs.Row.{PlainRow, PlainPoint}

-- the row with the signs and the kind turned
abbrev pub negated : PlainRow → PlainRow
negated r = record { coefs = map neg r.coefs; strict = not r.strict; bound = neg r.bound }

-- x + m * by, coordinate by coordinate
abbrev pub moved : PlainPoint → Number → PlainPoint → PlainPoint
moved [] m by = []
moved (x ∷ xs) m [] = []
moved (x ∷ xs) m (d ∷ ds) = add x (mul m d) ∷ moved xs m ds

-- the coefficient of the variable whose place is j, and 0 where there is none
abbrev pub coef_for : ℕ → List ℕ → List Number → Number
coef_for j [] cs = nought
coef_for j (p ∷ ps) [] = nought
coef_for j (p ∷ ps) (c ∷ cs) = cond (nat_eq j p) c (coef_for j ps cs)

-- the row over n variables in which coefficient i of the old one stands at the i-th place
abbrev pub renamed : List ℕ → ℕ → PlainRow → PlainRow
renamed places n r = record { coefs = map (λ j. coef_for j places r.coefs) (range_with_len 0 n); strict = r.strict; bound = r.bound }

-- the coordinates at the places, in their order
abbrev pub picked : List ℕ → PlainPoint → PlainPoint
picked places x = map (λ p. get_or x p nought) places
