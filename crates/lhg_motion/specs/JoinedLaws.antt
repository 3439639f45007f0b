-- What is told of the value of joined coefficients?
use Rattle.std.specs.Prelude.{◌≡◌, ◌+◌, Bool, not, cond, List, ◌++◌, length}
use Rattle.std.proofs.Common.{sym, ap, ◌∙◌, arith}
use Rattle.std.proofs.lemmas.List.{length-append}
use Rattle.lhg_math.specs.Number.{Number, add, lt, nought}
use Rattle.lhg_math.specs.NumberRing.{nought-add}
use Rattle.lhg_row.specs.Row.{PlainPoint, row_value}
use Rattle.lhg_row.specs.ValueLaws.{value_onto}

-- whether a row of this kind and this bound holds where it has the value v
abbrev pub fits_value : Bool → Number → Number → Bool
fits_value strict b v = cond strict (lt v b) (not (lt b v))

-- what the sum starts with is added to the value
pub value_from : (v : Number) (cs : List Number) (xs : PlainPoint) → row_value v cs xs ≡ add (row_value nought cs xs) v
value_from v cs xs = ap (λ w. row_value w cs xs) (sym (nought-add v)) ∙ value_onto nought v cs xs

-- coefficients for two points, one list after the other, are as many as their coordinates
pub doubled-length : (cs ds : List Number) (x y : PlainPoint) → length cs ≡ length x → length ds ≡ length y → length (cs ++ ds) ≡ length (x ++ y)
doubled-length cs ds x y e f = omega (arith, length-append cs ds, length-append x y)
