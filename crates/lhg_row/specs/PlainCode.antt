-- How are points and rows stored as numbers, so that a contract can tell them apart?
use Rattle.std.specs.Prelude.{List, Bool, refl}
use Rattle.std.specs.Coded.{Coded, code_by, coded×, coded_bool, coded_list}
use Rattle.lhg_math.specs.Number.{Number}
use Rattle.lhg_math.specs.NumberCode.{number_code}
use Rattle.lhg_row.specs.Row.{PlainRow, PlainPoint}

-- a point is stored as the list of its coordinates
abbrev pub point_code : Coded PlainPoint
point_code = coded_list number_code

-- a row is stored as its coefficients, whether it is strict, and its bound
abbrev pub row_code : Coded PlainRow
row_code =
    code_by (List Number × (Bool × Number)) (coded× (coded_list number_code) (coded× coded_bool number_code))
    (λ r. (r.coefs, (r.strict, r.bound)))
    (λ p. record { coefs = p.0; strict = p.1.0; bound = p.1.1 })
    (λ _. refl)
