use Rattle.std.proofs.Common.{◌≡◌, ◌++◌, map, drop}
use Rattle.lhg_math.specs.Number.{neg}
use Rattle.lhg_row.proofs.forms.negatives.Given as goal

abbrev pub invariant-loop-coef : goal.invariant-loop-coef
invariant-loop-coef g l =
    let m = g.N.Scalar.meaning in
    map m l.out.items ++ map neg (drop l.coef-index (map m l.coefs)) ≡ map neg (map m l.coefs)
