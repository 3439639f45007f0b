use Rattle.std.proofs.Common.{◌≡◌, ◌<◌, map, drop}
use Rattle.lhg_row.specs.Codes.{unknown, codes_from}
use Rattle.lhg_row.proofs.coding.code_by.Given as goal

abbrev pub invariant-loop-coef : goal.invariant-loop-coef
invariant-loop-coef g l =
    let m = g.N.Scalar.meaning in
    (l.code < unknown) × (codes_from l.size l.code (map m (drop l.coef-index l.coefs)) ≡ codes_from l.size 0 (map m l.coefs))
