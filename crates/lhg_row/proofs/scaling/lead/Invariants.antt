use Rattle.std.proofs.Common.{◌≡◌, map, drop}
use Rattle.lhg_math.specs.Signs.{lead}
use Rattle.lhg_row.proofs.scaling.lead.Given as goal

abbrev pub invariant-loop-coef : goal.invariant-loop-coef
invariant-loop-coef g l =
    let cs = map g.N.Scalar.meaning l.coefs in
    lead (drop l.coef-index cs) ≡ lead cs
