use Rattle.std.proofs.Common.{◌≡◌, map, drop}
use Rattle.lhg_row.specs.Moves.{coef_for}
use Rattle.lhg_row.proofs.forms.coef_for.Given as goal

abbrev pub invariant-loop-i : goal.invariant-loop-i
invariant-loop-i g l =
    let cs = map g.N.Scalar.meaning l.coefs in
    coef_for l.j (drop l.i l.places) (drop l.i cs) ≡ coef_for l.j l.places cs
