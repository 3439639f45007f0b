use Rattle.std.proofs.Common.{◌≡◌, map}
use Rattle.std.specs.List.{range_with_len}
use Rattle.lhg_row.specs.Moves.{coef_for}
use Rattle.lhg_row.proofs.forms.placed.Given as goal

abbrev pub invariant-loop-j : goal.invariant-loop-j
invariant-loop-j g l =
    let m = g.N.Scalar.meaning in
    map m l.out.items ≡ map (λ j. coef_for j l.places (map m l.coefs)) (range_with_len 0 l.j)
