use Rattle.std.proofs.Common.{◌≡◌, ap, ◌∙◌, rules, FitsSigned, pos, Some, ◌+ℤ◌, ◌*ℤ◌}
use Rattle.std.proofs.lemmas.Int.{to_z-of_z}
use Rattle.std.specs.Int.{w128}
use Rattle.std.specs.Int.RustNames.{int_div, unsigned_abs}
use Rattle.lhg_math.specs.Gcd.{gcd}
use Rattle.lhg_num.specs.Parts.{both_of}
use Rattle.lhg_num.specs.Limits.{formed}
use Rattle.lhg_num.proofs.parts.reduced.Goals as goal

pub returns-in-Some : goal.returns-in-Some
returns-in-Some c =
    let fp : FitsSigned w128 c.args.p = c.ranges.p in
    let fq : FitsSigned w128 c.args.q = c.ranges.q in
    let fb : FitsSigned w128 c.args.b = c.ranges.b in
    let fd : FitsSigned w128 c.args.d = c.ranges.d in
    let fg : FitsSigned w128 c.args.g = c.ranges.g in
    let fs : FitsSigned w128 c.in-Some.sum = search rules in
    let fh : FitsSigned w128 c.common-h.result = search rules in
    let f1 : FitsSigned w128 c.part.result = search rules in
    let f2 : FitsSigned w128 c.part-in-Some.result = search rules in
    let f3 : FitsSigned w128 c.part-in-Some-2.result = search rules in
    let s : Some c.in-Some.sum ≡ formed (c.args.p +ℤ c.args.q) = simp to_z-of_z at c.in-Some.ensures in
    let e1 = c.both.ensures ∙ ap (λ w. both_of (Some w) c.times.result) (to_z-of_z w128 c.part.result f1) in
    let e2 = simp to_z-of_z at c.part.ensures in
    let e3 = simp to_z-of_z at c.common-h.ensures.value in
    let e4 = simp to_z-of_z at c.part-in-Some.ensures in
    let e5 = simp to_z-of_z at c.part-in-Some-2.ensures in
    let e6 = simp to_z-of_z at c.times.ensures in
    rw (← s) (e1 ∙ ap (λ w. both_of (Some w) c.times.result) (e2 ∙ ap (int_div c.in-Some.sum) e3) ∙ ap (both_of (Some (int_div c.in-Some.sum (pos (gcd (unsigned_abs c.in-Some.sum) (unsigned_abs c.args.g)))))) (e6 ∙ ap (λ w. formed (w *ℤ c.part-in-Some-2.result)) e4 ∙ ap (λ w. formed (int_div c.args.b c.args.g *ℤ w)) (e5 ∙ ap (int_div c.args.d) e3)))
