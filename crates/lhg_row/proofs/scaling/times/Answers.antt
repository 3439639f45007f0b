use Rattle.std.proofs.Common.{◌≡◌, ◌∙◌, ap, sym, true}
use Rattle.lhg_math.specs.Number.{mul, unit}
use Rattle.lhg_math.specs.InterpolateLaws.{unit-mul}
use Rattle.lhg_math.specs.SignLaws.{same_is}
use Rattle.lhg_math.specs.Signs.{same_number}
use Rattle.lhg_row.proofs.scaling.times.Goals as goal

pub returns-then-eq : goal.returns-then-eq
returns-then-eq g c =
    let m = g.N.Scalar.meaning in
    let same : same_number (m c.args.f.now) (m c.one.result) ≡ true = sym (g.met.N.Scalar.equality c.args.f.now c.one.result) ∙ sym c.eq.ensures ∙ c.if-eq.true in
    let is : unit ≡ m c.args.f.now = sym (same_is _ _ same ∙ c.one.ensures) in
    sym (unit-mul (m c.args.x.now)) ∙ ap (λ u. mul u (m c.args.x.now)) is
