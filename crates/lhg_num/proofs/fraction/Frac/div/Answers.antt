use Rattle.std.proofs.Common.{◌∙◌, ap, sym}
use Rattle.lhg_math.specs.Number.{Number, mul}
use Rattle.lhg_num.specs.Limits.{frac_refuses_mul}
use Rattle.lhg_math.specs.Quotients.{quot-is}
use Rattle.lhg_num.proofs.fraction.Frac.div.Goals as goal

pub returns : goal.returns
returns c = (
  sym c.if-is_zero.ensures,
  ap (λ (k : Number). frac_refuses_mul c.args.self.now k) (sym c.inverted.ensures) ∙ c.in_ok-mul.ensures.0,
  c.in_ok-mul.ensures.1 ∙ ap (mul c.args.self.now) c.inverted.ensures ∙ sym (quot-is c.args.self.now c.args.other.now),
)
