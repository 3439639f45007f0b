use Rattle.std.proofs.Common.{◌≡◌, ℕ, List, map, pos, sym, ap, ◌∙◌, subst}
use Rattle.lhg_math.specs.Number.{Number, mul, whole}
use Rattle.lhg_num.specs.Arithmetic.{IsMultiple}
use Rattle.lhg_whole.specs.Content.{canon_whole}
use Rattle.lhg_whole.specs.Lifting.{lifted, IsCoprime}
use Rattle.lhg_whole.specs.LiftLaws.{lifted_multiple, lifted_coprime}
use Rattle.lhg_whole.proofs.lifting.lift.Goals as goal

value_of : (c : goal.After-scaled) → map whole c.scaled.result.items ≡ lifted c.args.row.now
value_of c = c.scaled.ensures ∙ ap canon_whole (c.in_ok-out.ensures.1 ∙ ap (λ (m : ℕ). map (λ x. mul (whole (pos m)) x) c.args.row.now) c.in_ok-factor.ensures.exact.1)

pub returns-clause-multiple : goal.returns-clause-multiple
returns-clause-multiple c = subst (λ (new : List Number). IsMultiple c.args.row.now new) (sym (value_of c)) (lifted_multiple c.args.row.now)

pub returns-clause-coprime : goal.returns-clause-coprime
returns-clause-coprime c = subst IsCoprime (sym (value_of c)) (lifted_coprime c.args.row.now)
