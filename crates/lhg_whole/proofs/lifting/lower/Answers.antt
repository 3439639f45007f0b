use Rattle.std.proofs.Common.{◌≡◌, ◌++◌, List, map, sym, ap, ◌∙◌, subst, append-nil}
use Rattle.std.proofs.lemmas.List.{drop_all}
use Rattle.lhg_math.specs.Number.{Number, whole, quot}
use Rattle.lhg_num.specs.Arithmetic.{IsMultiple}
use Rattle.lhg_num.specs.FracCanon.{canon_frac, canon_multiple}
use Rattle.lhg_whole.proofs.LiftSteps.{lowered_is}
use Rattle.lhg_whole.proofs.lifting.lower.Goals as goal

value_of : (c : goal.After-loop-entry) → c.loop-entry.out.items ≡ canon_frac (map whole c.args.row.now)
value_of c =
    let out = c.loop-entry.out.items in
    let row = c.args.row.now in
    let s = whole c.leading_size-size.result in
    sym (append-nil out) ∙ ap (λ zs. out ++ map (λ z. quot (whole z) s) zs) (sym (drop_all c.loop-entry.entry-index row c.loop-entry-test.false)) ∙ c.loop-entry.invariant
    ∙ lowered_is row s c.leading_size-size.ensures.value

pub returns-clause-value : goal.returns-clause-value
returns-clause-value c = value_of c

pub returns-clause-multiple : goal.returns-clause-multiple
returns-clause-multiple c = subst (λ (new : List Number). IsMultiple (map whole c.args.row.now) new) (sym (value_of c)) (canon_multiple (map whole c.args.row.now))
