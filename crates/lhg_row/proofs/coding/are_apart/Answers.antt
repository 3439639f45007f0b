use Rattle.std.proofs.Common.{◌≡◌, sym, subst, rules}
use Rattle.lhg_row.specs.Row.{PlainRow}
use Rattle.lhg_row.specs.Codes.{IsCode}
use Rattle.lhg_row.proofs.CodeSteps.{codes-apart}
use Rattle.lhg_row.proofs.coding.are_apart.Goals as goal

pub returns-then-r-lt-UNKNOWN : goal.returns-then-r-lt-UNKNOWN
returns-then-r-lt-UNKNOWN g c e =
    let here : IsCode c.r.inside.code c.args.r.now.coefs = subst (λ (q : PlainRow). IsCode c.r.inside.code q.coefs) c.r.view_is c.r.invariant in
    let there : IsCode c.s.inside.code c.args.s.now.coefs = subst (λ (q : PlainRow). IsCode c.s.inside.code q.coefs) c.s.view_is c.s.invariant in
    sym (codes-apart g.N.Scalar.arithmetic c.args.r.now c.args.s.now c.r.inside.code c.s.inside.code here there (search rules) (search rules) (search rules))
