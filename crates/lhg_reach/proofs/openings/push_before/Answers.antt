use Rattle.std.proofs.Common.{◌≡◌, length, subst, inr}
use Rattle.std.specs.Prelude.{IfSome}
use Rattle.lhg_row.specs.Row.{PlainRow}
use Rattle.lhg_reach.specs.Before.{IsBefore}
use Rattle.lhg_reach.proofs.openings.push_before.Goals as goal

pub returns-in_ok-push-clause-more : goal.returns-in_ok-push-clause-more
returns-in_ok-push-clause-more g c =
    let p = c.args in
    inr (
      c.in-Some.before,
      (
        subst (λ o. IfSome o (λ (s : PlainRow). length s.coefs ≡ p.vars)) c.in-Some.is c.in_ok-before.ensures.wide,
        (subst (λ o. IfSome o (IsBefore p.vars p.flow.now p.row.now)) c.in-Some.is c.in_ok-before.ensures.before, c.in_ok-push.ensures.items),
      ),
    )
