use Rattle.std.proofs.Common.{◌≡◌, true, sym, ap, ◌∙◌, subst}
use Rattle.lhg_row.specs.Row.{PlainRow}
use Rattle.lhg_reach.specs.Before.{of_kind, IsBefore}
use Rattle.lhg_reach.proofs.Befores.{before_weak, before_strict}
use Rattle.lhg_reach.proofs.openings.row_before.Goals as goal

pub returns-then-rises-clause-before : goal.returns-then-rises-clause-before
returns-then-rises-clause-before g c =
    let p = c.args in
    let yes : c.in_ok-rises.rises ≡ true = c.if-rises.true in
    subst (λ (s : PlainRow). IsBefore p.vars p.flow.now p.row.now s) (sym (c.strict.ensures ∙ ap (of_kind true) c.in_ok-before.ensures)) (before_strict p.vars p.flow.now p.row.now (c.in_ok-rises.ensures.told yes))

pub returns-clause-before : goal.returns-clause-before
returns-clause-before g c =
    let p = c.args in
    subst (λ (s : PlainRow). IsBefore p.vars p.flow.now p.row.now s) (sym c.in_ok-before.ensures) (before_weak p.vars p.flow.now p.row.now (c.in_ok-level.ensures.told c.if-not-level.false))
