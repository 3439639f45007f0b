use Rattle.std.proofs.Common.{◌≡◌, length, sym, subst}
use Rattle.lhg_row.specs.Members.{all-append}
use Rattle.lhg_union.specs.PolyLists.{AllVars}
use Rattle.lhg_spoil.proofs.fibres.past_at.Goals as goal

pub returns-clause-vars : goal.returns-clause-vars
returns-clause-vars c =
    let n = length c.args.plant.now.vars.items in
    subst (AllVars n) (sym c.in_ok-append.ensures.items) (all-append (λ p. p.width ≡ n) c.in_ok-pieces.pieces.items c.in_ok-past.past.items c.in_ok-pieces.ensures.vars (c.in_ok-past.ensures.vars n c.requires.vars))
