use Rattle.std.proofs.Common.{◌≡◌, sym, subst}
use Rattle.lhg_row.specs.Members.{all-append}
use Rattle.lhg_reach.specs.declared.found.Found.{Found}
use Rattle.lhg_reach.specs.FoundParts.{AllFoundVars}
use Rattle.lhg_reach.proofs.reaching.grow.Goals as goal

pub returns-then-is_within-clause-found : goal.returns-then-is_within-clause-found
returns-then-is_within-clause-found g c = λ n v h.
    subst (AllFoundVars n) (sym c.in_ok-append.ensures.items)
    (all-append (λ (f : Found g.row.N.Denot). f.piece.width ≡ n) c.args.found.now.items c.layer.new.search.found.items h (c.in_ok-layer.ensures.found n v))
