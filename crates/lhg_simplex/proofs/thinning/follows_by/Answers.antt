use Rattle.std.proofs.Common.{true, rules}
use Rattle.lhg_row.specs.HasValue.{IsEmptiness}
use Rattle.lhg_simplex.specs.Others.{others}
use Rattle.lhg_simplex.proofs.OtherLaws.{from-empty}
use Rattle.lhg_simplex.proofs.thinning.follows_by.Goals as goal

pub returns-in-Some-true : goal.returns-in-Some-true
returns-in-Some-true g c =
    let none : IsEmptiness c.args.vars c.in_ok-few.few.items true = search rules in
    record { memory = tt; points = from-empty c.args.vars (others c.args.rows.now c.args.i) c.in_ok-few.few.items c.in_ok-few.ensures.rows none }
