use Rattle.std.proofs.Common.{sym, subst, map}
use Rattle.std.specs.Prelude.{filter}
use Rattle.lhg_row.specs.Width.{AllWide}
use Rattle.lhg_row.specs.WidthLaws.{append-wide}
use Rattle.lhg_row.specs.Column.{upper_at, drop_column}
use Rattle.lhg_row.specs.Eliminate.{each_joined, with_lowers}
use Rattle.lhg_prune.proofs.ListSteps.{levels-wide, sides-wide}
use Rattle.lhg_prune.proofs.forming.formed.Goals as goal

pub returns-clause-wide : goal.returns-clause-wide
returns-clause-wide g c =
    let a = g.N.Scalar.arithmetic in
    let k = c.args.k in
    let n = c.args.vars in
    let rows = c.args.rows.now in
    let combs = map (drop_column k) (each_joined (with_lowers a k rows) (filter (upper_at k) rows)).value in
    let first = subst (AllWide n) (sym c.in_ok-out.ensures) (levels-wide k n rows c.requires.there c.requires.wide) in
    subst (AllWide n) (sym c.in_ok-push_sides.ensures)
    (append-wide n c.in_ok-out.out.items combs first (sides-wide a k n rows rows c.requires.there c.requires.wide c.requires.wide))
