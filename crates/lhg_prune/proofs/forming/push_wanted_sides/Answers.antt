use Rattle.std.proofs.Common.{◌≡◌, ◌+◌, ◌++◌, [], ◌∷◌, length, map, sym, ap, ◌∙◌, subst}
use Rattle.std.specs.Prelude.{filter}
use Rattle.lhg_row.specs.Row.{PlainRow}
use Rattle.lhg_row.specs.Piece.{PlainPiece}
use Rattle.lhg_row.specs.Width.{AllWide}
use Rattle.lhg_row.specs.Column.{upper_at, drop_column}
use Rattle.lhg_row.specs.Eliminate.{each_joined, with_lowers}
use Rattle.lhg_prune.specs.Directions.{is_wanted}
use Rattle.lhg_prune.proofs.ListSteps.{all-item, sides-wide, chosen_sides, sides-step}
use Rattle.lhg_prune.proofs.forming.push_wanted_sides.Goals as goal

pub push_wanted-requires-clause-rows : goal.push_wanted-requires-clause-rows
push_wanted-requires-clause-rows g c =
    let a = g.N.Scalar.arithmetic in
    let k = c.args.k in
    let n = c.args.vars in
    let rows = c.args.rows.now in
    let r = c.row-item.result in
    let e = all-item (λ (q : PlainRow). length q.coefs ≡ n + 1) rows c.loop-row.row-index r c.row-item.is c.loop-row-test.true c.requires.wide in
    let combs : PlainPiece = map (drop_column k) (each_joined (with_lowers a k rows) (filter (upper_at k) (r ∷ []))).value in
    let some : c.push_upper.new.out.items ≡ combs = c.in_ok-push_upper.ensures ∙ ap (λ (rs : PlainPiece). rs ++ combs) c.new-some.ensures.items in
    subst (AllWide n) (sym some) (sides-wide a k n rows (r ∷ []) c.requires.there c.requires.wide (e, tt))

pub loop-row-preserved : goal.loop-row-preserved
loop-row-preserved g c =
    let a = g.N.Scalar.arithmetic in
    let k = c.args.k in
    let rows = c.args.rows.now in
    let r = c.row-item.result in
    let test = is_wanted a c.args.wanted.now in
    let combs : PlainPiece = map (drop_column k) (each_joined (with_lowers a k rows) (filter (upper_at k) (r ∷ []))).value in
    let some : c.push_upper.new.out.items ≡ combs = c.in_ok-push_upper.ensures ∙ ap (λ (rs : PlainPiece). rs ++ combs) c.new-some.ensures.items in
    sides-step a k test rows c.loop-row.row-index r c.row-item.is c.loop-row-test.true c.args.out.now.items (chosen_sides a k test rows rows) c.loop-row.out.items c.push_upper.new.out.items c.push_wanted.new.out.items
    c.loop-row.invariant some c.in_ok-push_wanted.ensures
