use Rattle.std.proofs.Common.{◌≡◌, ◌-◌, ◌<◌, ◌≤◌, length, not, ap, ◌∙◌, subst, arith}
use Rattle.std.specs.Prelude.{nat_lt}
use Rattle.std.proofs.lemmas.List.{length-map}
use Rattle.lhg_row.specs.System.{PlainSystem}
use Rattle.lhg_row.specs.Lists.{list_row_limit, row_count}
use Rattle.lhg_union.specs.PolyLists.{lines_of}
use Rattle.lhg_union.proofs.LimitSteps.{room-long, room-left}
use Rattle.lhg_union.proofs.limits.has_room.Goals as goal

pub returns-then-rows-gt-LIST_ROW_LIMIT : goal.returns-then-rows-gt-LIST_ROW_LIMIT
returns-then-rows-gt-LIST_ROW_LIMIT g c =
    room-long (lines_of c.args.pieces.now) c.args.piece.now.lines (subst (λ rs. list_row_limit < length rs) c.rows-rows.ensures.rows c.if-rows-gt-LIST_ROW_LIMIT.true)

pub returns : goal.returns
returns g c =
    let ps = lines_of c.args.pieces.now in
    let many : length ps ≡ length c.args.pieces.now = length-map c.args.pieces.now (λ (s : PlainSystem). s.lines) in
    c.has_rows_within.ensures ∙ ap (λ rs. not (nat_lt (list_row_limit - length rs) (row_count ps))) c.rows-rows.ensures.rows
    ∙ room-left ps c.args.piece.now.lines (let k = c.if-pieces-ge-PIECE_LIMIT.false in omega arith) (subst (λ rs. length rs ≤ list_row_limit) c.rows-rows.ensures.rows c.if-rows-gt-LIST_ROW_LIMIT.false)
