use Rattle.std.proofs.Common.{set}
use Rattle.lhg_union.proofs.RegionSteps.{set-more}
use Rattle.lhg_forward.proofs.JoinCode.{first_none, first_some, pushed}
use Rattle.lhg_forward.proofs.growth.push_new.Goals as goal

pub returns-then-is_none-clause-plain : goal.returns-then-is_none-clause-plain
returns-then-is_none-clause-plain c =
    let old = c.args.growth.now in
    pushed old (set old.pieces.items c.args.loc c.push.new.self) _ c.args.loc c.args.piece
    (set-more old.pieces.items c.args.loc c.index_mut-list.result.now c.index_mut-list.ensures.value c.requires c.push.new.self c.args.piece c.in_ok-push.ensures.items)
    (first_none old.first c.is_none.result c.args.loc c.is_none.ensures c.if-is_none.true)

pub returns-else-is_none-clause-plain : goal.returns-else-is_none-clause-plain
returns-else-is_none-clause-plain c =
    let old = c.args.growth.now in
    pushed old (set old.pieces.items c.args.loc c.push.new.self) old.first c.args.loc c.args.piece
    (set-more old.pieces.items c.args.loc c.index_mut-list.result.now c.index_mut-list.ensures.value c.requires c.push.new.self c.args.piece c.in_ok-push.ensures.items)
    (first_some old.first c.is_none.result c.args.loc c.is_none.ensures c.if-is_none.false)

pub returns-then-is_none-clause-list : goal.returns-then-is_none-clause-list
returns-then-is_none-clause-list c =
    let old = c.args.growth.now in
    set-more old.pieces.items c.args.loc c.index_mut-list.result.now c.index_mut-list.ensures.value c.requires c.push.new.self c.args.piece c.in_ok-push.ensures.items

pub returns-else-is_none-clause-list : goal.returns-else-is_none-clause-list
returns-else-is_none-clause-list c =
    let old = c.args.growth.now in
    set-more old.pieces.items c.args.loc c.index_mut-list.result.now c.index_mut-list.ensures.value c.requires c.push.new.self c.args.piece c.in_ok-push.ensures.items
