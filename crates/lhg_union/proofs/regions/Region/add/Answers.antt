use Rattle.std.proofs.Common.{ap}
use Rattle.lhg_union.specs.PolyLists.{lines_of}
use Rattle.lhg_union.proofs.RegionSteps.{on_err, set-same, set-more, at-more}
use Rattle.lhg_union.proofs.regions.Region.add.Goals as goal

pub returns-in_err-push-clause-err : goal.returns-in_err-push-clause-err
returns-in_err-push-clause-err g c =
    on_err c.from_residual.result _ (set-same c.args.self.now.pieces.items c.args.loc c.index_mut-list.result.now c.index_mut-list.ensures.value c.requires c.push.new.self c.in_err-push.ensures.items)

pub returns-clause-calculus : goal.returns-clause-calculus
returns-clause-calculus g c =
    ap lines_of (at-more c.args.self.now.pieces.items c.args.loc c.index_mut-list.result.now c.index_mut-list.ensures.value c.requires c.push.new.self c.args.piece c.in_ok-push.ensures.items)

pub returns-clause-ok : goal.returns-clause-ok
returns-clause-ok g c =
    set-more c.args.self.now.pieces.items c.args.loc c.index_mut-list.result.now c.index_mut-list.ensures.value c.requires c.push.new.self c.args.piece c.in_ok-push.ensures.items
