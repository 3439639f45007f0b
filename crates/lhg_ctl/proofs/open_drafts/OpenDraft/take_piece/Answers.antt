use Rattle.std.proofs.Common.{length}
use Rattle.lhg_ctl.proofs.Counting.{counted_more}
use Rattle.lhg_ctl.proofs.open_drafts.OpenDraft.take_piece.Goals as goal

pub returns-clause-counted : goal.returns-clause-counted
returns-clause-counted c =
    let old = c.args.self.now in
    record {
      pieces = counted_more (length c.args.plant.now.locs.items) old.piece_counts.items c.count_one.new.counts.items old.draft.pieces.items c.push.new.self.items (c.args.place, c.args.rows) c.requires.place c.requires.counted.pieces c.count_one.ensures c.in_ok-push.ensures.items;
      guards = c.requires.counted.guards;
      names = c.requires.counted.names;
    }
