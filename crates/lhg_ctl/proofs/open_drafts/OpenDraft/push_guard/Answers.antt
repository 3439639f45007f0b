use Rattle.std.proofs.Common.{◌++◌, ◌∷◌, [], ◌∙◌, get_or, set, length, subst, sym}
use Rattle.lhg_ctl.specs.NameLists.{list_of, lists_in, AreListed}
use Rattle.lhg_ctl.proofs.Counting.{counted_more}
use Rattle.lhg_ctl.proofs.Listing.{one_listed, list_total}
use Rattle.lhg_ctl.proofs.open_drafts.OpenDraft.push_guard.Goals as goal

pub returns-clause-counted : goal.returns-clause-counted
returns-clause-counted c =
    let old = c.args.self.now in
    let lists = lists_in old.name_lists.items in
    record {
      guards = counted_more (length c.args.plant.now.switches.items) old.guard_counts.items c.count_one.new.counts.items old.draft.guards.items c.push-2.new.self.items (c.args.place, c.args.rows) c.requires.place c.requires.counted.guards c.count_one.ensures c.in_ok-push-2.ensures.items;
      pieces = c.requires.counted.pieces;
      names =
          subst (λ ls. AreListed ls c.push.new.self.items) (sym c.in_ok-list_name.ensures)
          (subst (AreListed (set lists (list_of c.args.name) (get_or lists (list_of c.args.name) [] ++ c.args.name ∷ []))) (sym c.in_ok-push.ensures.items) (one_listed lists old.draft.names.items c.args.name c.requires.counted.names));
    }

pub list_name-requires : goal.list_name-requires
list_name-requires c = sym (list_total c.args.self.now.name_lists.items) ∙ c.requires.counted.names.many
