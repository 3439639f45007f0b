use Rattle.std.proofs.Common.{◌≡◌, ℕ, length, map, replicate, refl, sym, ap, subst, ◌∙◌, rules}
use Rattle.lhg_ctl.specs.Counted.{AreCounts}
use Rattle.lhg_ctl.specs.NameLists.{list_count, lists_in, AreListed}
use Rattle.lhg_ctl.specs.Views.{plain_placed}
use Rattle.lhg_ctl.proofs.Counting.{none_counted}
use Rattle.lhg_ctl.proofs.Listing.{none_listed}
use Rattle.lhg_ctl.proofs.open_drafts.OpenDraft.new.Goals as goal

pub returns-clause-counted : goal.returns-clause-counted
returns-clause-counted c =
    let p = c.args.plant.now in
    let locs : c.len.result ≡ length p.locs.items = search rules in
    let switches : c.len-2.result ≡ length p.switches.items = search rules in
    record {
      pieces = subst (λ xs. AreCounts (length p.locs.items) c.in_ok-piece_counts.piece_counts.items (map plain_placed xs)) (sym c.new.ensures.items) (none_counted (length p.locs.items) c.in_ok-piece_counts.piece_counts.items (c.in_ok-piece_counts.ensures ∙ ap (λ (k : ℕ). replicate k (let n : ℕ = 0 in n)) locs));
      guards = subst (λ xs. AreCounts (length p.switches.items) c.in_ok-guard_counts.guard_counts.items (map plain_placed xs)) (sym c.new-2.ensures.items) (none_counted (length p.switches.items) c.in_ok-guard_counts.guard_counts.items (c.in_ok-guard_counts.ensures ∙ ap (λ (k : ℕ). replicate k (let n : ℕ = 0 in n)) switches));
      names = subst (AreListed (lists_in c.in_ok-name_lists.name_lists.items)) (sym c.new-3.ensures.items) (none_listed list_count (lists_in c.in_ok-name_lists.name_lists.items) c.in_ok-name_lists.ensures refl);
    }
