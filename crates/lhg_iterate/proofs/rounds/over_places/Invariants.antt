use Rattle.std.proofs.Common.{◌≡◌, ◌*◌, ◌<◌, ◌≤◌, ℕ, length, map, drop, slice_get, Some}
use Rattle.lhg_num.specs.Marked.{walk, IsRest}
use Rattle.lhg_row.specs.Lists.{piece_limit}
use Rattle.lhg_union.specs.Regions.{plain_region}
use Rattle.lhg_plant.specs.Plant.{PlainLocation}
use Rattle.lhg_plant.specs.OutCalculus.{numbered}
use Rattle.lhg_plant.specs.Views.{plain_plant, plain_location}
use Rattle.lhg_loss.specs.Records.{round_at, round_over}
use Rattle.lhg_loss.specs.RoundFacts.{IsReachedAt}
use Rattle.lhg_loss.specs.Views.{AllHaveVars}
use Rattle.lhg_quiet.specs.Quiet.{outs_from, backs_from, AreChanges}
use Rattle.lhg_iterate.specs.RoundViews.{plain_round, IsOverPlant}
use Rattle.lhg_iterate.proofs.rounds.over_places.Given as goal

abbrev pub invariant-loop-l : goal.invariant-loop-l
invariant-loop-l l =
    let a = plain_plant l.plant in
    let region = plain_region l.region.pieces.items in
    let outs = outs_from a region in
    let kss = backs_from a region in
    record {
      rest : IsRest (round_over a region outs kss l.number l.first) (walk (round_at a region outs kss l.number l.first) (plain_round l.so_far) (numbered l.l (map plain_location (drop l.l l.plant.locs.items))));
      reached : (k : ℕ) (place : PlainLocation) → k < l.l → slice_get a.locs k ≡ Some place → IsReachedAt a region outs kss k place;
      changes : AreChanges a region (plain_region l.so_far.next.pieces.items) l.changed.items;
      marks : length l.changed.items ≡ l.l;
      few : length l.so_far.losses.items ≤ l.l * piece_limit;
      many : length l.so_far.next.pieces.items ≡ l.l;
      vars : IsOverPlant l.plant l.so_far.next.pieces.items;
      losses_vars : AllHaveVars (length l.plant.vars.items) l.so_far.losses.items;
    }
