use Rattle.std.proofs.Common.{◌≡◌, ◌<◌, drop}
use Rattle.lhg_ctl.specs.NameLists.{list_count, list_from}
use Rattle.lhg_ctl.proofs.name_lists.list_of.Given as goal

abbrev pub invariant-loop-i : goal.invariant-loop-i
invariant-loop-i l = record {
  list : list_from l.place (drop l.i l.bytes) ≡ list_from 0 l.bytes;
  below : l.place < list_count;
}
