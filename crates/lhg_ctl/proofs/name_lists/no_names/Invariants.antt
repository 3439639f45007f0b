use Rattle.std.proofs.Common.{◌≡◌, [], replicate}
use Rattle.lhg_ctl.specs.NameLists.{lists_in}
use Rattle.lhg_ctl.proofs.name_lists.no_names.Given as goal

abbrev pub invariant-loop-i : goal.invariant-loop-i
invariant-loop-i l = lists_in l.lists.items ≡ replicate l._i []
