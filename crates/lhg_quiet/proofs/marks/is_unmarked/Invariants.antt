use Rattle.std.proofs.Common.{◌≡◌, ◌<◌, ℕ, true, false, get_or, slice_get, Some}
use Rattle.lhg_plant.specs.Plant.{PlainSwitch}
use Rattle.lhg_plant.specs.Views.{plain_plant}
use Rattle.lhg_quiet.proofs.marks.is_unmarked.Given as goal

abbrev pub invariant-loop-e : goal.invariant-loop-e
invariant-loop-e l = (k : ℕ) (x : PlainSwitch) → k < l.e → slice_get (plain_plant l.plant).switches k ≡ Some x → x.from ≡ l.loc → get_or l.changed x.to true ≡ false
