-- What the sets of switches give in a known plant, by computation alone.
use Rattle.std.proofs.Common.{refl}
use Rattle.lhg_math.specs.Gcd.{gcd}
use Rattle.lhg_math.specs.Number.{ratio_suc, ratio, add, mul, neg, sub, whole, lt, nought, unit, inverse, quot}
use Rattle.lhg_row.specs.Trim.{trim}
use Rattle.lhg_row.specs.Eliminate.{eliminate}
use Rattle.lhg_row.specs.Pieces.{make}
use Rattle.lhg_row.specs.Lists.{minus, meet_lists}
use Rattle.lhg_plant.specs.Invariants.{invariants}
use Rattle.lhg_plant.specs.Pre.{pre_piece, pre_list, pre}
use Rattle.lhg_plant.specs.OutCalculus.{away, hits_at, out}
use Rattle.lhg_plant.specs.BackCalculus.{back_by, back, near_at, guards}
use Rattle.lhg_plant.specs.WorkedSwitches.{SwitchRows}

pub switch_rows : SwitchRows
unfolding gcd ratio_suc ratio add mul neg sub whole lt nought unit inverse quot trim eliminate make minus meet_lists invariants pre_piece pre_list pre away hits_at out back_by back near_at guards
switch_rows = record {
  into_b = refl;
  away_a = refl;
  away_b = refl;
  hits_a = refl;
  hits_b = refl;
  back_fall = refl;
  back_go = refl;
  back_move = refl;
  guard_go = refl;
  guard_move = refl;
  near_a = refl;
}
