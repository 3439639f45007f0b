-- The check of a known controller meets all premises of its law, and so the controller is valid.
use Rattle.std.proofs.Common.{◌≡◌, false, refl, arith}
use Rattle.lhg_math.specs.Gcd.{gcd}
use Rattle.lhg_math.specs.Number.{ratio_suc, ratio, add, mul, neg, sub, whole, lt, nought, unit, inverse, quot, half, mid}
use Rattle.lhg_row.specs.Trim.{trim}
use Rattle.lhg_row.specs.Eliminate.{eliminate}
use Rattle.lhg_row.specs.Pieces.{make}
use Rattle.lhg_row.specs.Lists.{minus, meet_lists}
use Rattle.lhg_motion.specs.CrossCalculus.{cross}
use Rattle.lhg_motion.specs.ReachCalculus.{layer_of, reach}
use Rattle.lhg_plant.specs.Proper.{IsProper}
use Rattle.lhg_plant.specs.SafeRegion.{safe_region}
use Rattle.lhg_plant.specs.Invariants.{invariants}
use Rattle.lhg_plant.specs.Pre.{pre_piece, pre_list, pre}
use Rattle.lhg_plant.specs.OutCalculus.{away, hits_at, out}
use Rattle.lhg_plant.specs.BackCalculus.{back_by, near_at, guards}
use Rattle.lhg_check.specs.Check.{valid, unsafe_pieces, broken_ctl, broken_guards, lost_at, check}
use Rattle.lhg_loss.specs.WorkedRounds.{keep, thermostat}
use Rattle.lhg_check.specs.WorkedChecks.{safe_keeping, ThermostatValid}
use Rattle.lhg_loss.proofs.Begins.{safe_is_region}
use Rattle.lhg_check.proofs.Checks.{checked_law}
use Rattle.lhg_check.proofs.CheckSolved.{guards_checkable}

thermostat_proper : IsProper (thermostat keep)
thermostat_proper = record {
  vars = (record { word = refl; fits = omega arith }, tt);
  some_vars = omega arith;
  few_vars = omega arith;
  vars_differ = refl;
  locs = (
    record {
      name = record { word = refl; fits = omega arith };
      inv = record { wide = (refl, (refl, tt)); few = omega arith };
      flow = record { wide = (refl, (refl, tt)); few = omega arith };
      safe = (record { wide = (refl, (refl, tt)); few = omega arith }, tt);
      few_safe = omega arith;
    },
    (
      record {
        name = record { word = refl; fits = omega arith };
        inv = record { wide = (refl, (refl, tt)); few = omega arith };
        flow = record { wide = (refl, (refl, tt)); few = omega arith };
        safe = (record { wide = (refl, (refl, tt)); few = omega arith }, tt);
        few_safe = omega arith;
      },
      tt,
    ),
  );
  some_locs = omega arith;
  few_locs = omega arith;
  locs_differ = refl;
  switches = (
    record { name = record { word = refl; fits = omega arith }; from = omega arith; to = omega arith; jump = record { wide = (refl, (refl, tt)); few = omega arith } },
    (record { name = record { word = refl; fits = omega arith }; from = omega arith; to = omega arith; jump = record { wide = (refl, (refl, tt)); few = omega arith } }, tt),
  );
  few_switches = omega arith;
  switches_differ = refl;
}

unmarked : (check (thermostat keep) safe_keeping).pieces ≡ false
unfolding gcd ratio_suc ratio add mul neg sub whole lt nought unit inverse quot half mid trim eliminate make minus meet_lists cross layer_of reach safe_region invariants pre_piece pre_list pre away hits_at out back_by near_at guards unsafe_pieces broken_ctl broken_guards lost_at check
unmarked = refl

is_valid : (check (thermostat keep) safe_keeping).value ≡ valid
unfolding gcd ratio_suc ratio add mul neg sub whole lt nought unit inverse quot half mid trim eliminate make minus meet_lists cross layer_of reach safe_region invariants pre_piece pre_list pre away hits_at out back_by near_at guards unsafe_pieces broken_ctl broken_guards lost_at check
is_valid = refl

pub thermostat_valid : ThermostatValid
thermostat_valid =
    (checked_law (thermostat keep) safe_keeping thermostat_proper (guards_checkable (thermostat keep) thermostat_proper (safe_region (thermostat keep)).value (safe_is_region (thermostat keep) thermostat_proper)) unmarked).at_valid.0 is_valid
