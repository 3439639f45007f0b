-- A known plant is proper, stays within the limits, and is solved.
use Rattle.std.proofs.Common.{◌≡◌, zero, suc, false, refl, sym, arith}
use Rattle.lhg_math.specs.Gcd.{gcd}
use Rattle.lhg_math.specs.Number.{ratio_suc, ratio, add, mul, neg, sub, whole, lt, nought, unit, inverse, quot, half, mid}
use Rattle.lhg_math.specs.Tests.{false_true}
use Rattle.lhg_row.specs.Trim.{trim}
use Rattle.lhg_row.specs.Eliminate.{eliminate}
use Rattle.lhg_row.specs.Pieces.{make}
use Rattle.lhg_row.specs.Lists.{minus, meet_lists}
use Rattle.lhg_motion.specs.CrossCalculus.{cross}
use Rattle.lhg_motion.specs.ReachCalculus.{layer_of, reach}
use Rattle.lhg_plant.specs.Proper.{IsProper}
use Rattle.lhg_plant.specs.SafeRegion.{safe_region}
use Rattle.lhg_plant.specs.Invariants.{invariants}
use Rattle.lhg_plant.specs.Pre.{pre_piece, pre_list}
use Rattle.lhg_plant.specs.OutCalculus.{away, hits_at, out}
use Rattle.lhg_plant.specs.BackCalculus.{back_by, back, near_at, guards}
use Rattle.lhg_loss.specs.Records.{losses_at, one_round}
use Rattle.lhg_loss.specs.Iterate.{stage, none_lost, work}
use Rattle.lhg_loss.specs.LimitFacts.{IsWithinLists}
use Rattle.lhg_loss.specs.WorkedRounds.{rising, RisingSolved}
use Rattle.lhg_loss.proofs.Parts.{solved_law}

-- the plant is proper
rising_proper : IsProper rising
rising_proper = record {
  vars = (record { word = refl; fits = omega arith }, tt);
  some_vars = omega arith;
  few_vars = omega arith;
  vars_differ = refl;
  locs = (
    record {
      name = record { word = refl; fits = omega arith };
      inv = record { wide = (refl, (refl, tt)); few = omega arith };
      flow = record { wide = (refl, (refl, tt)); few = omega arith };
      safe = (record { wide = (refl, tt); few = omega arith }, tt);
      few_safe = omega arith;
    },
    tt,
  );
  some_locs = omega arith;
  few_locs = omega arith;
  locs_differ = refl;
  switches = tt;
  few_switches = omega arith;
  switches_differ = refl;
}

-- its rounds 0 to 2 are those that are computed, and no list of pieces is past its limit in them
rising_within : IsWithinLists rising 64
unfolding gcd ratio_suc ratio add mul neg sub whole lt nought unit inverse quot half mid trim eliminate make minus meet_lists cross layer_of reach safe_region invariants pre_piece pre_list away hits_at out back_by back near_at guards losses_at one_round stage work
rising_within zero l c = refl
rising_within (suc zero) l c = refl
rising_within (suc (suc zero)) l c = refl
rising_within (suc (suc (suc j))) l c = let e : none_lost (stage rising 2).value.last ≡ false = c 2 (omega arith) (omega arith) in false_true (sym e)

-- so it is solved
pub rising_solved : RisingSolved
rising_solved = (rising_proper, rising_within, solved_law rising 64 (omega arith) rising_proper rising_within)
