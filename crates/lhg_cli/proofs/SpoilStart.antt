-- The records of seeking a lost state are those that its exchanges need.
use Rattle.std.proofs.Common.{◌≡◌, ◌≤◌, ℕ, List, [], ◌∷◌, length, ap, ◌∙◌, subst, arith}
use Rattle.lhg_math.specs.Tests.{AllOf}
use Rattle.lhg_num.specs.FracArithmetic.{frac_arithmetic}
use Rattle.lhg_row.specs.PieceFacts.{IsPoly}
use Rattle.lhg_row.specs.Width.{AllWide}
use Rattle.lhg_plant.specs.Plant.{PlainPlant}
use Rattle.lhg_plant.specs.Round.{IsRemovedIn}
use Rattle.lhg_plant.specs.Solution.{InSomeLoss}
use Rattle.lhg_plant.specs.State.{PlainState}
use Rattle.lhg_plant.proofs.Rounds.{removed_once}
use Rattle.lhg_loss.specs.Iterate.{stage}
use Rattle.lhg_loss.specs.Views.{plain_losses, AllHaveVars}
use Rattle.lhg_loss.specs.declared.losses.Loss.{Loss}
use Rattle.lhg_iterate.specs.Seeking.{IsLost}
use Rattle.lhg_spoil.specs.Stops.{IsLostStart}
use Rattle.lhg_spoil.specs.Telling.{records_upto}
use Rattle.lhg_cli.specs.Knowing.{AreRecordsUpto}

-- pieces over n variables have rows over n variables
wide_each : (n : ℕ) (rs : List Loss) → AllHaveVars n rs → AllOf (λ r. IsPoly frac_arithmetic r.piece.width r.piece.lines) rs → AllOf (λ r. AllWide n r.piece) (plain_losses rs)
wide_each n [] vars polys = tt
wide_each n (r ∷ rs) vars polys = (subst (λ (k : ℕ). AllWide k r.piece.lines) vars.0.0 polys.0.wide, wide_each n rs vars.1 polys.1)

module _ (a : PlainPlant) (budget m : ℕ) (losses : List Loss) (z : PlainState) (h : IsLost a budget m (plain_losses losses) z) (round : ℕ) (removed : IsRemovedIn a round z) where
  round_is : h.round ≡ round
  round_is = removed_once a h.round round z h.removed removed

  -- they are those of the rounds up to the one that removes the state
  pub its_records : plain_losses losses ≡ records_upto a round
  its_records = h.same ∙ ap (λ (i : ℕ). (stage a i).value.losses) round_is

  known_upto : (s : PlainState) (j : ℕ) → j ≤ round → IsRemovedIn a j s → InSomeLoss a (plain_losses losses) s
  known_upto s j within r = let e = round_is in h.known s j (omega (arith, within, e)) r

  pub its_knowing : AllHaveVars (length a.vars) losses → AreRecordsUpto a round losses
  its_knowing vars = record { same = its_records; counted = h.counted; sound = h.sound; vars = vars; known = known_upto }

  pub its_start : AllHaveVars (length a.vars) losses → AllOf (λ r. IsPoly frac_arithmetic r.piece.width r.piece.lines) losses → IsLostStart a (plain_losses losses) round z
  its_start vars polys =
      let e = removed.number in
      record {
        before = removed.round;
        within = omega (arith, e);
        removed = subst (λ (i : ℕ). IsRemovedIn a i z) e removed;
        known = record { sound = h.sound; wide = wide_each (length a.vars) losses vars polys; known = λ s j within r. known_upto s j (omega (arith, within, e)) r };
      }
