-- The places of sound records are those of the plant.
use Rattle.std.proofs.Common.{◌≡◌, ◌<◌, ℕ, suc, List, [], ◌∷◌, length, slice_get, Option, Some, None, refl, subst, arith}
use Rattle.std.specs.Prelude.{IsSomeAnd, Contains}
use Rattle.std.proofs.lemmas.Option.{slice_get_within}
use Rattle.lhg_math.specs.Tests.{AllOf}
use Rattle.lhg_num.specs.FracArithmetic.{frac_arithmetic}
use Rattle.lhg_row.specs.PieceFacts.{IsPoly}
use Rattle.lhg_plant.specs.Plant.{PlainPlant}
use Rattle.lhg_plant.specs.State.{States}
use Rattle.lhg_plant.specs.Loss.{PlainLoss, PlainCause, by_env, by_leave, by_flow}
use Rattle.lhg_plant.specs.Sound.{IsSoundLoss, Shows}
use Rattle.lhg_loss.specs.Views.{plain_loss, plain_losses, AreOver, AllHaveVars}
use Rattle.lhg_loss.specs.declared.losses.Loss.{Loss}
use Rattle.lhg_text.specs.ReportConditions.{IsPlacedCause, IsPlacedLoss}

-- what is there has a place in the list
pub there : {A : Type 0} (P : A → Type 0) (xs : List A) (k : ℕ) (x : Option A) → slice_get xs k ≡ x → IsSomeAnd x P → k < length xs
there P xs k None e h = absurd h
there P xs k (Some x) e h = slice_get_within xs k x e

-- the switch of a cause that is shown is there
cause_there : (a : PlainPlant) (S : States) (losses : List PlainLoss) (loss : PlainLoss) (cause : PlainCause) → Shows a S losses loss cause → IsPlacedCause a cause
cause_there a S losses loss (by_env e into) h = there _ a.switches e (slice_get a.switches e) refl h.side
cause_there a S losses loss (by_leave through into) h = tt
cause_there a S losses loss (by_flow m through) h = tt

-- a sound record whose piece has a point has its place
placed : (a : PlainPlant) (losses : List PlainLoss) (loss : PlainLoss) → IsPoly frac_arithmetic (length a.vars) loss.piece → IsSoundLoss a losses loss → IsPlacedLoss a loss
placed a losses loss poly h =
    let state = h.sound_between.inside poly.point.point poly.point.wide poly.point.holds in
    record { loc = there _ a.locs loss.loc (slice_get a.locs loss.loc) refl state.inside; cause = cause_there a _ losses loss loss.cause h.sound_between.shows }

-- ---- lists of records
contains_head : (x : PlainLoss) (xs : List PlainLoss) → Contains (x ∷ xs) x
contains_head x xs = (0, omega arith, refl)

contains_tail : (x y : PlainLoss) (xs : List PlainLoss) → Contains xs y → Contains (x ∷ xs) y
contains_tail x y xs (k, l, e) = (suc k, omega (arith, l), e)

placed_each : (a : PlainPlant) (all : List PlainLoss) (rs : List Loss) → ((loss : PlainLoss) → Contains (plain_losses rs) loss → IsSoundLoss a all loss)
    → AllHaveVars (length a.vars) rs → AllOf (λ r. IsPoly frac_arithmetic r.piece.width r.piece.lines) rs → AllOf (IsPlacedLoss a) (plain_losses rs)
placed_each a all [] sound vars polys = tt
placed_each a all (r ∷ rs) sound vars polys =
    let poly = subst (λ (n : ℕ). IsPoly frac_arithmetic n r.piece.lines) vars.0.0 polys.0 in (
      placed a all (plain_loss r) poly (sound (plain_loss r) (contains_head (plain_loss r) (plain_losses rs))),
      placed_each a all rs (λ l h. sound l (contains_tail (plain_loss r) l (plain_losses rs) h)) vars.1 polys.1,
    )

-- sound records of the code, whose pieces have points, have their places
pub all_placed : (a : PlainPlant) (rs : List Loss) → ((loss : PlainLoss) → Contains (plain_losses rs) loss → IsSoundLoss a (plain_losses rs) loss)
    → AllHaveVars (length a.vars) rs → AllOf (λ r. IsPoly frac_arithmetic r.piece.width r.piece.lines) rs → AllOf (IsPlacedLoss a) (plain_losses rs)
all_placed a rs = placed_each a (plain_losses rs) rs

-- their pieces are over the plant's variables
pub all_over : (n : ℕ) (rs : List Loss) → AllHaveVars n rs → AreOver n rs
all_over n [] h = tt
all_over n (r ∷ rs) h = (h.0.0, all_over n rs h.1)
