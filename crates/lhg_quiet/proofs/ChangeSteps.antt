-- Which locations a round changes, and which are quiet in the next one.
use Rattle.std.proofs.Common.{◌≡◌, ◌≢◌, ◌+◌, ◌<◌, ℕ, zero, suc, Bool, true, false, List, [], ◌∷◌, ◌++◌, length, get_or, slice_get, Some, refl, sym, ap, ◌∙◌, subst, arith, length-append}
use Rattle.std.proofs.lemmas.List.{get_or_append_left, get_or_past, get_or_push}
use Rattle.lhg_math.specs.Tests.{AllOf}
use Rattle.lhg_num.specs.FracArithmetic.{frac_arithmetic}
use Rattle.lhg_row.specs.Piece.{PlainPiece}
use Rattle.lhg_row.specs.Lists.{minus}
use Rattle.lhg_plant.specs.Plant.{PlainPlant, PlainLocation, PlainSwitch}
use Rattle.lhg_plant.specs.Region.{PlainRegion}
use Rattle.lhg_plant.specs.Invariants.{pieces_at, invariants}
use Rattle.lhg_loss.specs.Records.{PlainRound, pieces_lost, losses_at, round_at}
use Rattle.lhg_quiet.specs.Quiet.{outs_from, backs_from, IsQuietAt, IsUnchangedAt, AreQuiet, AreChanges, IsUnmarked}
use Rattle.lhg_quiet.specs.QuietLaws.{ChangeLaws}
use Rattle.lhg_quiet.proofs.Agreeing.{away-same}
use Rattle.lhg_quiet.proofs.QuietSteps.{stays-quiet}

-- ---- marks with one more
-- where it stands
data Where (k l : ℕ) : Type 0 where
  before : k < l → Where k l
  at : k ≡ l → Where k l
  past : l < k → Where k l

where-is : (k l : ℕ) → Where k l
where-is zero zero = at refl
where-is zero (suc l) = before (omega arith)
where-is (suc k) zero = past (omega arith)
where-is (suc k) (suc l) = on (where-is k l)
  where
    on : Where k l → Where (suc k) (suc l)
    on (before h) = before (omega arith)
    on (at h) = at (ap suc h)
    on (past h) = past (omega arith)

-- a mark that is not the one for places past the end stands before the last one, or is the last one
pub mark-more : {P : Type 0} (marks : List Bool) (b d v : Bool) (k l : ℕ) → d ≢ v → length marks ≡ l → get_or (marks ++ b ∷ []) k d ≡ v → (k < l → get_or marks k d ≡ v → P) → (k ≡ l → b ≡ v → P) → P
mark-more {P} marks b d v k l other many h f g = on (where-is k l)
  where
    on : Where k l → P
    on (before less) = f less (sym (get_or_append_left marks (b ∷ []) d k (omega arith)) ∙ h)
    on (at same) = g same (sym (get_or_push marks b d k (many ∙ sym same)) ∙ h)
    on (past more) = let long = length-append marks (b ∷ []) in absurd (other (sym (get_or_past (marks ++ b ∷ []) k d (omega arith)) ∙ h))

module _ (a : PlainPlant) (region : PlainRegion) where
  none-marked : AreChanges a region [] []
  none-marked = record { same = λ l h. cc; quiet = λ l place there h. cc }

  -- ---- one location more
  module _ (l : ℕ) (place : PlainLocation) (number first : ℕ) (so_far after : PlainRound) (marks : List Bool) (b : Bool) (h : AreChanges a region so_far.next marks) (long : length so_far.next ≡ l) (many : length marks ≡ l)
      (e : after ≡ (round_at a region (outs_from a region) (backs_from a region) number first so_far (l, place)).value) (u : b ≡ false → IsUnchangedAt a region l so_far after) where
    abbrev rest : List PlainPiece
    rest = (minus frac_arithmetic (length a.vars) (pieces_at region l) (pieces_lost (losses_at a region (outs_from a region) (backs_from a region) number (first + length so_far.losses) (l, place)).value)).value

    next-is : after.next ≡ so_far.next ++ rest ∷ []
    next-is = ap (λ x. x.next) e

    old-at : (k : ℕ) → k < l → pieces_at after.next k ≡ pieces_at so_far.next k
    old-at k less = ap (λ x. pieces_at x k) next-is ∙ get_or_append_left so_far.next (rest ∷ []) [] k (omega arith)

    new-at : (k : ℕ) → k ≡ l → b ≡ false → pieces_at after.next k ≡ pieces_at region k
    new-at k same f = ap (λ x. pieces_at x k) (u f).next ∙ get_or_push so_far.next (pieces_at region l) [] k (long ∙ sym same) ∙ ap (pieces_at region) (sym same)

    changes-step : AreChanges a region after.next (marks ++ b ∷ [])
    changes-step = record {
      same = λ k z. mark-more marks b true false k l (λ e. cc) many z (λ less f. old-at k less ∙ h.same k f) (λ same f. new-at k same f);
      quiet = λ k other there z. mark-more marks b true false k l (λ e. cc) many z (λ less f. h.quiet k other there f)
          (λ same f. subst (λ (j : ℕ). IsQuietAt a region j other) (sym same) ((u f).quiet other (subst (λ (j : ℕ). slice_get a.locs j ≡ Some other) same there)));
    }

  -- ---- the next region
  module _ (next : PlainRegion) (changed marks : List Bool) (h : AreChanges a region next changed) (many : length marks ≡ length a.locs) (f : (l : ℕ) → get_or marks l false ≡ true → IsUnmarked a changed l) where
    targets-same : (l : ℕ) (ws : List PlainSwitch) → AllOf (λ w. w.from ≡ l → get_or changed w.to true ≡ false) ws → AllOf (λ w. w.from ≡ l → pieces_at next w.to ≡ pieces_at region w.to) ws
    targets-same l [] k = tt
    targets-same l (w ∷ ws) k = (λ e. h.same w.to (k.0 e), targets-same l ws k.1)

    next-quiet : AreQuiet a next marks
    next-quiet = record {
      many = many;
      quiet = λ l place there m.
          (let u = f l m in
          stays-quiet a l place region next (record { here = h.same l u.here; targets = targets-same l a.switches u.targets }) (h.quiet l place there u.here));
    }

-- ---- all
pub change_laws : (a : PlainPlant) (region : PlainRegion) → ChangeLaws a region
change_laws a region = record {
  none = none-marked a region;
  step = λ l place number first so_far after marks b h long many e u. changes-step a region l place number first so_far after marks b h long many e u;
  quiet = λ next changed marks h many f. next-quiet a region next changed marks h many f;
  outside = λ next changed h l unset. sym (away-same (length a.vars) (invariants a).value region next l (h.same l unset));
}
