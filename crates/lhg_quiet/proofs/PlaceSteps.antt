-- What one location of a round rests on.
use Rattle.std.proofs.Common.{◌≡◌, ◌+◌, ◌≤◌, ℕ, List, [], ◌∷◌, ◌++◌, length, get_or, slice_get, Some, refl, sym, ap, ◌∙◌, subst, arith, length-append}
use Rattle.lhg_num.specs.FracArithmetic.{frac_arithmetic}
use Rattle.lhg_num.specs.Marked.{Marked, and_then, valued}
use Rattle.lhg_row.specs.Piece.{PlainPiece}
use Rattle.lhg_row.specs.Lists.{counted_pieces, minus}
use Rattle.lhg_motion.specs.ReachCalculus.{reach}
use Rattle.lhg_plant.specs.Plant.{PlainPlant, PlainLocation}
use Rattle.lhg_plant.specs.Region.{PlainRegion, PlainGuards}
use Rattle.lhg_plant.specs.Invariants.{pieces_at}
use Rattle.lhg_plant.specs.OutCalculus.{PlainHit, PlainOuts, hit_pieces}
use Rattle.lhg_plant.specs.BackCalculus.{near_at}
use Rattle.lhg_plant.specs.Loss.{PlainLoss}
use Rattle.lhg_loss.specs.Records.{PlainRound, pieces_lost, reached_losses, losses_at, round_at}
use Rattle.lhg_loss.specs.RoundFacts.{AreReached, IsReachedAt}
use Rattle.lhg_quiet.specs.Quiet.{outs_from, backs_from, IsQuietAt, HasSetsAt, IsUnchangedAt}
use Rattle.lhg_quiet.specs.QuietLaws.{PlaceLaws}
use Rattle.lhg_quiet.proofs.QuietSteps.{minus-none, made-quiet}

-- a list that does not grow
no-longer : {A : Type 0} (xs ys : List A) → length (xs ++ ys) ≤ length xs → ys ≡ []
no-longer xs [] h = refl
no-longer xs (y ∷ ys) h = absurd (omega (arith, length-append xs (y ∷ ys)))

module _ (a : PlainPlant) (region : PlainRegion) (l : ℕ) (place : PlainLocation) where
  abbrev n : ℕ
  n = length a.vars

  -- ---- given sets
  module _ (outs : PlainOuts) (kss : PlainGuards) (h : HasSetsAt a region l outs kss) where
    near-by : near_at a region kss l ≡ near_at a region (backs_from a region) l
    unfolding near_at
    near-by = ap (λ ks. and_then (counted_pieces ks) (minus frac_arithmetic n (pieces_at region l))) h.joined

    losses-by : (number first : ℕ) → losses_at a region outs kss number first (l, place) ≡ losses_at a region (outs_from a region) (backs_from a region) number first (l, place)
    unfolding losses_at
    losses-by number first =
        let form : List PlainPiece → List PlainHit → Marked (List PlainPiece) → Marked (List PlainLoss) = λ x y z. and_then z (λ near. reached_losses n number l first x y near place.flow) in
        ap (λ x. form x (get_or outs.hits l []) (near_at a region kss l)) h.outside
        ∙ ap (λ y. form (pieces_at (outs_from a region).away l) y (near_at a region kss l)) h.hits
        ∙ ap (form (pieces_at (outs_from a region).away l) (get_or (outs_from a region).hits l [])) near-by

    round-by : (number first : ℕ) (so_far : PlainRound) → round_at a region outs kss number first so_far (l, place) ≡ round_at a region (outs_from a region) (backs_from a region) number first so_far (l, place)
    round-by number first so_far =
        let left : List PlainLoss → Marked PlainRound = λ ls. valued (λ rest. record { losses = so_far.losses ++ ls; next = so_far.next ++ rest ∷ [] }) (minus frac_arithmetic n (pieces_at region l) (pieces_lost ls)) in
        ap (λ m. and_then m left) (losses-by number (first + length so_far.losses))

    reached-by : IsReachedAt a region outs kss l place → IsReachedAt a region (outs_from a region) (backs_from a region) l place
    reached-by r =
        let of : List PlainPiece → List PlainHit → List PlainPiece → Type 0 = λ x y z. AreReached n (x ++ hit_pieces y) z place.flow (reach frac_arithmetic n (x ++ hit_pieces y) z place.flow).value.found in
        subst (λ z. of (pieces_at (outs_from a region).away l) (get_or (outs_from a region).hits l []) z) (ap (λ m. m.value) near-by)
        (subst (λ y. of (pieces_at (outs_from a region).away l) y (near_at a region kss l).value) h.hits (subst (λ x. of x (get_or outs.hits l []) (near_at a region kss l).value) h.outside r))

  -- ---- no record
  module _ (number first : ℕ) (so_far after : PlainRound) (there : slice_get a.locs l ≡ Some place) (r : IsReachedAt a region (outs_from a region) (backs_from a region) l place)
      (e : after ≡ (round_at a region (outs_from a region) (backs_from a region) number first so_far (l, place)).value) (few : length after.losses ≤ length so_far.losses) where
    abbrev made : List PlainLoss
    made = (losses_at a region (outs_from a region) (backs_from a region) number (first + length so_far.losses) (l, place)).value

    none : made ≡ []
    none = let long : length after.losses ≡ length (so_far.losses ++ made) = ap (λ x. length x.losses) e in no-longer so_far.losses made (omega arith)

    only : (other : PlainLocation) → slice_get a.locs l ≡ Some other → place ≡ other
    only other k = let both : Some place ≡ Some other = sym there ∙ k in cc

    unchanged : IsUnchangedAt a region l so_far after
    unchanged = record {
      next = ap (λ x. x.next) e ∙ ap (λ ls. so_far.next ++ (minus frac_arithmetic n (pieces_at region l) (pieces_lost ls)).value ∷ []) none
          ∙ ap (λ ps. so_far.next ++ ps ∷ []) (minus-none n (pieces_at region l));
      quiet = λ other k. subst (λ x. IsQuietAt a region l x) (only other k) (made-quiet a l place region number (first + length so_far.losses) r none);
    }

-- ---- all
pub place_laws : (a : PlainPlant) (region : PlainRegion) (l : ℕ) (place : PlainLocation) → PlaceLaws a region l place
place_laws a region l place = record {
  round = λ outs kss number first so_far h. round-by a region l place outs kss h number first so_far;
  reached = λ outs kss h r. reached-by a region l place outs kss h r;
  unchanged = λ number first so_far after there r e few. unchanged a region l place number first so_far after there r e few;
}
