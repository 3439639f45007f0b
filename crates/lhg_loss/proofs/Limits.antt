-- Within the limits of lists of pieces each round that is computed is exact.
use Rattle.std.proofs.Common.{◌≡◌, ◌+◌, ◌||◌, Bool, true, false, ℕ, zero, suc, List, [], ◌∷◌, ◌++◌, length, slice_get, get_or, Some, refl, sym, inl, inr, subst, arith}
use Rattle.lhg_math.specs.Tests.{AllOf, false_true}
use Rattle.lhg_num.specs.FracArithmetic.{frac_arithmetic}
use Rattle.lhg_num.specs.Marked.{Marked, walk}
use Rattle.lhg_row.specs.Piece.{PlainPiece}
use Rattle.lhg_row.specs.Decisions.{nat_decided}
use Rattle.lhg_row.specs.Members.{all-append}
use Rattle.lhg_row.specs.PieceFacts.{IsPoly, AllPolys}
use Rattle.lhg_row.specs.CoveredLaws.{polys-over}
use Rattle.lhg_row.specs.Lists.{minus}
use Rattle.lhg_motion.specs.Found.{PlainReached}
use Rattle.lhg_motion.specs.ReachCalculus.{reach}
use Rattle.lhg_plant.specs.Plant.{PlainLocation, PlainPlant}
use Rattle.lhg_plant.specs.Proper.{IsProper, IsLocation}
use Rattle.lhg_plant.specs.Region.{PlainRegion, PlainGuards, InRegion}
use Rattle.lhg_plant.specs.Invariants.{pieces_at}
use Rattle.lhg_plant.specs.OutCalculus.{PlainOuts, hit_pieces, numbered, out}
use Rattle.lhg_plant.specs.BackCalculus.{back, near_at}
use Rattle.lhg_loss.specs.Records.{PlainRound, pieces_lost, losses_at, no_round, round_at, round_over, one_round}
use Rattle.lhg_loss.specs.Iterate.{PlainStage, stage, next_round, after_round, none_lost, work}
use Rattle.lhg_loss.specs.RoundFacts.{IsRegion, IsExactRound, HasReached}
use Rattle.lhg_loss.specs.StageFacts.{IsStage, AreExactRounds}
use Rattle.lhg_loss.specs.LimitFacts.{AreExactParts, IsComputed, IsWithinLists}
use Rattle.lhg_loss.specs.SolveLaws.{LimitLaw}
use Rattle.lhg_loss.proofs.Begins.{stage_start}
use Rattle.lhg_loss.proofs.Exact.{within, one_round_exact}
use Rattle.lhg_loss.proofs.PlaceRound.{hits_polys}
use Rattle.lhg_loss.proofs.Solves.{solve_law}
use Rattle.lhg_loss.proofs.Stages.{stage_step}

-- a mark that is not set in two steps together is set in neither
not_either : (b c : Bool) → (b || c) ≡ false → (b ≡ false) × (c ≡ false)
not_either true c h = false_true (sym h)
not_either false c h = (refl, h)

all_of_there : {A : Type 0} (P : A → Type 0) (xs : List A) (k : ℕ) (x : A) → AllOf P xs → slice_get xs k ≡ Some x → P x
all_of_there P [] k x h e = cc
all_of_there {A = A} P (y ∷ xs) zero x h e = let same : y ≡ x = cc in subst P same h.0
all_of_there P (y ∷ xs) (suc k) x h e = all_of_there P xs k x h.1 e

-- ---- one round
module _ (a : PlainPlant) (region : PlainRegion) (outs : PlainOuts) (kss : PlainGuards) (round first : ℕ) where
  abbrev bad_at : ℕ → List PlainPiece
  bad_at l = pieces_at outs.away l ++ hit_pieces (get_or outs.hits l [])

  abbrev reach_at : ℕ → PlainLocation → Marked PlainReached
  reach_at l place = reach frac_arithmetic (length a.vars) (bad_at l) (near_at a region kss l).value place.flow

  -- the marks of reach are among those of its location
  losses_unmarked : (m l : ℕ) (place : PlainLocation) → (losses_at a region outs kss round m (l, place)).pieces ≡ false → (reach_at l place).pieces ≡ false
  unfolding losses_at
  losses_unmarked m l place h = (not_either (near_at a region kss l).pieces (reach_at l place).pieces h).1

  -- and these are among those of the round
  reach_unmarked : (locs : List PlainLocation) (k : ℕ) (r : PlainRound) → (walk (round_at a region outs kss round first) r (numbered k locs)).pieces ≡ false → (j : ℕ) (place : PlainLocation) → slice_get locs j ≡ Some place
      → (reach_at (k + j) place).pieces ≡ false
  reach_unmarked [] k r h j place e = cc
  reach_unmarked (x ∷ locs) k r h zero place e =
      let ls = losses_at a region outs kss round (first + length r.losses) (k, x) in
      let cut = minus frac_arithmetic (length a.vars) (pieces_at region k) (pieces_lost ls.value) in
      let s = not_either (ls.pieces || cut.pieces) _ h in
      let same : x ≡ place = cc in
      let here : k ≡ k + 0 = omega arith in
      subst (λ (w : PlainLocation). (reach_at (k + 0) w).pieces ≡ false) same
      (subst (λ (w : ℕ). (reach_at w x).pieces ≡ false) here (losses_unmarked (first + length r.losses) k x (not_either ls.pieces cut.pieces s.0).0))
  reach_unmarked (x ∷ locs) k r h (suc j) place e =
      let ls = losses_at a region outs kss round (first + length r.losses) (k, x) in
      let cut = minus frac_arithmetic (length a.vars) (pieces_at region k) (pieces_lost ls.value) in
      let next : PlainRound = record { losses = r.losses ++ ls.value; next = r.next ++ cut.value ∷ [] } in
      let s = not_either (ls.pieces || cut.pieces) (walk (round_at a region outs kss round first) next (numbered (suc k) locs)).pieces h in
      let here : suc k + j ≡ k + suc j = omega arith in
      subst (λ (w : ℕ). (reach_at w place).pieces ≡ false) here (reach_unmarked locs (suc k) next s.1 j place e)

-- what a round reaches is what has a play
has_reached : (a : PlainPlant) (region : PlainRegion) (round first : ℕ) → IsProper a → AreExactParts a → IsRegion a region → (one_round a region round first).pieces ≡ false → HasReached a region
unfolding one_round
has_reached a region round first proper parts shape h l place there =
    let n = length a.vars in
    let outs = (out a region).value in
    let kss = (back a region outs.away).value in
    let sets = parts.sets region shape l (within a.locs l place there) in
    let hits = get_or outs.hits l [] in
    let away = pieces_at outs.away l in
    let near = (near_at a region kss l).value in
    let bad_polys : AllPolys frac_arithmetic n (away ++ hit_pieces hits) = all-append (IsPoly frac_arithmetic n) away (hit_pieces hits) sets.away_is.polys (hits_polys a (InRegion a region) l hits sets.hits_are.sound) in
    let first_part = not_either (out a region).pieces _ h in
    let second_part = not_either (back a region outs.away).pieces _ first_part.1 in
    let third_part = not_either (round_over a region outs kss round first).pieces _ second_part.1 in
    let unmarked = subst (λ (w : ℕ). (reach_at a region outs kss round first w place).pieces ≡ false) (omega arith) (reach_unmarked a region outs kss round first a.locs 0 no_round third_part.0 l place there) in
    parts.reach_is (away ++ hit_pieces hits) near place.flow (polys-over frac_arithmetic n (away ++ hit_pieces hits) bad_polys) (polys-over frac_arithmetic n near sets.near_polys)
    (all_of_there (IsLocation n) a.locs l place proper.locs there).flow.wide unmarked

-- ---- all rounds
-- the mark of a round is among those of its work
round_unmarked : (a : PlainPlant) (budget i : ℕ) → (work a budget (suc i)).pieces ≡ false → (next_round a (suc i) (stage a i).value).pieces ≡ false
unfolding work stage
round_unmarked a budget i h =
    let s = not_either (stage a (suc i)).pieces _ h in
    (not_either (next_round a (suc i) (stage a i).value).pieces _ s.0).0

-- the stage after a round
pub stage_after : (a : PlainPlant) (i : ℕ) → (stage a (suc i)).value ≡ after_round (stage a i).value (next_round a (suc i) (stage a i).value).value
unfolding stage
stage_after a i = refl

-- a round on a stage of the game is exact, where its work has no mark of pieces
pub exact_round : (a : PlainPlant) (budget i : ℕ) → IsProper a → AreExactParts a → IsStage a i (stage a i).value → (work a budget (suc i)).pieces ≡ false
    → IsExactRound a (stage a i).value.region (suc i) (length (stage a i).value.losses + 1) (next_round a (suc i) (stage a i).value).value
exact_round a budget i proper parts h u =
    let s = (stage a i).value in
    let first = length s.losses + 1 in
    one_round_exact a s.region (suc i) first h.region_is (parts.sets s.region h.region_is) (has_reached a s.region (suc i) first proper parts h.region_is (round_unmarked a budget i u))

-- the rounds from a stage on
exact_rounds : (left : ℕ) (a : PlainPlant) (budget i : ℕ) → left + i ≡ budget → IsProper a → AreExactParts a → IsWithinLists a budget → IsComputed a (suc i) → IsStage a i (stage a i).value → AreExactRounds left a i (stage a i).value
exact_rounds zero a budget i sum proper parts within_lists computed h = tt
exact_rounds (suc left) a budget i sum proper parts within_lists computed h =
    let s = (stage a i).value in
    let r = (next_round a (suc i) s).value in
    let e = exact_round a budget i proper parts h (within_lists (suc i) (omega arith) computed) in (
      e,
      λ n.
          let next = sym (stage_after a i) in
          let more : IsComputed a (suc (suc i)) = λ j l m. elim (nat_decided j (suc i)) [
            | inl k ↦ subst (λ (w : ℕ). none_lost (stage a w).value.last ≡ false) (sym k) (subst (λ (w : PlainStage). none_lost w.last ≡ false) next n)
            | inr k ↦ computed j l (omega arith)
          ] in
          subst (λ (w : PlainStage). AreExactRounds left a (suc i) w) (sym next)
          (exact_rounds left a budget (suc i) (omega arith) proper parts within_lists more (subst (λ (w : PlainStage). IsStage a (suc i) w) next (stage_step a i s r h e n))),
    )

-- within the limits the solution solves the game
pub limit_law : (a : PlainPlant) → LimitLaw a
limit_law a budget some proper parts within_lists =
    solve_law a budget some proper parts.guards_are
    (exact_rounds budget a budget 0 (omega arith) proper parts within_lists (λ j l m. absurd (omega arith)) (stage_start a proper))
