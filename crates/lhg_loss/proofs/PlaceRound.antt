-- What a location loses and keeps in a round.
use Rattle.std.proofs.Common.{◌≡◌, ℕ, zero, suc, ◌+◌, List, [], ◌∷◌, ◌++◌, length, slice_get, get_or, Some, refl, sym, ap, ◌∙◌, inl, inr, subst}
use Rattle.std.proofs.lemmas.List.{map-append}
use Rattle.lhg_math.specs.Tests.{AllOf}
use Rattle.lhg_num.specs.FracArithmetic.{frac_arithmetic}
use Rattle.lhg_row.specs.Row.{PlainPoint}
use Rattle.lhg_row.specs.Piece.{PlainPiece, InSome}
use Rattle.lhg_row.specs.PieceFacts.{IsPoly, AllPolys}
use Rattle.lhg_row.specs.Members.{all-append}
use Rattle.lhg_row.specs.Lists.{minus}
use Rattle.lhg_row.specs.CoveredLaws.{polys-over, minus-polys}
use Rattle.lhg_num.specs.FracArithmetic.{frac_is_lawful}
use Rattle.lhg_row.specs.SomeLists.{in_left, in_right, in_either}
use Rattle.lhg_motion.specs.Found.{PlainFound, EachNamed, pieces_of}
use Rattle.lhg_plant.specs.Plant.{PlainLocation, PlainPlant}
use Rattle.lhg_plant.specs.State.{PlainState, IsState}
use Rattle.lhg_plant.specs.OutBack.{Back}
use Rattle.lhg_plant.specs.Escape.{MayPass}
use Rattle.lhg_plant.specs.Region.{PlainRegion, InRegion}
use Rattle.lhg_plant.specs.Loss.{PlainCause, PlainLoss}
use Rattle.lhg_plant.specs.Sound.{IsSoundBetween}
use Rattle.lhg_plant.specs.OutCalculus.{PlainHit, hit_pieces}
use Rattle.lhg_plant.specs.SwitchFacts.{state_at, IsHit}
use Rattle.lhg_plant.proofs.Reached.{out_state}
use Rattle.lhg_loss.specs.Records.{pieces_lost, hit_losses, found_cause, found_losses, losses_from}
use Rattle.lhg_loss.specs.RoundFacts.{AreSwitchSets, AreReached, AreNumbered, IsRegion, IsPlaceRound}
use Rattle.lhg_loss.proofs.Numbers.{numbered_append}
use Rattle.lhg_loss.proofs.PlaceSplit.{hit_leaves, bad_out, rest_points, rest_next, rest_lost, rest_escapes}
use Rattle.lhg_loss.proofs.PlaceLosses.{AreBefore, hits_sound, founds_sound}

-- ---- the records of hits
module _ (round l : ℕ) where
  hits_pieces : (first : ℕ) (hits : List PlainHit) → pieces_lost (hit_losses round l first hits) ≡ hit_pieces hits
  hits_pieces first [] = refl
  hits_pieces first (h ∷ hs) = ap (λ w. h.piece ∷ w) (hits_pieces (first + 1) hs)

  hits_length : (first : ℕ) (hits : List PlainHit) → length (hit_losses round l first hits) ≡ length hits
  hits_length first [] = refl
  hits_length first (h ∷ hs) = ap suc (hits_length (first + 1) hs)

  hits_numbered : (first : ℕ) (hits : List PlainHit) → AreNumbered round first (hit_losses round l first hits)
  hits_numbered first [] = tt
  hits_numbered first (h ∷ hs) = (refl, refl, hits_numbered (first + 1) hs)

  hits_places : (first : ℕ) (hits : List PlainHit) → AllOf (λ r. r.loc ≡ l) (hit_losses round l first hits)
  hits_places first [] = tt
  hits_places first (h ∷ hs) = (refl, hits_places (first + 1) hs)

  -- ---- those of found pieces
  module _ (why : PlainFound → PlainCause) where
    founds_pieces : (number : ℕ) (fs : List PlainFound) → pieces_lost (found_losses round l why number fs) ≡ pieces_of fs
    founds_pieces number [] = refl
    founds_pieces number (f ∷ fs) = ap (λ w. f.piece ∷ w) (founds_pieces (number + 1) fs)

    founds_numbered : (number : ℕ) (fs : List PlainFound) → AreNumbered round number (found_losses round l why number fs)
    founds_numbered number [] = tt
    founds_numbered number (f ∷ fs) = (refl, refl, founds_numbered (number + 1) fs)

    founds_places : (number : ℕ) (fs : List PlainFound) → AllOf (λ r. r.loc ≡ l) (found_losses round l why number fs)
    founds_places number [] = tt
    founds_places number (f ∷ fs) = (refl, founds_places (number + 1) fs)

-- the pieces of hits are pieces
pub hits_polys : (a : PlainPlant) (S : PlainState → Type 0) (l : ℕ) (hits : List PlainHit) → AllOf (IsHit a S l) hits → AllPolys frac_arithmetic (length a.vars) (hit_pieces hits)
hits_polys a S l [] h = tt
hits_polys a S l (hit ∷ hits) h = (h.0.poly, hits_polys a S l hits h.1)

-- the pieces of each location are pieces
pub polys_at : (n : ℕ) (region : PlainRegion) (l : ℕ) → AllOf (AllPolys frac_arithmetic n) region → AllPolys frac_arithmetic n (get_or region l [])
polys_at n [] l h = tt
polys_at n (ps ∷ region) zero h = h.0
polys_at n (ps ∷ region) (suc l) h = polys_at n region l h.1

-- ---- the location
pub place_round : (a : PlainPlant) (region : PlainRegion) (l round first : ℕ) (place : PlainLocation) (away : List PlainPiece) (hits : List PlainHit) (near : List PlainPiece) (found : List PlainFound)
    → IsRegion a region → slice_get a.locs l ≡ Some place → AreSwitchSets a (InRegion a region) l away hits near
    → AreReached (length a.vars) (away ++ hit_pieces hits) near place.flow found
    → IsPlaceRound a (InRegion a region) l round first (losses_from round l first away hits near found)
    (minus frac_arithmetic (length a.vars) (get_or region l []) (pieces_lost (losses_from round l first away hits near found))).value
place_round a region l round first place away hits near found shape there sets reached =
    let n = length a.vars in
    let S : PlainState → Type 0 = InRegion a region in
    let state : (s : PlainState) → S s → IsState a s = λ s h. h.state in
    let here = get_or region l [] in
    let here_polys = polys_at n region l shape.polys in
    let inside = shape.inside l in
    let bad = away ++ hit_pieces hits in
    let ways = bad ++ near in
    let why = found_cause away ways first in
    let hl = hit_losses round l first hits in
    let fl = found_losses round l why (first + length hits) found in
    let gone = hit_pieces hits ++ pieces_of found in
    let lost_is : pieces_lost (hl ++ fl) ≡ gone =
    map-append (λ (r : PlainLoss). r.piece) hl fl ∙ ap (λ w. w ++ pieces_lost fl) (hits_pieces round l first hits) ∙ ap (λ w. hit_pieces hits ++ w) (founds_pieces round l why (first + length hits) found) in
    let gone_polys : AllPolys frac_arithmetic n gone = all-append (IsPoly frac_arithmetic n) (hit_pieces hits) (pieces_of found) (hits_polys a S l hits sets.hits_are.sound) reached.polys in
    let gone_over = polys-over frac_arithmetic n gone gone_polys in
    let lost_polys : AllPolys frac_arithmetic n (pieces_lost (hl ++ fl)) = subst (λ (w : List PlainPiece). AllPolys frac_arithmetic n w) (sym lost_is) gone_polys in
    let rest = (minus frac_arithmetic n here (pieces_lost (hl ++ fl))).value in
    let rest_is : rest ≡ (minus frac_arithmetic n here gone).value = ap (λ w. (minus frac_arithmetic n here w).value) lost_is in
    let points = rest_points a region l place there here refl here_polys inside away hits near sets found reached gone_over rest rest_is in
    let not_rest : (p : PlainPoint) → length p ≡ n → InSome gone p → ¬ InSome rest p = λ p e k r. ((points p e).0 r).1 k in
    let bad_in = bad_out a region l away hits sets.away_is sets.hits_are in
    let ways_may : (p : PlainPoint) → length p ≡ n → InSome ways p → IsState a (state_at l p) × MayPass a S (Back a S) (state_at l p) =
    λ p e h. elim (in_either bad near p h) [
      | inl k ↦ (let o = bad_in p e k in (out_state a S (state_at l p) o, inl o))
      | inr k ↦ (let m = (sets.near_is p e).0 k in (m.0.state, inr m.1))
    ] in
    let before : AreBefore a S l round first hl = record {
      numbered = hits_numbered round l first hits;
      places = hits_places round l first hits;
      kept = λ p e h. (hit_leaves a S l hits sets.hits_are.sound p e (subst (λ (w : List PlainPiece). InSome w p) (hits_pieces round l first hits) h)).0;
    } in
    let named : EachNamed n near ways (away ++ pieces_lost hl) place.flow found = subst (λ (w : List PlainPiece). EachNamed n near ways (away ++ w) place.flow found) (sym (hits_pieces round l first hits)) reached.named in
    let count : first + length hits ≡ first + length hl = ap (λ w. first + w) (sym (hits_length round l first hits)) in
    let U : PlainState → Type 0 = λ s. InSome rest s.at in
    record {
      rest_polys = minus-polys frac_arithmetic n here (pieces_lost (hl ++ fl)) frac_is_lawful here_polys (polys-over frac_arithmetic n (pieces_lost (hl ++ fl)) lost_polys);
      exact = rest_next a region l place there here refl here_polys inside away hits near sets found reached gone_over rest rest_is;
      numbered = numbered_append round first hl fl before.numbered (subst (λ (w : ℕ). AreNumbered round w fl) count (founds_numbered round l why (first + length hits) found));
      places = all-append (λ r. r.loc ≡ l) hl fl before.places (founds_places round l why (first + length hits) found);
      polys = lost_polys;
      sound = all-append (IsSoundBetween a S U (hl ++ fl)) hl fl (hits_sound a S U state l round (hl ++ fl) first hits sets.hits_are.sound (λ p e h. not_rest p e (in_left (hit_pieces hits) (pieces_of found) p h)))
          (founds_sound a S U state l place there away near ways (λ p e. (sets.away_is.exact p e).0) (λ p e. (sets.near_is p e).0) ways_may round first (first + length hits) (hl ++ fl) hl found refl count before named
          (λ p e h. not_rest p e (in_right (hit_pieces hits) (pieces_of found) p h)));
      lost = λ p e s h. subst (λ (w : List PlainPiece). InSome w p) (sym lost_is) (rest_lost a region l place there here refl here_polys inside away hits near sets found reached gone_over rest rest_is p e s h);
      escapes = rest_escapes a region l place there here refl here_polys inside away hits near sets found reached gone_over rest rest_is;
    }
