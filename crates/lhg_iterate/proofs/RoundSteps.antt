-- Steps of a round over all locations.
use Rattle.std.proofs.Common.{◌≡◌, ◌+◌, ◌<◌, ◌≤◌, ℕ, zero, suc, Bool, true, false, not, ◌||◌, List, [], ◌∷◌, length, slice_get, get_or, Some, refl, sym, ap, ◌∙◌, subst, inl, inr, arith}
use Rattle.std.specs.Prelude.{nat_lt}
use Rattle.std.specs.Global.{Vec}
use Rattle.std.specs.List.{range_with_len}
use Rattle.std.proofs.lemmas.Bool.{ltb-false}
use Rattle.std.proofs.lemmas.List.{length-map}
use Rattle.lhg_math.specs.Tests.{AllOf, by_bool}
use Rattle.lhg_num.specs.FracArithmetic.{frac_arithmetic}
use Rattle.lhg_num.specs.Marked.{Marked, and_then, each, IsRest}
use Rattle.lhg_num.specs.MarkedLaws.{IsPart, rest_part, rest_rest, and_then-part, and_then-rest}
use Rattle.lhg_row.specs.Decisions.{nat_decided}
use Rattle.lhg_row.specs.PieceFacts.{AllPolys}
use Rattle.lhg_row.specs.System.{PlainSystem}
use Rattle.lhg_union.specs.PolyLists.{ArePolys}
use Rattle.lhg_union.specs.Regions.{plain_region}
use Rattle.lhg_union.proofs.ListFacts.{polys_over}
use Rattle.lhg_plant.proofs.LegalSteps.{image_at}
use Rattle.lhg_plant.specs.declared.plants.Location.{Location}
use Rattle.lhg_plant.specs.declared.plants.Plant.{Plant}
use Rattle.lhg_plant.specs.Plant.{PlainPlant, PlainLocation}
use Rattle.lhg_plant.specs.Region.{PlainRegion, PlainGuards}
use Rattle.lhg_plant.specs.OutCalculus.{PlainOuts, out}
use Rattle.lhg_plant.specs.BackCalculus.{back}
use Rattle.lhg_plant.specs.Views.{plain_plant, plain_location}
use Rattle.lhg_jump.specs.declared.outs.Outs.{Outs}
use Rattle.lhg_jump.specs.HitViews.{plain_hits}
use Rattle.lhg_jump.specs.OutViews.{plain_outs}
use Rattle.lhg_jump.specs.PlantLists.{IsRegionOf}
use Rattle.lhg_loss.specs.Records.{PlainRound, record_limit, record_row_limit, loss_rows, counted_round, round_over, one_round}
use Rattle.lhg_loss.specs.RoundFacts.{IsRegion, IsReachedAt, AreReachedAll, HasSwitchSets, IsExactRound}
use Rattle.lhg_loss.specs.RoundLaws.{RoundLaw}
use Rattle.lhg_loss.specs.declared.losses.Loss.{Loss}
use Rattle.lhg_loss.specs.Views.{plain_loss, plain_losses}
use Rattle.lhg_iterate.specs.declared.rounds.Round.{Round}
use Rattle.lhg_iterate.specs.RoundViews.{plain_round}

-- ---- the region
region_polys : (n : ℕ) (xs : List (Vec PlainSystem)) → AllOf (λ ps. AllOf (λ p. p.width ≡ n) ps.items) xs → AllOf (λ ps. ArePolys frac_arithmetic ps.items) xs → AllOf (AllPolys frac_arithmetic n) (plain_region xs)
region_polys n [] v h = tt
region_polys n (ps ∷ xs) v h = (polys_over frac_arithmetic n ps.items v.0 h.0, region_polys n xs v.1 h.1)

-- as many lists as the code holds
pub length-region : (xs : List (Vec PlainSystem)) → length (plain_region xs) ≡ length xs
length-region [] = refl
length-region (x ∷ xs) = ap suc (length-region xs)

-- what the code holds is a region
pub region-is : (p : Plant) (xs : List (Vec PlainSystem)) → IsRegionOf p xs → AllOf (λ ps. ArePolys frac_arithmetic ps.items) xs → IsRegion (plain_plant p) (plain_region xs)
region-is p xs h polys = record {
  listed = length-region xs ∙ h.has_lists.many ∙ sym (length-map p.locs.items plain_location);
  polys = region_polys (length p.vars.items) xs h.has_lists.vars polys;
  inside = h.inside;
}

-- ---- the hits
length-range : (k n : ℕ) → length (range_with_len k n) ≡ n
length-range k zero = refl
length-range k (suc n) = ap suc (length-range (k + 1) n)

length-each : {A B : Type 0} (f : A → Marked B) (xs : List A) → length (each f xs).value ≡ length xs
length-each f [] = refl
length-each f (x ∷ xs) = ap suc (length-each f xs)

hits-each : (a : PlainPlant) (region : PlainRegion) → length (out a region).value.hits ≡ length a.locs
unfolding out
hits-each a region = length-each _ (range_with_len 0 (length a.locs)) ∙ length-range 0 (length a.locs)

-- there is a list of hits for each location
pub hits-many : (p : Plant) (region : PlainRegion) (o : Outs) → plain_outs o ≡ (out (plain_plant p) region).value → length o.hits.items ≡ length p.locs.items
hits-many p region o same =
    sym (length-map o.hits.items (λ hs. plain_hits hs.items)) ∙ ap (λ (x : PlainOuts). length x.hits) same ∙ hits-each (plain_plant p) region ∙ length-map p.locs.items plain_location

-- ---- three steps
module _ (a : PlainPlant) (region : PlainRegion) (round first : ℕ) where
  abbrev places_of : PlainOuts → PlainGuards → Marked PlainRound
  places_of outs kss = and_then (round_over a region outs kss round first) (counted_round first)

  abbrev backs_of : PlainOuts → Marked PlainRound
  backs_of outs = and_then (back a region outs.away) (places_of outs)

  pub one-out : IsPart (one_round a region round first) (out a region)
  unfolding one_round
  one-out = and_then-part (out a region) backs_of

  out-rest : IsRest (one_round a region round first) (backs_of (out a region).value)
  unfolding one_round
  out-rest = and_then-rest (out a region) backs_of

  module _ (outs : PlainOuts) (outs_are : outs ≡ (out a region).value) where
    outs-rest : IsRest (one_round a region round first) (backs_of outs)
    outs-rest = subst (λ o. IsRest (one_round a region round first) (backs_of o)) (sym outs_are) out-rest

    pub one-back : IsPart (one_round a region round first) (back a region outs.away)
    one-back = rest_part (one_round a region round first) (backs_of outs) (back a region outs.away) outs-rest (and_then-part (back a region outs.away) (places_of outs))

    module _ (kss : PlainGuards) (kss_are : kss ≡ (back a region outs.away).value) where
      backs-rest : IsRest (one_round a region round first) (places_of outs kss)
      backs-rest =
          subst (λ ks. IsRest (one_round a region round first) (places_of outs ks)) (sym kss_are)
          (rest_rest (one_round a region round first) (backs_of outs) (places_of outs (back a region outs.away).value) outs-rest (and_then-rest (back a region outs.away) (places_of outs)))

      pub one-places : IsPart (one_round a region round first) (round_over a region outs kss round first)
      one-places = rest_part (one_round a region round first) (places_of outs kss) (round_over a region outs kss round first) backs-rest (and_then-part (round_over a region outs kss round first) (counted_round first))

      pub one-counted : IsRest (one_round a region round first) (counted_round first (round_over a region outs kss round first).value)
      one-counted = rest_rest (one_round a region round first) (places_of outs kss) (counted_round first (round_over a region outs kss round first).value) backs-rest (and_then-rest (round_over a region outs kss round first) (counted_round first))

      -- it is exact, where what is reached in each location is what has a play
      pub one-exact : RoundLaw a region → IsRegion a region → HasSwitchSets a region → AreReachedAll a region outs kss → IsExactRound a region round first (one_round a region round first).value
      one-exact law shape sets reached =
          law round first shape sets
          (subst (λ o. AreReachedAll a region o (back a region o.away).value) outs_are (subst (AreReachedAll a region outs) kss_are reached))

-- ---- the locations so far
-- one location more is reached
pub reached-step : (a : PlainPlant) (region : PlainRegion) (outs : PlainOuts) (kss : PlainGuards) (l : ℕ)
    → ((k : ℕ) (place : PlainLocation) → k < l → slice_get a.locs k ≡ Some place → IsReachedAt a region outs kss k place)
    → ((place : PlainLocation) → slice_get a.locs l ≡ Some place → IsReachedAt a region outs kss l place)
    → (k : ℕ) (place : PlainLocation) → k < l + 1 → slice_get a.locs k ≡ Some place → IsReachedAt a region outs kss k place
reached-step a region outs kss l before here k place less there =
    elim (nat_decided k l) [
      | inl same ↦ subst (λ (j : ℕ). IsReachedAt a region outs kss j place) (sym same) (here place (subst (λ (j : ℕ). slice_get a.locs j ≡ Some place) same there))
      | inr other ↦ (let below : k < l = omega arith in before k place below there)
    ]

-- a place with a location is one of the list
pub there-below : {A : Type 0} (xs : List A) (k : ℕ) (x : A) → slice_get xs k ≡ Some x → k < length xs
there-below [] k x h = cc
there-below (y ∷ xs) zero x h = omega arith
there-below (y ∷ xs) (suc k) x h = let b = there-below xs k x h in omega arith

-- the location at a place
pub record HasLocation (p : Plant) (l : ℕ) : Type 0 where
  pub location : Location
  pub is : location ≡ get_or p.locs.items l location
  pub there : slice_get (plain_plant p).locs l ≡ Some (plain_location location)

member-at : {A : Type 0} (xs : List A) (l : ℕ) → l < length xs → (x : A) × (x ≡ get_or xs l x)
member-at [] l h = absurd (omega arith)
member-at (x ∷ xs) zero h = (x, refl)
member-at (x ∷ xs) (suc l) h = member-at xs l (omega arith)

pub location-at : (p : Plant) (l : ℕ) → l < length p.locs.items → HasLocation p l
location-at p l h =
    let m = member-at p.locs.items l h in
    record { location = m.0; is = m.1; there = image_at plain_location p.locs.items l m.0 h m.1 }

-- ---- limits of records
module _ (first : ℕ) (r : Round) (held : List Loss) (held_is : held ≡ r.losses.items) where
  abbrev many : Bool
  many = nat_lt (record_limit + 1) (first + length held)

  abbrev long : Bool
  long = nat_lt record_row_limit (loss_rows (plain_losses held))

  -- records within the limits
  pub counted-few : true ≡ not (many || long) → first + length r.losses.items ≤ 16385
  counted-few h =
      let e = ap length held_is in
      by_bool many (λ k. let x : true ≡ not (true || long) = subst (λ b. true ≡ not (b || long)) k h in cc) (λ k. let m = ltb-false (record_limit + 1) (first + length held) k in omega arith)

  same-many : (many || long) ≡ (counted_round first (plain_round r)).pieces
  same-many =
      ap (λ ls. nat_lt (record_limit + 1) (first + length ls) || nat_lt record_row_limit (loss_rows (plain_losses ls))) held_is
      ∙ ap (λ k. nat_lt (record_limit + 1) (first + k) || nat_lt record_row_limit (loss_rows (plain_losses r.losses.items))) (sym (length-map r.losses.items plain_loss))

  -- records past them
  pub counted-past : false ≡ not (many || long) → (counted_round first (plain_round r)).pieces ≡ true
  counted-past h = sym same-many ∙ by_bool (many || long) (λ k. k) (λ k. let x : false ≡ true = h ∙ ap not k in cc)
