-- Steps of the loop that makes what is outside a region anew where the region has changed.
use Rattle.std.proofs.Common.{◌≡◌, ◌≢◌, ◌+◌, ◌<◌, ◌≤◌, ℕ, zero, suc, Bool, true, false, List, [], ◌∷◌, length, map, get_or, set, sym, ap, ◌∙◌, inl, inr, subst, arith}
use Rattle.std.specs.Global.{Vec}
use Rattle.std.specs.List.{range_with_len}
use Rattle.std.proofs.lemmas.Bool.{or_left, or_right}
use Rattle.std.proofs.lemmas.List.{ext_get_or, get_or-set_same, get_or-set_other, length-map, length-set, map-set}
use Rattle.std.proofs.lemmas.List.FromFn.{length-range_with_len}
use Rattle.lhg_math.specs.Tests.{AllOf}
use Rattle.lhg_num.specs.FracArithmetic.{frac_arithmetic}
use Rattle.lhg_num.specs.Marked.{Marked, each}
use Rattle.lhg_num.specs.MarkedLaws.{IsPart, each-value}
use Rattle.lhg_row.specs.Decisions.{nat_decided}
use Rattle.lhg_row.specs.Lists.{minus}
use Rattle.lhg_row.specs.System.{PlainSystem}
use Rattle.lhg_plant.proofs.ListSteps.{range-at}
use Rattle.lhg_plant.specs.declared.plants.Plant.{Plant}
use Rattle.lhg_plant.specs.Region.{PlainRegion}
use Rattle.lhg_plant.specs.Invariants.{pieces_at, invariants}
use Rattle.lhg_plant.specs.OutCalculus.{away_at, away}
use Rattle.lhg_plant.specs.Views.{plain_plant}
use Rattle.lhg_union.specs.PolyLists.{lines_of, AllVars}
use Rattle.lhg_union.specs.Regions.{polys_of, plain_region}
use Rattle.lhg_jump.specs.PlantLists.{AreListsOf, AreInvariantsOf}
use Rattle.lhg_jump.proofs.AwayCode.{region-length}
use Rattle.lhg_quiet.specs.Outside.{AreStillOutside}

-- ---- one list of a region is another
region-set : (xs : List (Vec PlainSystem)) (l : ℕ) (ps : Vec PlainSystem) → plain_region (set xs l ps) ≡ set (plain_region xs) l (lines_of ps.items)
region-set xs l ps =
    let held : Vec PlainSystem → List PlainSystem = λ v. v.items in
    let items : polys_of (set xs l ps) ≡ set (polys_of xs) l ps.items = map-set held xs l ps in
    ap (λ qs. map lines_of qs) items ∙ map-set lines_of (polys_of xs) l ps.items

-- there
set-there : (xs : List (Vec PlainSystem)) (l : ℕ) (ps : Vec PlainSystem) → l < length xs → pieces_at (plain_region (set xs l ps)) l ≡ lines_of ps.items
set-there xs l ps h =
    let long = region-length xs in
    ap (λ r. pieces_at r l) (region-set xs l ps) ∙ get_or-set_same (plain_region xs) l (lines_of ps.items) [] (omega arith)

-- and elsewhere
set-elsewhere : (xs : List (Vec PlainSystem)) (l k : ℕ) (ps : Vec PlainSystem) → k ≢ l → pieces_at (plain_region (set xs l ps)) k ≡ pieces_at (plain_region xs) k
set-elsewhere xs l k ps h = ap (λ r. pieces_at r k) (region-set xs l ps) ∙ get_or-set_other (plain_region xs) l k (lines_of ps.items) [] h

-- what holds of the new list and of all old ones holds of all
set-all : {A : Type 0} (P : A → Type 0) (xs : List A) (l : ℕ) (x : A) → AllOf P xs → P x → AllOf P (set xs l x)
set-all P [] l x h k = tt
set-all P (y ∷ xs) zero x h k = (k, h.1)
set-all P (y ∷ xs) (suc l) x h k = (h.0, set-all P xs l x h.1 k)

-- ---- one member of what is made of a range
range-part : {B : Type 0} (f : ℕ → Marked B) (m k j i : ℕ) → i ≡ k + j → j < m → IsPart (each f (range_with_len k m)) (f i)
range-part f zero k j i e h = absurd (omega arith)
range-part f (suc m) k zero i e h =
    let at : i ≡ k = omega arith in
    subst (λ x. IsPart (each f (range_with_len k (suc m))) (f x)) (sym at) (record { wide = or_left (f k).wide _; rows = or_left (f k).rows _; pieces = or_left (f k).pieces _ })
range-part f (suc m) k (suc j) i e h =
    let rest = range-part f m (k + 1) j i (omega arith) (omega arith) in
    record { wide = λ w. or_right (f k).wide _ (rest.wide w); rows = λ w. or_right (f k).rows _ (rest.rows w); pieces = λ w. or_right (f k).pieces _ (rest.pieces w) }

-- ---- the states outside
module _ (n : ℕ) (invs region : PlainRegion) where
  -- how many lists there are
  away-length : length (away n invs region).value ≡ length invs
  unfolding away
  away-length =
      let places = range_with_len 0 (length invs) in
      ap length (each-value (away_at n invs region) places) ∙ length-map places (λ l. (away_at n invs region l).value) ∙ length-range_with_len 0 (length invs)

  -- those of one location
  away-there : (l : ℕ) → l < length invs → pieces_at (away n invs region).value l ≡ (away_at n invs region l).value
  unfolding away
  away-there l h = let place : 0 + l ≡ l = omega arith in range-at (away_at n invs region) 0 (length invs) l h ∙ ap (λ k. (away_at n invs region k).value) place

  -- their marks
  away-part : (l : ℕ) → l < length invs → IsPart (away n invs region) (away_at n invs region l)
  unfolding away
  away-part l h = range-part (away_at n invs region) (length invs) 0 l l (omega arith) h

  -- where each list is right, all are
  away-all : (xs : PlainRegion) → length xs ≡ length invs → ((k : ℕ) → k < length invs → pieces_at xs k ≡ pieces_at (away n invs region).value k) → xs ≡ (away n invs region).value
  away-all xs many h = ext_get_or [] xs (away n invs region).value (many ∙ sym away-length) (λ k less. h k (omega arith))

-- ---- the loop over the locations of a plant
-- the states outside the region
abbrev right_of : Plant → List (Vec PlainSystem) → PlainRegion
right_of p region = (away (length p.vars.items) (invariants (plain_plant p)).value (plain_region region)).value

-- before location l, and where nothing has changed, the lists are right
pub record AreRenewed (p : Plant) (region : List (Vec PlainSystem)) (changed : List Bool) (l : ℕ) (outside : List (Vec PlainSystem)) : Type 0 where
  pub has_lists : AreListsOf p outside
  pub made : (k : ℕ) → k < l → pieces_at (plain_region outside) k ≡ pieces_at (right_of p region) k
  pub kept : (k : ℕ) → get_or changed k true ≡ false → pieces_at (plain_region outside) k ≡ pieces_at (right_of p region) k

module _ (p : Plant) (invs region : List (Vec PlainSystem)) (i : AreInvariantsOf p invs) (changed : List Bool) where
  abbrev n : ℕ
  n = length p.vars.items

  abbrev inv : PlainRegion
  inv = (invariants (plain_plant p)).value

  abbrev right : PlainRegion
  right = right_of p region

  -- as many invariants as locations
  inv-length : length inv ≡ length p.locs.items
  inv-length = ap length (sym i.same) ∙ region-length invs ∙ i.has_lists.many

  -- at the start
  pub renewed-start : (outside : List (Vec PlainSystem)) → AreStillOutside p region changed outside → AreRenewed p region changed 0 outside
  renewed-start outside h = record { has_lists = h.has_lists; made = λ k less. absurd (omega arith); kept = h.same }

  -- at the end
  pub renewed-end : (l : ℕ) (outside : List (Vec PlainSystem)) → AreRenewed p region changed l outside → length p.locs.items ≤ l → plain_region outside ≡ right
  renewed-end l outside h past =
      let many = h.has_lists.many in
      away-all n inv (plain_region region) (plain_region outside) (region-length outside ∙ many ∙ sym inv-length) (λ k less. (let long = inv-length in h.made k (omega arith)))

  module _ (l : ℕ) (outside : List (Vec PlainSystem)) (h : AreRenewed p region changed l outside) (there : l < length p.locs.items) where
    -- a location that has not changed
    pub renewed-kept : get_or changed l true ≡ false → AreRenewed p region changed (l + 1) outside
    renewed-kept same = record {
      has_lists = h.has_lists;
      made = λ k less. elim (nat_decided k l) [
        | inl here ↦ subst (λ (j : ℕ). pieces_at (plain_region outside) j ≡ pieces_at right j) (sym here) (h.kept l same)
        | inr other ↦ (let below : k < l = omega arith in h.made k below)
      ];
      kept = h.kept;
    }

    -- another one: what is left of its invariant without the region
    module _ (ps qs : List PlainSystem) (less : minus frac_arithmetic n (lines_of ps) (lines_of qs) ≡ minus frac_arithmetic n (pieces_at (plain_region invs) l) (pieces_at (plain_region region) l)) where
      one : minus frac_arithmetic n (lines_of ps) (lines_of qs) ≡ away_at n inv (plain_region region) l
      one = less ∙ ap (λ is. minus frac_arithmetic n (pieces_at is l) (pieces_at (plain_region region) l)) i.same

      -- its marks
      pub renewed-part : IsPart (away n inv (plain_region region)) (minus frac_arithmetic n (lines_of ps) (lines_of qs))
      renewed-part = let long = inv-length in subst (IsPart (away n inv (plain_region region))) (sym one) (away-part n inv (plain_region region) l (omega arith))

      -- its list
      pub renewed-step : (more : Vec PlainSystem) → lines_of more.items ≡ (minus frac_arithmetic n (lines_of ps) (lines_of qs)).value → AllVars n more.items → AreRenewed p region changed (l + 1) (set outside l more)
      renewed-step more is vars =
          let long = h.has_lists.many in
          let in_inv = inv-length in
          let new : pieces_at (plain_region (set outside l more)) l ≡ pieces_at right l =
          set-there outside l more (omega arith) ∙ is ∙ ap (λ m. m.value) one ∙ sym (away-there n inv (plain_region region) l (omega arith)) in
          let at : (k : ℕ) → k ≡ l → pieces_at (plain_region (set outside l more)) k ≡ pieces_at right k =
          λ k here. subst (λ (j : ℕ). pieces_at (plain_region (set outside l more)) j ≡ pieces_at right j) (sym here) new in
          record {
            has_lists = record { many = length-set outside l more ∙ long; vars = set-all (λ ps. AllVars n ps.items) outside l more h.has_lists.vars vars };
            made = λ k less. elim (nat_decided k l) [
              | inl here ↦ at k here
              | inr other ↦ (let below : k < l = omega arith in set-elsewhere outside l k more other ∙ h.made k below)
            ];
            kept = λ k same. elim (nat_decided k l) [ inl here ↦ at k here | inr other ↦ set-elsewhere outside l k more other ∙ h.kept k same ];
          }
