-- The new pieces of a level as the code holds them.
use Rattle.std.proofs.Common.{◌≡◌, ◌<◌, ◌≤◌, ◌+◌, ◌-◌, ℕ, zero, suc, Bool, true, false, cond, List, [], ◌∷◌, ◌++◌, map, length, get_or, set, replicate, slice_get, nat_eq, Option, Some, None, refl, sym, ap, ◌∙◌, subst, arith}
use Rattle.std.specs.Global.{Vec}
use Rattle.std.specs.List.{range_with_len}
use Rattle.std.proofs.lemmas.Bool.{eq-eqb, ne_eqb}
use Rattle.std.proofs.lemmas.List.{length-map, map-set, map-append}
use Rattle.lhg_math.specs.Tests.{AllOf}
use Rattle.lhg_num.specs.FracArithmetic.{frac_arithmetic}
use Rattle.lhg_num.specs.Marked.{Marked, and_then, done, valued, walk, IsRest}
use Rattle.lhg_num.specs.MarkedLaws.{IsPart, rest_self, rest_part, and_then-part, and_then-rest, walk-step, walk-part}
use Rattle.lhg_row.specs.Piece.{PlainPiece}
use Rattle.lhg_row.specs.System.{PlainSystem}
use Rattle.lhg_row.specs.Members.{all-append}
use Rattle.lhg_row.specs.Lists.{covered}
use Rattle.lhg_plant.specs.Plant.{PlainSwitch, PlainPlant}
use Rattle.lhg_plant.specs.Region.{PlainRegion}
use Rattle.lhg_plant.specs.Invariants.{pieces_at}
use Rattle.lhg_plant.specs.OutCalculus.{numbered}
use Rattle.lhg_union.specs.PolyLists.{lines_of, AllVars}
use Rattle.lhg_union.specs.Regions.{polys_of, polys_at, plain_region}
use Rattle.lhg_plant.specs.declared.plants.Plant.{Plant}
use Rattle.lhg_jump.specs.PlantLists.{AreOver, AreListsOf}
use Rattle.lhg_forward.specs.After.{after_flow, after_switch}
use Rattle.lhg_forward.specs.Growth.{PlainGrowth, PlainStage, first_or, grown_unless, add_new, add_flow, add_result, add_switch, add_piece, newest_at, add_location, no_growth, growth}

-- ---- ranges
-- the next place of a range
range-cons : (l m : ℕ) → l < m → range_with_len l (m - l) ≡ l ∷ range_with_len (l + 1) (m - (l + 1))
range-cons l m h = let e : m - l ≡ suc (m - (l + 1)) = omega (arith, h) in ap (range_with_len l) e

-- no place is left
range-end : (l m : ℕ) → m ≤ l → range_with_len l (m - l) ≡ []
range-end l m h = let e : m - l ≡ 0 = omega (arith, h) in ap (range_with_len l) e

-- ---- one result
module _ (n : ℕ) (region : PlainRegion) (l : ℕ) (g : PlainGrowth) (p : PlainPiece) where
  abbrev known : Marked Bool
  known = covered frac_arithmetic n (p ∷ []) (pieces_at region l ++ pieces_at g.new l)

  pub new-part : IsPart (add_new n region l g (Some p)) known
  new-part = record { wide = λ h. h; rows = λ h. h; pieces = λ h. h }

  pub new-value : (b : Bool) → b ≡ known.value → grown_unless g l p b ≡ (add_new n region l g (Some p)).value
  new-value b e = ap (grown_unless g l p) e

-- ---- after a flow, and after a switch
module _ (a : PlainPlant) (region : PlainRegion) (l : ℕ) (q : PlainPiece) (g : PlainGrowth) where
  pub flow_added-part : IsPart (add_flow a region l q g) (after_flow a l q)
  flow_added-part = and_then-part (after_flow a l q) (add_new (length a.vars) region l g)

  pub flow_added-rest : (o : Option PlainPiece) → o ≡ (after_flow a l q).value → IsRest (add_flow a region l q g) (add_new (length a.vars) region l g o)
  flow_added-rest o e =
      subst (λ w. IsRest (add_flow a region l q g) (add_new (length a.vars) region l g w)) (sym e) (and_then-rest (after_flow a l q) (add_new (length a.vars) region l g))

  -- a switch from elsewhere adds nothing
  pub switch_elsewhere : (e : ℕ) (w : PlainSwitch) → ¬ (w.from ≡ l) → g ≡ (add_switch a region l q g (e, w)).value
  switch_elsewhere e w apart = sym (ap (λ b. (cond b (add_result a region q g e w) (done g)).value) (ne_eqb w.from l apart))

  module _ (e : ℕ) (w : PlainSwitch) (leaves : w.from ≡ l) where
    switch-is : add_result a region q g e w ≡ add_switch a region l q g (e, w)
    switch-is = sym (ap (λ b. cond b (add_result a region q g e w) (done g)) (eq-eqb w.from l leaves))

    pub switch_added-part : IsPart (add_switch a region l q g (e, w)) (after_switch a e q)
    switch_added-part = subst (λ m. IsPart m (after_switch a e q)) switch-is (and_then-part (after_switch a e q) (add_new (length a.vars) region w.to g))

    pub switch_added-rest : (o : Option PlainPiece) → o ≡ (after_switch a e q).value → IsRest (add_switch a region l q g (e, w)) (add_new (length a.vars) region w.to g o)
    switch_added-rest o f =
        subst (λ m. IsRest m (add_new (length a.vars) region w.to g o)) switch-is
        (subst (λ v. IsRest (add_result a region q g e w) (add_new (length a.vars) region w.to g v)) (sym f) (and_then-rest (after_switch a e q) (add_new (length a.vars) region w.to g)))

  -- ---- a piece
  abbrev then_switches : PlainGrowth → Marked PlainGrowth
  then_switches h = walk (add_switch a region l q) h (numbered 0 a.switches)

  pub piece-part : IsPart (add_piece a region l g q) (add_flow a region l q g)
  piece-part = and_then-part (add_flow a region l q g) then_switches

  pub piece-rest : (h : PlainGrowth) → h ≡ (add_flow a region l q g).value → IsRest (add_piece a region l g q) (then_switches h)
  piece-rest h e = subst (λ k. IsRest (add_piece a region l g q) (then_switches k)) (sym e) (and_then-rest (add_flow a region l q g) then_switches)

-- ---- loops over the locations
module _ (a : PlainPlant) (s : PlainStage) (m : ℕ) (many : m ≡ length a.locs) where
  pub growth-start : (g : PlainGrowth) → g ≡ no_growth m → IsRest (growth a s) (walk (add_location a s) g (range_with_len 0 (m - 0)))
  unfolding growth
  growth-start g e =
      let all : length a.locs ≡ m - 0 = omega arith in
      subst (λ (h : PlainGrowth). IsRest (growth a s) (walk (add_location a s) h (range_with_len 0 (m - 0)))) (sym (e ∙ ap no_growth many))
      (subst (λ (k : ℕ). IsRest (growth a s) (walk (add_location a s) (no_growth (length a.locs)) (range_with_len 0 k))) all (rest_self (growth a s)))

  module _ (g : PlainGrowth) (l : ℕ) (r : IsRest (growth a s) (walk (add_location a s) g (range_with_len l (m - l)))) where
    pub growth-end : m ≤ l → g ≡ (growth a s).value
    growth-end h = let k = subst (λ xs. IsRest (growth a s) (walk (add_location a s) g xs)) (range-end l m h) r in k.same

    module _ (less : l < m) where
      here : IsRest (growth a s) (walk (add_location a s) g (l ∷ range_with_len (l + 1) (m - (l + 1))))
      here = subst (λ xs. IsRest (growth a s) (walk (add_location a s) g xs)) (range-cons l m less) r

      pub growth-part : IsPart (growth a s) (add_location a s g l)
      growth-part = walk-part (add_location a s) (growth a s) g l (range_with_len (l + 1) (m - (l + 1))) here

      pub growth-step : (h : PlainGrowth) → h ≡ (add_location a s g l).value → IsRest (growth a s) (walk (add_location a s) h (range_with_len (l + 1) (m - (l + 1))))
      growth-step h e = walk-step (add_location a s) (growth a s) g h l (range_with_len (l + 1) (m - (l + 1))) here e

-- ---- lists
-- empty lists belong to a plant
pub empty_lists : (p : Plant) (lists : List (Vec PlainSystem)) → plain_region lists ≡ replicate (length p.locs.items) [] → AreListsOf p lists
empty_lists p lists e = record { many = count lists (length p.locs.items) e; vars = over (length p.vars.items) lists (length p.locs.items) e }
  where
    count : (lists : List (Vec PlainSystem)) (m : ℕ) → plain_region lists ≡ replicate m [] → length lists ≡ m
    count [] zero e = refl
    count [] (suc m) e = absurd cc
    count (ps ∷ lists) zero e = absurd cc
    count (ps ∷ lists) (suc m) e = let later : plain_region lists ≡ replicate m [] = cc in ap (λ (k : ℕ). suc k) (count lists m later)

    none : (n : ℕ) (qs : List PlainSystem) → lines_of qs ≡ [] → AllVars n qs
    none n [] f = tt
    none n (q ∷ qs) f = absurd cc

    over : (n : ℕ) (lists : List (Vec PlainSystem)) (m : ℕ) → plain_region lists ≡ replicate m [] → AllOf (λ ps. AllVars n ps.items) lists
    over n [] m e = tt
    over n (ps ∷ lists) zero e = absurd cc
    over n (ps ∷ lists) (suc m) e =
        let here : lines_of ps.items ≡ [] = cc in
        let later : plain_region lists ≡ replicate m [] = cc in
        (none n ps.items here, over n lists m later)

-- one piece more in the list of a location
pub new_pushed : (old new : List (Vec PlainSystem)) (k : ℕ) (p : PlainSystem) → polys_of new ≡ set (polys_of old) k (polys_at old k ++ p ∷ []) → plain_region new ≡ set (plain_region old) k (pieces_at (plain_region old) k ++ p.lines ∷ [])
new_pushed old new k p h =
    ap (map lines_of) h ∙ map-set lines_of (polys_of old) k (polys_at old k ++ p ∷ [])
    ∙ ap (set (plain_region old) k) (map-append (λ (q : PlainSystem). q.lines) (polys_at old k) (p ∷ []) ∙ ap (λ ls. ls ++ p.lines ∷ []) (lists_at (polys_of old) k))
  where
    lists_at : (xs : List (List PlainSystem)) (k : ℕ) → lines_of (get_or xs k []) ≡ get_or (map lines_of xs) k []
    lists_at [] k = refl
    lists_at (x ∷ xs) zero = refl
    lists_at (x ∷ xs) (suc k) = lists_at xs k

-- each list over n variables with one piece more
pub over_pushed : (n : ℕ) (old new : List (Vec PlainSystem)) (k : ℕ) (p : PlainSystem) → polys_of new ≡ set (polys_of old) k (polys_at old k ++ p ∷ []) → p.width ≡ n → AllOf (λ ps. AllVars n ps.items) old → AllOf (λ ps. AllVars n ps.items) new
over_pushed n old new k p e w h = back new (subst (AllOf (AllVars n)) (sym e) (over-set (polys_of old) k (polys_at old k ++ p ∷ []) (forth old h) (all-append (λ q. q.width ≡ n) (polys_at old k) (p ∷ []) (over-at (polys_of old) k (forth old h)) (w, tt))))
  where
    forth : (lists : List (Vec PlainSystem)) → AllOf (λ ps. AllVars n ps.items) lists → AllOf (AllVars n) (polys_of lists)
    forth [] h = tt
    forth (ps ∷ lists) h = (h.0, forth lists h.1)

    back : (lists : List (Vec PlainSystem)) → AllOf (AllVars n) (polys_of lists) → AllOf (λ ps. AllVars n ps.items) lists
    back [] h = tt
    back (ps ∷ lists) h = (h.0, back lists h.1)

    over-at : (xs : List (List PlainSystem)) (k : ℕ) → AllOf (AllVars n) xs → AllVars n (get_or xs k [])
    over-at [] k h = tt
    over-at (x ∷ xs) zero h = h.0
    over-at (x ∷ xs) (suc k) h = over-at xs k h.1

    over-set : (xs : List (List PlainSystem)) (k : ℕ) (ps : List PlainSystem) → AllOf (AllVars n) xs → AllVars n ps → AllOf (AllVars n) (set xs k ps)
    over-set [] k ps h g = tt
    over-set (x ∷ xs) zero ps h g = (g, h.1)
    over-set (x ∷ xs) (suc k) ps h g = (h.0, over-set xs k ps h.1 g)
