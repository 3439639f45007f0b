-- Marks of locations.
use Rattle.std.proofs.Common.{◌≡◌, ◌<◌, ◌+◌, ℕ, zero, suc, Bool, true, false, List, [], ◌∷◌, ◌++◌, length, get_or, slice_get, Some, refl, sym, ◌∙◌, inl, inr, subst, arith}
use Rattle.std.proofs.lemmas.List.{length-map}
use Rattle.lhg_row.specs.Decisions.{nat_decided}
use Rattle.lhg_plant.proofs.LegalSteps.{image_at, all_at}
use Rattle.lhg_plant.specs.declared.plants.Plant.{Plant}
use Rattle.lhg_plant.specs.declared.plants.Switch.{Switch}
use Rattle.lhg_plant.specs.Plant.{PlainSwitch}
use Rattle.lhg_plant.specs.Proper.{IsSwitch}
use Rattle.lhg_plant.specs.Views.{plain_plant, plain_switch, plain_location}

-- one mark more that is not set
pub none-more : (xs : List Bool) (k : ℕ) → get_or xs k false ≡ false → get_or (xs ++ false ∷ []) k false ≡ false
none-more [] zero h = refl
none-more [] (suc k) h = refl
none-more (x ∷ xs) zero h = h
none-more (x ∷ xs) (suc k) h = none-more xs k h

-- the target of a switch is a location
pub target-there : (p : Plant) (e : ℕ) (w : Switch) → e < length p.switches.items → w ≡ get_or p.switches.items e w → w.to < length p.locs.items
target-there p e w h is =
    let s = all_at (IsSwitch (length p.vars.items) (length (plain_plant p).locs)) (plain_plant p).switches e (plain_switch w) p.proper.switches (image_at plain_switch p.switches.items e w h is) in
    let to = s.to in
    omega (arith, to, length-map p.locs.items plain_location)

-- one switch more is clear
pub clear-more : (p : Plant) (changed : List Bool) (loc e : ℕ) (w : Switch) → e < length p.switches.items → w ≡ get_or p.switches.items e w
    → ((k : ℕ) (x : PlainSwitch) → k < e → slice_get (plain_plant p).switches k ≡ Some x → x.from ≡ loc → get_or changed x.to true ≡ false)
    → (w.from ≡ loc → get_or changed w.to true ≡ false)
    → (k : ℕ) (x : PlainSwitch) → k < e + 1 → slice_get (plain_plant p).switches k ≡ Some x → x.from ≡ loc → get_or changed x.to true ≡ false
clear-more p changed loc e w h is old new k x less there =
    elim (nat_decided k e) [
      | inl same ↦ (let here : slice_get (plain_plant p).switches e ≡ Some x = subst (λ (j : ℕ). slice_get (plain_plant p).switches j ≡ Some x) same there in
          let both : Some (plain_switch w) ≡ Some x = sym (image_at plain_switch p.switches.items e w h is) ∙ here in
          let one : plain_switch w ≡ x = cc in
          subst (λ (y : PlainSwitch). y.from ≡ loc → get_or changed y.to true ≡ false) one new)
      | inr other ↦ (let below : k < e = omega arith in old k x below there)
    ]
