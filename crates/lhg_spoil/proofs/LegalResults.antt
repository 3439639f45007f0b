-- A switch has a legal result exactly where the piece of its target's invariant holds one.
use Rattle.std.proofs.Common.{◌≡◌, ◌↔◌, ℕ, ◌+◌, true, List, [], ◌∷◌, ◌++◌, length, slice_get, Option, Some, None, refl, sym, ap, ◌∙◌, subst}
use Rattle.std.specs.Prelude.{is_some}
use Rattle.lhg_math.specs.Tests.{false_true}
use Rattle.lhg_num.specs.FracArithmetic.{frac_arithmetic}
use Rattle.lhg_row.specs.Row.{PlainPoint}
use Rattle.lhg_row.specs.Piece.{PlainPiece, InPiece}
use Rattle.lhg_row.specs.Width.{AllWide}
use Rattle.lhg_row.specs.PieceFacts.{AllOver}
use Rattle.lhg_row.specs.CoveredLaws.{polys-over}
use Rattle.lhg_plant.specs.Plant.{PlainPlant, PlainSwitch}
use Rattle.lhg_plant.specs.Proper.{IsSwitch, IsProper}
use Rattle.lhg_plant.specs.State.{PlainState, IsState}
use Rattle.lhg_plant.specs.Legal.{LegalSwitch}
use Rattle.lhg_plant.specs.Invariants.{invariant_at}
use Rattle.lhg_plant.specs.Pick.{results_in, sample_or, first_result}
use Rattle.lhg_plant.proofs.InvariantPoints.{invariant-points, invariant-polys}
use Rattle.lhg_plant.proofs.Options.{some_same}
use Rattle.lhg_plant.proofs.Picks.{all_at, first_right, first_found}
use Rattle.lhg_spoil.specs.Work.{results_or, results_of, legal_results_by, legal_results}

-- some piece holds a result exactly where one of these is the first
same_some : (n : ℕ) (x : PlainPoint) (jump : PlainPiece) (pieces : List PlainPiece) → is_some (results_of n x jump pieces).value ≡ is_some (first_result n x jump pieces).value
same_some n x jump [] = refl
same_some n x jump (piece ∷ pieces) = go (results_in n x jump piece).value (same_some n x jump pieces)
  where
    go : (o : Option PlainPiece) → is_some (results_of n x jump pieces).value ≡ is_some (first_result n x jump pieces).value
        → is_some (results_or (results_of n x jump pieces) o).value ≡ is_some (sample_or n (first_result n x jump pieces) o).value
    go None further = further
    go (Some results) further = refl

-- there is a value
some_value : {A : Type 0} (o : Option A) → is_some o ≡ true → (x : A) × (o ≡ Some x)
some_value None e = false_true e
some_value (Some x) e = (x, refl)

-- the jump rows of a switch of the plant are over the old and the new variables
pub jumps-wide : (a : PlainPlant) → IsProper a → (e : ℕ) (w : PlainSwitch) → slice_get a.switches e ≡ Some w → AllWide (length a.vars + length a.vars) w.jump
jumps-wide a proper e w there = (all_at (IsSwitch (length a.vars) (length a.locs)) a.switches e w proper.switches there).jump.wide

module _ (a : PlainPlant) (proper : IsProper a) (e : ℕ) (s : PlainState) (state : IsState a s) (w : PlainSwitch) (there : slice_get a.switches e ≡ Some w) (leaves : w.from ≡ s.loc) where
  abbrev inv : List PlainPiece
  inv = (invariant_at a w.to).value

  inv-over : AllOver (length a.vars) inv
  inv-over = polys-over frac_arithmetic (length a.vars) inv (invariant-polys a proper w.to)

  value_is : (legal_results a e s).value ≡ (results_of (length a.vars) s.at w.jump inv).value
  unfolding legal_results
  value_is = ap (λ (o : Option PlainSwitch). (legal_results_by a s o).value) there

  -- where there are some, there is a legal result
  results_legal : is_some (legal_results a e s).value ≡ true → (z : PlainState) × LegalSwitch a e s z
  results_legal h =
      let f = some_value (first_result (length a.vars) s.at w.jump inv).value (sym (same_some (length a.vars) s.at w.jump inv) ∙ ap is_some (sym value_is) ∙ h) in
      let r = first_right (length a.vars) s.at state.fits w.jump (jumps-wide a proper e w there) inv f.0 inv-over f.1 in
      (record { loc = w.to; at = f.0 }, record { switch = w; is_there = there; leaves = leaves; enters = refl; start = state; result = (invariant-points a proper w.to f.0 r.long).0 r.some; jump = r.jumps })

  -- and back
  legal_some : (z : PlainState) → LegalSwitch a e s z → is_some (legal_results a e s).value ≡ true
  legal_some z legal =
      let same : legal.switch ≡ w = some_of legal.is_there in
      let enters : w.to ≡ z.loc = ap (λ (v : PlainSwitch). v.to) (sym same) ∙ legal.enters in
      let jump = subst (λ (v : PlainSwitch). InPiece v.jump (s.at ++ z.at)) same legal.jump in
      let state_there = subst (λ (l : ℕ). IsState a (record { loc = l; at = z.at })) (sym enters) legal.result in
      let f = first_found (length a.vars) s.at state.fits w.jump (jumps-wide a proper e w there) inv z.at inv-over legal.result.fits jump ((invariant-points a proper w.to z.at legal.result.fits).1 state_there) in
      ap is_some value_is ∙ same_some (length a.vars) s.at w.jump inv ∙ ap is_some f.1
    where
      some_of : {v : PlainSwitch} → slice_get a.switches e ≡ Some v → v ≡ w
      some_of {v = v} h = some_same (slice_get a.switches e) v w h there

  pub results-exact : (is_some (legal_results a e s).value ≡ true) ↔ ((z : PlainState) × LegalSwitch a e s z)
  results-exact = (results_legal, λ h. legal_some h.0 h.1)
