-- What the calls after a flow and after a switch make of their steps.
use Rattle.std.proofs.Common.{◌≡◌, ◌+◌, ℕ, [], ◌∷◌, map, length, slice_get, Option, Some, None, refl, sym, ap, ◌∙◌, subst}
use Rattle.lhg_num.specs.FracArithmetic.{frac_arithmetic}
use Rattle.lhg_num.specs.Marked.{Marked, and_then, valued, IsRest}
use Rattle.lhg_num.specs.MarkedLaws.{IsPart, and_then-part, and_then-rest}
use Rattle.lhg_row.specs.Piece.{PlainPiece}
use Rattle.lhg_row.specs.Pieces.{make}
use Rattle.lhg_row.specs.Lists.{listed}
use Rattle.lhg_motion.specs.CrossCalculus.{cross}
use Rattle.lhg_plant.specs.Plant.{PlainLocation, PlainSwitch, PlainPlant}
use Rattle.lhg_plant.specs.Invariants.{invariant_list, invariant_of}
use Rattle.lhg_plant.specs.Pre.{pre_piece}
use Rattle.lhg_forward.specs.After.{turned, flow_within, flow_in, after_flow, swapped, switch_within, switch_by, after_switch}

-- ---- a piece that is made, and then something of it
module _ {B : Type 0} (n : ℕ) (place : PlainLocation) (f : Option PlainPiece → Marked B) (whole : Marked B) (is : and_then (make frac_arithmetic n place.inv) f ≡ whole) where
  -- the marks of the first step
  pub made-part : IsPart whole (make frac_arithmetic n place.inv)
  made-part = subst (λ w. IsPart w (make frac_arithmetic n place.inv)) is (and_then-part (make frac_arithmetic n place.inv) f)

  -- what is left
  pub made-rest : (o : Option PlainPiece) → o ≡ (make frac_arithmetic n place.inv).value → IsRest whole (f o)
  made-rest o e = subst (λ w. IsRest w (f o)) is (subst (λ q. IsRest (and_then (make frac_arithmetic n place.inv) f) (f q)) (sym e) (and_then-rest (make frac_arithmetic n place.inv) f))

-- ---- after a flow
module _ (a : PlainPlant) (l : ℕ) (piece : PlainPiece) (place : PlainLocation) (there : slice_get a.locs l ≡ Some place) where
  abbrev then_flow : Option PlainPiece → Marked (Option PlainPiece)
  then_flow o = flow_within (length a.vars) place.flow piece (listed o [])

  pub flow-is : and_then (make frac_arithmetic (length a.vars) place.inv) then_flow ≡ after_flow a l piece
  unfolding after_flow
  flow-is = ap (flow_in (length a.vars) piece) (sym there)

  pub flow-part : IsPart (after_flow a l piece) (make frac_arithmetic (length a.vars) place.inv)
  flow-part = made-part (length a.vars) place then_flow (after_flow a l piece) flow-is

  pub flow-none : None ≡ (make frac_arithmetic (length a.vars) place.inv).value → None ≡ (after_flow a l piece).value
  flow-none e = (made-rest (length a.vars) place then_flow (after_flow a l piece) flow-is None e).same

  pub flow-rest : (inv : PlainPiece) → Some inv ≡ (make frac_arithmetic (length a.vars) place.inv).value → IsRest (after_flow a l piece) (cross frac_arithmetic (length a.vars) inv inv piece (map turned place.flow))
  flow-rest inv e = made-rest (length a.vars) place then_flow (after_flow a l piece) flow-is (Some inv) e

-- ---- after a switch
module _ (a : PlainPlant) (e : ℕ) (piece : PlainPiece) (w : PlainSwitch) (is : slice_get a.switches e ≡ Some w) (place : PlainLocation) (there : slice_get a.locs w.to ≡ Some place) where
  abbrev then_switch : Option PlainPiece → Marked (Option PlainPiece)
  then_switch o = switch_within (length a.vars) w.jump piece (listed o [])

  pub switch-is : and_then (make frac_arithmetic (length a.vars) place.inv) then_switch ≡ after_switch a e piece
  unfolding after_switch
  switch-is =
      ap (λ o. and_then (invariant_of (length a.vars) o) (switch_within (length a.vars) w.jump piece)) (sym there) ∙ ap (switch_by a piece) (sym is)

  pub switch-part : IsPart (after_switch a e piece) (make frac_arithmetic (length a.vars) place.inv)
  switch-part = made-part (length a.vars) place then_switch (after_switch a e piece) switch-is

  pub switch-none : None ≡ (make frac_arithmetic (length a.vars) place.inv).value → None ≡ (after_switch a e piece).value
  switch-none f = (made-rest (length a.vars) place then_switch (after_switch a e piece) switch-is None f).same

  pub switch-rest : (inv : PlainPiece) → Some inv ≡ (make frac_arithmetic (length a.vars) place.inv).value → IsRest (after_switch a e piece) (pre_piece (length a.vars) (map (swapped (length a.vars)) w.jump) piece inv)
  switch-rest inv f = made-rest (length a.vars) place then_switch (after_switch a e piece) switch-is (Some inv) f
