-- The result of the fibres of a switch is a legal one outside the round, and there is one where some legal result lies outside.
use Rattle.std.proofs.Common.{◌≡◌, ◌≤◌, ℕ, Bool, cond, List, length, nat_eq, slice_get, Option, Some, None, refl, sym, ap, ◌∙◌, subst}
use Rattle.std.proofs.lemmas.Bool.{eqb-true, eq-eqb}
use Rattle.lhg_math.specs.Tests.{by_bool}
use Rattle.lhg_row.specs.Row.{PlainPoint}
use Rattle.lhg_row.specs.Piece.{InSome}
use Rattle.lhg_row.specs.Width.{AllWide}
use Rattle.lhg_row.specs.Members.{all-append}
use Rattle.lhg_row.specs.PieceFacts.{AllOver}
use Rattle.lhg_plant.specs.Plant.{PlainPlant, PlainSwitch}
use Rattle.lhg_plant.specs.Proper.{IsProper}
use Rattle.lhg_plant.specs.State.{PlainState, IsState}
use Rattle.lhg_plant.specs.Legal.{LegalSwitch}
use Rattle.lhg_plant.specs.Rank.{IsPast}
use Rattle.lhg_plant.specs.Loss.{PlainLoss}
use Rattle.lhg_plant.proofs.Picks.{first_right, first_found}
use Rattle.lhg_loss.specs.Records.{pieces_lost}
use Rattle.lhg_plant.specs.Choice.{target_in, result_at}
use Rattle.lhg_spoil.specs.Fibres.{unsafe_at, losses_past, past_at, fibre_by, fibre_of, fibre}
use Rattle.lhg_spoil.specs.Known.{AreKnown}
use Rattle.lhg_spoil.proofs.PastStates.{unsafe-over, past-over, past-exact}
use Rattle.lhg_spoil.proofs.LegalResults.{jumps-wide}
use Rattle.lhg_spoil.proofs.Outside.{rank_state}

-- no result is not some result
pub no_result : {P : Type 0} (y : PlainPoint) → None ≡ Some y → P
no_result y h = cc

module _ (a : PlainPlant) (losses : List PlainLoss) (k : ℕ) (known : AreKnown a losses k) (proper : IsProper a) (j : ℕ) (within : j ≤ k) where
  -- the pieces outside are over the plant's variables
  pub pieces-over : (l : ℕ) → AllOver (length a.vars) (past_at a losses j l).value
  pieces-over l = all-append (λ p. AllWide (length a.vars) p) (unsafe_at a l).value (pieces_lost (losses_past l j losses)) (unsafe-over a proper l) (past-over (length a.vars) l j losses known.wide)

  -- a legal result that lies outside
  abbrev pub IsFibre : ℕ → PlainState → PlainState → Type 0
  IsFibre e s z = LegalSwitch a e s z × IsPast a j z

  right_by : (e : ℕ) (s : PlainState) (y : PlainPoint) (o : Option PlainSwitch) → slice_get a.switches e ≡ o → IsState a s
      → (fibre_of a losses j s o).value ≡ Some y → IsFibre e s (record { loc = target_in o; at = y })
  right_by e s y None there state h = no_result y h
  right_by e s y (Some w) there state h =
      by_bool (nat_eq w.from s.loc)
      (λ t.
      let g : (fibre_by a losses j s w).value ≡ Some y = subst (λ (b : Bool). (cond b (fibre_by a losses j s w) (fibre_of a losses j s None)).value ≡ Some y) t h in
      let r = first_right (length a.vars) s.at state.fits w.jump (jumps-wide a proper e w there) (past_at a losses j w.to).value y (pieces-over w.to) g in
      let past = (past-exact a losses k known proper j within w.to y r.long).0 r.some in
      (record { switch = w; is_there = there; leaves = eqb-true w.from s.loc t; enters = refl; start = state; result = rank_state a past.rank _ past.ranked; jump = r.jumps }, past))
      (λ t. no_result y (subst (λ (b : Bool). (cond b (fibre_by a losses j s w) (fibre_of a losses j s None)).value ≡ Some y) t h))

  -- the result of the fibres is legal, and lies outside
  pub fibre_right : (e : ℕ) (s : PlainState) (y : PlainPoint) → IsState a s → (fibre a losses j e s).value ≡ Some y → IsFibre e s (result_at a e y)
  unfolding fibre
  fibre_right e s y state h = right_by e s y (slice_get a.switches e) refl state h

  -- where some legal result lies outside, there is a fibre
  pub fibre_found : (e : ℕ) (s z : PlainState) → LegalSwitch a e s z → IsPast a j z → (y : PlainPoint) × ((fibre a losses j e s).value ≡ Some y)
  unfolding fibre
  fibre_found e s z legal past =
      let w = legal.switch in
      let there = legal.is_there in
      let inside = subst (λ (l : ℕ). InSome (past_at a losses j l).value z.at) (sym legal.enters) ((past-exact a losses k known proper j within z.loc z.at legal.result.fits).1 past) in
      let f = first_found (length a.vars) s.at legal.start.fits w.jump (jumps-wide a proper e w there) (past_at a losses j w.to).value z.at (pieces-over w.to) legal.result.fits legal.jump inside in (
        f.0,
        ap (λ (o : Option PlainSwitch). (fibre_of a losses j s o).value) there
            ∙ ap (λ (b : Bool). (cond b (fibre_by a losses j s w) (fibre_of a losses j s None)).value) (eq-eqb w.from s.loc legal.leaves) ∙ f.1,
      )
