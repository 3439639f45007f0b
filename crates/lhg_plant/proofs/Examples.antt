-- The thermostat and the tank.
use Rattle.std.proofs.Common.{◌≡◌, ◌↔◌, refl, ap, [], ◌∷◌, ◌++◌, List, true, false, ℕ, zero, suc, slice_get, IsSomeAnd, inl, inr, sym, ◌∙◌, subst, arith, pos}
use Rattle.std.proofs.lemmas.Bool.{not-true}
use Rattle.lhg_math.specs.Gcd.{gcd}
use Rattle.lhg_math.specs.Represents.{number_ext}
use Rattle.lhg_math.specs.Number.{Number, add, mul, neg, sub, lt, nought, unit, half, whole, ratio, ratio_suc}
use Rattle.lhg_math.specs.NumberRing.{nought-add, add-nought, nought-mul}
use Rattle.lhg_math.specs.NumberOrder.{lt-le_trans, nought_unit}
use Rattle.lhg_math.specs.Interpolate.{interpolate}
use Rattle.lhg_math.specs.InterpolateLaws.{interpolate-lt, interpolate_start, unit-mul}
use Rattle.lhg_math.specs.Places.{IsPlace}
use Rattle.lhg_math.specs.PlacesLaws.{start_place}
use Rattle.lhg_row.specs.Row.{PlainPoint, row_value}
use Rattle.lhg_row.specs.Piece.{InPiece, InSome}
use Rattle.lhg_row.specs.Decisions.{clash}
use Rattle.lhg_motion.specs.Flow.{IsFlow}
use Rattle.lhg_motion.specs.Play.{PlainMove}
use Rattle.lhg_motion.specs.PlayLemmas.{earlier_one}
use Rattle.lhg_motion.specs.Segment.{along}
use Rattle.lhg_motion.specs.SegmentLemmas.{along_start}
use Rattle.lhg_plant.specs.declared.plants.Side.TheVariants.{Ctl, Env}
use Rattle.lhg_plant.specs.State.{PlainState, IsState, IsSafe, moved_to}
use Rattle.lhg_plant.specs.Legal.{LegalSwitch}
use Rattle.lhg_plant.specs.OutBack.{Out, BackBy, Back}
use Rattle.lhg_plant.specs.Escape.{MayPass, IsEscape, HasEscape}
use Rattle.lhg_plant.specs.Region.{InRegion}
use Rattle.lhg_plant.specs.Choice.{target_in}
use Rattle.lhg_plant.specs.Example.{at_most, at_least, keep_up_to_four, thermostat, on_at, off_at, ThermostatFacts, tank, low_levels, TankFacts}
use Rattle.lhg_plant.proofs.Options.{there_some}
use Rattle.lhg_plant.proofs.Solutions.{still_solves}

-- 4 is safe
four_is_safe : IsSafe thermostat (on_at 4)
unfolding gcd lt add mul neg sub nought unit half whole ratio ratio_suc
four_is_safe = record { state = record { fits = refl; inside = (refl, tt) }; safe = inl (refl, tt) }

-- 5 is safe
five_is_safe : IsSafe thermostat (on_at 5)
unfolding gcd lt add mul neg sub nought unit half whole ratio ratio_suc
five_is_safe = record { state = record { fits = refl; inside = (refl, tt) }; safe = inl (refl, tt) }

-- 9 is a state
nine_is_state : IsState thermostat (on_at 9)
unfolding gcd lt add mul neg sub nought unit half whole ratio ratio_suc
nine_is_state = record { fits = refl; inside = (refl, tt) }

-- 9 is not safe
nine_is_unsafe : IsSafe thermostat (on_at 9) → ⊥
unfolding gcd lt add mul neg sub nought unit half whole ratio ratio_suc
nine_is_unsafe h = elim h.safe [ inl k ↦ (let e : false ≡ true = k.0 in cc) | inr k ↦ k ]

-- 11 is no state
eleven_is_no_state : IsState thermostat (on_at 11) → ⊥
unfolding gcd lt add mul neg sub nought unit half whole ratio ratio_suc
eleven_is_no_state h = let e : false ≡ true = h.inside.0 in cc

-- at 4 switching off keeps the temperature
switch_off : LegalSwitch thermostat 0 (on_at 4) (off_at 4)
unfolding gcd lt add mul neg sub nought unit half whole ratio ratio_suc
switch_off = record {
  switch = record { name = 99 ∷ 117 ∷ 116 ∷ []; from = 0; to = 1; side = Ctl; jump = keep_up_to_four };
  is_there = refl;
  leaves = refl;
  enters = refl;
  start = record { fits = refl; inside = (refl, tt) };
  result = record { fits = refl; inside = tt };
  jump = (refl, (refl, (refl, tt)));
}

-- so 4 is in Back of the safe states: each result is off, which is safe
four_in_back : Back thermostat (IsSafe thermostat) (on_at 4)
four_in_back = (0, ((off_at 4, switch_off), back))
  where
    back : (z : PlainState) → LegalSwitch thermostat 0 (on_at 4) z → IsSafe thermostat z
    back z legal = record { state = legal.result; safe = subst (λ (n : ℕ). IsSomeAnd (slice_get thermostat.locs n) (λ l. InSome l.safe z.at)) (ap target_in legal.is_there ∙ legal.enters) (inl tt) }

-- no uncontrollable switch is there
no_env : (e : ℕ) → IsSomeAnd (slice_get thermostat.switches e) (λ w. w.side ≡ Env) → ⊥
no_env zero h = cc
no_env (suc e) h = h

-- a safe state is not in Out of the safe states
safe_not_out : (s : PlainState) → IsSafe thermostat s → Out thermostat (IsSafe thermostat) s → ⊥
safe_not_out s h (inl out) = out.1 h
safe_not_out s h (inr out) = no_env out.number out.side

-- 4 has no escape: it ends there, where it is not in Out, or begins there, where an escape may not pass
four_stays : (moves : List PlainMove) → IsEscape thermostat (IsSafe thermostat) (Back thermostat (IsSafe thermostat)) (on_at 4) moves → ⊥
four_stays [] h = safe_not_out (on_at 4) four_is_safe h.ends
four_stays (m ∷ ms) h =
    let there : along (on_at 4).at m.to nought ≡ (on_at 4).at = along_start (on_at 4).at m.to h.play.play.0.same_length in
    let begins : MayPass thermostat (IsSafe thermostat) (Back thermostat (IsSafe thermostat)) (moved_to (on_at 4) (along (on_at 4).at m.to nought)) =
    h.earlier zero nought (record { flow = omega arith; place = start_place; before_end = λ e. nought_unit }) in
    elim (subst (λ (p : PlainPoint). MayPass thermostat (IsSafe thermostat) (Back thermostat (IsSafe thermostat)) (moved_to (on_at 4) p)) there begins) [
      | inl out ↦ safe_not_out (on_at 4) four_is_safe out
      | inr out ↦ out four_in_back
    ]

-- the value of the switch's first row is the old value
old_value : (x : Number) (z : PlainPoint) → row_value nought (unit ∷ nought ∷ []) (x ∷ z) ≡ x
old_value x [] = nought-add (mul unit x) ∙ unit-mul x
old_value x (y ∷ z) = ap (λ w. add (add nought (mul unit x)) w) (nought-mul y) ∙ add-nought (add nought (mul unit x)) ∙ nought-add (mul unit x) ∙ unit-mul x

-- above 4 the controller cannot switch off
no_switch_above : (x : Number) → lt (whole (pos 4)) x ≡ true → (z : PlainState) → LegalSwitch thermostat 0 (record { loc = 0; at = x ∷ [] }) z → ⊥
no_switch_above x less z legal =
    let jump : InPiece keep_up_to_four ((x ∷ []) ++ z.at) = there_some (slice_get thermostat.switches 0) legal.switch (λ w. InPiece w.jump ((x ∷ []) ++ z.at)) legal.is_there legal.jump in
    clash (lt (whole (pos 4)) x) less (ap (λ w. lt (whole (pos 4)) w) (sym (old_value x z.at)) ∙ not-true _ jump.0)

-- so no such state is in Back of a set
not_back_above : (S : PlainState → Type 0) (x : Number) → lt (whole (pos 4)) x ≡ true → (e : ℕ) → BackBy thermostat S e (record { loc = 0; at = x ∷ [] }) → ⊥
not_back_above S x less zero h = no_switch_above x less h.0.0 h.0.1
not_back_above S x less (suc e) h = h

-- 4 is below 5
four_five : lt (whole (pos 4)) (whole (pos 5)) ≡ true
unfolding gcd lt add mul neg sub nought unit half whole ratio ratio_suc
four_five = refl

-- 5 is below 9
five_nine : lt (whole (pos 5)) (whole (pos 9)) ≡ true
unfolding gcd lt add mul neg sub nought unit half whole ratio ratio_suc
five_nine = refl

-- each point on the way from 5 to 9 is above 4
way_above : (p : Number) → IsPlace p → lt (whole (pos 4)) (interpolate (whole (pos 5)) (whole (pos 9)) p) ≡ true
way_above p i =
    let five = whole (pos 5) in
    let nine = whole (pos 9) in
    lt-le_trans (whole (pos 4)) five (interpolate five nine p) four_five
    (ap (λ w. lt (interpolate five nine p) w) (sym (interpolate_start five nine)) ∙ interpolate-lt five nine p nought five_nine ∙ i.from)

-- from 5 to 9 in the time 4
heats : IsFlow (at_most 10 ∷ []) (at_least 1 ∷ at_most 1 ∷ []) (on_at 5).at (whole (pos 4)) (on_at 9).at
unfolding gcd lt add mul neg sub nought unit half whole ratio ratio_suc
heats = record {
  takes_time = refl;
  from_in = (refl, tt);
  to_in = (refl, tt);
  same_length = refl;
  speed = unit ∷ [];
  slope = ap (λ w. w ∷ []) (number_ext (sub (whole (pos 9)) (whole (pos 5))) (mul (whole (pos 4)) unit) refl refl);
  allowed = (refl, (refl, tt));
}

-- that is an escape of 5: it ends in an unsafe state, and before it the controller cannot switch off
five_escapes : HasEscape thermostat (IsSafe thermostat) (Back thermostat (IsSafe thermostat)) (on_at 5)
five_escapes =
    let move : PlainMove = record { time = whole (pos 4); to = (on_at 9).at } in (
      move ∷ [],
      record {
        play = record { start = five_is_safe.state; play = (heats, heats.to_in) };
        ends = inl (nine_is_state, nine_is_unsafe);
        earlier = earlier_one (λ x. MayPass thermostat (IsSafe thermostat) (Back thermostat (IsSafe thermostat)) (moved_to (on_at 5) x)) (on_at 5).at move
            (λ p i less. inr (λ b. not_back_above (IsSafe thermostat) _ (way_above p i) b.0 b.1));
      },
    )

-- the thermostat
pub heater : ThermostatFacts
heater = record {
  safe = five_is_safe;
  state = nine_is_state;
  unsafe_one = nine_is_unsafe;
  no_state = eleven_is_no_state;
  switch = switch_off;
  no_switch = no_switch_above (whole (pos 5)) four_five;
  back = four_in_back;
  kept = (four_is_safe, λ h. four_stays h.0 h.1);
  escape = five_escapes;
  removed = record { round = zero; number = refl; kept = five_is_safe; gone = λ later. later.1 five_escapes };
}

-- the low levels are the safe states of the tank
low_is_safe : (loc : ℕ) (at : PlainPoint) → InRegion tank low_levels (record { loc = loc; at = at }) ↔ IsSafe tank (record { loc = loc; at = at })
low_is_safe zero at = (λ h. record { state = h.state; safe = h.some }, λ h. record { state = h.state; some = h.safe })
low_is_safe (suc loc) at = (λ h. absurd h.state.inside, λ h. absurd h.state.inside)

-- the tank
pub level : TankFacts
level = record { still = (refl, tt); no_switch = refl; solved = still_solves tank (refl, tt) refl low_levels [] (λ s. low_is_safe s.loc s.at) }
