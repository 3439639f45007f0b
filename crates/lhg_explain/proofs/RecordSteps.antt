-- The step that is found from a state of a sound record is the move that the record names.
use Rattle.std.proofs.Common.{◌≡◌, ◌+◌, ℕ, zero, suc, true, List, [], ◌∷◌, length, slice_get, Option, Some, None, IsSomeAnd, refl, sym, ap, ◌∙◌, inl, inr, subst}
use Rattle.lhg_math.specs.Number.{Number, lt, nought, unit}
use Rattle.lhg_math.specs.NumberOrder.{lt_antisymm, nought_unit}
use Rattle.lhg_math.specs.Places.{IsPlace, IsInner}
use Rattle.lhg_math.specs.PlacesLaws.{start_place}
use Rattle.lhg_math.specs.Tests.{AllOf, by_bool}
use Rattle.lhg_row.specs.Row.{PlainPoint}
use Rattle.lhg_row.specs.Piece.{PlainPiece, InPiece}
use Rattle.lhg_row.specs.Width.{AllWide}
use Rattle.lhg_motion.specs.Segment.{along}
use Rattle.lhg_motion.specs.SegmentLemmas.{along_start}
use Rattle.lhg_motion.specs.Flow.{IsFlow}
use Rattle.lhg_motion.specs.Play.{PlainMove}
use Rattle.lhg_motion.specs.PlayLemmas.{one_earlier}
use Rattle.lhg_motion.specs.Crossing.{HasCrossing}
use Rattle.lhg_plant.specs.Plant.{PlainPlant, PlainLocation, PlainSwitch}
use Rattle.lhg_plant.specs.Proper.{IsLocation, IsSwitch, IsProper}
use Rattle.lhg_plant.specs.State.{PlainState, States, IsState, moved_to}
use Rattle.lhg_plant.specs.Legal.{LegalFlow, LegalSwitch}
use Rattle.lhg_plant.specs.OutBack.{Back}
use Rattle.lhg_plant.specs.Escape.{MayPass}
use Rattle.lhg_plant.specs.Loss.{PlainCause, by_env, by_leave, by_flow, PlainLoss, InPieceAt, InLoss, HasMove, HasFlowTo}
use Rattle.lhg_plant.specs.Sound.{IsInside, HasFlowThrough, AllMayPass, ShowsEnv}
use Rattle.lhg_plant.specs.Run.{state_along}
use Rattle.lhg_plant.proofs.Options.{some_out, some_there}
use Rattle.lhg_plant.proofs.RunInside.{flow_length, along_state}
use Rattle.lhg_loss.specs.Explanation.{flow_rows, flow_by, result_from}
use Rattle.lhg_explain.proofs.FlowRows.{IsCrossingTo}
use Rattle.lhg_explain.proofs.FlowPoints.{flow_from-crosses}
use Rattle.lhg_loss.specs.Results.{IsResultIn}
use Rattle.lhg_explain.proofs.SamplePoints.{result_from-in}

-- ---- widths
-- the flow rows of a location that may not be there
pub flow_rows-wide : (n : ℕ) (locs : List PlainLocation) (l : ℕ) → AllOf (IsLocation n) locs → AllWide n (flow_rows (slice_get locs l))
flow_rows-wide n [] l h = tt
flow_rows-wide n (x ∷ locs) zero h = h.0.flow.wide
flow_rows-wide n (x ∷ locs) (suc l) h = flow_rows-wide n locs l h.1

-- the jump rows of a switch that is there
pub jump-wide : (n m : ℕ) (switches : List PlainSwitch) (e : ℕ) (w : PlainSwitch) → AllOf (IsSwitch n m) switches → slice_get switches e ≡ Some w → AllWide (n + n) w.jump
jump-wide n m [] e w h there = cc
jump-wide n m (x ∷ switches) zero w h there = let same : x ≡ w = cc in subst (λ (v : PlainSwitch). AllWide (n + n) v.jump) same h.0.jump.wide
jump-wide n m (x ∷ switches) (suc e) w h there = jump-wide n m switches e w h.1 there

-- ---- flows
-- a flow of a location is one of its flow rows alone
speed_part : (o : Option PlainLocation) (x y : PlainPoint) (t : Number) → IsSomeAnd o (λ l. IsFlow l.inv l.flow x t y) → IsFlow [] (flow_rows o) x t y
speed_part None x y t h = absurd h
speed_part (Some l) x y t h =
    record { takes_time = h.takes_time; from_in = tt; to_in = tt; same_length = h.same_length; speed = h.speed; slope = h.slope; allowed = h.allowed }

-- a flow of its flow rows, with both ends in its invariant, is one of the location
whole_flow : (o : Option PlainLocation) (x y : PlainPoint) (t : Number) → IsSomeAnd o (λ l. InPiece l.inv x) → IsSomeAnd o (λ l. InPiece l.inv y) → IsFlow [] (flow_rows o) x t y
    → IsSomeAnd o (λ l. IsFlow l.inv l.flow x t y)
whole_flow None x y t h k f = h
whole_flow (Some l) x y t h k f =
    record { takes_time = f.takes_time; from_in = h; to_in = k; same_length = f.same_length; speed = f.speed; slope = f.slope; allowed = f.allowed }

-- an escape may pass the states of a flow that lead from such a state through such states
pub passes_flow : (a : PlainPlant) (S : States) (loc : ℕ) (through : PlainPiece) (s : PlainState) (t : Number) (y : PlainPoint) → s.loc ≡ loc → MayPass a S (Back a S) s → AllMayPass a S loc through → LegalFlow a s t y
    → ((p : Number) → IsInner p → InPiece through (along s.at y p)) → (p : Number) → IsPlace p → lt p unit ≡ true → MayPass a S (Back a S) (moved_to s (along s.at y p))
passes_flow a S loc through s t y here may passed legal inner p i l =
    by_bool (lt nought p)
    (λ e.
    let within : IsInner p = record { above = e; below = l } in
    passed (state_along s y p) (record { state = along_state a s t y p legal i; here = here; inside = inner p within }))
    (λ e.
    let same : s ≡ state_along s y p = ap (λ w. moved_to s w) (sym (along_start s.at y (flow_length a s t y legal))) ∙ ap (λ w. state_along s y w) (lt_antisymm nought p e i.from) in
    subst (λ (w : PlainState). MayPass a S (Back a S) w) same may)

module _ (a : PlainPlant) (proper : IsProper a) (r : PlainLoss) (s : PlainState) (k : InLoss a r s) (through into : PlainPiece)
    (ws : AllWide (length a.vars) r.piece) (wt : AllWide (length a.vars) through) (wi : AllWide (length a.vars) into) where
  -- the flow rows of the record's location
  abbrev pub speeds : PlainPiece
  speeds = flow_rows (slice_get a.locs r.loc)

  pub speeds-wide : AllWide (length a.vars) speeds
  speeds-wide = flow_rows-wide (length a.vars) a.locs r.loc proper.locs

  -- a flow through the one piece and into the other is a crossing
  pub crosses : HasFlowThrough a through (InPieceAt a r.loc into) s → HasCrossing r.piece through into speeds s.at
  crosses f = record {
    from_in = k.inside;
    time = f.move.time;
    to = f.move.to;
    into_in = f.ends.inside;
    legal = subst (λ (l : ℕ). IsFlow [] (flow_rows (slice_get a.locs l)) s.at f.move.time f.move.to) k.here (speed_part (slice_get a.locs s.loc) s.at f.move.to f.move.time f.legal.flow);
    passes = f.inner;
  }

  -- the flow that is found
  abbrev found : PlainMove
  found = (flow_by a r s.at through into).value

  found-crosses : HasFlowThrough a through (InPieceAt a r.loc into) s → IsCrossingTo through into speeds s.at found.time found.to
  found-crosses f = flow_from-crosses (length a.vars) r.piece through into speeds ws wt wi speeds-wide s.at k.state.fits (crosses f)

  -- its end is in the other piece
  pub found-ends : IsInside a r.loc into → HasFlowThrough a through (InPieceAt a r.loc into) s → InPieceAt a r.loc into (moved_to s found.to)
  found-ends inside f =
      let c = found-crosses f in
      let long : length found.to ≡ length a.vars = sym c.legal.same_length ∙ k.state.fits in
      record {
        state = subst (λ (l : ℕ). IsState a (record { loc = l; at = found.to })) (sym k.here) (inside found.to long c.into_in);
        here = k.here;
        inside = c.into_in;
      }

  -- it is legal
  pub found-legal : IsInside a r.loc into → HasFlowThrough a through (InPieceAt a r.loc into) s → LegalFlow a s found.time found.to
  found-legal inside f =
      let speed = subst (λ (l : ℕ). IsFlow [] (flow_rows (slice_get a.locs l)) s.at found.time found.to) (sym k.here) (found-crosses f).legal in
      record { start = k.state; flow = whole_flow (slice_get a.locs s.loc) s.at found.to found.time k.state.inside (found-ends inside f).state.inside speed }

  -- its points strictly between the ends are in the one piece
  pub found-inner : HasFlowThrough a through (InPieceAt a r.loc into) s → (p : Number) → IsInner p → InPiece through (along s.at found.to p)
  found-inner f = (found-crosses f).passes

-- ---- switches
module _ (a : PlainPlant) (proper : IsProper a) (S : States) (r : PlainLoss) (e : ℕ) (into : PlainPiece) (shows : ShowsEnv a S r e into) (wi : AllWide (length a.vars) into) (s : PlainState) (k : InLoss a r s) where
  -- the switch, and a result in the piece
  abbrev known : (z : PlainState) × LegalSwitch a e s z × InPieceAt a shows.target into z
  known = shows.result s k

  abbrev pub taken : PlainSwitch
  taken = known.1.switch

  pub taken-there : slice_get a.switches e ≡ Some taken
  taken-there = known.1.is_there

  pub known-in : IsResultIn (length a.vars) taken.jump s.at into known.0.at
  known-in = record { wide = known.1.result.fits; jumps = known.1.jump; inside = known.2.inside }

  pub taken-wide : AllWide (length a.vars + length a.vars) taken.jump
  taken-wide = jump-wide (length a.vars) (length a.locs) a.switches e taken proper.switches taken-there

  -- the result that is found
  abbrev pub reached : PlainState
  reached = record { loc = taken.to; at = (result_from (length a.vars) taken.jump s.at into).value }

  reached-in : IsResultIn (length a.vars) taken.jump s.at into reached.at
  reached-in = result_from-in (length a.vars) taken.jump s.at into k.state.fits taken-wide wi known.0.at known-in

  target_is : taken.to ≡ shows.target
  target_is = some_there (slice_get a.switches e) taken (λ w. w.to ≡ shows.target) taken-there shows.enters

  reached-state : IsState a reached
  reached-state = subst (λ (l : ℕ). IsState a (record { loc = l; at = reached.at })) (sym target_is) (shows.inside reached.at reached-in.wide reached-in.inside)

  pub reached-legal : LegalSwitch a e s reached
  reached-legal = record { switch = taken; is_there = taken-there; leaves = known.1.leaves; enters = refl; start = k.state; result = reached-state; jump = reached-in.jumps }

  pub reached-gone : ¬ S reached
  reached-gone = shows.missed reached (record { state = reached-state; here = target_is; inside = reached-in.inside })

-- ---- states of a record
-- an escape may pass the start of a flow that one may take
flow_may : (a : PlainPlant) (S target : States) (s : PlainState) → HasFlowTo a S target s → MayPass a S (Back a S) s
flow_may a S target s h =
    let same = some_out _ _ (λ (l : PlainLocation) f. f.0.same_length) (slice_get a.locs s.loc) h.legal.play in
    subst (λ (x : PlainPoint). MayPass a S (Back a S) (moved_to s x)) (along_start s.at h.move.to same) (one_earlier (λ p. MayPass a S (Back a S) (moved_to s p)) s.at h.move h.earlier nought start_place nought_unit)

-- an escape may pass each state that has the move of a record
pub move_may : (a : PlainPlant) (S : States) (losses : List PlainLoss) (loss : PlainLoss) (cause : PlainCause) (s : PlainState) → HasMove a S losses loss cause s → MayPass a S (Back a S) s
move_may a S losses loss (by_env e into) s h = inl (inr (record { number = e; result = h.result; side = h.side; legal = h.legal; gone = h.gone }))
move_may a S losses loss (by_leave through into) s h = flow_may a S _ s h
move_may a S losses loss (by_flow m through) s h = flow_may a S _ s h.2
