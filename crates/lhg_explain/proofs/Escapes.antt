-- The explanation of a state that a record holds is an escape: by induction over the numbers of the records.
use Rattle.std.proofs.Common.{◌≡◌, ◌≤◌, ℕ, zero, suc, true, List, [], ◌∷◌, length, slice_get, Option, Some, None, IsSomeAnd, refl, sym, ap, ◌∙◌, inl, inr, subst, arith}
use Rattle.lhg_math.specs.Number.{Number, lt, unit}
use Rattle.lhg_math.specs.NumberOrder.{lt_antisymm}
use Rattle.lhg_math.specs.Places.{IsPlace}
use Rattle.lhg_math.specs.Tests.{by_bool}
use Rattle.lhg_num.specs.Marked.{and_then}
use Rattle.lhg_row.specs.Row.{PlainPoint}
use Rattle.lhg_row.specs.Piece.{PlainPiece}
use Rattle.lhg_motion.specs.Segment.{along}
use Rattle.lhg_motion.specs.SegmentLemmas.{along_end}
use Rattle.lhg_motion.specs.Flow.{IsFlow}
use Rattle.lhg_motion.specs.Play.{PlainMove, IsPlay, last_point, EachEarlier}
use Rattle.lhg_motion.specs.PlayLemmas.{earlier_none, earlier_one, earlier_more}
use Rattle.lhg_plant.specs.Plant.{PlainPlant, PlainLocation, PlainSwitch}
use Rattle.lhg_plant.specs.Proper.{IsProper}
use Rattle.lhg_plant.specs.State.{PlainState, States, moved_to}
use Rattle.lhg_plant.specs.OutBack.{Back}
use Rattle.lhg_plant.specs.Escape.{MayPass, IsEscape}
use Rattle.lhg_plant.specs.Round.{InRound}
use Rattle.lhg_plant.specs.Loss.{PlainCause, by_env, by_leave, by_flow, PlainLoss, InPieceAt, InLoss}
use Rattle.lhg_plant.specs.Sound.{IsInside, Shows, ShowsEnv, ShowsLeave, ShowsFlow}
use Rattle.lhg_plant.proofs.Losses.{loss_named}
use Rattle.lhg_plant.proofs.RunInside.{flow_length}
use Rattle.lhg_plant.specs.Explained.{PlainWay}
use Rattle.lhg_loss.specs.Explanation.{loss_at, flow_by, switch_by, next_by, way_by, way_within, explanation}
use Rattle.lhg_loss.specs.ExplainFacts.{IsWideCause, IsWideLoss, AreRecords, ExplainLaw}
use Rattle.lhg_plant.specs.Explained.{IsLeft}
use Rattle.lhg_explain.proofs.HeldRecords.{sound_at, wide_at, earlier_at, earlier-flow, record_at}
use Rattle.lhg_explain.proofs.RecordSteps.{passes_flow, found-ends, found-legal, found-inner, taken-there, reached, reached-legal, reached-gone, move_may}

-- ---- plays
-- a flow before a play, where what holds of the flow up to its end and of its end holds of each earlier point
earlier_before : (P : PlainPoint → Type 0) (x : PlainPoint) (m : PlainMove) (ms : List PlainMove) → length x ≡ length m.to → ((p : Number) → IsPlace p → lt p unit ≡ true → P (along x m.to p)) → P m.to
    → EachEarlier P m.to ms → EachEarlier P x (m ∷ ms)
earlier_before P x m [] e h k r = earlier_one P x m h
earlier_before P x m (n ∷ ms) e h k r =
    earlier_more P x m n ms
    (λ p i. by_bool (lt p unit) (h p i) (λ f. subst (λ (w : PlainPoint). P w) (sym (ap (λ w. along x m.to w) (lt_antisymm p unit f i.upto) ∙ along_end x m.to e)) k))
    r

-- a flow of a location before a play of it
flow_before : (o : Option PlainLocation) (x : PlainPoint) (m : PlainMove) (ms : List PlainMove) → IsSomeAnd o (λ l. IsFlow l.inv l.flow x m.time m.to) → IsSomeAnd o (λ l. IsPlay l.inv l.flow m.to ms)
    → IsSomeAnd o (λ l. IsPlay l.inv l.flow x (m ∷ ms))
flow_before None x m ms h k = h
flow_before (Some l) x m ms h k = (h, k)

-- ---- ways
-- the way is an escape from the set past its Back, and an escape may pass its start
record IsWayOut (a : PlainPlant) (S : States) (s : PlainState) (way : PlainWay) : Type 0 where
  may : MayPass a S (Back a S) s
  escape : IsEscape a S (Back a S) s way.moves
  left : IsLeft a S (moved_to s (last_point s.at way.moves)) way.last

module _ (a : PlainPlant) (proper : IsProper a) (losses : List PlainLoss) (h : AreRecords a losses) (i : ℕ) where
  abbrev S : States
  S = InRound a i

  -- ways from the states of records up to a number
  abbrev WaysTo : ℕ → Type 0
  WaysTo left = (k : ℕ) (r : PlainLoss) → slice_get losses k ≡ Some r → r.number ≤ left → r.round ≡ suc i → (s : PlainState) → InLoss a r s → IsWayOut a S s (way_within left a losses r s.at).value

  module _ (left : ℕ) (further : WaysTo left) (r : PlainLoss) (low : r.number ≤ suc left) (round_is : r.round ≡ suc i) (w : IsWideLoss (length a.vars) r) (s : PlainState) (t : InLoss a r s) (may : MayPass a S (Back a S) s) where
    -- by a switch that leads out
    by_switch : (e : ℕ) (into : PlainPiece) → IsWideCause (length a.vars) (by_env e into) → ShowsEnv a S r e into
        → IsWayOut a S s (and_then (switch_by (length a.vars) e s.at into (slice_get a.switches e)) (way_by losses (way_within left a losses))).value
    by_switch e into wi shows =
        let there = taken-there a proper S r e into shows wi s t in
        let legal = reached-legal a proper S r e into shows wi s t in
        let gone = reached-gone a proper S r e into shows wi s t in
        subst (λ (o : Option PlainSwitch). IsWayOut a S s (and_then (switch_by (length a.vars) e s.at into o) (way_by losses (way_within left a losses))).value) (sym there)
        (record {
          may = may;
          escape = record {
            play = record { start = t.state; play = t.state.inside };
            ends = inr (record { number = e; result = reached a proper S r e into shows wi s t; side = shows.side; legal = legal; gone = gone });
            earlier = earlier_none (λ p. MayPass a S (Back a S) (moved_to s p)) s.at;
          };
          left = (shows.side, legal, gone);
        })

    -- by a flow that leads out
    by_flow_out : (through into : PlainPiece) → IsWideCause (length a.vars) (by_leave through into) → ShowsLeave a S r through into
        → IsWayOut a S s (and_then (next_by a losses r s.at (by_leave through into)) (way_by losses (way_within left a losses))).value
    by_flow_out through into v shows =
        let f = shows.flow s t in
        let move = (flow_by a r s.at through into).value in
        let ends = found-ends a proper r s t through into w.piece v.0 v.1 shows.into_inside f in
        let legal = found-legal a proper r s t through into w.piece v.0 v.1 shows.into_inside f in
        let inner = found-inner a proper r s t through into w.piece v.0 v.1 f in
        let gone = shows.missed (moved_to s move.to) ends in
        record {
          may = may;
          escape = record {
            play = record { start = t.state; play = flow_before (slice_get a.locs s.loc) s.at move [] legal.flow ends.state.inside };
            ends = inl (ends.state, gone);
            earlier = earlier_one (λ p. MayPass a S (Back a S) (moved_to s p)) s.at move (passes_flow a S r.loc through s move.time move.to t.here may shows.passed legal inner);
          };
          left = (ends.state, gone);
        }

    -- by a flow to a state of an earlier record
    by_flow_on : (m : ℕ) (through : PlainPiece) → IsWideCause (length a.vars) (by_flow m through) → ShowsFlow a S losses r m through
        → IsWayOut a S s (and_then (next_by a losses r s.at (by_flow m through)) (way_by losses (way_within left a losses))).value
    by_flow_on m through v shows =
        let g = earlier_at a losses h S r m through shows in
        let f = earlier-flow a losses h S r m through shows s t in
        let next = loss_at losses m in
        let round : next.round ≡ suc i = g.same_round ∙ round_is in
        let wide = wide_at a losses h g.index next g.is_there in
        let inside = subst (λ (l : ℕ). IsInside a l next.piece) g.same_loc (sound_at a losses h i g.index next g.is_there round).inside in
        let ends = found-ends a proper r s t through next.piece w.piece v wide.piece inside f in
        let legal = found-legal a proper r s t through next.piece w.piece v wide.piece inside f in
        let inner = found-inner a proper r s t through next.piece w.piece v wide.piece f in
        let less : next.number ≤ left = (let n = g.number in let k = g.smaller in omega arith) in
        let move = (flow_by a r s.at through next.piece).value in
        let rest = further g.index next g.is_there less round (moved_to s move.to) (subst (λ (l : ℕ). InPieceAt a l next.piece (moved_to s move.to)) (sym g.same_loc) ends) in
        let way = (way_within left a losses next move.to).value in
        record {
          may = may;
          escape = record {
            play = record { start = t.state; play = flow_before (slice_get a.locs s.loc) s.at move way.moves legal.flow rest.escape.play.play };
            ends = rest.escape.ends;
            earlier = earlier_before (λ p. MayPass a S (Back a S) (moved_to s p)) s.at move way.moves (flow_length a s move.time move.to legal) (passes_flow a S r.loc through s move.time move.to t.here may shows.passed legal inner) rest.may rest.escape.earlier;
          };
          left = rest.left;
        }

    -- by its cause
    by_cause : (c : PlainCause) → IsWideCause (length a.vars) c → Shows a S losses r c → IsWayOut a S s (and_then (next_by a losses r s.at c) (way_by losses (way_within left a losses))).value
    by_cause (by_env e into) v shows = by_switch e into v shows
    by_cause (by_leave through into) v shows = by_flow_out through into v shows
    by_cause (by_flow m through) v shows = by_flow_on m through v shows

  ways : (left : ℕ) → WaysTo left
  ways zero k r e low round s t = let c = h.counted k r e in absurd (omega arith)
  ways (suc left) k r e low round s t =
      let b = sound_at a losses h i k r e round in
      let w = wide_at a losses h k r e in
      by_cause left (ways left) r low round w s t (move_may a S losses r r.cause s (b.is_true.move s t)) r.cause w.cause b.shows

-- ---- explanations
-- what a record that holds the state explains
pub explain_law : (a : PlainPlant) → IsProper a → (losses : List PlainLoss) → ExplainLaw a losses
unfolding explanation
explain_law a proper losses h m s held =
    let at = record_at a losses h m s held in
    let r = loss_at losses m in
    let way = ways a proper losses h at.before m at.place r at.is_there (let n = at.number in omega arith) at.round s at.holds in
    record {
      starts = refl;
      removed = loss_named a losses r (record { round = at.before; number = at.round; true_between = at.sound.is_true }) s at.holds;
      before = at.before;
      number = at.round;
      escape = way.escape;
      left = way.left;
    }
