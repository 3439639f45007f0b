-- The pieces of a loss record show its move, where an escape may pass each state of the record.
use Rattle.std.proofs.Common.{◌≡◌, ℕ, List, [], ◌∷◌, slice_get, sym, ap, ◌∙◌, subst}
use Rattle.lhg_math.specs.Number.{lt, nought}
use Rattle.lhg_math.specs.NumberOrder.{lt_antisymm}
use Rattle.lhg_math.specs.Places.{IsInner}
use Rattle.lhg_math.specs.Tests.{by_bool}
use Rattle.lhg_motion.specs.SegmentLemmas.{along_start}
use Rattle.lhg_row.specs.Piece.{PlainPiece}
use Rattle.lhg_motion.specs.Play.{PlainMove}
use Rattle.lhg_motion.specs.PlayLemmas.{earlier_one}
use Rattle.lhg_plant.specs.Plant.{PlainPlant}
use Rattle.lhg_plant.specs.State.{PlainState, IsState, moved_to}
use Rattle.lhg_plant.specs.Legal.{LegalFlow, IsPlayFrom}
use Rattle.lhg_plant.specs.OutBack.{Back}
use Rattle.lhg_plant.specs.Escape.{MayPass}
use Rattle.lhg_plant.specs.Round.{InRound, IsRemovedIn}
use Rattle.lhg_plant.specs.Loss.{PlainLoss, PlainCause, by_env, by_leave, by_flow, IsTrueLoss, InPieceAt, InLoss, HasMove, HasFlowTo}
use Rattle.lhg_plant.specs.Sound.{HasFlowThrough, AllMayPass, Shows}
use Rattle.lhg_plant.specs.Run.{state_along}
use Rattle.lhg_plant.proofs.Options.{some_weaken}
use Rattle.lhg_plant.proofs.RunInside.{flow_length, along_state}

-- a legal flow is a play of one flow
one_flow : (a : PlainPlant) (s : PlainState) (m : PlainMove) → LegalFlow a s m.time m.to → IsPlayFrom a s (m ∷ [])
one_flow a s m h = record { start = h.start; play = some_weaken _ _ (λ l f. (f, f.to_in)) (slice_get a.locs s.loc) h.flow }

-- a flow through states that an escape may pass, from such a state, is one that an escape may take
through_flow : (a : PlainPlant) (S target goal : PlainState → Type 0) (loc : ℕ) (through : PlainPiece) (s : PlainState) → s.loc ≡ loc
    → MayPass a S (Back a S) s → AllMayPass a S loc through
    → ((z : PlainState) → target z → goal z) → HasFlowThrough a through target s → HasFlowTo a S goal s
through_flow a S target goal loc through s here may passed weaker h = record {
  move = h.move;
  legal = one_flow a s h.move h.legal;
  ends = weaker _ h.ends;
  earlier = earlier_one (λ x. MayPass a S (Back a S) (moved_to s x)) s.at h.move
      (λ p i l. by_bool (lt nought p)
      (λ e.
      let inner : IsInner p = record { above = e; below = l } in
      passed (state_along s h.move.to p) (record { state = along_state a s h.move.time h.move.to p h.legal i; here = here; inside = h.inner p inner }))
      (λ e.
      let same : s ≡ state_along s h.move.to p = ap (λ w. moved_to s w) (sym (along_start s.at h.move.to (flow_length a s h.move.time h.move.to h.legal))) ∙ ap (λ w. state_along s h.move.to w) (lt_antisymm nought p e i.from) in
      subst (λ (w : PlainState). MayPass a S (Back a S) w) same may));
}

-- pieces that show a move have it, where an escape may pass each state of the record
pub shows_move : (a : PlainPlant) (S : PlainState → Type 0) (losses : List PlainLoss) (loss : PlainLoss) (cause : PlainCause)
    → ((s : PlainState) → InLoss a loss s → MayPass a S (Back a S) s)
    → Shows a S losses loss cause → (s : PlainState) → InLoss a loss s → HasMove a S losses loss cause s
shows_move a S losses loss (by_env e into) may shows s h =
    let r = shows.result s h in
    record { side = shows.side; result = r.0; legal = r.1; gone = shows.missed r.0 r.2 }
shows_move a S losses loss (by_leave through into) may shows s h =
    through_flow a S (InPieceAt a loss.loc into) (λ z. IsState a z × ¬ S z) loss.loc through s h.here (may s h) shows.passed (λ z k. (k.state, shows.missed z k)) (shows.flow s h)
shows_move a S losses loss (by_flow m through) may shows s h =
    (shows.earlier, shows.is_earlier, through_flow a S (InLoss a shows.earlier) (InLoss a shows.earlier) loss.loc through s h.here (may s h) shows.passed (λ z k. k) (shows.flow s h))

-- a true record names the round in which each of its states was removed
pub loss_named : (a : PlainPlant) (losses : List PlainLoss) (loss : PlainLoss) → IsTrueLoss a losses loss → (s : PlainState) → InLoss a loss s
    → IsRemovedIn a loss.round s
loss_named a losses loss h s k = record {
  round = h.round;
  number = h.number;
  kept = h.true_between.kept s k;
  gone = subst (λ (n : ℕ). ¬ InRound a n s) (sym h.number) (h.true_between.gone s k);
}
