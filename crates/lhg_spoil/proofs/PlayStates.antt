-- The states and the flows of a play.
use Rattle.std.proofs.Common.{◌≡◌, ◌<◌, ℕ, zero, suc, Bool, true, false, cond, List, [], ◌∷◌, ◌++◌, length, slice_get, Option, Some, None, refl, sym, ap, ◌∙◌, subst, arith}
use Rattle.lhg_math.specs.Number.{Number, mul, lt, nought, unit}
use Rattle.lhg_math.specs.NumberOrder.{lt_asym, lt_antisymm}
use Rattle.lhg_math.specs.Places.{IsPlace}
use Rattle.lhg_math.specs.Tests.{AllOf, by_bool}
use Rattle.lhg_motion.specs.Segment.{along}
use Rattle.lhg_motion.specs.SegmentLemmas.{along_start}
use Rattle.lhg_motion.specs.Join.{flow_upto}
use Rattle.lhg_motion.specs.Play.{PlainMove, last_point, point_of}
use Rattle.lhg_plant.specs.Plant.{PlainPlant}
use Rattle.lhg_plant.specs.State.{PlainState, IsState, moved_to}
use Rattle.lhg_plant.specs.Legal.{LegalFlow, IsPlayFrom}
use Rattle.lhg_plant.specs.SpoilSteps.{PlainSpoilStep, ranked, run_on, acted, landed_at, preempted, AreLegalFrom}
use Rattle.lhg_plant.proofs.Options.{some_weaken}
use Rattle.lhg_plant.proofs.RunInside.{flow_length, along_state}
use Rattle.lhg_spoil.specs.Exchange.{run_upto, run_whole}

-- a place before the end
pub inner_place : (q : Number) → lt q nought ≡ false → lt q unit ≡ true → IsPlace q
inner_place q from before = record { from = from; upto = lt_asym q unit before }

module _ (a : PlainPlant) where
  -- the first flow of a play is legal
  pub first_flow : (s : PlainState) (m : PlainMove) (ms : List PlainMove) → IsPlayFrom a s (m ∷ ms) → LegalFlow a s m.time m.to
  first_flow s m ms h = record { start = h.start; flow = some_weaken _ _ (λ l f. f.0) (slice_get a.locs s.loc) h.play }

  -- the further ones are a play from its end
  pub rest_play : (s : PlainState) (m : PlainMove) (ms : List PlainMove) → IsPlayFrom a s (m ∷ ms) → IsPlayFrom a (moved_to s m.to) ms
  rest_play s m ms h = record {
    start = record {
      fits = sym (flow_length a s m.time m.to (first_flow s m ms h)) ∙ h.start.fits;
      inside = some_weaken _ _ (λ l f. f.0.to_in) (slice_get a.locs s.loc) h.play;
    };
    play = some_weaken _ _ (λ l f. f.1) (slice_get a.locs s.loc) h.play;
  }

  -- the end of each flow has as many coordinates as the start
  pub play_lengths : (s : PlainState) (moves : List PlainMove) → IsPlayFrom a s moves → AllOf (λ m. length m.to ≡ length s.at) moves
  play_lengths s [] h = tt
  play_lengths s (m ∷ ms) h =
      let e : length m.to ≡ length s.at = sym (flow_length a s m.time m.to (first_flow s m ms h)) in
      (e, subst (λ (n : ℕ). AllOf (λ (x : PlainMove). length x.to ≡ n) ms) e (play_lengths (moved_to s m.to) ms (rest_play s m ms h)))

  -- each place of a play is one of a state
  pub play_state : (s : PlainState) (moves : List PlainMove) (k : ℕ) (q : Number) → IsPlayFrom a s moves → k < length moves → IsPlace q
      → IsState a (moved_to s (point_of s.at moves k q))
  play_state s [] k q h less i = absurd (omega arith)
  play_state s (m ∷ ms) zero q h less i = along_state a s m.time m.to q (first_flow s m ms h) i
  play_state s (m ∷ ms) (suc k) q h less i = play_state (moved_to s m.to) ms k q (rest_play s m ms h) (omega arith) i

  -- a part of a legal flow from its start is legal
  part_flow : (s : PlainState) (m : PlainMove) (q : Number) → LegalFlow a s m.time m.to → IsPlace q → lt nought q ≡ true
      → LegalFlow a s (mul q m.time) (along s.at m.to q)
  part_flow s m q h i past = record { start = h.start; flow = some_weaken _ _ (λ l f. flow_upto l.inv l.flow s.at m.to m.time q f i past) (slice_get a.locs s.loc) h.flow }

  -- the steps of a whole play are legal
  pub whole_legal : (s : PlainState) (moves : List PlainMove) → IsPlayFrom a s moves → AreLegalFrom a s None (run_whole moves) (moved_to s (last_point s.at moves))
  whole_legal s [] h = refl
  whole_legal s (m ∷ ms) h = (first_flow s m ms h, whole_legal (moved_to s m.to) ms (rest_play s m ms h))

  -- and so are those of a play as far as a place
  pub upto_legal : (s : PlainState) (moves : List PlainMove) (k : ℕ) (q : Number) → IsPlayFrom a s moves → k < length moves → lt q nought ≡ false → lt q unit ≡ true
      → AreLegalFrom a s None (run_upto s.at moves k q) (moved_to s (point_of s.at moves k q))
  upto_legal s [] k q h less from before = absurd (omega arith)
  upto_legal s (m ∷ ms) (suc k) q h less from before =
      (first_flow s m ms h, upto_legal (moved_to s m.to) ms k q (rest_play s m ms h) (omega arith) from before)
  upto_legal s (m ∷ ms) zero q h less from before =
      let f = first_flow s m ms h in
      let part : List PlainSpoilStep = run_on (mul q m.time) (along s.at m.to q) ∷ [] in
      let there = moved_to s (along s.at m.to q) in
      by_bool (lt nought q)
      (λ e. subst (λ (b : Bool). AreLegalFrom a s None (cond b part []) there) (sym e) (part_flow s m q f (inner_place q from before) e, refl))
      (λ e.
      let same : q ≡ nought = sym (lt_antisymm nought q e from) in
      let stays : there ≡ s = ap (λ w. moved_to s (along s.at m.to w)) same ∙ ap (λ w. moved_to s w) (along_start s.at m.to (flow_length a s m.time m.to f)) in
      subst (λ (b : Bool). AreLegalFrom a s None (cond b part []) there) (sym e) stays)

-- legal steps after legal steps are legal
pub legal_append : (a : PlainPlant) (s : PlainState) (o : Option ℕ) (xs ys : List PlainSpoilStep) (mid last : PlainState) → AreLegalFrom a s o xs mid
    → AreLegalFrom a mid None ys last → AreLegalFrom a s o (xs ++ ys) last
legal_append a s None [] ys mid last h k = subst (λ (z : PlainState). AreLegalFrom a z None ys last) h k
legal_append a s None (ranked i ∷ xs) ys mid last h k = (h.0, legal_append a s None xs ys mid last h.1 k)
legal_append a s None (run_on t y ∷ xs) ys mid last h k = (h.0, legal_append a (moved_to s y) None xs ys mid last h.1 k)
legal_append a s None (acted e ∷ xs) ys mid last h k = (h.0, legal_append a s (Some e) xs ys mid last h.1 k)
legal_append a s None (landed_at z ∷ xs) ys mid last h k = absurd h
legal_append a s None (preempted e z ∷ xs) ys mid last h k = (h.0, h.1, legal_append a z None xs ys mid last h.2 k)
legal_append a s (Some d) [] ys mid last h k = absurd h
legal_append a s (Some d) (ranked i ∷ xs) ys mid last h k = absurd h
legal_append a s (Some d) (run_on t y ∷ xs) ys mid last h k = absurd h
legal_append a s (Some d) (acted e ∷ xs) ys mid last h k = absurd h
legal_append a s (Some d) (landed_at z ∷ xs) ys mid last h k = (h.0, legal_append a z None xs ys mid last h.1 k)
legal_append a s (Some d) (preempted e z ∷ xs) ys mid last h k = absurd h
