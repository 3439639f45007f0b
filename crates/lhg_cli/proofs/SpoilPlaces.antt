-- The places of the steps of exchanges are those of the plant, and their points have a value for each variable; moves that are read are not too many.
use Rattle.std.proofs.Common.{◌≡◌, ◌<◌, ◌≤◌, ◌^◌, ℕ, List, [], ◌∷◌, length, map, slice_get, Option, Some, None, inl, inr, refl, sym, ◌∙◌, ap, arith, length-append}
use Rattle.std.proofs.lemmas.List.{length-map}
use Rattle.lhg_lex.specs.LineTokens.{Spot}
use Rattle.lhg_lex.specs.Lines.{lines_of, most_bytes}
use Rattle.lhg_lex.proofs.LineCounts.{lines_count}
use Rattle.lhg_math.specs.Tests.{AllOf}
use Rattle.lhg_plant.specs.Plant.{PlainPlant}
use Rattle.lhg_plant.specs.SpoilSteps.{PlainSpoilStep, ranked, run_on, acted, landed_at, preempted, IsControllable, AreLegalFrom}
use Rattle.lhg_plant.specs.State.{PlainState}
use Rattle.lhg_plant.proofs.RunInside.{flow_length}
use Rattle.lhg_read.specs.Listed.{ListLine, item, end, said_items}
use Rattle.lhg_spoil.specs.Moves.{PlainCtlMove}
use Rattle.lhg_spoil.specs.MovesText.{move_in}
use Rattle.lhg_text.specs.SpoilText.{IsPlacedSpoilStep}
use Rattle.lhg_text.specs.TraceText.{IsPlacedState}
use Rattle.lhg_input.specs.Inputs.{IsSpoilInput}
use Rattle.lhg_cli.proofs.LogPlaces.{few_lines}
use Rattle.lhg_text.proofs.RecordPlaces.{there}
use Rattle.lhg_cli.proofs.Placed.{placed_state}
use Rattle.lhg_cli.proofs.StatePlaces.{state_place, state_fits}

-- ---- steps
-- a switch that the controller may take is there
act_there : (a : PlainPlant) (e : ℕ) → IsControllable a e → e < length a.switches
act_there a e (inl h) = there _ a.switches e (slice_get a.switches e) refl h
act_there a e (inr h) = there _ a.switches e (slice_get a.switches e) refl h

-- the steps of legal exchanges
pub legal_placed : (a : PlainPlant) (s : PlainState) (pending : Option ℕ) (steps : List PlainSpoilStep) (last : PlainState) → AreLegalFrom a s pending steps last → AllOf (IsPlacedSpoilStep a) steps
legal_placed a s None [] last h = tt
legal_placed a s None (ranked i ∷ steps) last h = (tt, legal_placed a s None steps last h.1)
legal_placed a s None (run_on t y ∷ steps) last h = (sym (flow_length a s t y h.0) ∙ h.0.start.fits, legal_placed a _ None steps last h.1)
legal_placed a s None (acted e ∷ steps) last h = (act_there a e h.0, legal_placed a s (Some e) steps last h.1)
legal_placed a s None (landed_at z ∷ steps) last h = absurd h
legal_placed a s None (preempted e z ∷ steps) last h = ((there _ a.switches e (slice_get a.switches e) refl h.0, placed_state a z h.1.result), legal_placed a z None steps last h.2)
legal_placed a s (Some e) [] last h = absurd h
legal_placed a s (Some e) (ranked i ∷ steps) last h = absurd h
legal_placed a s (Some e) (run_on t y ∷ steps) last h = absurd h
legal_placed a s (Some e) (acted d ∷ steps) last h = absurd h
legal_placed a s (Some e) (landed_at z ∷ steps) last h = (placed_state a z h.0.result, legal_placed a z None steps last h.1)
legal_placed a s (Some e) (preempted d z ∷ steps) last h = absurd h

-- ---- moves
moves_count : (a : PlainPlant) (lines : List (List Spot)) (moves : List PlainCtlMove) → map (move_in a) lines ≡ map (λ line. Some line) (said_items moves) → length moves ≤ length lines
moves_count a lines moves e =
    let left = length-map lines (move_in a) in
    let right = length-map (said_items moves) (λ (line : ListLine PlainCtlMove). Some line) in
    let many = length-append (map (λ (m : PlainCtlMove). item m) moves) (end ∷ []) in
    let each = length-map moves (λ (m : PlainCtlMove). item m) in
    let same = ap length e in
    omega (arith, left, right, many, each, same)

module _ (bytes : List ℕ) (a : PlainPlant) (z : PlainState) (moves : List PlainCtlMove) (h : IsSpoilInput (lines_of bytes) ((a, z), moves)) where
  pub moves_start : IsPlacedState a z
  moves_start = record { loc = state_place h.front a z h.first; fits = state_fits h.front a z h.first }

  pub moves_few : length bytes ≤ most_bytes → length moves < 2 ^ 32
  moves_few short =
      let few = moves_count a h.second.tokens moves h.second.is.are in
      let text = few_lines h.rest h.second.tokens h.second.are in
      let whole = ap length h.lines_are in
      let both = length-append h.front h.rest in
      let count = lines_count bytes in
      omega (arith, few, text, whole, both, count, short)
