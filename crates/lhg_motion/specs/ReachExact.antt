-- Why does the calculus of reach find exactly the points that have a play, in few layers?
use Rattle.std.specs.Prelude.{◌≡◌, ◌↔◌, ◌≤◌, ◌*◌, ℕ, zero, suc, Bool, true, false, cond, ◌||◌, List, [], ◌∷◌, ◌++◌, length, map}
use Rattle.std.proofs.Common.{refl, sym, ap, ◌∙◌, arith, append-nil}
use Rattle.std.proofs.lemmas.List.{length-map}
use Rattle.lhg_math.specs.Tests.{false_true}
use Rattle.lhg_num.specs.Arithmetic.{Arithmetic}
use Rattle.lhg_num.specs.Marked.{Marked, done}
use Rattle.lhg_row.specs.Row.{PlainPoint}
use Rattle.lhg_row.specs.Piece.{PlainPiece, InSome}
use Rattle.lhg_row.specs.Lists.{is_past_list}
use Rattle.lhg_motion.specs.Reach.{HasPlay, IsSettled}
use Rattle.lhg_motion.specs.Found.{PlainFound, PlainReached, pieces_of, EachNamed}
use Rattle.lhg_motion.specs.Reached.{AreInLayers}
use Rattle.lhg_motion.specs.ReachCalculus.{layer_of, with_layer, go_on, reach_within, layer_limit, none_reached, reach}
use Rattle.lhg_motion.specs.StepLemmas.{named_steps}
use Rattle.lhg_motion.specs.ReachSound.{reach_sound}
use Rattle.lhg_motion.specs.ReachWhole.{reach_whole}
use Rattle.lhg_motion.specs.LayerLaws.{layers_few}
use Rattle.lhg_row.specs.ListLimits.{within-part}

-- where each found piece names a crossing and a further layer adds nothing, a point is in a bad or found piece exactly where it has a play
pub exact_of : (n : ℕ) (bad near : List PlainPiece) (flow : PlainPiece) (fs : List PlainFound) → EachNamed n near (bad ++ near) bad flow fs → IsSettled n near (bad ++ near) (bad ++ pieces_of fs) flow
    → (x : PlainPoint) → length x ≡ n → InSome (bad ++ pieces_of fs) x ↔ HasPlay bad near flow x
exact_of n bad near flow fs named settled x e =
    (reach_sound n bad near (pieces_of fs) flow (named_steps n near (bad ++ near) bad flow fs named) x e, reach_whole n bad near (pieces_of fs) flow settled x e)

-- there are at most two layers for each bad or near piece
pub few_of : (n : ℕ) (bad near : List PlainPiece) (flow : PlainPiece) (r : PlainReached) → AreInLayers n bad near flow r → r.layers ≤ 2 * length (bad ++ near)
few_of n bad near flow r h =
    let few = layers_few n bad near flow (map pieces_of h.lists) h.layers in
    let many = h.many in
    omega (arith, length-map h.lists pieces_of)

-- ---- where the mark of lists of pieces is not set
false_parts : (b c : Bool) → (b || c) ≡ false → (b ≡ false) × (c ≡ false)
false_parts true c h = false_true (sym h)
false_parts false c h = (refl, h)

module _ (a : Arithmetic) (n : ℕ) (bad near ways : List PlainPiece) (flow : PlainPiece) where
  -- the list of what is found is not past its limit
  abbrev Within : PlainReached → Type 0
  Within r = is_past_list (bad ++ pieces_of r.found) ≡ false

  -- past the limit the mark is set
  limited : (next : PlainReached) (on : Marked PlainReached) (b : Bool) → is_past_list (bad ++ pieces_of next.found) ≡ b → b ≡ false → (on.pieces ≡ false → Within on.value) → (cond b (done next) on).pieces ≡ false → Within (cond b (done next) on).value
  limited next on true e f k h = false_true (sym f)
  limited next on false e f k h = k h

  -- after a layer
  go_on-within : (so_far : PlainReached) (new : List PlainFound) (on : Marked PlainReached) → Within so_far → (Within (with_layer so_far new) → on.pieces ≡ false → Within on.value) → (go_on bad so_far new on).pieces ≡ false → Within (go_on bad so_far new on).value
  go_on-within so_far [] on w k h = w
  go_on-within so_far (f ∷ fs) on w k h =
      let next = with_layer so_far (f ∷ fs) in
      let past = is_past_list (bad ++ pieces_of next.found) in
      let s = false_parts past (cond past (done next) on).pieces h in
      limited next on past refl s.0 (k s.0) s.1

  -- after all layers
  pub within-unmarked : (fuel : ℕ) (so_far : PlainReached) → Within so_far → (reach_within fuel a n flow bad near ways so_far).pieces ≡ false → Within (reach_within fuel a n flow bad near ways so_far).value
  within-unmarked zero so_far w h = w
  within-unmarked (suc fuel) so_far w h =
      let l = layer_of a n flow near ways (bad ++ pieces_of so_far.found) (suc so_far.layers) in
      let on = reach_within fuel a n flow bad near ways (with_layer so_far l.value) in
      go_on-within so_far l.value on w (λ v k. within-unmarked fuel (with_layer so_far l.value) v k) (false_parts l.pieces (go_on bad so_far l.value on).pieces h).1

-- where no list of pieces is past its limit, that of what is found is not
pub unmarked-within : (a : Arithmetic) (n : ℕ) (bad near : List PlainPiece) (flow : PlainPiece) → (reach a n bad near flow).pieces ≡ false → is_past_list (bad ++ pieces_of (reach a n bad near flow).value.found) ≡ false
unfolding reach
unmarked-within a n bad near flow h =
    let s = false_parts (is_past_list (bad ++ near)) (reach_within layer_limit a n flow bad near (bad ++ near) none_reached).pieces h in
    let start : is_past_list (bad ++ []) ≡ false = ap is_past_list (append-nil bad) ∙ within-part bad near s.0 in
    within-unmarked a n bad near (bad ++ near) flow layer_limit none_reached start s.1
