-- What is known after some layers, and how many layers there are.
use Rattle.std.specs.Prelude.{◌≡◌, ◌⊎◌, ◌<◌, ◌≤◌, ◌+◌, ◌*◌, ℕ, zero, suc, List, [], ◌∷◌, ◌++◌, length}
use Rattle.std.proofs.Common.{sym, ◌∙◌, inl, inr, arith}
use Rattle.lhg_row.specs.Row.{PlainPoint}
use Rattle.lhg_row.specs.Piece.{PlainPiece, InSome}
use Rattle.lhg_motion.specs.Reach.{HasPlay, IsSettled, InLevel, IsLayer, AreLayers, all_known}
use Rattle.lhg_row.specs.SomeLists.{in_left, in_right, in_either}
use Rattle.lhg_motion.specs.StepLemmas.{step_to, to_step, steps_grow}
use Rattle.lhg_motion.specs.ReachSound.{level_play}
use Rattle.lhg_motion.specs.ReachWhole.{known_whole}
use Rattle.lhg_motion.specs.ReachBound.{level_bad, play_level}

-- levels grow
pub level_grows : (bad near : List PlainPiece) (flow : PlainPiece) (i j : ℕ) (x : PlainPoint) → i ≤ j → InLevel bad near flow i x → InLevel bad near flow j x
level_grows bad near flow zero j x h k = level_bad bad near flow j x k
level_grows bad near flow (suc i) zero x h k = absurd (omega arith)
level_grows bad near flow (suc i) (suc j) x h (inl k) = inl (level_grows bad near flow i j x (omega arith) k)
level_grows bad near flow (suc i) (suc j) x h (inr s) = inr (steps_grow near (bad ++ near) flow (λ y. InLevel bad near flow i y) (λ y. InLevel bad near flow j y) x (λ y e k. level_grows bad near flow i j y (omega arith) k) s)

-- of two numbers one is smaller, or not
at_least : (m n : ℕ) → m < n ⊎ n ≤ m
at_least zero zero = inr (omega arith)
at_least zero (suc n) = inl (omega arith)
at_least (suc m) zero = inr (omega arith)
at_least (suc m) (suc n) = elim (at_least m n) [ inl h ↦ inl (omega arith) | inr h ↦ inr (omega arith) ]

-- a level that adds a point is one of the first
pub level_counts : (bad near : List PlainPiece) (flow : PlainPiece) (n : ℕ) (x : PlainPoint) → InLevel bad near flow (suc n) x → ¬ InLevel bad near flow n x → n < 2 * length (bad ++ near)
level_counts bad near flow n x h k =
    elim (at_least n (2 * length (bad ++ near))) [
      | inl less ↦ less
      | inr more ↦ absurd (k (level_grows bad near flow (2 * length (bad ++ near)) n x more (play_level bad near flow x (level_play bad near flow (suc n) x h))))
    ]

-- the points known after i layers are those of level i
pub record KnowsLevel (d : ℕ) (bad near : List PlainPiece) (flow : PlainPiece) (i : ℕ) (known : List PlainPiece) : Type 0 where
  pub in_level : (x : PlainPoint) → length x ≡ d → InSome known x → InLevel bad near flow i x
  pub from_level : (x : PlainPoint) → length x ≡ d → InLevel bad near flow i x → InSome known x

-- after one layer more
layer_knows : (d : ℕ) (bad near : List PlainPiece) (flow : PlainPiece) (i : ℕ) (known layer : List PlainPiece) → KnowsLevel d bad near flow i known → IsLayer d near (bad ++ near) known flow layer → KnowsLevel d bad near flow (suc i) (known ++ layer)
layer_knows d bad near flow i known layer k l = record {
  in_level = λ x e h. elim (in_either known layer x h) [
    | inl j ↦ inl (k.in_level x e j)
    | inr j ↦ inr (steps_grow near (bad ++ near) flow (λ y. InSome known y) (λ y. InLevel bad near flow i y) x (λ y f. k.in_level y (sym f ∙ e)) (step_to near (bad ++ near) known flow x (l.crosses x e j)))
  ];
  from_level = λ x e h. elim h [
    | inl j ↦ in_left known layer x (k.from_level x e j)
    | inr s ↦ l.all x e (to_step near (bad ++ near) known flow x (steps_grow near (bad ++ near) flow (λ y. InLevel bad near flow i y) (λ y. InSome known y) x (λ y f. k.from_level y (sym f ∙ e)) s))
  ];
}

-- as many layers as levels
count_layers : (d : ℕ) (bad near : List PlainPiece) (flow : PlainPiece) (i : ℕ) (known : List PlainPiece) (layers : List (List PlainPiece)) → KnowsLevel d bad near flow i known → AreLayers d near (bad ++ near) known flow layers → i ≤ 2 * length (bad ++ near)
    → length layers + i ≤ 2 * length (bad ++ near)
count_layers d bad near flow i known [] k h b = omega arith
count_layers d bad near flow i known (l ∷ ls) k h b =
    let next = layer_knows d bad near flow i known l k h.0 in
    let less = level_counts bad near flow i h.0.new (next.in_level h.0.new h.0.new_fits (in_right known l h.0.new h.0.new_in)) (λ j. h.0.not_known (k.from_level h.0.new h.0.new_fits j)) in
    let c = count_layers d bad near flow (suc i) (known ++ l) ls next h.1 (omega arith) in
    omega arith

-- what the layers found has a play
layers_play : (d : ℕ) (bad near : List PlainPiece) (flow : PlainPiece) (i : ℕ) (known : List PlainPiece) (layers : List (List PlainPiece)) → KnowsLevel d bad near flow i known → AreLayers d near (bad ++ near) known flow layers
    → (x : PlainPoint) → length x ≡ d → InSome (all_known known layers) x → HasPlay bad near flow x
layers_play d bad near flow i known [] k h x e j = level_play bad near flow i x (k.in_level x e j)
layers_play d bad near flow i known (l ∷ ls) k h x e j = layers_play d bad near flow (suc i) (known ++ l) ls (layer_knows d bad near flow i known l k h.0) h.1 x e j

-- before the first layer the bad points are known
start_knows : (d : ℕ) (bad near : List PlainPiece) (flow : PlainPiece) → KnowsLevel d bad near flow zero bad
start_knows d bad near flow = record { in_level = λ x e h. h; from_level = λ x e h. h }

-- what was known stays known
known_in : (known : List PlainPiece) (layers : List (List PlainPiece)) (x : PlainPoint) → InSome known x → InSome (all_known known layers) x
known_in known [] x h = h
known_in known (l ∷ ls) x h = known_in (known ++ l) ls x (in_left known l x h)

-- the whole of reach: layers until one more would add nothing
pub layers_sound : (d : ℕ) (bad near : List PlainPiece) (flow : PlainPiece) (layers : List (List PlainPiece)) → AreLayers d near (bad ++ near) bad flow layers → (x : PlainPoint) → length x ≡ d → InSome (all_known bad layers) x → HasPlay bad near flow x
layers_sound d bad near flow layers h x e k = layers_play d bad near flow zero bad layers (start_knows d bad near flow) h x e k

-- and what has a play was found
pub layers_whole : (d : ℕ) (bad near : List PlainPiece) (flow : PlainPiece) (layers : List (List PlainPiece)) → IsSettled d near (bad ++ near) (all_known bad layers) flow → (x : PlainPoint) → length x ≡ d → HasPlay bad near flow x → InSome (all_known bad layers) x
layers_whole d bad near flow layers settled = known_whole d bad near (all_known bad layers) flow (known_in bad layers) settled

-- there are at most two layers for each bad or near piece
pub layers_few : (d : ℕ) (bad near : List PlainPiece) (flow : PlainPiece) (layers : List (List PlainPiece)) → AreLayers d near (bad ++ near) bad flow layers → length layers ≤ 2 * length (bad ++ near)
layers_few d bad near flow layers h = let c = count_layers d bad near flow zero bad layers (start_knows d bad near flow) h (omega arith) in omega arith
