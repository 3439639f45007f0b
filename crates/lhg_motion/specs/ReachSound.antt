-- What is found by crossings has a play.
use Rattle.std.specs.Prelude.{◌≡◌, ℕ, zero, suc, List, [], ◌∷◌, ◌++◌, length, get_or}
use Rattle.std.proofs.Common.{sym, ap, ◌∙◌, inl, inr, subst}
use Rattle.lhg_math.specs.Number.{Number}
use Rattle.lhg_math.specs.Places.{IsPlace}
use Rattle.lhg_row.specs.Row.{PlainPoint}
use Rattle.lhg_row.specs.Piece.{PlainPiece, InPiece, InSome}
use Rattle.lhg_motion.specs.Segment.{along}
use Rattle.lhg_motion.specs.SegmentLemmas.{along_start, along_end}
use Rattle.lhg_motion.specs.Play.{PlainMove}
use Rattle.lhg_motion.specs.PlayLemmas.{earlier_none}
use Rattle.lhg_row.specs.Members.{SomeOf}
use Rattle.lhg_motion.specs.Crossing.{GoesThrough, HasCrossing}
use Rattle.lhg_motion.specs.Reach.{HasPlay, EachStep, StepsTo, InLevel}
use Rattle.lhg_motion.specs.Found.{PlainFound, NamesCrossing, EachNamed, PlaysBy, EachPlays}
use Rattle.lhg_row.specs.SomeLists.{in_left, in_right, in_either, some_out, some_map, some_at, in_some_of}
use Rattle.lhg_motion.specs.PlayPoints.{inside_more, inside_start}
use Rattle.lhg_motion.specs.StepLemmas.{place_cases, step_to, steps_grow}

-- a bad point has a play without flows
pub bad_play : (bad near : List PlainPiece) (flow : PlainPiece) (x : PlainPoint) → InSome bad x → HasPlay bad near flow x
bad_play bad near flow x h = record { moves = []; legal = tt; inside = (earlier_none (λ p. InSome (bad ++ near) p) x, in_left bad near x h); ends = h }

-- the points of a crossing are in the ways
crossing_inside : (bad near : List PlainPiece) (x y : PlainPoint) → length x ≡ length y → InSome near x → SomeOf (λ w. GoesThrough w x y) (bad ++ near) → InSome (bad ++ near) y → (p : Number) → IsPlace p → InSome (bad ++ near) (along x y p)
crossing_inside bad near x y e start passes last p i =
    elim (place_cases p i) [
      | inl z ↦ subst (λ (w : PlainPoint). InSome (bad ++ near) w) (sym (ap (λ w. along x y w) z ∙ along_start x y e)) (in_right bad near x start)
      | inr k ↦ elim k [
        | inl z ↦ subst (λ (w : PlainPoint). InSome (bad ++ near) w) (sym (ap (λ w. along x y w) z ∙ along_end x y e)) last
        | inr inner ↦ (in_some_of (bad ++ near) (along x y p)).1 (some_map (λ w. GoesThrough w x y) (λ w. InPiece w (along x y p)) (λ w g. g p inner) (bad ++ near) passes)
      ]
    ]

-- the start of a play is in a way
play_start : (bad near : List PlainPiece) (flow : PlainPiece) (y : PlainPoint) → HasPlay bad near flow y → InSome (bad ++ near) y
play_start bad near flow y r = inside_start flow (λ p. InSome (bad ++ near) p) y r.moves r.legal r.inside

-- a crossing to the start of a play makes a play
pub step_play : (bad near : List PlainPiece) (flow : PlainPiece) (x : PlainPoint) → StepsTo near (bad ++ near) flow (λ y. HasPlay bad near flow y) x → HasPlay bad near flow x
step_play bad near flow x s =
    let r = s.into in
    let m : PlainMove = record { time = s.time; to = s.to } in
    record {
      moves = m ∷ r.moves;
      legal = (s.legal, r.legal);
      inside = inside_more (λ p. InSome (bad ++ near) p) x m r.moves (crossing_inside bad near x s.to s.legal.same_length s.from_in s.passes (play_start bad near flow s.to r)) r.inside;
      ends = r.ends;
    }

-- a named crossing into what has plays shows plays
named_by : (d : ℕ) (bad near known : List PlainPiece) (flow : PlainPiece) (f : PlainFound) → ((x : PlainPoint) → length x ≡ d → InSome known x → HasPlay bad near flow x) → NamesCrossing d near (bad ++ near) known flow f
    → (x : PlainPoint) → length x ≡ d → InPiece f.piece x → PlaysBy bad near flow (get_or (bad ++ near) f.through []) (get_or known f.to []) x
named_by d bad near known flow f base n x e i =
    some_out (λ from. HasCrossing from (get_or (bad ++ near) f.through []) (get_or known f.to []) flow x) (PlaysBy bad near flow (get_or (bad ++ near) f.through []) (get_or known f.to []) x) near
    (λ from back c.
    let m : PlainMove = record { time = c.time; to = c.to } in
    let r : HasPlay bad near flow c.to = base c.to (sym c.legal.same_length ∙ e) ((in_some_of known c.to).1 (some_at (λ w. InPiece w c.to) [] known f.to n.to_there c.into_in)) in
    let start : InSome near x = (in_some_of near x).1 (back (λ w. InPiece w x) c.from_in) in
    let passes : SomeOf (λ w. GoesThrough w x c.to) (bad ++ near) = some_at (λ w. GoesThrough w x c.to) [] (bad ++ near) f.through n.through_there c.passes in
    record {
      first = m;
      more = r.moves;
      legal = (c.legal, r.legal);
      inside = inside_more (λ p. InSome (bad ++ near) p) x m r.moves (crossing_inside bad near x c.to c.legal.same_length start passes (play_start bad near flow c.to r)) r.inside;
      ends = r.ends;
      passes = c.passes;
      into_in = c.into_in;
    }) (n.crosses x e i)

-- a play by way of a crossing is a play
by_play : (bad near : List PlainPiece) (flow through into : PlainPiece) (x : PlainPoint) → PlaysBy bad near flow through into x → HasPlay bad near flow x
by_play bad near flow through into x h = record { moves = h.first ∷ h.more; legal = h.legal; inside = h.inside; ends = h.ends }

-- the same of each found piece, one after the other
named_plays : (d : ℕ) (bad near : List PlainPiece) (flow : PlainPiece) (known : List PlainPiece) (fs : List PlainFound) → ((x : PlainPoint) → length x ≡ d → InSome known x → HasPlay bad near flow x) → EachNamed d near (bad ++ near) known flow fs → EachPlays d bad near known flow fs
named_plays d bad near flow known [] base h = tt
named_plays d bad near flow known (f ∷ fs) base h = (
  named_by d bad near known flow f base h.0,
  named_plays d bad near flow (known ++ (f.piece ∷ [])) fs
      (λ y e k. elim (in_either known (f.piece ∷ []) y k) [
        | inl j ↦ base y e j
        | inr j ↦ elim j [ inl i ↦ by_play bad near flow (get_or (bad ++ near) f.through []) (get_or known f.to []) y (named_by d bad near known flow f base h.0 y e i) | inr i ↦ absurd i ]
      ]) h.1,
)

-- each found piece shows plays by way of the crossing that it names
pub reach_plays : (d : ℕ) (bad near : List PlainPiece) (flow : PlainPiece) (fs : List PlainFound) → EachNamed d near (bad ++ near) bad flow fs → EachPlays d bad near bad flow fs
reach_plays d bad near flow fs h = named_plays d bad near flow bad fs (λ x e k. bad_play bad near flow x k) h

-- each point of a known or found piece has a play
found_play : (d : ℕ) (bad near : List PlainPiece) (flow : PlainPiece) (known found : List PlainPiece) → ((x : PlainPoint) → length x ≡ d → InSome known x → HasPlay bad near flow x) → EachStep d near (bad ++ near) known flow found
    → (x : PlainPoint) → length x ≡ d → InSome (known ++ found) x → HasPlay bad near flow x
found_play d bad near flow known [] base steps x e h = elim (in_either known [] x h) [ inl k ↦ base x e k | inr k ↦ absurd k ]
found_play d bad near flow known (piece ∷ found) base steps x e h =
    found_play d bad near flow (known ++ (piece ∷ [])) found
    (λ y f k. elim (in_either known (piece ∷ []) y k) [
      | inl j ↦ base y f j
      | inr j ↦ elim j [
        | inl i ↦ step_play bad near flow y (steps_grow near (bad ++ near) flow (λ z. InSome known z) (λ z. HasPlay bad near flow z) y (λ z g k. base z (sym g ∙ f) k) (step_to near (bad ++ near) known flow y (steps.0 y f i)))
        | inr i ↦ absurd i
      ]
    ])
    steps.1 x e
    (elim (in_either known (piece ∷ found) x h) [
      | inl k ↦ in_left (known ++ (piece ∷ [])) found x (in_left known (piece ∷ []) x k)
      | inr k ↦ elim k [
        | inl j ↦ in_left (known ++ (piece ∷ [])) found x (in_right known (piece ∷ []) x (inl j))
        | inr j ↦ in_right (known ++ (piece ∷ [])) found x j
      ]
    ])

-- each point of a bad or found piece has a play
pub reach_sound : (d : ℕ) (bad near found : List PlainPiece) (flow : PlainPiece) → EachStep d near (bad ++ near) bad flow found → (x : PlainPoint) → length x ≡ d → InSome (bad ++ found) x → HasPlay bad near flow x
reach_sound d bad near found flow steps = found_play d bad near flow bad found (λ x e k. bad_play bad near flow x k) steps

-- each point of a level has a play
pub level_play : (bad near : List PlainPiece) (flow : PlainPiece) (n : ℕ) (x : PlainPoint) → InLevel bad near flow n x → HasPlay bad near flow x
level_play bad near flow zero x h = bad_play bad near flow x h
level_play bad near flow (suc n) x (inl h) = level_play bad near flow n x h
level_play bad near flow (suc n) x (inr s) = step_play bad near flow x (steps_grow near (bad ++ near) flow (λ y. InLevel bad near flow n y) (λ y. HasPlay bad near flow y) x (λ y e. level_play bad near flow n y) s)
