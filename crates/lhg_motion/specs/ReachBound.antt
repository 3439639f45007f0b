-- How many layers are needed: two for each bad or near piece.
use Rattle.std.specs.Prelude.{◌≡◌, ◌⊎◌, ◌*◌, ℕ, zero, suc, List, [], ◌∷◌, ◌++◌, length}
use Rattle.std.proofs.Common.{refl, sym, ap, ◌∙◌, inl, inr, arith, subst}
use Rattle.lhg_math.specs.Number.{Number, add, mul, neg, nought, unit, half}
use Rattle.lhg_math.specs.NumberOrder.{lt_trans}
use Rattle.lhg_math.specs.Interpolate.{interpolate}
use Rattle.lhg_math.specs.PlacesLaws.{end_place, half_inner, inner_place}
use Rattle.lhg_row.specs.Row.{PlainPoint}
use Rattle.lhg_row.specs.Piece.{PlainPiece, InPiece, InSome, InClosure}
use Rattle.lhg_motion.specs.Segment.{along}
use Rattle.lhg_motion.specs.SegmentLemmas.{along_start, along_end, along_twice}
use Rattle.lhg_motion.specs.Convex.{piece_ends, piece_towards}
use Rattle.lhg_motion.specs.Flow.{IsFlow}
use Rattle.lhg_motion.specs.Join.{flow_part, flow_upto, flow_join}
use Rattle.lhg_motion.specs.Play.{PlainMove}
use Rattle.lhg_row.specs.Members.{SomeOf}
use Rattle.lhg_motion.specs.Crossing.{GoesThrough}
use Rattle.lhg_motion.specs.Reach.{HasPlay, InLevel}
use Rattle.lhg_row.specs.SomeLists.{in_either, in_some_of}
use Rattle.lhg_motion.specs.StepLemmas.{stays_through, through_stays}
use Rattle.lhg_motion.specs.NextCut.{inner_between}
use Rattle.lhg_motion.specs.ReachWhole.{play_back}

-- crossings one after another through the pieces of a list, the last into a bad piece
abbrev pub IsChain : List PlainPiece → List PlainPiece → List PlainPiece → PlainPiece → PlainPoint → List PlainMove → Type 0
IsChain bad ways pieces flow x [] = InSome bad x
IsChain bad ways pieces flow x (m ∷ ms) = InSome ways x × IsFlow [] flow x m.time m.to × SomeOf (λ w. GoesThrough w x m.to) pieces × IsChain bad ways pieces flow m.to ms

-- there is such a chain
pub record HasChain (bad ways pieces : List PlainPiece) (flow : PlainPiece) (x : PlainPoint) : Type 0 where
  pub moves : List PlainMove
  pub chain : IsChain bad ways pieces flow x moves

-- a play is cut into a chain
pub play_chain : (bad near : List PlainPiece) (flow : PlainPiece) (x : PlainPoint) → HasPlay bad near flow x → HasChain bad (bad ++ near) (bad ++ near) flow x
play_chain bad near flow x h =
    play_back (bad ++ near) flow (λ y. HasChain bad (bad ++ near) (bad ++ near) flow y)
    (λ a b s f i g k. record { moves = record { time = s; to = b } ∷ k.moves; chain = (i, f, g, k.chain) })
    x h.moves h.legal h.inside (record { moves = []; chain = h.ends })

-- one of the pieces of a list, and the others
record Picked (pieces : List PlainPiece) (x y : PlainPoint) : Type 0 where
  piece : PlainPiece
  rest : List PlainPiece
  size : length pieces ≡ suc (length rest)
  holds : GoesThrough piece x y
  split : (a b : PlainPoint) → SomeOf (λ w. GoesThrough w a b) pieces → GoesThrough piece a b ⊎ SomeOf (λ w. GoesThrough w a b) rest
  one : (a b : PlainPoint) → GoesThrough piece a b → SomeOf (λ w. GoesThrough w a b) pieces
  others : (a b : PlainPoint) → SomeOf (λ w. GoesThrough w a b) rest → SomeOf (λ w. GoesThrough w a b) pieces

-- the piece of a crossing can be taken out
pick : (pieces : List PlainPiece) (x y : PlainPoint) → SomeOf (λ w. GoesThrough w x y) pieces → Picked pieces x y
pick [] x y h = absurd h
pick (w ∷ ws) x y (inl h) = record { piece = w; rest = ws; size = omega arith; holds = h; split = λ a b s. s; one = λ a b g. inl g; others = λ a b s. inr s }
pick (w ∷ ws) x y (inr h) =
    let p = pick ws x y h in
    let s = p.size in
    record {
      piece = p.piece;
      rest = w ∷ p.rest;
      size = omega arith;
      holds = p.holds;
      split = λ a b s. elim s [ inl k ↦ inr (inl k) | inr k ↦ elim (p.split a b k) [ inl j ↦ inl j | inr j ↦ inr (inr j) ] ];
      one = λ a b g. inr (p.one a b g);
      others = λ a b s. elim s [ inl k ↦ inl k | inr k ↦ inr (p.others a b k) ];
    }

-- the end of the last crossing through the piece, and the chain from there, which does without the piece
record LastUse (bad ways rest : List PlainPiece) (flow piece : PlainPiece) (y : PlainPoint) : Type 0 where
  time : Number
  at : PlainPoint
  legal : IsFlow [] flow y time at
  edge : InClosure piece at
  more : HasChain bad ways rest flow at

-- a chain does without the piece, or has a last crossing through it
last_use : (bad ways pieces rest : List PlainPiece) (flow piece : PlainPiece) → ((a b : PlainPoint) → SomeOf (λ w. GoesThrough w a b) pieces → GoesThrough piece a b ⊎ SomeOf (λ w. GoesThrough w a b) rest)
    → (y : PlainPoint) (moves : List PlainMove) → IsChain bad ways pieces flow y moves → HasChain bad ways rest flow y ⊎ LastUse bad ways rest flow piece y
last_use bad ways pieces rest flow piece split y [] h = inl (record { moves = []; chain = h })
last_use bad ways pieces rest flow piece split y (m ∷ ms) h =
    elim (last_use bad ways pieces rest flow piece split m.to ms h.3) [
      | inl c ↦ elim (split y m.to h.2) [
        | inl g ↦ inr (record { time = m.time; at = m.to; legal = h.1; edge = (piece_ends piece y m.to h.1.same_length g).1; more = c })
        | inr g ↦ inl (record { moves = m ∷ c.moves; chain = (h.0, h.1, g, c.chain) })
      ]
      | inr l ↦ inr (record { time = add m.time l.time; at = l.at; legal = flow_join [] flow y m.to l.at m.time l.time h.1 l.legal; edge = l.edge; more = l.more })
    ]

-- the first part of a segment lies where the segment lies
part_through : (piece : PlainPiece) (x y : PlainPoint) → length x ≡ length y → GoesThrough piece x y → GoesThrough piece x (along x y half)
part_through piece x y e g r i =
    let b = inner_between nought half r half_inner.above i in
    let same : along x (along x y half) r ≡ along x y (interpolate nought half r) = ap (λ w. along w (along x y half) r) (sym (along_start x y e)) ∙ along_twice x y nought half r e in
    subst (λ (w : PlainPoint). InPiece piece w) (sym same) (g (interpolate nought half r) (record { above = b.left; below = lt_trans (interpolate nought half r) half unit b.right half_inner.below }))

-- the second half of a flow is a flow
rest_flow : (flow : PlainPiece) (x y : PlainPoint) (t : Number) → IsFlow [] flow x t y → IsFlow [] flow (along x y half) (mul (add unit (neg half)) t) y
rest_flow flow x y t h =
    subst (λ (w : PlainPoint). IsFlow [] flow (along x y half) (mul (add unit (neg half)) t) w) (along_end x y h.same_length)
    (flow_part [] flow x y t half unit h (inner_place half half_inner) end_place half_inner.below)

-- 2 * n by steps
abbrev twice : ℕ → ℕ
twice zero = zero
twice (suc n) = suc (suc (twice n))

-- it is 2 * n
twice_is : (n : ℕ) → twice n ≡ 2 * n
twice_is zero = omega arith
twice_is (suc n) = let k = twice_is n in omega arith

-- bad points are in each level
pub level_bad : (bad near : List PlainPiece) (flow : PlainPiece) (n : ℕ) (x : PlainPoint) → InSome bad x → InLevel bad near flow n x
level_bad bad near flow zero x h = h
level_bad bad near flow (suc n) x h = inl (level_bad bad near flow n x h)

-- a crossing into a level starts in the next one
enter : (bad near : List PlainPiece) (flow : PlainPiece) (n : ℕ) (a b : PlainPoint) (s : Number) → IsFlow [] flow a s b → InSome (bad ++ near) a → SomeOf (λ w. GoesThrough w a b) (bad ++ near) → InLevel bad near flow n b → InLevel bad near flow (suc n) a
enter bad near flow n a b s f i g k =
    elim (in_either bad near a i) [
      | inl j ↦ level_bad bad near flow (suc n) a j
      | inr j ↦ inr (record { from_in = j; time = s; to = b; legal = f; passes = g; into = k })
    ]

-- what goes through a piece of the first list goes through one of the second
abbrev IsPart : List PlainPiece → List PlainPiece → Type 0
IsPart pieces ways = (a b : PlainPoint) → SomeOf (λ w. GoesThrough w a b) pieces → SomeOf (λ w. GoesThrough w a b) ways

-- a point of some piece of a part is in a way
part_in : (pieces ways : List PlainPiece) → IsPart pieces ways → (x : PlainPoint) → SomeOf (λ w. GoesThrough w x x) pieces → InSome ways x
part_in pieces ways sub x h = (in_some_of ways x).1 (some_stays ways (sub x x h))
  where
    some_stays : (ps : List PlainPiece) → SomeOf (λ w. GoesThrough w x x) ps → SomeOf (λ w. InPiece w x) ps
    some_stays [] k = absurd k
    some_stays (p ∷ ps) (inl k) = inl (through_stays p x k)
    some_stays (p ∷ ps) (inr k) = inr (some_stays ps k)

-- two crossings for each piece: the first use of a piece and all up to its last use become two, by way of an inner point of it
chain_level : (bad near : List PlainPiece) (flow : PlainPiece) (n : ℕ) (pieces : List PlainPiece) → length pieces ≡ n → IsPart pieces (bad ++ near) → (x : PlainPoint) (moves : List PlainMove) → IsChain bad (bad ++ near) pieces flow x moves
    → InLevel bad near flow (twice n) x
chain_level bad near flow n pieces size sub x [] h = level_bad bad near flow (twice n) x h
chain_level bad near flow zero pieces size sub x (m ∷ ms) h =
    let p = pick pieces x m.to h.2 in
    let s = p.size in
    absurd (omega arith)
chain_level bad near flow (suc n) pieces size sub x (m ∷ ms) h =
    let ways = bad ++ near in
    let p = pick pieces x m.to h.2 in
    let s = p.size in
    let u = along x m.to half in
    let small : length p.rest ≡ n = omega arith in
    let less : IsPart p.rest (bad ++ near) = λ a b k. sub a b (p.others a b k) in
    let inner : InPiece p.piece u = p.holds half half_inner in
    let far = rest_flow flow x m.to m.time h.1 in
    let two : (z : PlainPoint) (t : Number) → IsFlow [] flow u t z → InClosure p.piece z → HasChain bad (bad ++ near) p.rest flow z → InLevel bad near flow (suc (twice n)) u =
    λ z t f edge c. enter bad near flow (twice n) u z t f
    (part_in pieces (bad ++ near) sub u (p.one u u (stays_through p.piece u inner)))
    (sub u z (p.one u z (λ q j. piece_towards p.piece u z q f.same_length inner edge j)))
    (chain_level bad near flow n p.rest small less z c.moves c.chain) in
    let there : InLevel bad near flow (suc (twice n)) u =
    elim (last_use bad (bad ++ near) pieces p.rest flow p.piece p.split m.to ms h.3) [
      | inl c ↦ two m.to (mul (add unit (neg half)) m.time) far (piece_ends p.piece x m.to h.1.same_length p.holds).1 c
      | inr l ↦ two l.at (add (mul (add unit (neg half)) m.time) l.time) (flow_join [] flow u m.to l.at (mul (add unit (neg half)) m.time) l.time far l.legal) l.edge l.more
    ] in
    enter bad near flow (suc (twice n)) x u (mul half m.time) (flow_upto [] flow x m.to m.time half h.1 (inner_place half half_inner) half_inner.above) h.0
    (sub x u (p.one x u (part_through p.piece x m.to h.1.same_length p.holds))) there

-- what has a play is in level 2 * k
pub play_level : (bad near : List PlainPiece) (flow : PlainPiece) (x : PlainPoint) → HasPlay bad near flow x → InLevel bad near flow (2 * length (bad ++ near)) x
play_level bad near flow x h =
    let c = play_chain bad near flow x h in
    subst (λ (n : ℕ). InLevel bad near flow n x) (twice_is (length (bad ++ near)))
    (chain_level bad near flow (length (bad ++ near)) (bad ++ near) refl (λ a b k. k) x c.moves c.chain)
