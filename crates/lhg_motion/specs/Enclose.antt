-- Each place of a segment is a cut, or lies strictly between two neighbouring cuts.
use Rattle.std.specs.Prelude.{◌≡◌, ◌⊎◌, true, List, [], ◌∷◌, length}
use Rattle.std.proofs.Common.{refl, sym, ap, ◌∙◌, inl, inr, subst}
use Rattle.lhg_math.specs.Number.{Number, neg, lt, nought, unit}
use Rattle.lhg_math.specs.NumberOrder.{lt-add, lt_irrefl, lt_antisymm, lt_trans}
use Rattle.lhg_math.specs.Places.{IsPlace}
use Rattle.lhg_math.specs.PlacesLaws.{start_place, end_place}
use Rattle.lhg_math.specs.Crossings.{Level, level_of, level_once}
use Rattle.lhg_math.specs.NumberOrder.{nought_unit}
use Rattle.lhg_math.specs.Tests.{by_bool}
use Rattle.lhg_row.specs.Row.{PlainRow, PlainPoint, value_at}
use Rattle.lhg_motion.specs.Segment.{along}
use Rattle.lhg_motion.specs.SegmentLemmas.{excess, excess_along}
use Rattle.lhg_motion.specs.CheckPoint.{IsTurn, IsCut, AreNeighbours, IsBetween, IsEnclosed}
use Rattle.lhg_row.specs.Decisions.{clash, number_decided}
use Rattle.lhg_motion.specs.CheckLemmas.{tight_of, excess_tight, inside_place}

-- a cut against some rows is one against more
pub cut_more : (r : PlainRow) (rows : List PlainRow) (x y : PlainPoint) (p : Number) → IsCut rows x y p → IsCut (r ∷ rows) x y p
cut_more r rows x y p h = record { place = h.place; why = elim h.why [ inl e ↦ inl e | inr k ↦ elim k [ inl e ↦ inr (inl e) | inr t ↦ inr (inr (inr t)) ] ] }

-- the cuts against one more row: none strictly between where the row does not turn there
clear_more : (r : PlainRow) (rows : List PlainRow) (x y : PlainPoint) (a b c d : Number) → AreNeighbours rows x y a b
    → ((q : Number) → IsBetween c d q → IsBetween a b q)
    → ((q : Number) → IsBetween c d q → ¬ IsTurn r x y q) → (q : Number) → IsCut (r ∷ rows) x y q → lt c q ≡ true → lt q d ≡ true → ⊥
clear_more r rows x y a b c d n sub none q h l m =
    let i : IsBetween c d q = record { left = l; right = m } in
    let j = sub q i in
    elim h.why [
      | inl e ↦ n.clear q (record { place = h.place; why = inl e }) j.left j.right
      | inr k ↦ elim k [
        | inl e ↦ n.clear q (record { place = h.place; why = inr (inl e) }) j.left j.right
        | inr t ↦ elim t [ inl turn ↦ none q i turn | inr more ↦ n.clear q (record { place = h.place; why = inr (inr more) }) j.left j.right ]
      ]
    ]

-- a row that moves turns where its excess is 0
pub level_turn : (r : PlainRow) (x y : PlainPoint) → length x ≡ length y → ¬ (value_at r x ≡ value_at r y) → (l : Level (excess r x) (excess r y))
    → IsTurn r x y l.at
level_turn r x y e moves l = record { moves = moves; tight = tight_of r _ (excess_along r x y l.at e ∙ l.level) }

-- a row that moves has two different excesses at the ends
pub moves_excess : (r : PlainRow) (x y : PlainPoint) → ¬ (value_at r x ≡ value_at r y) → ¬ (excess r x ≡ excess r y)
moves_excess r x y moves e =
    moves (lt_antisymm _ _
    (sym (lt-add (value_at r x) (value_at r y) (neg r.bound)) ∙ ap (λ w. lt w (excess r y)) e ∙ lt_irrefl (excess r y))
    (sym (lt-add (value_at r y) (value_at r x) (neg r.bound)) ∙ ap (λ w. lt (excess r y) w) e ∙ lt_irrefl (excess r y)))

-- a row turns at one place at most
pub turn_level : (r : PlainRow) (x y : PlainPoint) (q : Number) → length x ≡ length y → IsTurn r x y q → (l : Level (excess r x) (excess r y))
    → q ≡ l.at
turn_level r x y q e t l =
    level_once (excess r x) (excess r y) q l.at (moves_excess r x y t.moves) (sym (excess_along r x y q e) ∙ excess_tight r (along x y q) t.tight ∙ sym l.level)

module _ (r : PlainRow) (rows : List PlainRow) (x y : PlainPoint) (p a b : Number) (e : length x ≡ length y) (n : AreNeighbours rows x y a b) (i : IsBetween a b p) where
  -- the same neighbours where the row does not turn between them
  kept : ((q : Number) → IsBetween a b q → ¬ IsTurn r x y q) → IsCut (r ∷ rows) x y p ⊎ IsEnclosed (r ∷ rows) x y p
  kept none = inr (record {
    left = a;
    right = b;
    neighbours = record { left = cut_more r rows x y a n.left; right = cut_more r rows x y b n.right; order = n.order; clear = clear_more r rows x y a b a b n (λ q k. k) none };
    between = i;
  })

  -- narrower ones where it turns at c
  narrowed : (c : Number) → IsTurn r x y c → ((q : Number) → IsTurn r x y q → q ≡ c) → IsBetween a b c
      → IsCut (r ∷ rows) x y p ⊎ IsEnclosed (r ∷ rows) x y p
  narrowed c turn once j =
      let cut : IsCut (r ∷ rows) x y c = record { place = inside_place a b c n.left.place n.right.place j; why = inr (inr (inl turn)) } in
      by_bool (lt c p)
      (λ f. inr (record {
        left = c;
        right = b;
        neighbours = record {
          left = cut;
          right = cut_more r rows x y b n.right;
          order = j.right;
          clear = clear_more r rows x y a b c b n (λ q k. record { left = lt_trans a c q j.left k.left; right = k.right }) (λ q k t. clash (lt c q) k.left (ap (λ w. lt c w) (once q t) ∙ lt_irrefl c));
        };
        between = record { left = f; right = i.right };
      }))
      (λ f. by_bool (lt p c)
      (λ g. inr (record {
        left = a;
        right = c;
        neighbours = record {
          left = cut_more r rows x y a n.left;
          right = cut;
          order = j.left;
          clear = clear_more r rows x y a b a c n (λ q k. record { left = k.left; right = lt_trans q c b k.right j.right }) (λ q k t. clash (lt q c) k.right (ap (λ w. lt w c) (once q t) ∙ lt_irrefl c));
        };
        between = record { left = i.left; right = g };
      }))
      (λ g. inl (subst (λ (w : Number). IsCut (r ∷ rows) x y w) (lt_antisymm c p f g) cut)))

  -- the neighbours round a place against one row more
  one_more_row : IsCut (r ∷ rows) x y p ⊎ IsEnclosed (r ∷ rows) x y p
  one_more_row =
      elim (number_decided (value_at r x) (value_at r y)) [
        | inl same ↦ kept (λ q k t. t.moves same)
        | inr moves ↦
            (let l = level_of (excess r x) (excess r y) (moves_excess r x y moves) in
            let once = λ (q : Number) (t : IsTurn r x y q). turn_level r x y q e t l in
            by_bool (lt a l.at)
            (λ f. by_bool (lt l.at b)
            (λ g. narrowed l.at (level_turn r x y e moves l) once (record { left = f; right = g }))
            (λ g. kept (λ q k t. clash (lt q b) k.right (ap (λ w. lt w b) (once q t) ∙ g))))
            (λ f. kept (λ q k t. clash (lt a q) k.left (ap (λ w. lt a w) (once q t) ∙ f))))
      ]

-- each place is a cut, or lies strictly between two neighbouring cuts
pub enclose : (rows : List PlainRow) (x y : PlainPoint) (p : Number) → length x ≡ length y → IsPlace p → IsCut rows x y p ⊎ IsEnclosed rows x y p
enclose [] x y p e i =
    by_bool (lt nought p)
    (λ f. by_bool (lt p unit)
    (λ g. inr (record {
      left = nought;
      right = unit;
      neighbours = record {
        left = record { place = start_place; why = inl refl };
        right = record { place = end_place; why = inr (inl refl) };
        order = nought_unit;
        clear = λ q h l m. elim h.why [ inl k ↦ clash (lt nought q) l (ap (λ w. lt nought w) k ∙ lt_irrefl nought) | inr k ↦ elim k [ inl z ↦ clash (lt q unit) m (ap (λ w. lt w unit) z ∙ lt_irrefl unit) | inr t ↦ t ] ];
      };
      between = record { left = f; right = g };
    }))
    (λ g. inl (record { place = i; why = inr (inl (lt_antisymm p unit g i.upto)) })))
    (λ f. inl (record { place = i; why = inl (lt_antisymm p nought i.from f) }))
enclose (r ∷ rows) x y p e i =
    elim (enclose rows x y p e i) [ inl cut ↦ inl (cut_more r rows x y p cut) | inr h ↦ one_more_row r rows x y p h.left h.right e h.neighbours h.between ]
