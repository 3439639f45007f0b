-- The places that are formed for a segment are its check points, in order.
use Rattle.std.proofs.Common.{◌≡◌, ◌⊎◌, ◌↔◌, inl, inr, true, false, List, [], ◌∷◌, length, Option, Some, None, refl, sym, ap, ◌∙◌, subst}
use Rattle.lhg_math.specs.Number.{Number, lt, nought, unit, mid}
use Rattle.lhg_math.specs.NumberOrder.{lt_irrefl, lt_antisymm, lt_asym, lt_trans, nought_unit}
use Rattle.lhg_math.specs.Places.{IsPlace}
use Rattle.lhg_math.specs.PlacesLaws.{start_place, end_place}
use Rattle.lhg_math.specs.Tests.{AllOf, by_bool}
use Rattle.lhg_row.specs.Decisions.{clash}
use Rattle.lhg_row.specs.Members.{SomeOf, all_some}
use Rattle.lhg_row.specs.Row.{PlainRow, PlainPoint, holds_at}
use Rattle.lhg_motion.specs.Segment.{along}
use Rattle.lhg_motion.specs.Flow.{displacement}
use Rattle.lhg_motion.specs.CheckPoint.{IsTurn, SomeTurn, IsCut, AreNeighbours, IsMiddle, IsCheckPoint, IsBetween}
use Rattle.lhg_motion.specs.CheckLemmas.{neighbours_truth}
use Rattle.lhg_motion.specs.CheckPlaces.{mid_between, only_middle, check_is_place}
use Rattle.lhg_play.specs.Checks.{IsAscending, AreChecks, HaveMiddleTruths}
use Rattle.lhg_play.specs.Cut.{change, turn_place, with_place, with_turn, turns, middles_behind, with_middles, cut}
use Rattle.lhg_num.specs.Marked.{walk}
use Rattle.lhg_play.proofs.TurnPlaces.{change-value, IsTurnPlace, turn-place}
use Rattle.lhg_play.proofs.Inserting.{IsIn, inserted-from, inserted-new, inserted-old, inserted-ascending, all_above}

module _ (x y : PlainPoint) (same : length x ≡ length y) where
  -- a place at which the row turns
  abbrev TurnsAt : PlainRow → Number → Type 0
  TurnsAt r q = IsPlace q × IsTurn r x y q

  -- with the place of a row put in
  place-from : (r : PlainRow) (q : Number) (ps : List Number) (o : Option Number) → IsTurnPlace r x y o → IsIn q (with_place ps o).value → IsIn q ps ⊎ TurnsAt r q
  place-from r q ps None t h = inl h
  place-from r q ps (Some p) t h =
      elim (inserted-from p q ps h) [ inl e ↦ inr (subst (λ w. TurnsAt r w) e (t.0, t.1)) | inr k ↦ inl k ]

  place-to : (r : PlainRow) (q : Number) (ps : List Number) (o : Option Number) → IsTurnPlace r x y o → IsIn q ps ⊎ TurnsAt r q → IsIn q (with_place ps o).value
  place-to r q ps None t (inl h) = h
  place-to r q ps None t (inr h) = absurd (t q h.0 h.1)
  place-to r q ps (Some p) t (inl h) = inserted-old p q ps h
  place-to r q ps (Some p) t (inr h) = subst (λ w. IsIn w (with_place ps (Some p)).value) (sym (t.2 q h.1)) (inserted-new p ps)

  place-ascending : (ps : List Number) (o : Option Number) → IsAscending ps → IsAscending (with_place ps o).value
  place-ascending ps None h = h
  place-ascending ps (Some p) h = inserted-ascending p ps h

  -- with those of a list of rows put in
  abbrev Formed : List Number → List PlainRow → List Number
  Formed ps rows = (walk (with_turn x (displacement x y)) ps rows).value

  rows-from : (q : Number) (rows : List PlainRow) (ps : List Number) → IsIn q (Formed ps rows) → IsIn q ps ⊎ (IsPlace q × SomeTurn rows x y q)
  rows-from q [] ps h = inl h
  rows-from q (r ∷ rows) ps h =
      let o = (turn_place x (displacement x y) r).value in
      elim (rows-from q rows (with_turn x (displacement x y) ps r).value h) [
        | inl k ↦ elim (place-from r q ps o (turn-place r x y same) k) [ inl i ↦ inl i | inr i ↦ inr (i.0, inl i.1) ]
        | inr k ↦ inr (k.0, inr k.1)
      ]

  rows-to : (q : Number) (rows : List PlainRow) (ps : List Number) → IsIn q ps ⊎ (IsPlace q × SomeTurn rows x y q) → IsIn q (Formed ps rows)
  rows-to q [] ps (inl h) = h
  rows-to q [] ps (inr h) = absurd h.1
  rows-to q (r ∷ rows) ps h =
      let o = (turn_place x (displacement x y) r).value in
      let t = turn-place r x y same in
      rows-to q rows (with_turn x (displacement x y) ps r).value (elim h [
        | inl k ↦ inl (place-to r q ps o t (inl k))
        | inr k ↦ elim k.1 [ inl i ↦ inl (place-to r q ps o t (inr (k.0, i))) | inr i ↦ inr (k.0, i) ]
      ])

  rows-ascending : (rows : List PlainRow) (ps : List Number) → IsAscending ps → IsAscending (Formed ps rows)
  rows-ascending [] ps h = h
  rows-ascending (r ∷ rows) ps h = rows-ascending rows (with_turn x (displacement x y) ps r).value (place-ascending ps (turn_place x (displacement x y) r).value h)

  module _ (rows : List PlainRow) where
    -- the cuts
    abbrev cuts : List Number
    cuts = Formed (nought ∷ unit ∷ []) rows

    cuts-are : (q : Number) → IsIn q cuts → IsCut rows x y q
    cuts-are q h =
        elim (rows-from q rows (nought ∷ unit ∷ []) h) [
          | inl k ↦ elim k [
            | inl e ↦ record { place = subst (λ (w : Number). IsPlace w) e start_place; why = inl (sym e) }
            | inr m ↦ elim m [ inl e ↦ record { place = subst (λ (w : Number). IsPlace w) e end_place; why = inr (inl (sym e)) } | inr n ↦ absurd n ]
          ]
          | inr k ↦ record { place = k.0; why = inr (inr k.1) }
        ]

    cuts-all : (q : Number) → IsCut rows x y q → IsIn q cuts
    cuts-all q c = rows-to q rows (nought ∷ unit ∷ []) (elim c.why [ inl e ↦ inl (inl (sym e)) | inr k ↦ elim k [ inl e ↦ inl (inr (inl (sym e))) | inr t ↦ inr (c.place, t) ] ])

    cuts-ascending : IsAscending cuts
    cuts-ascending = rows-ascending rows (nought ∷ unit ∷ []) ((nought_unit, tt), (tt, tt))

    -- p and the places behind it are cuts in order, and all cuts above p are behind it
    record IsTrail (p : Number) (qs : List Number) : Type 0 where
      here : IsCut rows x y p
      ahead : (c : Number) → IsIn c qs → IsCut rows x y c
      ascending : IsAscending (p ∷ qs)
      above : (c : Number) → IsCut rows x y c → lt p c ≡ true → IsIn c qs

    -- the trail from the next cut on
    next : (p q : Number) (qs : List Number) → IsTrail p (q ∷ qs) → IsTrail q qs
    next p q qs t = record {
      here = t.ahead q (inl refl);
      ahead = λ c h. t.ahead c (inr h);
      ascending = t.ascending.1;
      above = λ c h l. elim (t.above c h (lt_trans p q c t.ascending.0.0 l)) [ inl e ↦ clash (lt q c) l (ap (λ w. lt w c) e ∙ lt_irrefl c) | inr k ↦ k ];
    }

    -- a cut and the one behind it are neighbours
    beside : (p q : Number) (qs : List Number) → IsTrail p (q ∷ qs) → AreNeighbours rows x y p q
    beside p q qs t = record {
      left = t.here;
      right = t.ahead q (inl refl);
      order = t.ascending.0.0;
      clear = λ c h l m. elim (t.above c h l) [
        | inl e ↦ clash (lt c q) m (ap (λ w. lt c w) e ∙ lt_irrefl c)
        | inr k ↦ all_some (λ s. lt q s ≡ true) (λ s. s ≡ c) ⊥ (λ s i j. clash (lt c q) m (lt_asym q c (ap (λ w. lt q w) (sym j) ∙ i))) qs t.ascending.1.0 k
      ];
    }

    -- what is formed behind p
    abbrev behind : Number → List Number → List Number
    behind p qs = (middles_behind p qs).value

    -- each place behind p is a check point
    behind-are : (p : Number) (qs : List Number) → IsTrail p qs → (c : Number) → IsIn c (behind p qs) → IsCheckPoint rows x y c
    behind-are p [] t c h = absurd h
    behind-are p (q ∷ qs) t c (inl e) = inr (record { left = p; right = q; neighbours = beside p q qs t; middle = sym e })
    behind-are p (q ∷ qs) t c (inr (inl e)) = subst (λ (w : Number). IsCheckPoint rows x y w) e (inl (t.ahead q (inl refl)))
    behind-are p (q ∷ qs) t c (inr (inr h)) = behind-are q qs (next p q qs t) c h

    -- no check point is above the last cut
    none_above : (p : Number) → IsTrail p [] → (c : Number) → IsCheckPoint rows x y c → lt p c ≡ true → ⊥
    none_above p t c (inl cut) l = t.above c cut l
    none_above p t c (inr m) l =
        t.above m.right m.neighbours.right (lt_trans p c m.right l (ap (λ w. lt w m.right) m.middle ∙ (mid_between m.left m.right m.neighbours.order).right))

    -- each check point above p is behind it
    behind-all : (p : Number) (qs : List Number) → IsTrail p qs → (c : Number) → IsCheckPoint rows x y c → lt p c ≡ true → IsIn c (behind p qs)
    behind-all p [] t c h l = absurd (none_above p t c h l)
    behind-all p (q ∷ qs) t c h l =
        by_bool (lt c q)
        (λ e. inl (sym (only_middle rows x y p q c (beside p q qs t) (record { left = l; right = e }) h)))
        (λ e. by_bool (lt q c)
        (λ f. inr (inr (behind-all q qs (next p q qs t) c h f)))
        (λ f. inr (inl (lt_antisymm q c f e))))

    -- they ascend
    behind-ascending : (p : Number) (qs : List Number) → IsTrail p qs → IsAscending (p ∷ behind p qs)
    behind-ascending p [] t = (tt, tt)
    behind-ascending p (q ∷ qs) t =
        let rest = behind-ascending q qs (next p q qs t) in
        let k = mid_between p q t.ascending.0.0 in
        let m = mid p q in
        ((k.left, (t.ascending.0.0, all_above p q (behind q qs) t.ascending.0.0 rest.0)), ((k.right, all_above m q (behind q qs) k.right rest.0), rest))

    -- and their truths are those of the middles
    behind-truths : (p : Number) (qs : List Number) → IsTrail p qs → HaveMiddleTruths rows x y (p ∷ behind p qs)
    behind-truths p [] t = tt
    behind-truths p (q ∷ qs) t =
        (λ u i. neighbours_truth rows x y p q u (mid p q) same (beside p q qs t) i (mid_between p q t.ascending.0.0), behind-truths q qs (next p q qs t))

    -- no check point is before the start
    not_before : (c : Number) → IsCheckPoint rows x y c → lt c nought ≡ false
    not_before c h = (check_is_place rows x y c h).from

    -- all cuts are a trail from the start
    module _ (p : Number) (qs : List Number) (are : (q : Number) → IsIn q (p ∷ qs) → IsCut rows x y q) (all : (q : Number) → IsCut rows x y q → IsIn q (p ∷ qs)) (up : IsAscending (p ∷ qs)) where
      trail : IsTrail p qs
      trail = record {
        here = are p (inl refl);
        ahead = λ c h. are c (inr h);
        ascending = up;
        above = λ c h l. elim (all c h) [ inl e ↦ clash (lt p c) l (ap (λ w. lt w c) e ∙ lt_irrefl c) | inr k ↦ k ];
      }

      -- it begins at 0
      begins : p ≡ nought
      begins =
          let start : IsCut rows x y nought = record { place = start_place; why = inl refl } in
          elim (all nought start) [
            | inl e ↦ e
            | inr k ↦ all_some (λ s. lt p s ≡ true) (λ s. s ≡ nought) (p ≡ nought) (λ s i j. clash (lt p nought) (ap (λ w. lt p w) (sym j) ∙ i) (trail.here).place.from) qs up.0 k
          ]

      -- with the middles put in they are the check points
      checks : AreChecks rows x y (p ∷ behind p qs)
      checks = record {
        all = λ c. (
          λ h. by_bool (lt p c)
              (λ l. inr (behind-all p qs trail c h l))
              (λ l. inl (lt_antisymm p c l (ap (λ w. lt c w) begins ∙ not_before c h))),
          λ h. elim h [ inl e ↦ subst (λ (w : Number). IsCheckPoint rows x y w) e (inl trail.here) | inr k ↦ behind-are p qs trail c k ],
        );
        ascending = behind-ascending p qs trail;
      }

    -- of a list of places that are the cuts in order
    listed : (cs : List Number) → ((q : Number) → IsIn q cs → IsCut rows x y q) → ((q : Number) → IsCut rows x y q → IsIn q cs) → IsAscending cs
        → AreChecks rows x y (with_middles cs).value × HaveMiddleTruths rows x y (with_middles cs).value
    listed [] are all up = absurd (all nought (record { place = start_place; why = inl refl }))
    listed (p ∷ qs) are all up = (checks p qs are all up, behind-truths p qs (trail p qs are all up))

-- the places that are formed are the check points, in order, and tell the truths between them
pub cut-places : (x y : PlainPoint) (rows : List PlainRow) → length x ≡ length y → AreChecks rows x y (cut x y rows).value × HaveMiddleTruths rows x y (cut x y rows).value
unfolding cut
cut-places x y rows same =
    subst (λ d. AreChecks rows x y (with_middles (turns x d rows).value).value × HaveMiddleTruths rows x y (with_middles (turns x d rows).value).value) (sym (change-value x y))
    (listed x y same rows (cuts x y same rows) (cuts-are x y same rows) (cuts-all x y same rows) (cuts-ascending x y same rows))
