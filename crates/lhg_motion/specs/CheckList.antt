-- The check points of a segment as a list.
use Rattle.std.specs.Prelude.{◌≡◌, ◌⊎◌, List, [], ◌∷◌, length}
use Rattle.std.proofs.Common.{refl, sym, inl, inr, subst}
use Rattle.lhg_math.specs.Number.{Number, lt, nought, unit}
use Rattle.lhg_math.specs.Places.{IsPlace}
use Rattle.lhg_math.specs.PlacesLaws.{start_place, end_place}
use Rattle.lhg_math.specs.Crossings.{level_of}
use Rattle.lhg_math.specs.Tests.{by_bool}
use Rattle.lhg_row.specs.Row.{PlainRow, PlainPoint, value_at}
use Rattle.lhg_motion.specs.SegmentLemmas.{excess}
use Rattle.lhg_row.specs.Members.{SomeOf}
use Rattle.lhg_motion.specs.CheckPoint.{IsTurn, IsCut, IsCheckPoint}
use Rattle.lhg_row.specs.Decisions.{number_decided}
use Rattle.lhg_motion.specs.Enclose.{cut_more, level_turn, moves_excess, turn_level}

-- a place that is a cut
pub record CutPlace (rows : List PlainRow) (x y : PlainPoint) : Type 0 where
  pub at : Number
  pub cut : IsCut rows x y at

-- a place that is a check point
pub record CheckPlace (rows : List PlainRow) (x y : PlainPoint) : Type 0 where
  pub at : Number
  pub check : IsCheckPoint rows x y at

module _ (x y : PlainPoint) (same : length x ≡ length y) where
  -- the cuts against some rows, as cuts against one row more
  abbrev more_cuts : (r : PlainRow) (rows : List PlainRow) → List (CutPlace rows x y) → List (CutPlace (r ∷ rows) x y)
  more_cuts r rows [] = []
  more_cuts r rows (c ∷ cs) = record { at = c.at; cut = cut_more r rows x y c.at c.cut } ∷ more_cuts r rows cs

  -- a cut that was listed is listed against one row more
  kept_cut : (r : PlainRow) (rows : List PlainRow) (p : Number) (cs : List (CutPlace rows x y)) → SomeOf (λ c. c.at ≡ p) cs
      → SomeOf (λ c. c.at ≡ p) (more_cuts r rows cs)
  kept_cut r rows p [] h = absurd h
  kept_cut r rows p (c ∷ cs) (inl h) = inl h
  kept_cut r rows p (c ∷ cs) (inr h) = inr (kept_cut r rows p cs h)

  -- the cuts, each with the fact that it is one, and all of them
  pub record AllCuts (rows : List PlainRow) : Type 0 where
    pub cuts : List (CutPlace rows x y)
    pub all : (p : Number) → IsCut rows x y p → SomeOf (λ c. c.at ≡ p) cuts

  -- against no row the two ends are all cuts
  ends_only : AllCuts []
  ends_only = record {
    cuts = record { at = nought; cut = record { place = start_place; why = inl refl } } ∷ record { at = unit; cut = record { place = end_place; why = inr (inl refl) } } ∷ [];
    all = λ p h. elim h.why [ inl e ↦ inl (sym e) | inr k ↦ elim k [ inl e ↦ inr (inl (sym e)) | inr t ↦ absurd t ] ];
  }

  -- a cut against one row more at which that row does not turn is an old one
  old_cut : (r : PlainRow) (rows : List PlainRow) (p : Number) → (IsTurn r x y p → ⊥) → IsCut (r ∷ rows) x y p → IsCut rows x y p
  old_cut r rows p none h = record { place = h.place; why = elim h.why [ inl e ↦ inl e | inr k ↦ elim k [ inl e ↦ inr (inl e) | inr t ↦ elim t [ inl turn ↦ absurd (none turn) | inr more ↦ inr (inr more) ] ] ] }

  -- a number is a place or not
  place_decided : (p : Number) → IsPlace p ⊎ ¬ IsPlace p
  place_decided p =
      by_bool (lt p nought)
      (λ e. inr (λ i. let f = i.from in cc))
      (λ e. by_bool (lt unit p) (λ f. inr (λ i. let g = i.upto in cc)) (λ f. inl (record { from = e; upto = f })))

  -- a row that turns at no place adds no cut
  without_turn : (r : PlainRow) (rows : List PlainRow) → AllCuts rows → ((p : Number) → IsPlace p → IsTurn r x y p → ⊥) → AllCuts (r ∷ rows)
  without_turn r rows old none = record { cuts = more_cuts r rows old.cuts; all = λ p h. kept_cut r rows p old.cuts (old.all p (old_cut r rows p (none p h.place) h)) }

  -- a row that turns at one place adds that place
  with_turn : (r : PlainRow) (rows : List PlainRow) → AllCuts rows → (c : Number) → IsPlace c → IsTurn r x y c
      → ((p : Number) → IsTurn r x y p → p ≡ c) → AllCuts (r ∷ rows)
  with_turn r rows old c i turn once = record {
    cuts = record { at = c; cut = record { place = i; why = inr (inr (inl turn)) } } ∷ more_cuts r rows old.cuts;
    all = λ p h. elim (number_decided c p) [ inl e ↦ inl e | inr n ↦ inr (kept_cut r rows p old.cuts (old.all p (old_cut r rows p (λ t. n (sym (once p t))) h))) ];
  }

  -- all cuts against a list of rows
  pub all_cuts : (rows : List PlainRow) → AllCuts rows
  all_cuts [] = ends_only
  all_cuts (r ∷ rows) =
      let old = all_cuts rows in
      elim (number_decided (value_at r x) (value_at r y)) [
        | inl e ↦ without_turn r rows old (λ p i t. t.moves e)
        | inr moves ↦
            (let l = level_of (excess r x) (excess r y) (moves_excess r x y moves) in
            let once = λ (p : Number) (t : IsTurn r x y p). turn_level r x y p same t l in
            elim (place_decided l.at) [
              | inl i ↦ with_turn r rows old l.at i (level_turn r x y same moves l) once
              | inr n ↦ without_turn r rows old (λ p i t. n (subst (λ (w : Number). IsPlace w) (once p t) i))
            ])
      ]
