-- Steps of the loop that takes the lists of the switches of a location away, one after the other.
use Rattle.std.proofs.Common.{◌≡◌, ◌+◌, ◌<◌, ◌≤◌, ℕ, List, [], ◌∷◌, ◌++◌, cond, nat_eq, length, drop, get_or, map, refl, sym, ap, ◌∙◌, inl, inr, subst}
use Rattle.std.specs.Global.{Vec}
use Rattle.std.proofs.lemmas.Bool.{or_left, or_right, or_cases}
use Rattle.std.proofs.lemmas.List.{drop_all}
use Rattle.lhg_math.specs.Tests.{false_true}
use Rattle.lhg_num.specs.FracArithmetic.{frac_arithmetic}
use Rattle.lhg_num.specs.Marked.{Marked, walk, IsRest}
use Rattle.lhg_num.specs.MarkedLaws.{IsPart, rest_self, rest_rest, rest_part, and_then-rest, walk-append}
use Rattle.lhg_row.specs.Piece.{PlainPiece}
use Rattle.lhg_row.specs.Lists.{minus_one, minus}
use Rattle.lhg_row.specs.System.{PlainSystem}
use Rattle.lhg_math.specs.ListFacts.{drop_cons}
use Rattle.lhg_union.specs.PolyLists.{lines_of}
use Rattle.lhg_union.specs.Regions.{plain_region}
use Rattle.lhg_plant.specs.declared.plants.Switch.{Switch}
use Rattle.lhg_plant.specs.Plant.{PlainPlant}
use Rattle.lhg_plant.specs.Region.{PlainRegion, PlainGuards}
use Rattle.lhg_plant.specs.Invariants.{pieces_at}
use Rattle.lhg_plant.specs.BackCalculus.{joined_at, back_at, near_at}
use Rattle.lhg_plant.specs.Views.{plain_switch}

-- ---- a list by two lists, one after the other
-- the marks of a walk over the first list are among those of the walk over both
walk-first : {S A : Type 0} (f : S → A → Marked S) (s : S) (xs ys : List A) → IsPart (walk f s (xs ++ ys)) (walk f s xs)
walk-first f s [] ys = record { wide = λ h. false_true h; rows = λ h. false_true h; pieces = λ h. false_true h }
walk-first f s (x ∷ xs) ys =
    let t = f s x in
    let p = walk-first f t.value xs ys in
    record {
      wide = λ h. elim (or_cases t.wide _ h) [ inl k ↦ or_left t.wide _ k | inr k ↦ or_right t.wide _ (p.wide k) ];
      rows = λ h. elim (or_cases t.rows _ h) [ inl k ↦ or_left t.rows _ k | inr k ↦ or_right t.rows _ (p.rows k) ];
      pieces = λ h. elim (or_cases t.pieces _ h) [ inl k ↦ or_left t.pieces _ k | inr k ↦ or_right t.pieces _ (p.pieces k) ];
    }

-- after the first list the second is left
minus-rest : (n : ℕ) (ps qs rs : List PlainPiece) → IsRest (minus frac_arithmetic n ps (qs ++ rs)) (minus frac_arithmetic n (minus frac_arithmetic n ps qs).value rs)
unfolding minus
minus-rest n ps qs rs = walk-append (minus_one frac_arithmetic n) ps qs rs

-- the marks of the first are among those of both
minus-part : (n : ℕ) (ps qs rs : List PlainPiece) → IsPart (minus frac_arithmetic n ps (qs ++ rs)) (minus frac_arithmetic n ps qs)
unfolding minus
minus-part n ps qs rs = walk-first (minus_one frac_arithmetic n) ps qs rs

-- without another list all is left
pub minus-none : (n : ℕ) (ps : List PlainPiece) → ps ≡ (minus frac_arithmetic n ps []).value
unfolding minus
minus-none n ps = refl

-- ---- the loop
module _ (n l : ℕ) (here : List PlainPiece) (ws : List Switch) (kss : List (Vec PlainSystem)) where
  -- the joined lists of the switches from place e on
  abbrev joined : ℕ → List PlainPiece
  joined e = joined_at l (map plain_switch (drop e ws)) (plain_region (drop e kss))

  abbrev whole : Marked (List PlainPiece)
  whole = minus frac_arithmetic n here (joined_at l (map plain_switch ws) (plain_region kss))

  -- these are left to be taken away
  abbrev pub IsNearBefore : ℕ → List PlainPiece → Type 0
  IsNearBefore e near = IsRest whole (minus frac_arithmetic n near (joined e))

  pub near-start : (near : List PlainPiece) → near ≡ here → IsNearBefore 0 near
  near-start near e = subst (λ (ps : List PlainPiece). IsRest whole (minus frac_arithmetic n ps (joined 0))) (sym e) (rest_self whole)

  module _ (e : ℕ) (near : List PlainPiece) (h : IsNearBefore e near) where
    -- at the end none is
    pub near-end : length ws ≤ e → near ≡ whole.value
    near-end past =
        minus-none n near ∙ ap (λ (vs : List Switch). (minus frac_arithmetic n near (joined_at l (map plain_switch vs) (plain_region (drop e kss)))).value) (sym (drop_all e ws past)) ∙ h.same

    module _ (w : Switch) (ks : Vec PlainSystem) (w_is : w ≡ get_or ws e w) (w_there : e < length ws) (ks_is : ks ≡ get_or kss e ks) (ks_there : e < length kss) where
      abbrev list : List PlainPiece
      list = cond (nat_eq w.from l) (lines_of ks.items) []

      joined-cons : joined e ≡ list ++ joined (e + 1)
      joined-cons =
          ap (λ (vs : List Switch). joined_at l (map plain_switch vs) (plain_region (drop e kss))) (drop_cons ws e w w_is w_there)
          ∙ ap (λ (vs : List (Vec PlainSystem)). joined_at l (map plain_switch (w ∷ drop (e + 1) ws)) (plain_region vs)) (drop_cons kss e ks ks_is ks_there)

      from-here : IsRest whole (minus frac_arithmetic n near (list ++ joined (e + 1)))
      from-here = subst (λ (ps : List PlainPiece). IsRest whole (minus frac_arithmetic n near ps)) joined-cons h

      -- the marks of the next list are marks of all
      pub near-part : IsPart whole (minus frac_arithmetic n near list)
      near-part = rest_part whole (minus frac_arithmetic n near (list ++ joined (e + 1))) (minus frac_arithmetic n near list) from-here (minus-part n near list (joined (e + 1)))

      -- one list less is left
      pub near-step : (more : List PlainPiece) → more ≡ (minus frac_arithmetic n near list).value → IsNearBefore (e + 1) more
      near-step more same =
          subst (λ (ps : List PlainPiece). IsRest whole (minus frac_arithmetic n ps (joined (e + 1)))) (sym same)
          (rest_rest whole (minus frac_arithmetic n near (list ++ joined (e + 1))) (minus frac_arithmetic n (minus frac_arithmetic n near list).value (joined (e + 1))) from-here (minus-rest n near list (joined (e + 1))))

-- ---- near
-- what is left of the region without the joined lists
pub near-rest : (a : PlainPlant) (region : PlainRegion) (kss : PlainGuards) (l : ℕ) → IsRest (near_at a region kss l) (minus frac_arithmetic (length a.vars) (pieces_at region l) (joined_at l a.switches kss))
unfolding near_at
near-rest a region kss l = and_then-rest (back_at a kss l) (minus frac_arithmetic (length a.vars) (pieces_at region l))
