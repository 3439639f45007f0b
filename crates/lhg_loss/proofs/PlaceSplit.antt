-- What a location keeps of a set of states is what has no escape from it.
use Rattle.std.proofs.Common.{◌≡◌, ◌↔◌, ◌&&◌, Bool, not, true, false, ℕ, List, [], ◌∷◌, ◌++◌, length, slice_get, get_or, Some, refl, sym, ◌∙◌, inl, inr, subst}
use Rattle.std.proofs.lemmas.Bool.{and_parts}
use Rattle.lhg_math.specs.Tests.{AllOf}
use Rattle.lhg_num.specs.FracArithmetic.{frac_arithmetic, frac_is_lawful}
use Rattle.lhg_row.specs.Row.{PlainPoint}
use Rattle.lhg_row.specs.Piece.{PlainPiece, InSome, in_some}
use Rattle.lhg_row.specs.PieceLemmas.{in_some_is, some_decided}
use Rattle.lhg_row.specs.PieceFacts.{AllOver, AllPolys}
use Rattle.lhg_row.specs.Decisions.{clash}
use Rattle.lhg_row.specs.Lists.{minus}
use Rattle.lhg_row.specs.MinusLaws.{minus-exact}
use Rattle.lhg_row.specs.CoveredLaws.{polys-over}
use Rattle.lhg_row.specs.SomeLists.{in_left, in_right, in_either}
use Rattle.lhg_motion.specs.Found.{PlainFound, pieces_of}
use Rattle.lhg_plant.specs.Plant.{PlainLocation, PlainPlant}
use Rattle.lhg_plant.specs.State.{PlainState, States, IsState}
use Rattle.lhg_plant.specs.OutBack.{Out, Back, LeavesBySwitch}
use Rattle.lhg_plant.specs.Escape.{HasEscape}
use Rattle.lhg_plant.specs.Round.{Next}
use Rattle.lhg_plant.specs.Region.{PlainRegion, InRegion}
use Rattle.lhg_plant.specs.Sound.{IsInside}
use Rattle.lhg_plant.specs.Split.{AreSplit}
use Rattle.lhg_plant.specs.OutCalculus.{PlainHit, hit_pieces}
use Rattle.lhg_plant.specs.SwitchFacts.{state_at, IsAway, IsHit, AreHits}
use Rattle.lhg_plant.proofs.Decided.{region_decided}
use Rattle.lhg_plant.proofs.Reached.{escape_play, play_escape}
use Rattle.lhg_loss.specs.RoundFacts.{AreSwitchSets, AreReached}

-- the difference of lists, said of points
pub less_is : (n : ℕ) (ps qs : List PlainPiece) → AllOver n ps → AllOver n qs → (p : PlainPoint) → length p ≡ n
    → InSome (minus frac_arithmetic n ps qs).value p ↔ (InSome ps p × ¬ InSome qs p)
less_is n ps qs v w p e =
    let rest = (minus frac_arithmetic n ps qs).value in
    let same = minus-exact frac_arithmetic n ps qs frac_is_lawful v w p e in (
      λ h.
          let s = and_parts (in_some ps p) (not (in_some qs p)) (sym same ∙ (in_some_is rest p).0 h) in
          ((in_some_is ps p).1 s.0, λ k. clash (in_some qs p) ((in_some_is qs p).0 k) (not_true (in_some qs p) s.1)),
      λ h.
          (in_some_is rest p).1 (same ∙ both (in_some ps p) (in_some qs p) ((in_some_is ps p).0 h.0) (λ k. h.1 ((in_some_is qs p).1 k))),
    )
  where
    not_true : (b : Bool) → not b ≡ true → b ≡ false
    not_true true e = sym e
    not_true false e = refl

    both : (b c : Bool) → b ≡ true → (c ≡ true → ⊥) → (b && not c) ≡ true
    both b true e f = absurd (f refl)
    both b false e f = rw e refl

-- a point of some piece of a list whose pieces lie inside the invariant is a state
pub inside_state : (a : PlainPlant) (l : ℕ) (ps : List PlainPiece) → AllOf (IsInside a l) ps → (p : PlainPoint) → length p ≡ length a.vars → InSome ps p → IsState a (state_at l p)
inside_state a l [] h p e k = absurd k
inside_state a l (piece ∷ ps) h p e (inl k) = h.0 p e k
inside_state a l (piece ∷ ps) h p e (inr k) = inside_state a l ps h.1 p e k

-- a point of a hit is a state of the set from which the plant leaves it
pub hit_leaves : (a : PlainPlant) (S : PlainState → Type 0) (l : ℕ) (hits : List PlainHit) → AllOf (IsHit a S l) hits → (p : PlainPoint) → length p ≡ length a.vars → InSome (hit_pieces hits) p
    → S (state_at l p) × LeavesBySwitch a S (state_at l p)
hit_leaves a S l [] h p e k = absurd k
hit_leaves a S l (hit ∷ hits) h p e (inl k) =
    let r = h.0.result p e k in
    (h.0.kept p e k, record { number = hit.switch; result = r.0; side = h.0.side; legal = r.1; gone = h.0.missed r.0 r.2 })
hit_leaves a S l (hit ∷ hits) h p e (inr k) = hit_leaves a S l hits h.1 p e k

-- one location of a plant, a region, and the states outside it and the hits
module _ (a : PlainPlant) (region : PlainRegion) (l : ℕ) (away : List PlainPiece) (hits : List PlainHit) (away_is : IsAway a (InRegion a region) l away) (hits_are : AreHits a (InRegion a region) l hits) where
  -- the bad pieces hold what is in Out
  pub bad_out : (p : PlainPoint) → length p ≡ length a.vars → InSome (away ++ hit_pieces hits) p → Out a (InRegion a region) (state_at l p)
  bad_out p e h =
      elim (in_either away (hit_pieces hits) p h) [
        | inl k ↦ inl ((away_is.exact p e).0 k)
        | inr k ↦ inr (hit_leaves a (InRegion a region) l hits hits_are.sound p e k).1
      ]

  out_bad : (p : PlainPoint) → Out a (InRegion a region) (state_at l p) → InSome (away ++ hit_pieces hits) p
  out_bad p (inl o) = in_left away (hit_pieces hits) p ((away_is.exact p o.0.fits).1 o)
  out_bad p (inr o) =
      elim (region_decided a region (state_at l p)) [
        | inl k ↦ in_right away (hit_pieces hits) p (hits_are.all p k o)
        | inr k ↦ in_left away (hit_pieces hits) p ((away_is.exact p o.legal.start.fits).1 (o.legal.start, k))
      ]

  -- so an escape past a set may pass the bad pieces and those of the states of the region outside the set
  pub split_by : (K : States) (place : PlainLocation) → slice_get a.locs l ≡ Some place → (near : List PlainPiece)
      → ((p : PlainPoint) → length p ≡ length a.vars → InSome near p ↔ (InRegion a region (state_at l p) × ¬ K (state_at l p)))
      → (q : PlainPoint) → AreSplit a (InRegion a region) K (state_at l q) place (away ++ hit_pieces hits) near
  split_by K place there near near_is q = record {
    is_there = there;
    bad_in = bad_out;
    bad_all = out_bad;
    near_in = λ p e h. (let k = (near_is p e).0 h in (k.0.state, k.1));
    near_all = λ p i o b. elim (region_decided a region (state_at l p)) [ inl k ↦ (near_is p i.fits).1 (k, b) | inr k ↦ absurd (o (inl (i, k))) ];
  }

-- one location of a plant, a region, and the lists that a round makes of it
module _ (a : PlainPlant) (region : PlainRegion) (l : ℕ) (place : PlainLocation) (there : slice_get a.locs l ≡ Some place) (here : List PlainPiece) (here_is : here ≡ get_or region l [])
    (here_polys : AllPolys frac_arithmetic (length a.vars) here) (inside : AllOf (IsInside a l) here) (away : List PlainPiece) (hits : List PlainHit) (near : List PlainPiece)
    (sets : AreSwitchSets a (InRegion a region) l away hits near) where
  abbrev S : PlainState → Type 0
  S = InRegion a region

  abbrev n : ℕ
  n = length a.vars

  abbrev bad : List PlainPiece
  bad = away ++ hit_pieces hits

  -- the pieces of the location hold its states of the region
  pub in_region : (p : PlainPoint) → length p ≡ n → InSome here p → S (state_at l p)
  in_region p e h = record { state = inside_state a l here inside p e h; some = subst (λ (w : List PlainPiece). InSome w p) here_is h }

  pub in_here : (p : PlainPoint) → S (state_at l p) → InSome here p
  in_here p s = subst (λ (w : List PlainPiece). InSome w p) (sym here_is) s.some

  -- an escape may pass the bad and near pieces
  pub split : (q : PlainPoint) → AreSplit a S (Back a S) (state_at l q) place bad near
  split q = split_by a region l away hits sets.away_is sets.hits_are (Back a S) place there near sets.near_is q

  module _ (found : List PlainFound) (reached : AreReached n bad near place.flow found) where
    -- the states with an escape are those of the bad and found pieces
    escape_found : (p : PlainPoint) → IsState a (state_at l p) → HasEscape a S (Back a S) (state_at l p) → InSome (bad ++ pieces_of found) p
    escape_found p i h = (reached.exact p i.fits).1 (escape_play a S (Back a S) (state_at l p) place bad near i (split p) h)

    found_escape : (p : PlainPoint) → IsState a (state_at l p) → InSome (bad ++ pieces_of found) p → HasEscape a S (Back a S) (state_at l p)
    found_escape p i h = play_escape a S (Back a S) (state_at l p) place bad near i (split p) ((reached.exact p i.fits).0 h)

    abbrev gone : List PlainPiece
    gone = hit_pieces hits ++ pieces_of found

    -- of the states of the region, those with an escape are those of the hits and of the found pieces
    escape_gone : (p : PlainPoint) → S (state_at l p) → HasEscape a S (Back a S) (state_at l p) → InSome gone p
    escape_gone p s h =
        elim (in_either bad (pieces_of found) p (escape_found p s.state h)) [
          | inl k ↦ elim (in_either away (hit_pieces hits) p k) [
            | inl o ↦ absurd (((sets.away_is.exact p s.state.fits).0 o).1 s)
            | inr o ↦ in_left (hit_pieces hits) (pieces_of found) p o
          ]
          | inr k ↦ in_right (hit_pieces hits) (pieces_of found) p k
        ]

    gone_escape : (p : PlainPoint) → S (state_at l p) → InSome gone p → HasEscape a S (Back a S) (state_at l p)
    gone_escape p s h =
        found_escape p s.state (elim (in_either (hit_pieces hits) (pieces_of found) p h) [
          | inl k ↦ in_left bad (pieces_of found) p (in_right away (hit_pieces hits) p k)
          | inr k ↦ in_right bad (pieces_of found) p k
        ])

    module _ (gone_over : AllOver n gone) (rest : List PlainPiece) (rest_is : rest ≡ (minus frac_arithmetic n here gone).value) where
      -- what is left of the location
      pub rest_points : (p : PlainPoint) → length p ≡ n → InSome rest p ↔ (S (state_at l p) × ¬ InSome gone p)
      rest_points p e =
          let d = less_is n here gone (polys-over frac_arithmetic n here here_polys) gone_over p e in (
            (λ h. let k = d.0 (subst (λ (w : List PlainPiece). InSome w p) rest_is h) in (in_region p e k.0, k.1)),
            (λ h. subst (λ (w : List PlainPiece). InSome w p) (sym rest_is) (d.1 (in_here p h.0, h.1))),
          )

      -- is what has no escape
      pub rest_next : (p : PlainPoint) → length p ≡ n → InSome rest p ↔ Next a S (state_at l p)
      rest_next p e = (
        (λ h. let k = (rest_points p e).0 h in (k.0, λ c. k.1 (escape_gone p k.0 c))),
        (λ h. (rest_points p e).1 (h.0, λ k. h.1 (gone_escape p h.0 k))),
      )

      -- and the rest is lost
      pub rest_lost : (p : PlainPoint) → length p ≡ n → S (state_at l p) → ¬ InSome rest p → InSome gone p
      rest_lost p e s h = elim (some_decided gone p) [ inl k ↦ k | inr k ↦ absurd (h ((rest_points p e).1 (s, k))) ]

      -- each state of which has an escape
      pub rest_escapes : (p : PlainPoint) → length p ≡ n → S (state_at l p) → ¬ InSome rest p → HasEscape a S (Back a S) (state_at l p)
      rest_escapes p e s h = gone_escape p s (rest_lost p e s h)
