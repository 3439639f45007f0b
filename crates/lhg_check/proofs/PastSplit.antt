-- In one location, the states of a region with an escape from it past any set are those of the hits and of what is found.
use Rattle.std.proofs.Common.{◌≡◌, ◌↔◌, ℕ, List, [], ◌∷◌, ◌++◌, length, slice_get, get_or, Some, inl, inr}
use Rattle.lhg_row.specs.Row.{PlainPoint}
use Rattle.lhg_row.specs.Piece.{PlainPiece, InPiece, InSome}
use Rattle.lhg_row.specs.SomeLists.{in_left, in_right, in_either, some_map, in_some_of}
use Rattle.lhg_motion.specs.Crossing.{HasCrossing}
use Rattle.lhg_motion.specs.Found.{PlainFound, EachNamed, pieces_of}
use Rattle.lhg_motion.specs.PlayLemmas.{earlier_none}
use Rattle.lhg_plant.specs.Plant.{PlainLocation, PlainPlant}
use Rattle.lhg_plant.specs.State.{PlainState, States, moved_to}
use Rattle.lhg_plant.specs.OutBack.{Out}
use Rattle.lhg_plant.specs.Escape.{MayPass, HasEscape}
use Rattle.lhg_plant.specs.Region.{PlainRegion, InRegion}
use Rattle.lhg_plant.specs.Split.{AreSplit}
use Rattle.lhg_plant.specs.OutCalculus.{PlainHit, hit_pieces}
use Rattle.lhg_plant.specs.SwitchFacts.{state_at, IsAway, AreHits}
use Rattle.lhg_plant.proofs.Reached.{escape_play, play_escape, out_state}
use Rattle.lhg_loss.specs.RoundFacts.{AreReached}
use Rattle.lhg_loss.proofs.PlaceSplit.{hit_leaves, split_by}

-- each found piece lies in the near pieces
named_near : (n : ℕ) (near ways known : List PlainPiece) (flow : PlainPiece) (fs : List PlainFound) → EachNamed n near ways known flow fs → (p : PlainPoint) → length p ≡ n → InSome (pieces_of fs) p → InSome near p
named_near n near ways known flow [] h p e k = absurd k
named_near n near ways known flow (f ∷ fs) h p e (inl k) =
    (in_some_of near p).1 (some_map (λ from. HasCrossing from (get_or ways f.through []) (get_or known f.to []) flow p) (λ from. InPiece from p) (λ from x. x.from_in) near (h.0.crosses p e k))
named_near n near ways known flow (f ∷ fs) h p e (inr k) = named_near n near ways (known ++ f.piece ∷ []) flow fs h.1 p e k

-- a state of Out has an escape past any set, which stays there
pub out_escapes : (a : PlainPlant) (S K : States) (s : PlainState) → Out a S s → HasEscape a S K s
out_escapes a S K s o =
    let i = out_state a S s o in
    ([], record { play = record { start = i; play = i.inside }; ends = o; earlier = earlier_none (λ p. MayPass a S K (moved_to s p)) s.at })

-- the states of the hits are states of the set with an escape
pub hit_escapes : (a : PlainPlant) (S K : States) (l : ℕ) (hits : List PlainHit) → AreHits a S l hits → (p : PlainPoint) → length p ≡ length a.vars → InSome (hit_pieces hits) p → S (state_at l p) × HasEscape a S K (state_at l p)
hit_escapes a S K l hits are p e h = let k = hit_leaves a S l hits are.sound p e h in (k.0, out_escapes a S K (state_at l p) (inr k.1))

module _ (a : PlainPlant) (region : PlainRegion) (K : States) (l : ℕ) (place : PlainLocation) (there : slice_get a.locs l ≡ Some place) (away : List PlainPiece) (hits : List PlainHit) (near : List PlainPiece)
    (away_is : IsAway a (InRegion a region) l away) (hits_are : AreHits a (InRegion a region) l hits)
    (near_is : (p : PlainPoint) → length p ≡ length a.vars → InSome near p ↔ (InRegion a region (state_at l p) × ¬ K (state_at l p))) where
  abbrev S : PlainState → Type 0
  S = InRegion a region

  abbrev n : ℕ
  n = length a.vars

  abbrev bad : List PlainPiece
  bad = away ++ hit_pieces hits

  -- an escape may pass the bad and near pieces
  split : (q : PlainPoint) → AreSplit a S K (state_at l q) place bad near
  split q = split_by a region l away hits away_is hits_are K place there near near_is q

  module _ (found : List PlainFound) (reached : AreReached n bad near place.flow found) where
    abbrev gone : List PlainPiece
    gone = hit_pieces hits ++ pieces_of found

    -- what is found is in the region
    found_in : (p : PlainPoint) → length p ≡ n → InSome (pieces_of found) p → S (state_at l p)
    found_in p e h = ((near_is p e).0 (named_near n near (bad ++ near) bad place.flow found reached.named p e h)).0

    -- and has an escape
    found_escapes : (p : PlainPoint) → length p ≡ n → InSome (pieces_of found) p → HasEscape a S K (state_at l p)
    found_escapes p e h = play_escape a S K (state_at l p) place bad near (found_in p e h).state (split p) ((reached.exact p e).0 (in_right bad (pieces_of found) p h))

    -- the states of the region with an escape are lost
    escape_gone : (p : PlainPoint) → S (state_at l p) → HasEscape a S K (state_at l p) → InSome gone p
    escape_gone p s h =
        elim (in_either bad (pieces_of found) p ((reached.exact p s.state.fits).1 (escape_play a S K (state_at l p) place bad near s.state (split p) h))) [
          | inl k ↦ elim (in_either away (hit_pieces hits) p k) [
            | inl o ↦ absurd (((away_is.exact p s.state.fits).0 o).1 s)
            | inr o ↦ in_left (hit_pieces hits) (pieces_of found) p o
          ]
          | inr k ↦ in_right (hit_pieces hits) (pieces_of found) p k
        ]

    pub gone_is : (p : PlainPoint) → length p ≡ n → InSome gone p ↔ (S (state_at l p) × HasEscape a S K (state_at l p))
    gone_is p e = (
      λ h. elim (in_either (hit_pieces hits) (pieces_of found) p h) [
        | inl k ↦ hit_escapes a S K l hits hits_are p e k
        | inr k ↦ (found_in p e k, found_escapes p e k)
      ],
      λ h. escape_gone p h.0 h.1,
    )
