-- The first record that holds a state tells its rank.
use Rattle.std.proofs.Common.{◌≡◌, inl, inr, ◌<◌, ◌≤◌, ◌-◌, ℕ, zero, suc, List, [], ◌∷◌, length, get_or, slice_get, Option, Some, None, refl, sym, ap, subst, arith}
use Rattle.std.specs.Prelude.{Contains, nat_lt}
use Rattle.std.proofs.lemmas.Bool.{ltb-true, ltb-false}
use Rattle.std.proofs.lemmas.List.Elements.{Contains-append_right, Contains-append_cases}
use Rattle.lhg_math.specs.Tests.{by_bool}
use Rattle.lhg_plant.specs.Plant.{PlainPlant}
use Rattle.lhg_plant.specs.State.{PlainState, IsState, IsSafe}
use Rattle.lhg_plant.specs.Loss.{PlainLoss}
use Rattle.lhg_plant.specs.Rank.{HasRank, IsPast}
use Rattle.lhg_plant.specs.Round.{IsRemovedIn}
use Rattle.lhg_plant.proofs.LegalSteps.{image_at}
use Rattle.lhg_plant.proofs.Options.{some_same}
use Rattle.lhg_loss.specs.Holding.{HoldsState, IsFirstHolding}
use Rattle.lhg_loss.specs.StageFacts.{AreCounted}
use Rattle.lhg_loss.specs.declared.losses.Loss.{Loss}
use Rattle.lhg_loss.specs.Views.{plain_loss, plain_losses, AllHaveVars, AreOver}
use Rattle.lhg_loss.proofs.Numbers.{no_member}
use Rattle.lhg_spoil.specs.Known.{AreKnown}
use Rattle.lhg_spoil.specs.Replies.{IsRankWithin, IsRoundOfFirst, upto_of}
use Rattle.lhg_spoil.proofs.Outside.{rank_once}
use Rattle.lhg_spoil.proofs.PastStates.{held_removed, removed_held}

-- the first record that holds the state is at the place of its number
record IsHolder (s : PlainState) (losses : List PlainLoss) (m : ℕ) : Type 0 where
  loss : PlainLoss
  listed : Contains losses loss
  number : loss.number ≡ m
  holds : HoldsState loss s

first_holder : (s : PlainState) (losses : List PlainLoss) (m : ℕ) → IsFirstHolding s losses (Some m) → IsHolder s losses m
first_holder s [] m h = absurd cc
first_holder s (r ∷ rs) m (inl h) = record { loss = r; listed = (0, omega arith, refl); number = (let e = h.1 in cc); holds = h.0 }
first_holder s (r ∷ rs) m (inr h) =
    let t = first_holder s rs m h.1 in
    record { loss = t.loss; listed = Contains-append_right (r ∷ []) rs t.loss t.listed; number = t.number; holds = t.holds }

-- where there is none, no record holds it
no_holder : (s : PlainState) (losses : List PlainLoss) → IsFirstHolding s losses None → (r : PlainLoss) → Contains losses r → ¬ HoldsState r s
no_holder s [] h r c k = no_member r c
no_holder s (x ∷ xs) (inl h) r c k = absurd cc
no_holder s (x ∷ xs) (inr h) r c k =
    elim (Contains-append_cases (x ∷ []) xs r c) [ inl d ↦ h.0 (subst (λ (w : PlainLoss). HoldsState w s) (only x r d.0 d.1 d.2) k) | inr d ↦ no_holder s xs h.1 r d k ]
  where
    only : (x r : PlainLoss) (k : ℕ) → k < length (x ∷ []) → get_or (x ∷ []) k r ≡ r → r ≡ x
    only x r zero l e = sym e
    only x r (suc k) l e = absurd (omega arith)

-- one of the list is a member at a place
listed_there : {A : Type 0} (xs : List A) (x : A) (k : ℕ) → k < length xs → get_or xs k x ≡ x → slice_get xs k ≡ Some x
listed_there [] x k l e = absurd (omega arith)
listed_there (y ∷ xs) x zero l e = ap Some e
listed_there (y ∷ xs) x (suc k) l e = listed_there xs x k (omega arith) e

-- records over n variables are over as many as a point has that many coordinates
pub over_of : (n : ℕ) (losses : List Loss) → AllHaveVars n losses → AreOver n losses
over_of n [] h = tt
over_of n (r ∷ rs) h = (h.0.0, over_of n rs h.1)

-- the number of the first record that holds the state is that of a place of the list
pub holder_place : (s : PlainState) (losses : List PlainLoss) (m : ℕ) → AreCounted losses → IsFirstHolding s losses (Some m) → (0 < m) × (m ≤ length losses)
holder_place s losses m counted h =
    let t = first_holder s losses m h in
    let k = t.listed.0 in
    let less = t.listed.1 in
    let c = counted k t.loss (listed_there losses t.loss k t.listed.1 t.listed.2) in
    let n = t.number in
    (omega arith, omega arith)

module _ (a : PlainPlant) (losses : List PlainLoss) (j : ℕ) (known : AreKnown a losses j) (s : PlainState) (state : IsState a s) where
  held_rank : (r : PlainLoss) → Contains losses r → HoldsState r s → HasRank a r.round s
  held_rank r c h =
      let b = known.sound r c in
      subst (λ (m : ℕ). HasRank a m s) (sym b.number) (subst (λ (m : ℕ). IsRemovedIn a m s) b.number (held_removed a losses j known s r c state h.here h.inside))

  -- where no record holds a safe state, it does not lie outside
  pub none_past : IsSafe a s → IsFirstHolding s losses None → ¬ IsPast a j s
  none_past safe h past = go past.rank past.within past.ranked
    where
      go : (i : ℕ) → i ≤ j → HasRank a i s → ⊥
      go zero less k = k.1 safe
      go (suc i) less k =
          let g = removed_held a losses j known s (suc i) less k in
          no_holder s losses h g.0 g.1 (record { here = sym g.3.here; inside = g.3.inside })

  -- the round of the first one is its rank
  pub holder_rank : AreCounted losses → (m : ℕ) → IsFirstHolding s losses (Some m) → (r : PlainLoss) → slice_get losses (m - 1) ≡ Some r → HasRank a r.round s
  holder_rank counted m h r there =
      let t = first_holder s losses m h in
      let k = t.listed.0 in
      let at = listed_there losses t.loss k t.listed.1 t.listed.2 in
      let c = counted k t.loss at in
      let n = t.number in
      let place : k ≡ m - 1 = omega arith in
      let same : t.loss ≡ r = some_same (slice_get losses (m - 1)) t.loss r (subst (λ (i : ℕ). slice_get losses i ≡ Some t.loss) place at) there in
      subst (λ (x : PlainLoss). HasRank a x.round s) same (held_rank t.loss t.listed t.holds)

  -- whether that is within the bound
  bounded : (i : ℕ) → HasRank a i s → IsRankWithin a j s (upto_of j (Some i))
  bounded i h =
      by_bool (nat_lt j i)
      (λ e.
      let less = ltb-true j i e in
      rw e (λ past. let same = rank_once a i past.rank s h past.ranked in let within = past.within in omega arith))
      (λ e. let within = ltb-false j i e in rw e (record { rank = i; within = within; ranked = h }, h))

  -- the rank of a safe state
  pub upto-rank : IsSafe a s → AreCounted losses → (o : Option ℕ) → IsRoundOfFirst s losses o → IsRankWithin a j s (upto_of j o)
  upto-rank safe counted None h = none_past safe h
  upto-rank safe counted (Some i) h = bounded i (subst (λ (m : ℕ). HasRank a m s) h.4 (holder_rank counted h.0 h.2 h.1 h.3))

-- the record of the code at the place of the number
pub loss_there : (losses : List Loss) (m : ℕ) (r : Loss) → 0 < m → m ≤ length losses → r ≡ get_or losses (m - 1) r → slice_get (plain_losses losses) (m - 1) ≡ Some (plain_loss r)
loss_there losses m r low high e = image_at plain_loss losses (m - 1) r (omega arith) e
