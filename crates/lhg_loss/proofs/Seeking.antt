-- A state that is sought is removed in a round exactly where a record of the round holds it; a solved region holds every secure set.
use Rattle.std.proofs.Common.{◌≡◌, ◌<◌, ◌≤◌, ◌+◌, ℕ, zero, suc, List, [], ◌∷◌, ◌++◌, Some, None, length, get_or, refl, sym, inl, inr, subst, arith}
use Rattle.std.specs.Prelude.{Contains}
use Rattle.std.proofs.lemmas.List.Elements.{Contains-append_right, Contains-append_cases}
use Rattle.lhg_plant.specs.Plant.{PlainPlant}
use Rattle.lhg_plant.specs.State.{PlainState, IsState}
use Rattle.lhg_plant.specs.Round.{InRound, IsRemovedIn}
use Rattle.lhg_plant.specs.Region.{InRegion}
use Rattle.lhg_plant.specs.Controller.{PlainController}
use Rattle.lhg_plant.specs.Escape.{IsSecure}
use Rattle.lhg_plant.specs.Loss.{PlainLoss, InLoss}
use Rattle.lhg_plant.specs.Solution.{InSomeLoss}
use Rattle.lhg_plant.proofs.Decided.{region_decided}
use Rattle.lhg_plant.proofs.Rounds.{round_safe, rounds_shrink, secure_in_round, last_once}
use Rattle.lhg_loss.specs.Records.{PlainRound}
use Rattle.lhg_loss.specs.Iterate.{PlainStage}
use Rattle.lhg_loss.specs.RoundFacts.{IsExactRound}
use Rattle.lhg_loss.specs.StageFacts.{IsStage, IsSolved}
use Rattle.lhg_loss.specs.Holding.{HoldsState, IsFirstHolding}
use Rattle.lhg_loss.specs.SolveLaws.{OutcomeLaws}
use Rattle.lhg_loss.specs.SeekLaws.{SeekLaws}
use Rattle.lhg_loss.proofs.Numbers.{no_member}
use Rattle.lhg_loss.proofs.Stages.{round_exact, loss_removed, all_lost, is_last}

-- a record of the list that holds the state
record HasHolder (z : PlainState) (losses : List PlainLoss) : Type 0 where
  loss : PlainLoss
  listed : Contains losses loss
  holds : HoldsState loss z

-- the first one is one
first_holder : (z : PlainState) (losses : List PlainLoss) (m : ℕ) → IsFirstHolding z losses (Some m) → HasHolder z losses
first_holder z [] m h = absurd cc
first_holder z (r ∷ rs) m (inl h) = record { loss = r; listed = (0, omega arith, refl); holds = h.0 }
first_holder z (r ∷ rs) m (inr h) =
    let t = first_holder z rs m h.1 in
    record { loss = t.loss; listed = Contains-append_right (r ∷ []) rs t.loss t.listed; holds = t.holds }

-- where there is none, no record holds it
no_holder : (z : PlainState) (losses : List PlainLoss) → IsFirstHolding z losses None → (r : PlainLoss) → Contains losses r → ¬ HoldsState r z
no_holder z [] h r c k = no_member r c
no_holder z (x ∷ xs) (inl h) r c k = absurd cc
no_holder z (x ∷ xs) (inr h) r c k =
    elim (Contains-append_cases (x ∷ []) xs r c) [ inl d ↦ h.0 (subst (λ (w : PlainLoss). HoldsState w z) (only x r d.0 d.1 d.2) k) | inr d ↦ no_holder z xs h.1 r d k ]
  where
    only : (x r : PlainLoss) (k : ℕ) → k < length (x ∷ []) → get_or (x ∷ []) k r ≡ r → r ≡ x
    only x r zero l e = sym e
    only x r (suc k) l e = absurd (omega arith)

-- the first in the second of two lists is the first in both, where none in the first holds the state
first_after : (z : PlainState) (xs ys : List PlainLoss) (m : ℕ) → ((r : PlainLoss) → Contains xs r → ¬ HoldsState r z) → IsFirstHolding z ys (Some m) → IsFirstHolding z (xs ++ ys) (Some m)
first_after z [] ys m none h = h
first_after z (x ∷ xs) ys m none h = inr (none x (0, omega arith, refl), first_after z xs ys m (λ r c. none r (Contains-append_right (x ∷ []) xs r c)) h)

-- a state that is held is one of the record
held : (a : PlainPlant) (r : PlainLoss) (z : PlainState) → IsState a z → HoldsState r z → InLoss a r z
held a r z i h = record { state = i; here = sym h.here; inside = h.inside }

module _ (a : PlainPlant) (i : ℕ) (s : PlainStage) (r : PlainRound) (h : IsStage a i s) (e : IsExactRound a s.region (suc i) (length s.losses + 1) r) where
  state_of : (z : PlainState) → InRound a i z → IsState a z
  state_of z k = (round_safe a i z k).state

  -- the records of earlier rounds hold no state of the round
  none_earlier : (z : PlainState) → InRound a i z → (x : PlainLoss) → Contains s.losses x → ¬ HoldsState x z
  none_earlier z k x c t =
      let sound = h.sound x c in
      sound.sound_between.is_true.gone z (held a x z (state_of z k) t) (rounds_shrink a (suc sound.round) i z (earlier x c sound.round sound.number) k)
    where
      earlier : (x : PlainLoss) → Contains s.losses x → (j : ℕ) → x.round ≡ suc j → suc j ≤ i
      earlier x c j e = subst (λ (w : ℕ). w ≤ i) e (h.rounds x c)

  removed_in : (z : PlainState) (m : ℕ) → InRound a i z → IsFirstHolding z r.losses (Some m) → IsRemovedIn a (suc i) z × IsFirstHolding z (s.losses ++ r.losses) (Some m)
  removed_in z m k f =
      let t = first_holder z r.losses m f in
      (loss_removed a i s r h e t.loss t.listed z (held a t.loss z (state_of z k) t.holds), first_after z s.losses r.losses m (none_earlier z k) f)

  stays_in : (z : PlainState) → InRound a i z → IsFirstHolding z r.losses None → InRound a (suc i) z
  stays_in z k f =
      elim (region_decided a r.next z) [
        | inl t ↦ (round_exact a i s r h e z).0 t
        | inr t ↦ (let l = e.lost z ((h.exact z).1 k) t in absurd (no_holder z r.losses f l.0 l.1 (record { here = sym l.2.here; inside = l.2.inside })))
      ]

  known_in : (z : PlainState) (j : ℕ) → j ≤ suc i → IsRemovedIn a j z → InSomeLoss a (s.losses ++ r.losses) z
  known_in z j l g = all_lost a i s r h e z (round_safe a g.round z g.kept) (λ k. g.gone (rounds_shrink a j (suc i) z l ((round_exact a i s r h e z).0 k)))

  pub seek_laws : SeekLaws a i s r
  seek_laws = record { lost = removed_in; stays = stays_in; last = is_last a i s r h e; known = known_in }

-- the region of a solution holds every secure set
pub solved_largest : (a : PlainPlant) (budget : ℕ) (c : PlainController) (rounds : ℕ) (losses : List PlainLoss) (T : PlainState → Type 0) → IsSolved a budget c rounds losses → IsSecure a T
    → (z : PlainState) → T z → InRegion a c.region z
solved_largest a budget c rounds losses T h secure z t = (h.exact z).1 (secure_in_round a T secure rounds z t)

-- a budget is spent or the game is solved, not both
pub outcome_laws : (a : PlainPlant) (budget : ℕ) → OutcomeLaws a budget
outcome_laws a budget = record {
  not_spent = λ s r h last l. (let g = h.removes r last.counted l in last.settled g.0 g.1);
  not_solved = λ c rounds losses h removes. (let g = removes rounds h.solution.last.counted h.within in h.solution.last.settled g.0 g.1);
  last = λ c rounds losses r h last. last_once a rounds r h.solution.last last;
}
