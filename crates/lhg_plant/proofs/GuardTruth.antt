-- Guards along a flow: their truth between neighbours, and the first switch whose guard holds.
use Rattle.std.proofs.Common.{◌≡◌, ◌⊎◌, ◌<◌, ◌≤◌, inl, inr, ℕ, zero, suc, List, [], ◌∷◌, IsSomeAnd, slice_get, get_or, length, refl, sym, subst, arith, Bool, true, cond, nat_eq}
use Rattle.std.proofs.lemmas.Bool.Decides.{nat_tests}
use Rattle.lhg_math.specs.Number.{Number}
use Rattle.lhg_row.specs.Row.{PlainRow, PlainPoint}
use Rattle.lhg_row.specs.Piece.{PlainPiece}
use Rattle.lhg_motion.specs.Segment.{along}
use Rattle.lhg_motion.specs.CheckPoint.{rows_of, AreNeighbours, IsBetween}
use Rattle.lhg_row.specs.Members.{all_split}
use Rattle.lhg_math.specs.Tests.{AllOf}
use Rattle.lhg_motion.specs.CheckLemmas.{neighbours_truth, some_carried, inside_place}
use Rattle.lhg_plant.specs.Plant.{PlainPlant, PlainSwitch}
use Rattle.lhg_plant.specs.State.{PlainState}
use Rattle.lhg_plant.specs.Legal.{LegalFlow}
use Rattle.lhg_plant.specs.Region.{PlainGuards, InGuard, InSomeGuard}
use Rattle.lhg_plant.specs.Controller.{PlainController}
use Rattle.lhg_plant.specs.Run.{guard_rows, run_rows, state_along, IsFirstGuard}
use Rattle.lhg_plant.proofs.Decided.{guard_decided}
use Rattle.lhg_row.specs.Decisions.{nat_decided}
use Rattle.lhg_plant.proofs.RunInside.{flow_length, along_state}

-- equal numbers pass the test of equality
equal_test : (m n : ℕ) → m ≡ n → nat_eq m n ≡ true
equal_test m n e = grind (arith, nat_tests)

-- past the end of the guards there is no piece
no_guard : (e : ℕ) → get_or {A = List PlainPiece} [] e [] ≡ []
no_guard zero = refl
no_guard (suc e) = refl

-- the rows of a guard are among those of the guards of its location
guard_among : (P : PlainRow → Type 0) (ws : List PlainSwitch) (gs : PlainGuards) (l e : ℕ) → IsSomeAnd (slice_get ws e) (λ w. w.from ≡ l)
    → AllOf P (guard_rows ws gs l) → AllOf P (rows_of (get_or gs e []))
guard_among P [] gs l e leaves h = absurd leaves
guard_among P (w ∷ ws) [] l e leaves h = subst (λ (g : List PlainPiece). AllOf P (rows_of g)) (sym (no_guard e)) tt
guard_among P (w ∷ ws) (g ∷ gs) l zero leaves h =
    let first = (all_split P (cond (nat_eq w.from l) (rows_of g) []) (guard_rows ws gs l) h).0 in
    subst (λ (b : Bool). AllOf P (cond b (rows_of g) [])) (equal_test w.from l leaves) first
guard_among P (w ∷ ws) (g ∷ gs) l (suc e) leaves h = guard_among P ws gs l e leaves (all_split P (cond (nat_eq w.from l) (rows_of g) []) (guard_rows ws gs l) h).1

-- a guard's truth is one between two neighbours
pub guard_carried : (a : PlainPlant) (c : PlainController) (s : PlainState) (t : Number) (y : PlainPoint) (l r u v : Number) (e : ℕ)
    → LegalFlow a s t y → AreNeighbours (run_rows a c s.loc) s.at y l r
    → IsBetween l r u → IsBetween l r v → InGuard a c.guards e (state_along s y u) → InGuard a c.guards e (state_along s y v)
guard_carried a c s t y l r u v e h n i j k =
    let rows = neighbours_truth (run_rows a c s.loc) s.at y l r u v (flow_length a s t y h) n i j in
    let guards = (all_split _ (rows_of (get_or c.region s.loc [])) (guard_rows a.switches c.guards s.loc) rows).1 in
    record {
      state = along_state a s t y v h (inside_place l r v n.left.place n.right.place j);
      leaves = k.leaves;
      some = some_carried (get_or c.guards e []) (along s.at y u) (along s.at y v) (guard_among _ a.switches c.guards s.loc e k.leaves guards) k.some;
    }

-- the first switch whose guard holds, up to a number
guard_below : (a : PlainPlant) (g : PlainGuards) (s : PlainState) (n : ℕ) → ((e : ℕ) × IsFirstGuard a g s e) ⊎ ((d : ℕ) → d < n → ¬ InGuard a g d s)
guard_below a g s zero = inr (λ d l. absurd (omega arith))
guard_below a g s (suc n) =
    elim (guard_below a g s n) [
      | inl f ↦ inl f
      | inr none ↦ elim (guard_decided a g n s) [
        | inl h ↦ inl (n, record { holds = h; before = none })
        | inr h ↦ inr (λ d l. below d l none h)
      ]
    ]
  where
    below : (d : ℕ) → d < suc n → ((e : ℕ) → e < n → ¬ InGuard a g e s) → ¬ InGuard a g n s → ¬ InGuard a g d s
    below d l none last = elim (nat_decided d n) [ inl e ↦ subst (λ (k : ℕ). ¬ InGuard a g k s) (sym e) last | inr e ↦ none d (omega arith) ]

-- where some guard holds there is a first switch whose guard holds
pub first_guard : (a : PlainPlant) (g : PlainGuards) (s : PlainState) → InSomeGuard a g s → (e : ℕ) × IsFirstGuard a g s e
first_guard a g s h = elim (guard_below a g s (suc h.0)) [ inl f ↦ f | inr none ↦ absurd (none h.0 (omega arith) h.1) ]

-- past the last switch no guard holds
past_switches : (ws : List PlainSwitch) (e l : ℕ) → length ws ≤ e → IsSomeAnd (slice_get ws e) (λ w. w.from ≡ l) → ⊥
past_switches [] e l le h = h
past_switches (w ∷ ws) zero l le h = omega arith
past_switches (w ∷ ws) (suc e) l le h = past_switches ws e l (omega arith) h

-- some guard holds at a state or none does
pub some_guard_decided : (a : PlainPlant) (g : PlainGuards) (s : PlainState) → InSomeGuard a g s ⊎ ¬ InSomeGuard a g s
some_guard_decided a g s =
    elim (guard_below a g s (length a.switches)) [
      | inl f ↦ inl (f.0, f.1.holds)
      | inr none ↦ inr (λ h. elim (le_or_lt h.0 (length a.switches)) [ inl k ↦ none h.0 k h.1 | inr k ↦ past_switches a.switches h.0 s.loc k h.1.leaves ])
    ]
  where
    le_or_lt : (d n : ℕ) → (d < n) ⊎ (n ≤ d)
    le_or_lt d zero = inr (omega arith)
    le_or_lt zero (suc n) = inl (omega arith)
    le_or_lt (suc d) (suc n) = elim (le_or_lt d n) [ inl k ↦ inl (omega arith) | inr k ↦ inr (omega arith) ]
