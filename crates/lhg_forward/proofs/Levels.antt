-- Levels grow, hold what is reachable, and stand still after one that adds nothing.
use Rattle.std.proofs.Common.{◌≡◌, ◌⊎◌, ◌↔◌, ◌<◌, ◌≤◌, ◌+◌, ◌-◌, inl, inr, ℕ, zero, suc, List, [], ◌∷◌, ◌++◌, refl, sym, ap, ◌∙◌, subst, arith}
use Rattle.std.proofs.lemmas.Bool.{cases_lt}
use Rattle.lhg_row.specs.Decisions.{nat_decided}
use Rattle.lhg_plant.specs.Plant.{PlainPlant}
use Rattle.lhg_plant.specs.State.{PlainState, States}
use Rattle.lhg_forward.specs.Level.{PlainAction, result_of, IsLegalAction, LeadsTo, FollowsFrom, AtLevel, IsPath, IsReachable, IsAddedIn, AddsSome, AddsNothing, IsLastLevel}

module _ (a : PlainPlant) (S : States) where
  -- ---- levels grow
  grow_by : (d i : ℕ) (z : PlainState) → AtLevel a S i z → (j : ℕ) → j ≡ d + i → AtLevel a S j z
  grow_by zero i z h j e = let same : i ≡ j = omega arith in subst (λ (k : ℕ). AtLevel a S k z) same h
  grow_by (suc d) i z h zero e = absurd (omega arith)
  grow_by (suc d) i z h (suc j) e = inl (grow_by d i z h j (omega arith))

  pub levels_grow : (i j : ℕ) (z : PlainState) → i ≤ j → AtLevel a S i z → AtLevel a S j z
  levels_grow i j z l h = grow_by (j - i) i z h j (omega arith)

  -- ---- reachable states
  -- one action more at the end of a path
  path_more : (s m : PlainState) (xs : List PlainAction) (x : PlainAction) (z : PlainState) → IsPath a s xs m → IsLegalAction a m x → result_of m x ≡ z → IsPath a s (xs ++ x ∷ []) z
  path_more s m [] x z h legal e = (subst (λ (k : PlainState). IsLegalAction a k x) (sym h) legal, ap (λ (k : PlainState). result_of k x) h ∙ e)
  path_more s m (y ∷ xs) x z h legal e = (h.0, path_more (result_of s y) m xs x z h.1 legal e)

  reach_more : (s z : PlainState) → IsReachable a S s → LeadsTo a s z → IsReachable a S z
  reach_more s z h step = record {
    start = h.start;
    first = h.first;
    actions = h.actions ++ step.action ∷ [];
    path = path_more h.start s h.actions step.action z h.path step.legal step.leads;
  }

  pub level_reachable : (i : ℕ) (z : PlainState) → AtLevel a S i z → IsReachable a S z
  level_reachable zero z h = record { start = z; first = h; actions = []; path = refl }
  level_reachable (suc i) z (inl h) = level_reachable i z h
  level_reachable (suc i) z (inr h) = reach_more h.from z (level_reachable i h.from h.kept) h.step

  path_level : (s : PlainState) (xs : List PlainAction) (z : PlainState) (i : ℕ) → AtLevel a S i s → IsPath a s xs z → (j : ℕ) × AtLevel a S j z
  path_level s [] z i h p = (i, subst (λ (k : PlainState). AtLevel a S i k) p h)
  path_level s (x ∷ xs) z i h p =
      path_level (result_of s x) xs z (suc i) (inr (record { from = s; kept = h; step = record { action = x; legal = p.0; leads = refl } })) p.1

  pub reachable_level : (z : PlainState) → IsReachable a S z → (i : ℕ) × AtLevel a S i z
  reachable_level z h = path_level h.start h.actions z 0 h.first h.path

  -- ---- standing still
  -- where a level holds what follows it, all later ones hold no more
  still_by : (i : ℕ) → ((z : PlainState) → AtLevel a S (suc i) z → AtLevel a S i z) → (d j : ℕ) → j ≡ d + i → (z : PlainState) → AtLevel a S j z → AtLevel a S i z
  still_by i f zero j e z h = let same : j ≡ i = omega arith in subst (λ (k : ℕ). AtLevel a S k z) same h
  still_by i f (suc d) zero e z h = absurd (omega arith)
  still_by i f (suc d) (suc j) e z (inl h) = still_by i f d j (omega arith) z h
  still_by i f (suc d) (suc j) e z (inr h) = f z (inr (record { from = h.from; kept = still_by i f d j (omega arith) h.from h.kept; step = h.step }))

  pub stands_still : (i : ℕ) → ((z : PlainState) → AtLevel a S (suc i) z → AtLevel a S i z) → (z : PlainState) → IsReachable a S z → AtLevel a S i z
  stands_still i f z h =
      let l = reachable_level z h in
      elim (cases_lt i l.0) [
        | inl less ↦ still_by i f (l.0 - i) l.0 (omega arith) z l.1
        | inr more ↦ levels_grow l.0 i z more l.1
      ]

  -- a state is added in one level at most
  added_before : (i j : ℕ) (z : PlainState) → IsAddedIn a S i z → IsAddedIn a S j z → ¬ (i < j)
  added_before i j z h k less = let n = k.number in k.before (levels_grow i k.level z (omega arith) h.now)

  pub added_once : (i j : ℕ) (z : PlainState) → IsAddedIn a S i z → IsAddedIn a S j z → i ≡ j
  added_once i j z h k = elim (cases_lt i j) [
    | inl less ↦ absurd (added_before i j z h k less)
    | inr m ↦ elim (nat_decided i j) [ inl e ↦ e | inr f ↦ absurd (added_before j i z k h (omega arith)) ]
  ]

  -- there is one first level at most that adds nothing
  pub last_once : (i j : ℕ) → IsLastLevel a S i → IsLastLevel a S j → i ≡ j
  last_once i j h k = elim (nat_decided i j) [
    | inl e ↦ e
    | inr f ↦ elim (cases_lt i j) [
      | inl less ↦ absurd (k.first i h.counted less h.settled)
      | inr m ↦ absurd (h.first j k.counted (omega arith) k.settled)
    ]
  ]

-- what is reachable from a set is reachable from each larger one
pub reachable_more : (a : PlainPlant) (S T : States) → ((z : PlainState) → S z → T z) → (z : PlainState) → IsReachable a S z → IsReachable a T z
reachable_more a S T f z h = record { start = h.start; first = f h.start h.first; actions = h.actions; path = h.path }

-- and so is a level
pub level_more : (a : PlainPlant) (S T : States) → ((z : PlainState) → S z → T z) → (i : ℕ) (z : PlainState) → AtLevel a S i z → AtLevel a T i z
level_more a S T f zero z h = f z h
level_more a S T f (suc i) z (inl h) = inl (level_more a S T f i z h)
level_more a S T f (suc i) z (inr h) = inr (record { from = h.from; kept = level_more a S T f i h.from h.kept; step = h.step })

-- ---- sets with the same states
module _ (a : PlainPlant) (S T : States) (same : (z : PlainState) → S z ↔ T z) where
  pub reachable_same : (z : PlainState) → IsReachable a S z ↔ IsReachable a T z
  reachable_same z = (reachable_more a S T (λ x. (same x).0) z, reachable_more a T S (λ x. (same x).1) z)

  pub added_same : (i : ℕ) (z : PlainState) → IsAddedIn a S i z → IsAddedIn a T i z
  added_same i z h = record {
    level = h.level;
    number = h.number;
    now = level_more a S T (λ x. (same x).0) i z h.now;
    before = λ k. h.before (level_more a T S (λ x. (same x).1) h.level z k);
  }

  pub adds_same : (i : ℕ) → AddsSome a S i → AddsSome a T i
  adds_same i h = (h.0, added_same i h.0 h.1)

-- have the same first level that adds nothing
pub last_same : (a : PlainPlant) (S T : States) → ((z : PlainState) → S z ↔ T z) → (i : ℕ) → IsLastLevel a S i → IsLastLevel a T i
last_same a S T same i h =
    let back : (z : PlainState) → T z ↔ S z = λ z. ((same z).1, (same z).0) in
    record {
      counted = h.counted;
      settled = λ z k. h.settled z (added_same a T S back i z k);
      first = λ j l m none. h.first j l m (λ z k. none z (added_same a S T same j z k));
    }
