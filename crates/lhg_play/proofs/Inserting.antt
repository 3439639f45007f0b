-- A new place put into an ascending list.
use Rattle.std.proofs.Common.{◌≡◌, ◌⊎◌, ◌↔◌, inl, inr, true, false, cond, List, [], ◌∷◌, Option, Some, None, refl, sym, ap, ◌∙◌, subst}
use Rattle.lhg_math.specs.Number.{Number, lt}
use Rattle.lhg_math.specs.NumberOrder.{lt_antisymm, lt_trans}
use Rattle.lhg_math.specs.Tests.{AllOf, by_bool}
use Rattle.lhg_row.specs.Members.{SomeOf}
use Rattle.lhg_play.specs.Cut.{inserted}
use Rattle.lhg_play.specs.Checks.{IsAscending}

-- q is in the list
abbrev pub IsIn : Number → List Number → Type 0
IsIn q ps = SomeOf (λ p. p ≡ q) ps

-- what is in the list with p put in is p or was in it
pub inserted-from : (p q : Number) (ps : List Number) → IsIn q (inserted p ps).value → (p ≡ q) ⊎ IsIn q ps
inserted-from p q [] (inl h) = inl h
inserted-from p q [] (inr h) = absurd h
inserted-from p q (s ∷ ps) h =
    by_bool (lt p s)
    (λ e. let k : IsIn q (p ∷ s ∷ ps) = rw e at h in elim k [ inl i ↦ inl i | inr i ↦ inr i ])
    (λ e. by_bool (lt s p)
    (λ f. let k : IsIn q (s ∷ (inserted p ps).value) = rw (e, f) at h in
    elim k [ inl i ↦ inr (inl i) | inr i ↦ elim (inserted-from p q ps i) [ inl j ↦ inl j | inr j ↦ inr (inr j) ] ])
    (λ f. let k : IsIn q (s ∷ ps) = rw (e, f) at h in inr k))

-- p is in it
pub inserted-new : (p : Number) (ps : List Number) → IsIn p (inserted p ps).value
inserted-new p [] = inl refl
inserted-new p (s ∷ ps) =
    by_bool (lt p s)
    (λ e. rw e (inl refl))
    (λ e. by_bool (lt s p)
    (λ f. rw (e, f) (inr (inserted-new p ps)))
    (λ f. rw (e, f) (inl (lt_antisymm s p f e))))

-- and so is all that was in it
pub inserted-old : (p q : Number) (ps : List Number) → IsIn q ps → IsIn q (inserted p ps).value
inserted-old p q [] h = absurd h
inserted-old p q (s ∷ ps) h =
    by_bool (lt p s)
    (λ e. rw e (inr h))
    (λ e. by_bool (lt s p)
    (λ f. rw (e, f) (elim h [ inl i ↦ inl i | inr i ↦ inr (inserted-old p q ps i) ]))
    (λ f. rw (e, f) h))

-- what is below p and all of the list is below all of the list with p put in
inserted-above : (b p : Number) (ps : List Number) → lt b p ≡ true → AllOf (λ q. lt b q ≡ true) ps → AllOf (λ q. lt b q ≡ true) (inserted p ps).value
inserted-above b p [] h k = (h, tt)
inserted-above b p (s ∷ ps) h k =
    by_bool (lt p s)
    (λ e. rw e (h, k))
    (λ e. by_bool (lt s p)
    (λ f. rw (e, f) (k.0, inserted-above b p ps h k.1))
    (λ f. rw (e, f) k))

-- what is above a greater number is above a smaller one
pub all_above : (a b : Number) (ps : List Number) → lt a b ≡ true → AllOf (λ q. lt b q ≡ true) ps → AllOf (λ q. lt a q ≡ true) ps
all_above a b [] h k = tt
all_above a b (p ∷ ps) h k = (lt_trans a b p h k.0, all_above a b ps h k.1)

-- the list stays ascending
pub inserted-ascending : (p : Number) (ps : List Number) → IsAscending ps → IsAscending (inserted p ps).value
inserted-ascending p [] h = (tt, tt)
inserted-ascending p (s ∷ ps) h =
    by_bool (lt p s)
    (λ e. rw e ((e, all_above p s ps e h.0), h))
    (λ e. by_bool (lt s p)
    (λ f. rw (e, f) (inserted-above s p ps f h.0, inserted-ascending p ps h.1))
    (λ f. rw (e, f) h))
