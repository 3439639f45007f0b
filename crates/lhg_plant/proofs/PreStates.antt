-- The states from which a switch leads into pieces that lie inside the invariant.
use Rattle.std.proofs.Common.{◌≡◌, ◌↔◌, ◌⊎◌, inl, inr, ℕ, zero, suc, ◌+◌, List, [], ◌∷◌, ◌++◌, length, slice_get, IsSomeAnd, Option, Some, None, refl, sym, ap, ◌∙◌, subst}
use Rattle.lhg_math.specs.Tests.{AllOf}
use Rattle.lhg_num.specs.FracArithmetic.{frac_arithmetic}
use Rattle.lhg_row.specs.Row.{PlainPoint}
use Rattle.lhg_row.specs.Piece.{PlainPiece, InPiece, InSome}
use Rattle.lhg_row.specs.Members.{SomeOf, all_some}
use Rattle.lhg_row.specs.SomeLists.{some_each, in_some_of}
use Rattle.lhg_row.specs.PieceFacts.{AllOver, AllPolys}
use Rattle.lhg_row.specs.CoveredLaws.{polys-over}
use Rattle.lhg_plant.specs.Plant.{PlainSwitch, PlainPlant}
use Rattle.lhg_plant.specs.Proper.{IsSwitch, IsProper}
use Rattle.lhg_plant.specs.State.{PlainState, IsState}
use Rattle.lhg_plant.specs.Legal.{LegalSwitch}
use Rattle.lhg_plant.specs.Invariants.{invariant_at, invariants}
use Rattle.lhg_plant.specs.Pre.{pre_each, pre_list, pre_of, pre}
use Rattle.lhg_plant.specs.Sound.{IsInside}
use Rattle.lhg_plant.specs.Inside.{AllInside}
use Rattle.lhg_plant.specs.SwitchFacts.{state_at, HasResultIn, IsPreOf}
use Rattle.lhg_plant.proofs.Options.{some_there, there_some}
use Rattle.lhg_plant.proofs.PrePoints.{LeadsInto, pre_list-points}
use Rattle.lhg_plant.proofs.InvariantPoints.{invariant-points, invariant-polys}

-- what holds of all members holds of the one that is there
pub all_there : {A : Type 0} (P : A → Type 0) (xs : List A) (i : ℕ) (x : A) → slice_get xs i ≡ Some x → AllOf P xs → P x
all_there P [] i x e h = absurd (none_some e)
  where
    none_some : {A : Type 0} {x : A} → None ≡ Some x → ⊥
    none_some e = cc
all_there P (y ∷ xs) zero x e h = some_there (Some y) x P e h.0
all_there P (y ∷ xs) (suc i) x e h = all_there P xs i x e h.1

-- a fact that does not speak of the member
pub some_one : {A : Type 0} (P : A → Type 0) (R : Type 0) (xs : List A) → ((x : A) → P x → R) → SomeOf P xs → R
some_one P R [] f h = absurd h
some_one P R (x ∷ xs) f (inl h) = f x h
some_one P R (x ∷ xs) f (inr h) = some_one P R xs f h

-- what follows of each member
pub some_weaker : {A : Type 0} (P Q : A → Type 0) (xs : List A) → ((x : A) → P x → Q x) → SomeOf P xs → SomeOf Q xs
some_weaker P Q [] f h = absurd h
some_weaker P Q (x ∷ xs) f (inl h) = inl (f x h)
some_weaker P Q (x ∷ xs) f (inr h) = inr (some_weaker P Q xs f h)

-- a state in some piece, with a fact of the state
pub some_result : (L : PlainState → Type 0) (target : List PlainPiece) → SomeOf (λ q. (z : PlainState) × L z × InPiece q z.at) target → (z : PlainState) × L z × InSome target z.at
some_result L [] h = absurd h
some_result L (q ∷ target) (inl h) = (h.0, h.1, inl h.2)
some_result L (q ∷ target) (inr h) = let r = some_result L target h in (r.0, r.1, inr r.2)

-- what is asked of the switch of a legal one
pub record Leads (w : PlainSwitch) (s z : PlainState) : Type 0 where
  pub leaves : w.from ≡ s.loc
  pub enters : w.to ≡ z.loc
  pub jump : InPiece w.jump (s.at ++ z.at)

module _ (a : PlainPlant) (e : ℕ) (w : PlainSwitch) (is : slice_get a.switches e ≡ Some w) where
  -- a legal switch is by the one that is there
  pub legal_leads : (s z : PlainState) → LegalSwitch a e s z → Leads w s z
  legal_leads s z g = some_there (slice_get a.switches e) w (λ v. Leads v s z) is (there_some (slice_get a.switches e) g.switch (λ v. Leads v s z) g.is_there (record { leaves = g.leaves; enters = g.enters; jump = g.jump }))

  module _ (proper : IsProper a) where
    abbrev n : ℕ
    n = length a.vars

    -- the switch is over the plant's variables
    pub switch-proper : IsSwitch n (length a.locs) w
    switch-proper = all_there (IsSwitch n (length a.locs)) a.switches e w is proper.switches

    -- a point of the invariant that leads into a piece inside the invariant has a legal result there
    pub leads_result : (q inv : PlainPiece) (x : PlainPoint) → IsState a (state_at w.from x) → ((y : PlainPoint) → length y ≡ n → InPiece q y → IsState a (state_at w.to y)) → LeadsInto n w.jump q inv x
        → (z : PlainState) × LegalSwitch a e (state_at w.from x) z × (z.loc ≡ w.to) × InPiece q z.at
    leads_result q inv x start inside c = (
      state_at w.to c.to,
      record { switch = w; is_there = is; leaves = refl; enters = refl; start = start; result = inside c.to c.fits c.inside; jump = c.jumps },
      refl,
      c.inside,
    )

    module _ (target : List PlainPiece) (over : AllOver n target) (inside : AllInside a w.to target) (x : PlainPoint) (fits : length x ≡ n) where
      abbrev invs : List PlainPiece
      invs = (invariant_at a w.from).value

      invs-over : AllOver n invs
      invs-over = polys-over frac_arithmetic n invs (invariant-polys a proper w.from)

      -- a point of the invariant is a state
      leads_state : (q : PlainPiece) → SomeOf (λ inv. LeadsInto n w.jump q inv x) invs → IsState a (state_at w.from x)
      leads_state q h = (invariant-points a proper w.from x fits).0 ((in_some_of invs x).1 (some_weaker (λ inv. LeadsInto n w.jump q inv x) (λ inv. InPiece inv x) invs (λ inv c. c.start) h))

      to_result : (q : PlainPiece) → IsInside a w.to q → SomeOf (λ inv. LeadsInto n w.jump q inv x) invs → (z : PlainState) × LegalSwitch a e (state_at w.from x) z × InPiece q z.at
      to_result q i h =
          let start = leads_state q h in
          some_one (λ inv. LeadsInto n w.jump q inv x) ((z : PlainState) × LegalSwitch a e (state_at w.from x) z × InPiece q z.at) invs (λ inv c. let r = leads_result q inv x start i c in (r.0, r.1, r.3)) h

      from_result : (z : PlainState) → LegalSwitch a e (state_at w.from x) z → (q : PlainPiece) → InPiece q z.at → SomeOf (λ inv. LeadsInto n w.jump q inv x) invs
      from_result z g q i =
          let s = legal_leads (state_at w.from x) z g in
          some_weaker (λ inv. InPiece inv x) (λ inv. LeadsInto n w.jump q inv x) invs
          (λ inv k. record { start = k; to = z.at; fits = g.result.fits; inside = i; jumps = s.jump })
          ((in_some_of invs x).0 ((invariant-points a proper w.from x fits).1 g.start))

      -- exactly the states with a legal result in the target
      pub pre_list-states : InSome (pre_list n invs w.jump target).value x ↔ HasResultIn a e target (state_at w.from x)
      pre_list-states =
          let same = pre_list-points n w.jump invs switch-proper.jump.wide invs-over target x over fits in (
            λ h.
                let r = some_result (λ z. LegalSwitch a e (state_at w.from x) z) target
                (some_each (IsInside a w.to) (λ q. SomeOf (λ inv. LeadsInto n w.jump q inv x) invs) (λ q. (z : PlainState) × LegalSwitch a e (state_at w.from x) z × InPiece q z.at) target inside to_result (same.0 h)) in
                record { result = r.0; legal = r.1; inside = r.2 },
            λ g.
                same.1 (some_weaker (λ q. InPiece q g.result.at) (λ q. SomeOf (λ inv. LeadsInto n w.jump q inv x) invs) target (from_result g.result g.legal) ((in_some_of target g.result.at).0 g.inside)),
          )

-- ---- as a law
-- pre has exactly the states with a legal result in the target
pub pre-states : (a : PlainPlant) → IsProper a → (e : ℕ) (target : List PlainPiece) → AllOver (length a.vars) target → IsSomeAnd (slice_get a.switches e) (λ w. AllInside a w.to target)
    → IsPreOf a e target (pre a e target).value
unfolding pre
pre-states a proper e target over inside = go (slice_get a.switches e) refl inside
  where
    go : (o : Option PlainSwitch) → slice_get a.switches e ≡ o → IsSomeAnd o (λ w. AllInside a w.to target)
        → IsSomeAnd o (λ w. (p : PlainPoint) → length p ≡ length a.vars → InSome (pre_of a target o).value p ↔ HasResultIn a e target (state_at w.from p))
    go None is h = h
    go (Some w) is h = λ p fits. pre_list-states a e w is proper target over h p fits
