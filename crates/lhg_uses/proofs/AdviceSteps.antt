-- Which switches are listed, and what an advice is worth.
use Rattle.std.proofs.Common.{◌≡◌, ◌<◌, ◌+◌, ◌⊎◌, ◌↔◌, inl, inr, ℕ, List, [], ◌∷◌, ◌++◌, length, get_or, slice_get, Option, Some, None, IsSomeAnd, refl, sym, ◌∙◌, subst, arith}
use Rattle.std.specs.Prelude.{Contains}
use Rattle.std.proofs.lemmas.List.Elements.{Contains-push, Contains-push_cases, Contains-append_left, Contains-get_or}
use Rattle.std.proofs.lemmas.List.Quantifiers.{all_pairs_push}
use Rattle.lhg_row.specs.Decisions.{nat_decided}
use Rattle.lhg_row.specs.Piece.{PlainPiece, InSome, in_some}
use Rattle.lhg_row.specs.PieceLemmas.{in_some_is}
use Rattle.lhg_plant.specs.declared.plants.Side.{Side}
use Rattle.lhg_plant.specs.declared.plants.Side.TheVariants.{Ctl, Env, Pick}
use Rattle.lhg_plant.specs.Plant.{PlainPlant, PlainSwitch}
use Rattle.lhg_plant.specs.State.{PlainState, IsState}
use Rattle.lhg_plant.specs.Legal.{HasSide}
use Rattle.lhg_plant.specs.Region.{PlainGuards, InGuard}
use Rattle.lhg_plant.specs.Controller.{PlainController, IsValid}
use Rattle.lhg_ctl.specs.Written.{AreOfController}
use Rattle.lhg_run.proofs.SightSteps.{there_short}
use Rattle.lhg_uses.specs.Advice.{IsAdvice, KeepsSafe}
use Rattle.lhg_uses.specs.Allowed.{IsAllowed, AreAllowed}
use Rattle.lhg_uses.specs.declared.advising.Advice.{Advice}

-- ---- lists of switches
-- nothing is in the empty list
nothing_there : (e : ℕ) → ¬ Contains [] e
nothing_there e h = let below = h.1 in absurd (omega (arith, below))

module _ (a : PlainPlant) (guards : PlainGuards) (s : PlainState) where
  -- before the first switch there is none
  pub allowed-none : AreAllowed a guards s 0 []
  allowed-none = record { exact = λ e. (λ h. absurd (nothing_there e h), λ h. let below = h.0 in absurd (omega (arith, below))); ordered = λ i j d before below. absurd (omega (arith, below)) }

  module _ (k : ℕ) (xs : List ℕ) (so_far : AreAllowed a guards s k xs) where
    -- a switch whose guard holds is put at the end
    pub allowed-more : InGuard a guards k s → AreAllowed a guards s (k + 1) (xs ++ k ∷ [])
    allowed-more h = record {
      exact = λ e. (
        λ there. elim (Contains-push_cases xs k e there) [
          | inl old ↦ (let l = ((so_far.exact e).0 old).0 in omega (arith, l), ((so_far.exact e).0 old).1)
          | inr new ↦ (omega (arith, new), subst (λ (i : ℕ). InGuard a guards i s) new h)
        ],
        λ there. elim (nat_decided e k) [
          | inl same ↦ subst (Contains (xs ++ k ∷ [])) (sym same) (Contains-push xs k)
          | inr other ↦ let l = there.0 in Contains-append_left xs (k ∷ []) e ((so_far.exact e).1 (omega (arith, l, other), there.1))
        ],
      );
      ordered = all_pairs_push (λ d e. d < e) xs k so_far.ordered (λ i d l. ((so_far.exact (get_or xs i d)).0 (Contains-get_or xs i d l)).0);
    }

    -- a switch whose guard does not hold is passed over
    pub allowed-same : ¬ InGuard a guards k s → AreAllowed a guards s (k + 1) xs
    allowed-same none = record {
      exact = λ e. (
        λ there. (let l = ((so_far.exact e).0 there).0 in omega (arith, l), ((so_far.exact e).0 there).1),
        λ there. elim (nat_decided e k) [
          | inl same ↦ absurd (none (subst (λ (i : ℕ). InGuard a guards i s) same there.1))
          | inr other ↦ let l = there.0 in (so_far.exact e).1 (omega (arith, l, other), there.1)
        ],
      );
      ordered = so_far.ordered;
    }

-- ---- sides
-- a side that is not the plant's is the controller's
side_by : (o : Option PlainSwitch) (P : PlainSwitch → Type 0) → IsSomeAnd o P → ¬ IsSomeAnd o (λ w. w.side ≡ Env) → IsSomeAnd o (λ w. w.side ≡ Ctl) ⊎ IsSomeAnd o (λ w. w.side ≡ Pick)
side_by None P h other = absurd h
side_by (Some w) P h other = go w.side refl
  where
    go : (side : Side) → w.side ≡ side → (w.side ≡ Ctl) ⊎ (w.side ≡ Pick)
    go Ctl e = inl e
    go Env e = absurd (other e)
    go Pick e = inr e

module _ (a : PlainPlant) (c : PlainController) (s : PlainState) (ctl : AreOfController a c.guards) where
  -- a switch whose guard holds is not the plant's
  not_env : (e : ℕ) → InGuard a c.guards e s → ¬ HasSide a e Env
  not_env e h env = subst (λ (ps : List PlainPiece). InSome ps s.at) (ctl e env) h.some

  -- so it is allowed
  pub allowed-by : (e : ℕ) → InGuard a c.guards e s → IsAllowed a c s e
  allowed-by e h = record { side = side_by (slice_get a.switches e) (λ w. w.from ≡ s.loc) h.leaves (not_env e h); guard = h }

  -- all switches that are listed, and no others, are
  pub allowed-all : (xs : List ℕ) → AreAllowed a c.guards s (length a.switches) xs → (e : ℕ) → Contains xs e ↔ IsAllowed a c s e
  allowed-all xs h e = (
    λ there. allowed-by e ((h.exact e).0 there).1,
    λ may. (h.exact e).1 (there_short a.switches e (λ w. w.from ≡ s.loc) may.guard.leaves, may.guard),
  )

-- ---- the advice
-- of a state, what its tests tell
pub advice-told : (a : PlainPlant) (c : PlainController) (s : PlainState) (d : Advice) → AreOfController a c.guards → IsState a s
    → d.inside ≡ in_some (get_or c.region s.loc []) s.at → AreAllowed a c.guards s (length a.switches) d.allowed.items → IsAdvice a c s d
advice-told a c s d ctl state told allowed = record {
  inside = (
    λ h. record { state = state; some = (in_some_is (get_or c.region s.loc []) s.at).1 (sym told ∙ h) },
    λ h. told ∙ (in_some_is (get_or c.region s.loc []) s.at).0 h.some,
  );
  allowed = allowed-all a c s ctl d.allowed.items allowed;
  ordered = allowed.ordered;
}

-- ---- what it is worth
-- that of a valid controller may be followed
pub advice-keeps : (a : PlainPlant) (c : PlainController) (s : PlainState) (d : Advice) → IsAdvice a c s d → IsValid a c → KeepsSafe a c s d
advice-keeps a c s d h valid = record {
  safe = λ in_it. valid.safe s (h.inside.0 in_it);
  waits = λ in_it. valid.closed s (h.inside.0 in_it);
  stays = λ e there. valid.guarded e s ((h.allowed e).0 there).guard;
}
