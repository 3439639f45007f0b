-- Why do rows with opposite coefficients have no common point, and lists with such rows?
use Rattle.std.proofs.Common.{◌≡◌, ◌<◌, ℕ, zero, suc, Bool, true, false, List, [], ◌∷◌, ◌++◌, length, map, refl, sym, ap, ◌∙◌, subst, inl, inr, arith}
use Rattle.std.specs.Prelude.{not, cond, ◌||◌, get_or}
use Rattle.std.specs.declared.cmp.Ordering.{Ordering}
use Rattle.std.specs.declared.cmp.Ordering.TheVariants.{Less, Equal, Greater}
use Rattle.std.proofs.lemmas.Bool.{not-true}
use Rattle.lhg_math.specs.Number.{Number, mul, neg, lt, nought, unit, compare}
use Rattle.lhg_math.specs.NumberOrder.{lt_trans, le-lt_trans, lt_asym, lt_antisymm}
use Rattle.lhg_math.specs.NumberRing.{mul_comm, mul-unit}
use Rattle.lhg_math.specs.Tests.{AllOf, by_bool, false_true}
use Rattle.lhg_num.specs.Arithmetic.{Arithmetic}
use Rattle.lhg_row.specs.Row.{PlainRow, PlainPoint, row_value, value_at, holds_at}
use Rattle.lhg_row.specs.Piece.{PlainPiece, InPiece}
use Rattle.lhg_row.specs.Members.{SomeOf, all_some, all_split}
use Rattle.lhg_row.specs.Moves.{negated}
use Rattle.lhg_row.specs.MoveLaws.{negated-holds}
use Rattle.lhg_row.specs.Trim.{agree}
use Rattle.lhg_row.specs.TrimLaws.{agree-same}
use Rattle.lhg_row.specs.HasValue.{IsEmptiness}
use Rattle.lhg_poly.specs.Clash.{IsClash}

-- ---- opposite coefficients
map-one : (f : Number → Number) (xs : List Number) → map (λ x. f (mul unit x)) xs ≡ map f xs
map-one f [] = refl
map-one f (x ∷ xs) = ap (λ y. f y ∷ map (λ x. f (mul unit x)) xs) (mul_comm unit x ∙ mul-unit x) ∙ ap (λ ys. f x ∷ ys) (map-one f xs)

map-same : (xs : List Number) → map (λ x. x) xs ≡ xs
map-same [] = refl
map-same (x ∷ xs) = ap (λ ys. x ∷ ys) (map-same xs)

-- numbers that agree with the negatives of others are these
pub opposite_is : (a : Arithmetic) (cs ds : List Number) → (agree a neg unit unit cs ds).value ≡ true → cs ≡ map neg ds
opposite_is a cs ds h = sym (map-same cs) ∙ sym (map-one (λ x. x) cs) ∙ agree-same a neg unit unit cs ds h ∙ map-one neg ds

-- ---- bounds
-- a value within the lower bound is within the greater one
below : (rs ts : Bool) (v b e : Number) → lt b e ≡ true → cond rs (lt v b) (not (lt b v)) ≡ true → cond ts (lt v e) (not (lt e v)) ≡ true
below rs ts v b e l h = by_bool ts (λ k. rw k less) (λ k. rw k (ap not (lt_asym v e less)))
  where
    less : lt v e ≡ true
    less = by_bool rs (λ k. lt_trans v b e (let z : lt v b ≡ true = rw k at h in z) l) (λ k. le-lt_trans v b e (not-true (lt b v) (let z : not (lt b v) ≡ true = rw k at h in z)) l)

-- and within the same bound, where the first is strict or the second is not
along : (rs ts : Bool) (v b : Number) → (rs || not ts) ≡ true → cond rs (lt v b) (not (lt b v)) ≡ true → cond ts (lt v b) (not (lt b v)) ≡ true
along true true v b k h = h
along true false v b k h = ap not (lt_asym v b h)
along false true v b k h = false_true k
along false false v b k h = h

not_not : (b : Bool) → not (not b) ≡ b
not_not true = refl
not_not false = refl

module _ (r s : PlainRow) (opposite : r.coefs ≡ map neg s.coefs) where
  -- the second row does not hold where its negation does
  apart : (x : PlainPoint) → cond (not s.strict) (lt (value_at r x) (neg s.bound)) (not (lt (neg s.bound) (value_at r x))) ≡ true → holds_at s x ≡ false
  apart x h =
      let e : value_at r x ≡ value_at (negated s) x = ap (λ cs. row_value nought cs x) opposite in
      let n : holds_at (negated s) x ≡ true = subst (λ v. cond (not s.strict) (lt v (neg s.bound)) (not (lt (neg s.bound) v)) ≡ true) e h in
      not-true (holds_at s x) (sym (negated-holds s x) ∙ n)

  -- bounds that leave no value
  pub clash_less : compare r.bound (neg s.bound) ≡ Less → IsClash r s
  clash_less c x h =
      by_bool (lt r.bound (neg s.bound))
      (λ l. apart x (below r.strict (not s.strict) (value_at r x) r.bound (neg s.bound) l h))
      (λ l. by_bool (lt (neg s.bound) r.bound) (λ k. let z : Greater ≡ Less = rw (l, k) at c in cc) (λ k. let z : Equal ≡ Less = rw (l, k) at c in cc))

  -- bounds that leave one value, which one of the rows leaves out
  pub clash_equal : compare r.bound (neg s.bound) ≡ Equal → (r.strict || s.strict) ≡ true → IsClash r s
  clash_equal c d x h =
      by_bool (lt r.bound (neg s.bound)) (λ l. let z : Less ≡ Equal = rw l at c in cc)
      (λ l. by_bool (lt (neg s.bound) r.bound) (λ k. let z : Greater ≡ Equal = rw (l, k) at c in cc)
      (λ k.
      let e : r.bound ≡ neg s.bound = lt_antisymm r.bound (neg s.bound) l k in
      let strict : (r.strict || not (not s.strict)) ≡ true = ap (λ b. r.strict || b) (not_not s.strict) ∙ d in
      apart x (subst (λ b. cond (not s.strict) (lt (value_at r x) b) (not (lt b (value_at r x))) ≡ true) e (along r.strict (not s.strict) (value_at r x) r.bound strict h))))

-- ---- lists
-- a member with the fact
pub some_item : {A : Type 0} (P : A → Type 0) (xs : List A) (i : ℕ) (x : A) → x ≡ get_or xs i x → i < length xs → P x → SomeOf P xs
some_item P [] i x e l h = absurd (omega (arith, l))
some_item P (y ∷ xs) zero x e l h = inl (subst P e h)
some_item P (y ∷ xs) (suc i) x e l h = inr (some_item P xs i x e (omega (arith, l)) h)

-- lists with rows that clash have no common point
pub clash_empty : (n : ℕ) (rows others : PlainPiece) → SomeOf (λ r. SomeOf (IsClash r) others) rows → IsEmptiness n (rows ++ others) true
clash_empty n rows others h x l i =
    let both = all_split (λ r. holds_at r x ≡ true) rows others i in
    all_some (λ r. holds_at r x ≡ true) (λ r. SomeOf (IsClash r) others) ⊥
    (λ r here k. all_some (λ s. holds_at s x ≡ true) (IsClash r) ⊥ (λ s there c. let z : true ≡ false = sym there ∙ c x here in cc) others both.1 k) rows both.0 h
