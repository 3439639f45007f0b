-- When do two rows bound something from one side, so that they are no equation?
use Rattle.std.specs.Prelude.{◌≡◌, ◌⊎◌, ℕ, zero, suc, Bool, true, false, ◌&&◌, List, [], ◌∷◌, length, get_or}
use Rattle.std.proofs.Common.{refl, sym, ap, ◌∙◌, inl, inr}
use Rattle.std.proofs.Math.Bool.{and-false}
use Rattle.std.specs.Ordering.{is_lt, is_gt}
use Rattle.std.specs.declared.cmp.Ordering.{Ordering}
use Rattle.std.specs.declared.cmp.Ordering.TheVariants.{Less, Equal, Greater}
use Rattle.lhg_math.specs.Number.{Number, mul, neg, lt, nought, sign_of}
use Rattle.lhg_math.specs.NumberOrder.{lt_irrefl, lt_asym, lt-nought_neg, neg-lt_nought}
use Rattle.lhg_math.specs.Signs.{is_nought, same_number, lead}
use Rattle.lhg_math.specs.SignLaws.{same_is, size_above, lt-nought_scaled, nought_lt-scaled, is_lt-sign_of, is_gt-sign_of}
use Rattle.lhg_math.specs.Tests.{by_bool, false_true}
use Rattle.lhg_num.specs.Arithmetic.{Arithmetic}
use Rattle.lhg_row.specs.Row.{PlainRow}
use Rattle.lhg_row.specs.ConstantLaws.{lead-noughts}
use Rattle.lhg_row.specs.NothingLaws.{noughts-get_or}
use Rattle.lhg_row.specs.Trim.{lead_size, agree}
use Rattle.lhg_row.specs.Eliminate.{is_opposite}

-- both orders against 0 are less, or both are greater
abbrev pub one_order : Ordering → Ordering → Bool
one_order Less o = is_lt o
one_order Equal o = false
one_order Greater o = is_gt o

-- both numbers are negative, or both are positive
abbrev pub one_sign : Number → Number → Bool
one_sign x y = one_order (sign_of x) (sign_of y)

-- at some place both lists have a number of one sign
pub record SharesSign (cs ds : List Number) : Type 0 where
  pub place : ℕ
  pub same : one_sign (get_or cs place nought) (get_or ds place nought) ≡ true

-- ---- signs
-- what the test says
signs_of : (x y : Number) → one_sign x y ≡ true → ((lt nought x ≡ true) × (lt nought y ≡ true)) ⊎ ((lt x nought ≡ true) × (lt y nought ≡ true))
signs_of x y h =
    by_bool (lt x nought)
    (λ e. let k : is_lt (sign_of y) ≡ true = rw e at h in inr (e, sym (is_lt-sign_of y) ∙ k))
    (λ e. by_bool (lt nought x)
    (λ f. let k : is_gt (sign_of y) ≡ true = rw (e, f) at h in inl (f, sym (is_gt-sign_of y) ∙ k))
    (λ f. let k : false ≡ true = rw (e, f) at h in false_true k))

-- neither number is 0
some_left : (x y : Number) → one_sign x y ≡ true → x ≡ nought → false ≡ true
some_left x y h e = on (signs_of x y h)
  where
    on : ((lt nought x ≡ true) × (lt nought y ≡ true)) ⊎ ((lt x nought ≡ true) × (lt y nought ≡ true)) → false ≡ true
    on (inl p) = sym (lt_irrefl nought) ∙ ap (lt nought) (sym e) ∙ p.0
    on (inr p) = sym (lt_irrefl nought) ∙ ap (λ z. lt z nought) (sym e) ∙ p.0

some_right : (x y : Number) → one_sign x y ≡ true → y ≡ nought → false ≡ true
some_right x y h e = on (signs_of x y h)
  where
    on : ((lt nought x ≡ true) × (lt nought y ≡ true)) ⊎ ((lt x nought ≡ true) × (lt y nought ≡ true)) → false ≡ true
    on (inl p) = sym (lt_irrefl nought) ∙ ap (lt nought) (sym e) ∙ p.1
    on (inr p) = sym (lt_irrefl nought) ∙ ap (λ z. lt z nought) (sym e) ∙ p.1

-- positive multiples of such numbers are not each other's negatives
not_opposed : (f g x y : Number) → lt nought f ≡ true → lt nought g ≡ true → one_sign x y ≡ true → mul f x ≡ neg (mul g y) → false ≡ true
not_opposed f g x y hf hg h e = on (signs_of x y h)
  where
    on : ((lt nought x ≡ true) × (lt nought y ≡ true)) ⊎ ((lt x nought ≡ true) × (lt y nought ≡ true)) → false ≡ true
    on (inl p) = sym (lt_asym nought y p.1) ∙ sym (lt-nought_scaled g y hg) ∙ sym (lt-nought_neg (mul g y)) ∙ ap (lt nought) (sym e) ∙ nought_lt-scaled f x hf ∙ p.0
    on (inr p) = sym (lt_asym y nought p.1) ∙ sym (nought_lt-scaled g y hg) ∙ sym (neg-lt_nought (mul g y)) ∙ ap (λ z. lt z nought) (sym e) ∙ lt-nought_scaled f x hf ∙ p.0

-- ---- rows
-- a list with a number other than 0 has a leading one
leads : (cs : List Number) (i : ℕ) → (get_or cs i nought ≡ nought → false ≡ true) → is_nought (lead cs) ≡ false
leads cs i some =
    by_bool (is_nought (lead cs))
    (λ e. false_true (some (ap (λ xs. get_or xs i nought) (lead-noughts cs e) ∙ noughts-get_or (length cs) i)))
    (λ e. e)

-- where two lists share a sign, they are no negatives of each other after positive factors
shared-fails : (a : Arithmetic) (f g : Number) → lt nought f ≡ true → lt nought g ≡ true → (cs ds : List Number) (i : ℕ) → one_sign (get_or cs i nought) (get_or ds i nought) ≡ true
    → (agree a neg f g cs ds).value ≡ false
shared-fails a f g hf hg [] [] i h = false_true (some_left nought nought h refl)
shared-fails a f g hf hg [] (d ∷ ds) i h = refl
shared-fails a f g hf hg (c ∷ cs) [] i h = refl
shared-fails a f g hf hg (c ∷ cs) (d ∷ ds) zero h =
    by_bool (same_number (mul f c) (neg (mul g d)))
    (λ e. false_true (not_opposed f g c d hf hg h (same_is (mul f c) (neg (mul g d)) e)))
    (λ e. rw e refl)
shared-fails a f g hf hg (c ∷ cs) (d ∷ ds) (suc i) h =
    ap (λ b. same_number (mul f c) (neg (mul g d)) && b) (shared-fails a f g hf hg cs ds i h) ∙ and-false (same_number (mul f c) (neg (mul g d)))

-- rows that share a sign are no equation
pub shared-opposite : (a : Arithmetic) (r s : PlainRow) → SharesSign r.coefs s.coefs → (is_opposite a r s).value ≡ false
shared-opposite a r s h =
    let left = leads r.coefs h.place (some_left (get_or r.coefs h.place nought) (get_or s.coefs h.place nought) h.same) in
    let right = leads s.coefs h.place (some_right (get_or r.coefs h.place nought) (get_or s.coefs h.place nought) h.same) in
    let fails = shared-fails a (lead_size s) (lead_size r) (size_above (lead s.coefs) right) (size_above (lead r.coefs) left) r.coefs s.coefs h.place h.same in
    rw fails refl
