-- Why does the test for rows of wanted directions see directions alone, and which rows does it find?
use Rattle.std.specs.Prelude.{◌≡◌, Bool, true, false, not, ◌||◌, List, [], ◌∷◌, ◌++◌, map}
use Rattle.std.proofs.Common.{refl, sym, ap, ◌∙◌}
use Rattle.std.proofs.Math.Bool.{or_assoc}
use Rattle.std.proofs.lemmas.Bool.{not-true, or_left, or_right}
use Rattle.lhg_math.specs.Number.{Number, mul, lt, nought}
use Rattle.lhg_math.specs.NumberRing.{mul_comm, mul_assoc}
use Rattle.lhg_math.specs.Signs.{is_nought, lead, size_of}
use Rattle.lhg_math.specs.SignLaws.{is_nought-scaled, lead-scaled, size_of-scaled}
use Rattle.lhg_math.specs.Tests.{any_of, by_bool}
use Rattle.lhg_num.specs.Arithmetic.{Arithmetic}
use Rattle.lhg_row.specs.Row.{PlainRow}
use Rattle.lhg_row.specs.Piece.{PlainPiece}
use Rattle.lhg_row.specs.Constant.{is_constant, varies}
use Rattle.lhg_row.specs.ValueLaws.{scaled_row}
use Rattle.lhg_row.specs.Trim.{lead_size, agree, same_direction}
use Rattle.lhg_row.specs.TrimLaws.{agree-same}
use Rattle.lhg_row.specs.TrimmedLaws.{same-agree, same-through}
use Rattle.lhg_prune.specs.Directions.{IsByDirection, is_wanted}

-- two tests that follow from each other are one
same_tests : (b c : Bool) → (b ≡ true → c ≡ true) → (c ≡ true → b ≡ true) → b ≡ c
same_tests true c f g = sym (f refl)
same_tests false true f g = g refl
same_tests false false f g = refl

-- a factor is moved into the other
factor_moved : (k g : Number) (cs : List Number) → map (λ c. mul g c) (map (λ c. mul k c) cs) ≡ map (λ c. mul (mul k g) c) cs
factor_moved k g [] = refl
factor_moved k g (c ∷ cs) =
    ap (λ y. y ∷ map (λ d. mul g d) (map (λ d. mul k d) cs)) (sym (mul_assoc g k c) ∙ ap (λ y. mul y c) (mul_comm g k))
    ∙ ap (λ ys. mul (mul k g) c ∷ ys) (factor_moved k g cs)

module _ (a : Arithmetic) where
  -- a row has its own direction
  pub same-self : (r : PlainRow) → (same_direction a r r).value ≡ true
  same-self r = same-agree a (lead_size r) (lead_size r) r.coefs r.coefs refl

  -- directions are the same in either order
  pub same-swap : (r s : PlainRow) → (same_direction a r s).value ≡ true → (same_direction a s r).value ≡ true
  same-swap r s h = same-agree a (lead_size r) (lead_size s) s.coefs r.coefs (sym (agree-same a (λ y. y) (lead_size s) (lead_size r) r.coefs s.coefs h))

  -- a positive multiple has the direction of the row
  pub same-multiple : (k : Number) (r : PlainRow) → lt nought k ≡ true → (same_direction a (scaled_row k r) r).value ≡ true
  same-multiple k r h =
      let l : lead_size (scaled_row k r) ≡ mul k (lead_size r) = ap size_of (lead-scaled k r.coefs h) ∙ size_of-scaled k (lead r.coefs) h in
      same-agree a (lead_size r) (lead_size (scaled_row k r)) (scaled_row k r).coefs r.coefs
      (factor_moved k (lead_size r) r.coefs ∙ ap (λ f. map (λ c. mul f c) r.coefs) (sym l))

  -- ---- wanted directions
  module _ (wanted : PlainPiece) where
    -- rows of one direction have it in common with the same rows
    any_same : (r s : PlainRow) → varies r ≡ true → varies s ≡ true → (same_direction a r s).value ≡ true → (ws : PlainPiece)
        → any_of (λ w. (same_direction a r w).value) ws ≡ any_of (λ w. (same_direction a s w).value) ws
    any_same r s v w h [] = refl
    any_same r s v w h (t ∷ ws) =
        let one : (same_direction a r t).value ≡ (same_direction a s t).value =
        same_tests (same_direction a r t).value (same_direction a s t).value
        (λ k. same-through a s r t (not-true (is_constant r) v) (same-swap r s h) k) (λ k. same-through a r s t (not-true (is_constant s) w) h k) in
        ap (λ b. b || any_of (λ w. (same_direction a r w).value) ws) one ∙ ap (λ b. (same_direction a s t).value || b) (any_same r s v w h ws)

    wanted-direction : (r s : PlainRow) → varies r ≡ true → varies s ≡ true → (same_direction a r s).value ≡ true → is_wanted a wanted r ≡ is_wanted a wanted s
    wanted-direction r s v w h =
        ap (λ b. b || any_of (λ w. (same_direction a r w).value) wanted) (not-true (is_constant r) v) ∙ any_same r s v w h wanted
        ∙ ap (λ b. b || any_of (λ w. (same_direction a s w).value) wanted) (sym (not-true (is_constant s) w))

    scaled_constant : (k : Number) (r : PlainRow) → lt nought k ≡ true → is_constant (scaled_row k r) ≡ is_constant r
    scaled_constant k r h = ap is_nought (lead-scaled k r.coefs h) ∙ is_nought-scaled k (lead r.coefs) h

    -- the test sees directions alone
    pub wanted-by_direction : IsByDirection a (is_wanted a wanted)
    wanted-by_direction = record {
      coefs = λ r s e. let f = λ (cs : List Number). is_nought (lead cs) || any_of (λ (w : PlainRow). (agree a (λ y. y) (lead_size w) (size_of (lead cs)) cs w.coefs).value) wanted in ap f e;
      multiple = λ k r h.
          by_bool (is_constant r)
          (λ e. let f : is_constant (scaled_row k r) ≡ true = scaled_constant k r h ∙ e in ap (λ b. b || any_of (λ w. (same_direction a (scaled_row k r) w).value) wanted) f ∙ sym (ap (λ b. b || any_of (λ w. (same_direction a r w).value) wanted) e))
          (λ e. wanted-direction (scaled_row k r) r (ap not (scaled_constant k r h ∙ e)) (ap not e) (same-multiple k r h));
      direction = wanted-direction;
    }

  -- ---- more wanted rows
  any-append : (r : PlainRow) (ws vs : PlainPiece)
      → any_of (λ w. (same_direction a r w).value) (ws ++ vs) ≡ (any_of (λ w. (same_direction a r w).value) ws || any_of (λ w. (same_direction a r w).value) vs)
  any-append r [] vs = refl
  any-append r (t ∷ ws) vs = ap (λ b. (same_direction a r t).value || b) (any-append r ws vs) ∙ sym (or_assoc (same_direction a r t).value _ _)

  wanted-split : (ws vs : PlainPiece) (r : PlainRow) → is_wanted a (ws ++ vs) r ≡ (is_wanted a ws r || any_of (λ w. (same_direction a r w).value) vs)
  wanted-split ws vs r = ap (λ b. is_constant r || b) (any-append r ws vs) ∙ sym (or_assoc (is_constant r) _ _)

  -- what was wanted stays wanted
  pub wanted-more : (ws vs : PlainPiece) (r : PlainRow) → is_wanted a ws r ≡ true → is_wanted a (ws ++ vs) r ≡ true
  wanted-more ws vs r h = wanted-split ws vs r ∙ or_left (is_wanted a ws r) _ h

  -- and a row of the list is wanted
  pub wanted-last : (ws : PlainPiece) (r : PlainRow) → is_wanted a (ws ++ r ∷ []) r ≡ true
  wanted-last ws r = wanted-split ws (r ∷ []) r ∙ or_right (is_wanted a ws r) _ (or_left (same_direction a r r).value false (same-self r))
