-- The first line that cannot stand there is one alone.
use Rattle.std.proofs.Common.{◌≡◌, ◌<◌, ◌≤◌, ◌-◌, inl, inr, ℕ, List, ◌++◌, take, drop, sym, ap, ◌∙◌, subst, true, arith, take-append-drop, append_assoc}
use Rattle.std.proofs.lemmas.List.{take-take}
use Rattle.std.proofs.lemmas.Bool.{cases_order}
use Rattle.lhg_lex.specs.FirstBad.{CanStand, IsFirstBad}
use Rattle.lhg_lex.specs.Laws.{FirstBadLaws}

module _ (IsText : List (List ℕ) → Type 0) (lines : List (List ℕ)) where
  -- where some lines can stand, fewer of them can
  fewer : (n m : ℕ) → n ≤ m → CanStand IsText (take m lines) → CanStand IsText (take n lines)
  fewer n m h c =
      let more = drop n (take m lines) in
      let cut : take n (take m lines) ≡ take n lines = take-take n m lines h in
      let e : take n lines ++ (more ++ c.0) ≡ take m lines ++ c.0 = sym (append_assoc (take n lines) more c.0) ∙ ap (λ w. w ++ c.0) (ap (λ w. w ++ more) (sym cut) ∙ take-append-drop n (take m lines)) in
      (more ++ c.0, subst IsText (sym e) c.1)

  -- a text of the grammar can stand up to each of its lines
  all_stand : (n : ℕ) → IsText lines → CanStand IsText (take n lines)
  all_stand n h = (drop n lines, subst IsText (sym (take-append-drop n lines)) h)

  -- a text of the grammar has no first bad line
  pub none_bad : (n : ℕ) → IsText lines → ¬ IsFirstBad IsText lines n
  none_bad n h b = elim b.bad [ inl early ↦ early.1 (all_stand n h) | inr late ↦ late.1 h ]

  -- no line after the first bad one is the first
  not_later : (n m : ℕ) → n < m → IsFirstBad IsText lines n → IsFirstBad IsText lines m → ⊥
  not_later n m h a b =
      elim a.bad [
        | inl early ↦ early.1 (fewer n (m - 1) (omega arith) b.before)
        | inr late ↦ elim b.bad [ inl e ↦ absurd (omega (arith, late.0, e.0)) | inr e ↦ absurd (omega (arith, late.0, e.0)) ]
      ]

  -- two first bad lines are one
  pub one_bad : (n m : ℕ) → IsFirstBad IsText lines n → IsFirstBad IsText lines m → n ≡ m
  one_bad n m a b =
      elim (cases_order n m) [
        | inl same ↦ same
        | inr other ↦ elim other [ inl lt ↦ absurd (not_later n m lt a b) | inr gt ↦ absurd (not_later m n gt b a) ]
      ]

-- the laws
pub first_bad_laws : FirstBadLaws
first_bad_laws = record { none = λ takes. none_bad (λ text. takes text ≡ true); one = λ takes. one_bad (λ text. takes text ≡ true) }
