-- Which variables stand in the rows of a line, and at which places?
use Rattle.std.proofs.Common.{◌≡◌, ◌+◌, ℕ, suc, List, [], ◌∷◌, ◌++◌, length, map, refl, sym, ap, ◌∙◌, subst, Bool, true, false, not, ◌&&◌, Some, arith, append_assoc, zero-add, nat_lt, codes}
use Rattle.std.specs.List.{position_or_len}
use Rattle.std.specs.Option.{option_map}
use Rattle.std.specs.Str.{bytes_eq}
use Rattle.std.proofs.lemmas.Bool.{or_parts}
use Rattle.std.proofs.lemmas.Bool.Decides.{nat_tests}
use Rattle.std.proofs.lemmas.List.{length-map, length-append}
use Rattle.std.proofs.lemmas.Slice.Eq.{bytes_eq-Decides}
use Rattle.lhg_math.specs.Tests.{AllOf}
use Rattle.lhg_plant.specs.Word.{IsName}
use Rattle.lhg_plant.specs.Differ.{is_among, all_differ, differ_from}
use Rattle.lhg_read.specs.Term.{place_of, variable_of}
use Rattle.lhg_read.specs.declared.forms.Form.{Form}
use Rattle.lhg_read.specs.declared.forms.Form.TheVariants.{Plain, Flow, Jump}
use Rattle.lhg_read.proofs.VariableSteps.{differ-append}
use Rattle.lhg_row_text.specs.RowText.{jump_names}
use Rattle.lhg_row_text.proofs.RowReads.{AreAxes}
use Rattle.lhg_row_text.proofs.RowTokens.{Axis, axis_text, axis_tokens, IsNamed}
use Rattle.lhg_row_text.proofs.SumReads.{ArePlaced}
use Rattle.lhg_row.specs.Members.{all-append}

-- ---- the place of a name

found_at : (w : List ℕ) (before behind : List (List ℕ)) → is_among w before ≡ false → position_or_len (λ name. bytes_eq name w) (before ++ (w ∷ behind)) ≡ length before
found_at w [] behind h = rw ((bytes_eq-Decides w w).1 refl) refl
found_at w (n ∷ before) behind h =
    let p = or_parts (bytes_eq n w) (is_among w before) h in
    let e = p.0 in
    rw e (one_more _ _ (found_at w before behind p.1))
  where
    one_more : (m n : ℕ) → m ≡ n → 1 + m ≡ suc n
    one_more m n h = omega arith

-- a name is at the place of the first that is equal
pub place_at : (w : List ℕ) (before behind : List (List ℕ)) → is_among w before ≡ false → place_of w (before ++ (w ∷ behind)) ≡ Some (length before)
place_at w before behind h =
    let e = found_at w before behind h in
    let n = length-append before (w ∷ behind) in
    let t : nat_lt (length before) (length (before ++ (w ∷ behind))) ≡ true = grind (arith, nat_tests) in
    rw e (rw t refl)

-- names that differ: none is among those before it
pub not_before : (w : List ℕ) (before behind : List (List ℕ)) → all_differ (before ++ (w ∷ behind)) ≡ true → is_among w before ≡ false
not_before w before behind h =
    let k : (differ_from [] before && (not (is_among w before) && differ_from (before ++ w ∷ []) behind)) ≡ true = sym (differ-append [] before (w ∷ behind)) ∙ h in
    second (differ_from [] before) (is_among w before) (differ_from (before ++ w ∷ []) behind) k
  where
    second : (x y z : Bool) → (x && (not y && z)) ≡ true → y ≡ false
    second true true z h = absurd cc
    second true false z h = refl
    second false y z h = absurd cc

-- ---- the variables of a form

-- a variable by its name
abbrev pub axis : Bool → List ℕ → Axis
axis primed w = record { name = w; primed = primed }

-- the old variables, and in a switch the new ones behind them
abbrev pub axes_of : Form → List (List ℕ) → List Axis
axes_of Plain vars = map (axis false) vars
axes_of Flow vars = map (axis false) vars
axes_of Jump vars = map (axis false) vars ++ map (axis true) vars

-- their names as they are printed
abbrev pub names_of : Form → List (List ℕ) → List (List ℕ)
names_of Plain vars = vars
names_of Flow vars = vars
names_of Jump vars = jump_names vars

old_names : (vars : List (List ℕ)) → map axis_text (map (axis false) vars) ≡ vars
old_names [] = refl
old_names (w ∷ vars) = ap (λ ws. w ∷ ws) (old_names vars)

new_names : (vars : List (List ℕ)) → map axis_text (map (axis true) vars) ≡ map (λ v. v ++ codes "'") vars
new_names [] = refl
new_names (w ∷ vars) = ap (λ ws. (w ++ codes "'") ∷ ws) (new_names vars)

map-append : (xs ys : List Axis) → map axis_text (xs ++ ys) ≡ map axis_text xs ++ map axis_text ys
map-append [] ys = refl
map-append (x ∷ xs) ys = ap (λ ws. axis_text x ∷ ws) (map-append xs ys)

-- what the variables print as
pub axes_names : (form : Form) (vars : List (List ℕ)) → map axis_text (axes_of form vars) ≡ names_of form vars
axes_names Plain vars = old_names vars
axes_names Flow vars = old_names vars
axes_names Jump vars = map-append (map (axis false) vars) (map (axis true) vars) ∙ ap (λ ws. ws ++ map axis_text (map (axis true) vars)) (old_names vars) ∙ ap (λ ws. vars ++ ws) (new_names vars)

named : (primed : Bool) (vars : List (List ℕ)) → AllOf IsName vars → AllOf IsNamed (map (axis primed) vars)
named primed [] h = tt
named primed (w ∷ vars) h = (record { name = h.0.word }, named primed vars h.1)

-- names are words
pub axes_named : (form : Form) (vars : List (List ℕ)) → AllOf IsName vars → AllOf IsNamed (axes_of form vars)
axes_named Plain vars h = named false vars h
axes_named Flow vars h = named false vars h
axes_named Jump vars h = all-append IsNamed (map (axis false) vars) (map (axis true) vars) (named false vars h) (named true vars h)

-- ---- their places

module _ (form : Form) (vars : List (List ℕ)) where
  placed_from : (primed : Bool) (shift : ℕ) → ((w : List ℕ) (i : ℕ) → place_of w vars ≡ Some i → variable_of form vars (axis_tokens (axis primed w)) ≡ Some (shift + i))
      → (before behind : List (List ℕ)) (k : ℕ) → vars ≡ before ++ behind → k ≡ shift + length before → all_differ vars ≡ true → ArePlaced form vars k (map (axis primed) behind)
  placed_from primed shift f before [] k is at differ = tt
  placed_from primed shift f before (w ∷ behind) k is at differ =
      let split : all_differ (before ++ (w ∷ behind)) ≡ true = ap all_differ (sym is) ∙ differ in
      let place : place_of w vars ≡ Some (length before) = ap (place_of w) is ∙ place_at w before behind (not_before w before behind split) in
      let size = length-append before (w ∷ []) in (
        f w (length before) place ∙ ap (λ (i : ℕ). Some i) (sym at),
        placed_from primed shift f (before ++ w ∷ []) behind (k + 1) (is ∙ sym (append_assoc before (w ∷ []) behind)) (omega arith) differ,
      )

  old_placed : ((w : List ℕ) → variable_of form vars (axis_tokens (axis false w)) ≡ place_of w vars) → all_differ vars ≡ true → ArePlaced form vars 0 (map (axis false) vars)
  old_placed same differ = placed_from false 0 (λ w i h. same w ∙ h ∙ ap (λ (j : ℕ). Some j) (sym (zero-add i))) [] vars 0 refl refl differ

  placed-append : (xs ys : List Axis) (k n : ℕ) → n ≡ k + length xs → ArePlaced form vars k xs → ArePlaced form vars n ys → ArePlaced form vars k (xs ++ ys)
  placed-append [] ys k n e h g = let same : n ≡ k = omega arith in subst (λ (m : ℕ). ArePlaced form vars m ys) same g
  placed-append (x ∷ xs) ys k n e h g = (h.0, placed-append xs ys (k + 1) n (omega arith) h.1 g)

new_placed : (vars : List (List ℕ)) → all_differ vars ≡ true → ArePlaced Jump vars (length vars) (map (axis true) vars)
new_placed vars differ = placed_from Jump vars true (length vars) (λ w i h. ap (option_map (λ j. length vars + j)) h) [] vars (length vars) refl (omega arith) differ

-- the variables of a form are at their places
pub axes_placed : (form : Form) (vars : List (List ℕ)) → all_differ vars ≡ true → AreAxes form vars (axes_of form vars)
axes_placed Plain vars h = record { places = old_placed Plain vars (λ w. refl) h; count = length-map vars (axis false) }
axes_placed Flow vars h = record { places = old_placed Flow vars (λ w. refl) h; count = length-map vars (axis false) }
axes_placed Jump vars h =
    let old = length-map vars (axis false) in
    let new = length-map vars (axis true) in
    record {
      places = placed-append Jump vars (map (axis false) vars) (map (axis true) vars) 0 (length vars) (omega arith) (old_placed Jump vars (λ w. refl) h) (new_placed vars h);
      count = length-append (map (axis false) vars) (map (axis true) vars) ∙ omega arith;
    }
