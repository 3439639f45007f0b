-- Where the lines so far cannot go on.
use Rattle.std.proofs.Common.{◌≡◌, ℕ, List, [], ◌∷◌, ◌++◌, sym, ap, ◌∙◌, subst, true, false, Option, Some, None}
use Rattle.std.specs.Option.{option_and_then}
use Rattle.std.proofs.lemmas.Option.{none-some, same_Some}
use Rattle.lhg_lex.specs.LineTokens.{Spot}
use Rattle.lhg_plant.specs.Plant.{PlainPlant}
use Rattle.lhg_read.specs.Names.{vars_of}
use Rattle.lhg_read.specs.PlantText.{said_in, IsHead, IsPlant, IsSomePlant}
use Rattle.lhg_read.specs.PlantSteps.{PlainDraft, empty_draft, taken, taken_at, has_ended, plant_with}
use Rattle.lhg_read.specs.Begun.{IsBegun}
use Rattle.lhg_read.specs.Machine.{all_taken}
use Rattle.lhg_read.specs.MachineLaws.{taken-append, stays_ended, none_taken}
use Rattle.lhg_read.proofs.PlantTexts.{begun_of_plant}

-- a list that begins with three parts has one reading
pub same_three : (a b c d : List Spot) (xs ys : List (List Spot)) → a ∷ b ∷ xs ≡ c ∷ d ∷ ys → (a ≡ c) × (b ≡ d) × (xs ≡ ys)
same_three a b c d xs ys e = (cc, cc, cc)

-- ---- before the variables are known

pub not_empty : (p : PlainPlant) → ¬ IsPlant [] p
not_empty p h = let e = h.lines_are in absurd cc

pub no_head : (line : List Spot) (more : List (List Spot)) (p : PlainPlant) → ¬ IsHead line → ¬ IsPlant (line ∷ more) p
no_head line more p bad h = bad (subst IsHead (first line h.head more (h.vars ∷ h.rest) h.lines_are) h.head_is)
  where
    first : (a b : List Spot) (xs ys : List (List Spot)) → a ∷ xs ≡ b ∷ ys → b ≡ a
    first a b xs ys e = cc

-- one line is not two or more
one_line : (a b c : List Spot) (xs : List (List Spot)) → a ∷ [] ≡ b ∷ c ∷ xs → ⊥
one_line a b c xs e = cc

pub not_head_alone : (line : List Spot) (p : PlainPlant) → ¬ IsPlant (line ∷ []) p
not_head_alone line p h = let e = h.lines_are in absurd (one_line line h.head h.vars h.rest e)

pub no_vars : (head line : List Spot) (more : List (List Spot)) (p : PlainPlant) → vars_of (said_in line) ≡ None → ¬ IsPlant (head ∷ line ∷ more) p
no_vars head line more p bad h =
    let t = same_three head line h.head h.vars more h.rest h.lines_are in
    clash p.vars (sym bad ∙ ap (λ l. vars_of (said_in l)) t.1 ∙ h.vars_are)
  where
    clash : (v : List (List ℕ)) → (let x : Option (List (List ℕ)) = None in x ≡ Some v) → ⊥
    clash v e = absurd cc

-- no beginning of nothing is a plant, and none of the head alone
pub none_at_start : (a b : List (List Spot)) → [] ≡ a ++ b → ¬ IsSomePlant a
none_at_start [] b e h = not_empty h.0 h.1
none_at_start (x ∷ a) b e h = absurd cc

pub none_at_head : (head : List Spot) (a b : List (List Spot)) → head ∷ [] ≡ a ++ b → ¬ IsSomePlant a
none_at_head head [] b e h = not_empty h.0 h.1
none_at_head head (x ∷ []) b e h = not_head_alone x h.0 h.1
none_at_head head (x ∷ y ∷ a) b e h = one_line head x y (a ++ b) e

-- ---- behind the variables

module _ (lines : List (List Spot)) (vars : List (List ℕ)) (d : PlainDraft) (b : IsBegun lines vars d) where
  -- what a plant that begins so has taken
  pub goes_on : (more : List (List Spot)) (p : PlainPlant) → IsPlant (lines ++ more) p → (e : PlainDraft) × (all_taken (taken_at vars) has_ended d more ≡ Some e) × (e.ended ≡ true) × (plant_with vars e ≡ p)
  goes_on more p h =
      let g = begun_of_plant (lines ++ more) p h in
      let f = g.1 in
      let t = same_three b.head b.names f.head f.names (b.rest ++ more) f.rest (ap (λ ls. ls ++ more) (sym b.lines_are) ∙ f.lines_are) in
      let v : vars ≡ p.vars = same_Some vars p.vars (sym b.vars_are ∙ ap (λ l. vars_of (said_in l)) t.1 ∙ f.vars_are) in
      let all : all_taken (taken_at vars) has_ended empty_draft (b.rest ++ more) ≡ Some g.0 = ap (λ w. all_taken (taken_at w) has_ended empty_draft (b.rest ++ more)) v ∙ ap (all_taken (taken_at p.vars) has_ended empty_draft) t.2 ∙ f.taken in
      let rest : all_taken (taken_at vars) has_ended d more ≡ Some g.0 =
      ap (option_and_then (λ e. all_taken (taken_at vars) has_ended e more)) (sym b.taken) ∙ sym (taken-append PlainDraft (taken_at vars) has_ended empty_draft b.rest more) ∙ all in
      (g.0, rest, g.2, ap (λ w. plant_with w g.0) v ∙ g.3)

  -- a line that is not taken
  pub no_line : (line : List Spot) (more : List (List Spot)) (p : PlainPlant) → taken vars d (said_in line) ≡ None → ¬ IsPlant (lines ++ line ∷ more) p
  no_line line more p bad h = let g = goes_on (line ∷ more) p h in absurd (none-some g.0 (sym (none_taken PlainDraft (taken_at vars) has_ended d line more bad) ∙ g.1))

-- no beginning of lines that have not ended is a plant
pub none_yet : (lines : List (List Spot)) (vars : List (List ℕ)) (d : PlainDraft) → IsBegun lines vars d → d.ended ≡ false → (a b : List (List Spot)) → lines ≡ a ++ b → ¬ IsSomePlant a
none_yet lines vars d b going first rest e h =
    let g = begun_of_plant first h.0 h.1 in
    let f = g.1 in
    let t = same_three b.head b.names f.head f.names b.rest (f.rest ++ rest) (sym b.lines_are ∙ e ∙ ap (λ ls. ls ++ rest) f.lines_are) in
    let v : vars ≡ h.0.vars = same_Some vars h.0.vars (sym b.vars_are ∙ ap (λ l. vars_of (said_in l)) t.1 ∙ f.vars_are) in
    let all : all_taken (taken_at h.0.vars) has_ended g.0 rest ≡ Some d =
    ap (option_and_then (λ x. all_taken (taken_at h.0.vars) has_ended x rest)) (sym f.taken) ∙ sym (taken-append PlainDraft (taken_at h.0.vars) has_ended empty_draft f.rest rest)
    ∙ ap (all_taken (taken_at h.0.vars) has_ended empty_draft) (sym t.2) ∙ ap (λ w. all_taken (taken_at w) has_ended empty_draft b.rest) (sym v) ∙ b.taken in
    stays_ended PlainDraft (taken_at h.0.vars) has_ended g.0 d rest g.2 going all
