-- What lines that are taken have said: nothing, the beginning of a plant, or a plant.
use Rattle.std.proofs.Common.{◌≡◌, ℕ, List, [], ◌∷◌, ◌++◌, refl, sym, ap, ◌∙◌, subst, Bool, true, false, not, cond, ◌&&◌, Option, Some, None, append_assoc, append-nil}
use Rattle.std.specs.Prelude.{nat_lt}
use Rattle.std.specs.Option.{option_and_then, option_map}
use Rattle.std.proofs.lemmas.Option.{none-some, same_Some}
use Rattle.lhg_math.specs.Tests.{by_bool}
use Rattle.lhg_plant.specs.Plant.{PlainSwitch}
use Rattle.lhg_read.specs.MachineLaws.{ended_none, going_on}
use Rattle.lhg_read.specs.PlantLine.{inv, flow, safe, PlantLine, loc, block, switch, end}
use Rattle.lhg_read.specs.PlantText.{switch_at}
use Rattle.lhg_read.specs.PlantSteps.{PlainDraft, empty_draft, is_nil, safe_lines, loc_names, is_open, begun, may_begin, may_switch, step, steps}
use Rattle.lhg_read.proofs.PlantParts.{not_nil}
use Rattle.lhg_read.proofs.PlantStands.{Stands, Ends, begins_first, begins_next, inv_line, flow_line, safe_line, switch_line, end_line}

-- nothing is said yet; or something stands; or the plant has ended
pub data State (n : ℕ) (lines : List PlantLine) (d : PlainDraft) : Type 0 where
  nothing : lines ≡ [] → d ≡ empty_draft → State n lines d
  stands : Stands n lines d → State n lines d
  ends : Ends n lines d → State n lines d

-- a choice that gives a draft was allowed, and this is the draft
chosen : (b : Bool) (x e : PlainDraft) → (let none : Option PlainDraft = None in cond b (Some x) none ≡ Some e) → (b ≡ true) × (x ≡ e)
chosen true x e h = (refl, same_Some x e h)
chosen false x e h = absurd (none-some e h)

true_false : {P : Type 0} → true ≡ false → P
true_false h = absurd cc

at_draft : (n : ℕ) (lines : List PlantLine) (x e : PlainDraft) → x ≡ e → Stands n lines x → State n lines e
at_draft n lines x e h s = stands (subst (λ d. Stands n lines d) h s)

module _ (n : ℕ) (lines : List PlantLine) (d : PlainDraft) where
  -- at the beginning a location begins, and nothing else can stand
  first_line : (l : PlantLine) (e : PlainDraft) → lines ≡ [] → d ≡ empty_draft → step n empty_draft l ≡ Some e → State n (lines ++ l ∷ []) e
  first_line (loc name) e f g h =
      let k : record empty_draft { locs = empty_draft.locs ++ begun n name ∷ []; has_inv = false; has_flow = false } ≡ e = same_Some _ e h in
      at_draft n (lines ++ loc name ∷ []) _ e (ap (λ (x : PlainDraft). record x { locs = x.locs ++ begun n name ∷ []; has_inv = false; has_flow = false }) g ∙ k) (begins_first n lines d name f g)
  first_line (block (inv rows)) e f g h = absurd (none-some e h)
  first_line (block (flow rows)) e f g h = absurd (none-some e h)
  first_line (block (safe rows)) e f g h = absurd (none-some e h)
  first_line (switch w) e f g h = absurd (none-some e h)
  first_line end e f g h = absurd (none-some e h)

  module _ (s : Stands n lines d) where
    some_locs : is_nil d.locs ≡ false
    some_locs = ap is_nil s.locs_are ∙ not_nil _ _

    -- a further line
    next_line : (l : PlantLine) (e : PlainDraft) → step n d l ≡ Some e → State n (lines ++ l ∷ []) e
    next_line (loc name) e h = let c = chosen (may_begin d name) _ e h in at_draft n _ _ e c.1 (begins_next n lines d s name c.0)
    next_line (block (inv rows)) e h = let c = chosen (is_open d && not d.has_inv) _ e h in at_draft n _ _ e c.1 (inv_line n lines d s rows c.0)
    next_line (block (flow rows)) e h = let c = chosen (is_open d && not d.has_flow) _ e h in at_draft n _ _ e c.1 (flow_line n lines d s rows c.0)
    next_line (block (safe rows)) e h = let c = chosen (is_open d && nat_lt (safe_lines d.locs) 64) _ e h in at_draft n _ _ e c.1 (safe_line n lines d s rows c.0)
    next_line (switch w) e h =
        by_bool (may_switch d w.name)
        (λ t. let k : option_map (λ x. record d { switches = d.switches ++ x ∷ [] }) (switch_at (loc_names d.locs) w) ≡ Some e = rw t at h in by_place (switch_at (loc_names d.locs) w) refl k t)
        (λ t. let k : (let none : Option PlainDraft = None in none ≡ Some e) = rw t at h in absurd (none-some e k))
      where
        by_place : (o : Option PlainSwitch) → switch_at (loc_names d.locs) w ≡ o → option_map (λ x. record d { switches = d.switches ++ x ∷ [] }) o ≡ Some e → may_switch d w.name ≡ true → State n (lines ++ switch w ∷ []) e
        by_place None p k t = absurd (none-some e k)
        by_place (Some x) p k t = at_draft n _ _ e (same_Some _ e k) (switch_line n lines d s w x t p)
    next_line end e h =
        let k : Some (record d { ended = true }) ≡ Some e = rw some_locs at h in
        ends (subst (λ x. Ends n (lines ++ end ∷ []) x) (same_Some _ e k) (end_line n lines d s))

-- one line more
pub state_step : (n : ℕ) (lines : List PlantLine) (d : PlainDraft) (l : PlantLine) (e : PlainDraft) → State n lines d → d.ended ≡ false → step n d l ≡ Some e → State n (lines ++ l ∷ []) e
state_step n lines d l e (nothing f g) going h = first_line n lines d l e f g (ap (λ x. step n x l) (sym g) ∙ h)
state_step n lines d l e (stands s) going h = next_line n lines d s l e h
state_step n lines d l e (ends x) going h = true_false (sym x.ended ∙ going)

-- lines more
pub states : (n : ℕ) (lines more : List PlantLine) (d e : PlainDraft) → State n lines d → steps n d more ≡ Some e → State n (lines ++ more) e
states n lines [] d e s h = subst (λ ls. State n ls e) (sym (append-nil lines)) (subst (λ x. State n lines x) (same_Some d e h) s)
states n lines (l ∷ more) d e s h =
    by_bool d.ended
    (λ t. absurd (none-some e (sym (ended_none d.ended _ t) ∙ h)))
    (λ t.
    let k : option_and_then (λ x. steps n x more) (step n d l) ≡ Some e = sym (going_on d.ended _ t) ∙ h in
    by_step (step n d l) refl k t (λ x p. states n (lines ++ l ∷ []) more x e (state_step n lines d l x s t p)))
  where
    by_step : (o : Option PlainDraft) → step n d l ≡ o → option_and_then (λ x. steps n x more) o ≡ Some e → d.ended ≡ false → ((x : PlainDraft) → step n d l ≡ Some x → steps n x more ≡ Some e → State n ((lines ++ l ∷ []) ++ more) e) → State n (lines ++ l ∷ more) e
    by_step None p k t f = absurd (none-some e k)
    by_step (Some x) p k t f = subst (λ ls. State n ls e) (append_assoc lines (l ∷ []) more) (f x p k)
