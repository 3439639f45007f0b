-- The two forms of the grammar of plants agree.
use Rattle.std.proofs.Common.{◌≡◌, ℕ, List, [], ◌∷◌, length, map, refl, sym, ap, ◌∙◌, true, false, cond, Option, Some, None}
use Rattle.std.specs.Option.{option_and_then}
use Rattle.std.proofs.lemmas.Option.{none-some}
use Rattle.lhg_math.specs.Tests.{by_bool, false_true}
use Rattle.lhg_lex.specs.LineTokens.{Spot}
use Rattle.lhg_plant.specs.Plant.{PlainLocation, PlainSwitch, PlainPlant}
use Rattle.lhg_read.specs.PlantLine.{PlantLine, line_of}
use Rattle.lhg_read.specs.PlantText.{plant_lines, said_in, IsPlant}
use Rattle.lhg_read.specs.PlantSteps.{PlainDraft, empty_draft, step, steps, taken_at, has_ended, plant_with}
use Rattle.lhg_read.specs.Begun.{IsBegun}
use Rattle.lhg_read.specs.Machine.{all_taken}
use Rattle.lhg_read.specs.MachineLaws.{going_on, ended_none}
use Rattle.lhg_read.proofs.PlantStates.{State, nothing, stands, ends, states}
use Rattle.lhg_read.proofs.PlantRuns.{plant_taken}

-- ---- lines and what they say

-- what the lines say
abbrev pub said_lines : List (List ℕ) → List (List Spot) → List (Option PlantLine)
said_lines vars lines = map (λ line. line_of vars (said_in line)) lines

-- lines that say these are taken as these
taken_as : (vars : List (List ℕ)) (lines : List (List Spot)) (ls : List PlantLine) (d : PlainDraft) → said_lines vars lines ≡ map (λ l. Some l) ls → all_taken (taken_at vars) has_ended d lines ≡ steps (length vars) d ls
taken_as vars [] [] d e = refl
taken_as vars [] (l ∷ ls) d e = absurd cc
taken_as vars (line ∷ lines) [] d e = absurd cc
taken_as vars (line ∷ lines) (l ∷ ls) d e =
    let h : line_of vars (said_in line) ≡ Some l = cc in
    let t : said_lines vars lines ≡ map (λ x. Some x) ls = cc in
    ap (λ o. cond d.ended None (option_and_then (λ x. all_taken (taken_at vars) has_ended x lines) (option_and_then (step (length vars) d) o))) h
    ∙ ap (λ o. cond d.ended None o) (by_step (step (length vars) d l) (λ x. taken_as vars lines ls x t))
  where
    by_step : (o : Option PlainDraft) → ((x : PlainDraft) → all_taken (taken_at vars) has_ended x lines ≡ steps (length vars) x ls) → option_and_then (λ x. all_taken (taken_at vars) has_ended x lines) o ≡ option_and_then (λ x. steps (length vars) x ls) o
    by_step None f = refl
    by_step (Some x) f = f x

-- lines that are taken say something
pub record Say (vars : List (List ℕ)) (lines : List (List Spot)) (d e : PlainDraft) : Type 0 where
  pub all : List PlantLine
  pub are : said_lines vars lines ≡ map (λ l. Some l) all
  pub stepped : steps (length vars) d all ≡ Some e

pub say_all : (vars : List (List ℕ)) (lines : List (List Spot)) (d e : PlainDraft) → all_taken (taken_at vars) has_ended d lines ≡ Some e → Say vars lines d e
say_all vars [] d e h = record { all = []; are = refl; stepped = h }
say_all vars (line ∷ lines) d e h =
    by_bool d.ended
    (λ t. absurd (none-some e (sym (ended_none d.ended _ t) ∙ h)))
    (λ t. by_line t (line_of vars (said_in line)) refl (sym (going_on d.ended _ t) ∙ h) (λ x k. say_all vars lines x e k))
  where
    by_line : d.ended ≡ false → (o : Option PlantLine) → line_of vars (said_in line) ≡ o → option_and_then (λ x. all_taken (taken_at vars) has_ended x lines) (option_and_then (step (length vars) d) o) ≡ Some e
        → ((x : PlainDraft) → all_taken (taken_at vars) has_ended x lines ≡ Some e → Say vars lines x e) → Say vars (line ∷ lines) d e
    by_line t None p k f = absurd (none-some e k)
    by_line t (Some l) p k f = by_draft (step (length vars) d l) refl k
      where
        by_draft : (o : Option PlainDraft) → step (length vars) d l ≡ o → option_and_then (λ x. all_taken (taken_at vars) has_ended x lines) o ≡ Some e → Say vars (line ∷ lines) d e
        by_draft None q k = absurd (none-some e k)
        by_draft (Some x) q k =
            let r = f x k in
            record {
              all = l ∷ r.all;
              are = ap (λ y. y ∷ said_lines vars lines) p ∙ ap (λ ys. Some l ∷ ys) r.are;
              stepped = going_on d.ended _ t ∙ ap (option_and_then (λ y. steps (length vars) y r.all)) q ∙ r.stepped;
            }

-- ---- from lines that are taken to a plant

-- once the end is taken the lines are a plant
pub plant_of_begun : (lines : List (List Spot)) (vars : List (List ℕ)) (d : PlainDraft) → IsBegun lines vars d → d.ended ≡ true → IsPlant lines (plant_with vars d)
plant_of_begun lines vars d b t =
    let s = say_all vars b.rest empty_draft d b.taken in
    by_state s (states (length vars) [] s.all empty_draft d (nothing refl refl) s.stepped)
  where
    by_state : (s : Say vars b.rest empty_draft d) → State (length vars) s.all d → IsPlant lines (plant_with vars d)
    by_state s (nothing e f) = false_true (sym (ap (λ (x : PlainDraft). x.ended) f) ∙ t)
    by_state s (stands x) = false_true (sym x.going ∙ t)
    by_state s (ends x) = record {
      head = b.head;
      vars = b.names;
      rest = b.rest;
      blocks = x.blocks;
      switches = x.written;
      lines_are = b.lines_are;
      head_is = b.head_is;
      vars_are = b.vars_are;
      rest_are = s.are ∙ ap (map (λ l. Some l)) x.lines_are;
      each_block = x.each;
      locs_are = x.locs_are;
      some_locs = x.some;
      few_locs = x.few;
      locs_differ = x.differ;
      switches_are = x.placed;
      few_switches = x.few_switches;
      switches_differ = x.switches_differ;
    }

-- ---- from a plant to lines that are taken

-- the lines of a plant are taken to their end
pub begun_of_plant : (lines : List (List Spot)) (p : PlainPlant) → IsPlant lines p → (d : PlainDraft) × IsBegun lines p.vars d × (d.ended ≡ true) × (plant_with p.vars d ≡ p)
begun_of_plant lines p h =
    let w = plant_taken (length p.vars) h.blocks h.switches p.switches h.each_block h.some_locs h.few_locs h.locs_differ h.switches_are h.few_switches h.switches_differ in (
      w.new,
      record {
        head = h.head;
        names = h.vars;
        rest = h.rest;
        lines_are = h.lines_are;
        head_is = h.head_is;
        vars_are = h.vars_are;
        taken = taken_as p.vars h.rest (plant_lines h.blocks h.switches) empty_draft h.rest_are ∙ w.taken;
      },
      w.ended,
      same_plant p.vars _ _ _ _ (w.locs ∙ sym h.locs_are) w.switches,
    )
  where
    same_plant : (vars : List (List ℕ)) (ls ms : List PlainLocation) (ss ts : List PlainSwitch) → ls ≡ ms → ss ≡ ts
        → (let a : PlainPlant = record { vars = vars; locs = ls; switches = ss } in let b : PlainPlant = record { vars = vars; locs = ms; switches = ts } in a ≡ b)
    same_plant vars ls ms ss ts e f = cc
