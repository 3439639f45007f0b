-- From each state of the reader some further lines make a plant.
use Rattle.std.proofs.Common.{◌≡◌, ◌≤◌, ℕ, List, [], ◌∷◌, ◌++◌, length, map, refl, sym, ap, ◌∙◌, subst, true, false, cond, Some, None, Ok, arith, append-nil, length-append, codes}
use Rattle.std.specs.Option.{option_and_then}
use Rattle.std.proofs.lemmas.List.{length-map}
use Rattle.lhg_math.specs.Number.{unit}
use Rattle.lhg_math.specs.Tests.{false_true}
use Rattle.lhg_lex.specs.PlainToken.{PlainToken, word, number}
use Rattle.lhg_lex.specs.Longest.{longest}
use Rattle.lhg_lex.specs.LineTokens.{Spot, tokens_of}
use Rattle.lhg_read.specs.PlantLine.{line_of}
use Rattle.lhg_read.specs.PlantText.{location_of, said_in, IsHead, IsPlant, IsSomePlant}
use Rattle.lhg_read.specs.PlantSteps.{PlainDraft, empty_draft, is_nil, taken, taken_at, has_ended, plant_with}
use Rattle.lhg_read.specs.Reads.{CanGoOn}
use Rattle.lhg_read.specs.ReadsLaws.{on_by}
use Rattle.lhg_read.specs.Begun.{IsBegun}
use Rattle.lhg_read.proofs.PlantParts.{not_nil}
use Rattle.lhg_read.specs.Machine.{all_taken}
use Rattle.lhg_read.specs.MachineLaws.{going_on, taken-append}
use Rattle.lhg_read.proofs.PlantStates.{State, nothing, stands, ends, states}
use Rattle.lhg_read.proofs.PlantTexts.{Say, say_all, plant_of_begun}

-- ---- four lines

pub spot : PlainToken → ℕ → ℕ → Spot
spot says from to = record { says = says; from = from; to = to }

-- the head line
unfoldable pub head_spots : List Spot
head_spots = spot (word (codes "lhg")) 0 3 ∷ spot (number unit) 4 5 ∷ []

vars_spots : List Spot
vars_spots = spot (word (codes "vars")) 0 4 ∷ spot (word (codes "x")) 5 6 ∷ []

loc_spots : List Spot
loc_spots = spot (word (codes "loc")) 0 3 ∷ spot (word (codes "x")) 4 5 ∷ []

end_spots : List Spot
end_spots = spot (word (codes "end")) 0 3 ∷ []

-- it says the head
pub head_tokens : tokens_of (codes "lhg 1") ≡ Ok head_spots
unfolding longest tokens_of unit spot head_spots
head_tokens = refl

-- and is one
pub head_is : IsHead head_spots
unfolding spot head_spots
head_is = record { from = 0; to = 3; at = 4; is = refl }

vars_tokens : tokens_of (codes "vars x") ≡ Ok vars_spots
unfolding longest tokens_of spot vars_spots
vars_tokens = refl

loc_tokens : tokens_of (codes "loc x") ≡ Ok loc_spots
unfolding longest tokens_of spot loc_spots
loc_tokens = refl

end_tokens : tokens_of (codes "end") ≡ Ok end_spots
unfolding longest tokens_of spot end_spots
end_tokens = refl

-- ---- one line on

-- a line more is taken
pub begun_more : (lines : List (List Spot)) (vars : List (List ℕ)) (d e : PlainDraft) (spots : List Spot) (b : IsBegun lines vars d) → d.ended ≡ false → taken vars d (said_in spots) ≡ Some e → IsBegun (lines ++ spots ∷ []) vars e
begun_more lines vars d e spots b going h = record {
  head = b.head;
  names = b.names;
  rest = b.rest ++ spots ∷ [];
  lines_are = ap (λ ls. ls ++ spots ∷ []) b.lines_are;
  head_is = b.head_is;
  vars_are = b.vars_are;
  taken =
      taken-append PlainDraft (taken_at vars) has_ended empty_draft b.rest (spots ∷ []) ∙ ap (option_and_then (λ x. all_taken (taken_at vars) has_ended x (spots ∷ []))) b.taken
      ∙ going_on d.ended _ going ∙ ap (option_and_then (λ x. all_taken (taken_at vars) has_ended x [])) h;
}

-- ---- the states

-- a plant goes on with nothing
done : (lines : List (List Spot)) (vars : List (List ℕ)) (d : PlainDraft) → IsBegun lines vars d → d.ended ≡ true → CanGoOn IsSomePlant lines
done lines vars d b t = record {
  more = [];
  further = [];
  are = refl;
  is = (plant_with vars d, subst (λ ls. IsPlant ls (plant_with vars d)) (sym (append-nil lines)) (plant_of_begun lines vars d b t));
}

-- behind a location, by the end
by_end : (lines : List (List Spot)) (vars : List (List ℕ)) (d : PlainDraft) → IsBegun lines vars d → d.ended ≡ false → is_nil d.locs ≡ false → CanGoOn IsSomePlant lines
unfolding spot end_spots line_of
by_end lines vars d b going some =
    let last : PlainDraft = record d { ended = true } in
    let h : taken vars d (said_in end_spots) ≡ Some last = ap (λ c. cond c None (Some last)) some in
    on_by IsSomePlant lines (codes "end") end_spots end_tokens refl (done (lines ++ end_spots ∷ []) vars last (begun_more lines vars d last end_spots b going h) refl)

-- before the first location, by one
by_loc : (lines : List (List Spot)) (vars : List (List ℕ)) → IsBegun lines vars empty_draft → CanGoOn IsSomePlant lines
unfolding spot loc_spots line_of
by_loc lines vars b =
    on_by IsSomePlant lines (codes "loc x") loc_spots loc_tokens refl (by_end (lines ++ loc_spots ∷ []) vars _ (begun_more lines vars empty_draft _ loc_spots b refl refl) refl refl)

-- from each draft that has not ended
pub from_begun : (lines : List (List Spot)) (vars : List (List ℕ)) (d : PlainDraft) → IsBegun lines vars d → d.ended ≡ false → CanGoOn IsSomePlant lines
from_begun lines vars d b going =
    let s = say_all vars b.rest empty_draft d b.taken in
    by_state s (states (length vars) [] s.all empty_draft d (nothing refl refl) s.stepped)
  where
    by_state : (s : Say vars b.rest empty_draft d) → State (length vars) s.all d → CanGoOn IsSomePlant lines
    by_state s (nothing e f) = by_loc lines vars (subst (λ x. IsBegun lines vars x) f b)
    by_state s (stands x) = by_end lines vars d b going (ap is_nil x.locs_are ∙ not_nil _ _)
    by_state s (ends x) = false_true (sym going ∙ x.ended)

-- behind the head, by a variable
pub from_head : (head : List Spot) → IsHead head → CanGoOn IsSomePlant (head ∷ [])
unfolding spot vars_spots
from_head head h =
    on_by IsSomePlant (head ∷ []) (codes "vars x") vars_spots vars_tokens refl
    (from_begun (head ∷ vars_spots ∷ []) (codes "x" ∷ []) empty_draft (record { head = head; names = vars_spots; rest = []; lines_are = refl; head_is = h; vars_are = refl; taken = refl }) refl)

-- at the beginning, by the head
pub from_nothing : CanGoOn IsSomePlant []
unfolding spot head_spots
from_nothing = on_by IsSomePlant [] (codes "lhg 1") head_spots head_tokens refl (from_head head_spots head_is)

-- ---- limits

-- not too many locations are read
pub begun_few : (lines : List (List Spot)) (vars : List (List ℕ)) (d : PlainDraft) → IsBegun lines vars d → length d.locs ≤ 64
begun_few lines vars d b =
    let s = say_all vars b.rest empty_draft d b.taken in
    by_state s (states (length vars) [] s.all empty_draft d (nothing refl refl) s.stepped)
  where
    by_state : (s : Say vars b.rest empty_draft d) → State (length vars) s.all d → length d.locs ≤ 64
    by_state s (nothing e f) = let k = ap (λ (x : PlainDraft). length x.locs) f in omega (arith, k)
    by_state s (stands x) = let k = ap length x.locs_are in let m = length-append (map (location_of (length vars)) x.closed) (location_of (length vars) x.last ∷ []) in let n = length-map x.closed (location_of (length vars)) in let f = x.few in omega (arith, k, m, n, f)
    by_state s (ends x) = let k = ap length x.locs_are in let n = length-map x.blocks (location_of (length vars)) in let f = x.few in omega (arith, k, n, f)
