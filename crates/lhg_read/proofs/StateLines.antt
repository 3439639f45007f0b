-- Each plant has a line that says a state of it behind a word.
use Rattle.std.proofs.Common.{◌≡◌, ◌<◌, ℕ, List, [], ◌∷◌, ◌++◌, length, map, refl, ap, ◌∙◌, true, Some, Ok, arith, nat_le, suc, codes}
use Rattle.std.specs.Prelude.{nat_lt}
use Rattle.std.proofs.lemmas.Bool.Decides.{nat_tests}
use Rattle.std.proofs.lemmas.Slice.Eq.{bytes_eq-Decides}
use Rattle.lhg_math.specs.Number.{Number, nought}
use Rattle.lhg_math.specs.Tests.{AllOf}
use Rattle.lhg_lex.specs.PlainToken.{PlainToken, word, number, sign}
use Rattle.lhg_lex.specs.LineTokens.{Spot, tokens_of}
use Rattle.lhg_lex.specs.Word.{is_word}
use Rattle.lhg_plant.specs.Plant.{PlainLocation, PlainPlant}
use Rattle.lhg_plant.specs.Proper.{IsLocation, IsProper}
use Rattle.lhg_plant.specs.State.{PlainState}
use Rattle.lhg_plant.specs.Word.{IsName}
use Rattle.lhg_read.specs.Cut.{cut, parts_of}
use Rattle.lhg_read.specs.Options.{consed}
use Rattle.lhg_read.specs.PlantSteps.{loc_names}
use Rattle.lhg_read.specs.PlantText.{said_in}
use Rattle.lhg_read.specs.PointText.{coordinate_of, coordinates_of, point_of}
use Rattle.lhg_read.specs.Signs.{is_comma}
use Rattle.lhg_read.specs.StateText.{location_in, state_by, IsSomeState}
use Rattle.lhg_read.specs.TokenText.{token_line}
use Rattle.lhg_read.specs.ReadsLaws.{on_by}
use Rattle.lhg_read.proofs.SpelledLines.{Spelling, IsSpelling, spelled_line, spelled_tokens, word_spelling, equals_spelling, comma_spelling, zero_spelling}
use Rattle.lhg_read.proofs.StateSteps.{state_is}
use Rattle.lhg_read.specs.Reads.{CanGoOn}

abbrev spelling : List ℕ → PlainToken → Spelling
spelling bytes token = record { bytes = bytes; token = token }

-- what is spelled
abbrev tokens : List Spelling → List PlainToken
tokens ss = map (λ s. s.token) ss

-- ---- a point

-- `NAME = 0`
abbrev coordinate : List ℕ → List Spelling
coordinate v = spelling v (word v) ∷ spelling (61 ∷ []) (sign 61) ∷ spelling (48 ∷ []) (number nought) ∷ []

-- the origin
abbrev origin : List ℕ → List (List ℕ) → List Spelling
origin v [] = coordinate v
origin v (w ∷ vars) = coordinate v ++ (spelling (44 ∷ []) (sign 44) ∷ origin w vars)

coordinate_spelled : (v : List ℕ) (rest : List Spelling) → IsName v → AllOf IsSpelling rest → AllOf IsSpelling (coordinate v ++ rest)
coordinate_spelled v rest h k = (word_spelling v h.word, (equals_spelling, (zero_spelling, k)))

origin_spelled : (v : List ℕ) (vars : List (List ℕ)) → AllOf IsName (v ∷ vars) → AllOf IsSpelling (origin v vars)
origin_spelled v [] h = coordinate_spelled v [] h.0 tt
origin_spelled v (w ∷ vars) h = coordinate_spelled v (spelling (44 ∷ []) (sign 44) ∷ origin w vars) h.0 (comma_spelling, origin_spelled w vars h.1)

coordinate_said : (v : List ℕ) → coordinate_of v (tokens (coordinate v)) ≡ Some nought
coordinate_said v = rw ((bytes_eq-Decides v v).1 refl) refl

zeros : List (List ℕ) → List Number
zeros vars = map (λ _. nought) vars

origin_said : (v : List ℕ) (vars : List (List ℕ)) → coordinates_of (v ∷ vars) (parts_of (cut is_comma (tokens (origin v vars)))) ≡ Some (zeros (v ∷ vars))
unfolding zeros
origin_said v [] = ap (λ o. consed o (Some [])) (coordinate_said v)
origin_said v (w ∷ vars) = ap (λ o. consed o (coordinates_of (w ∷ vars) (parts_of (cut is_comma (tokens (origin w vars)))))) (coordinate_said v) ∙ ap (consed (Some nought)) (origin_said w vars)

-- ---- a state

-- the line of a word, a name and the origin
abbrev state_spelling : List ℕ → List ℕ → List ℕ → List (List ℕ) → List Spelling
state_spelling w name v vars = spelling w (word w) ∷ spelling name (word name) ∷ origin v vars

-- the first location is found by its name
first_place : (l : PlainLocation) (locs : List PlainLocation) → IsName l.name → (let p : PlainPlant = record { vars = []; locs = l ∷ locs; switches = [] } in location_in p (word l.name)) ≡ Some 0
first_place l locs h = let e : nat_le (length l.name) 32 ≡ true = grind (arith, nat_tests, h.fits) in let f : nat_lt 0 (suc (length (loc_names locs))) ≡ true = grind (arith, nat_tests) in rw e (rw ((bytes_eq-Decides l.name l.name).1 refl, f) refl)

state_said : (w : List ℕ) (p : PlainPlant) (l : PlainLocation) (locs : List PlainLocation) (v : List ℕ) (vars : List (List ℕ)) → p.locs ≡ l ∷ locs → p.vars ≡ v ∷ vars → IsName l.name
    → state_by w p (tokens (state_spelling w l.name v vars)) ≡ Some (record { loc = 0; at = zeros (v ∷ vars) })
unfolding state_by point_of
state_said w p l locs v vars e f h =
    let at : point_of p.vars (tokens (origin v vars)) ≡ Some (zeros (v ∷ vars)) = ap (λ names. point_of names (tokens (origin v vars))) f ∙ origin_said v vars in
    let loc : location_in p (word l.name) ≡ Some 0 = ap (λ (ls : List PlainLocation). location_in (record { vars = []; locs = ls; switches = [] }) (word l.name)) e ∙ first_place l locs h in
    rw ((bytes_eq-Decides w w).1 refl) (state_is p (word l.name) (tokens (origin v vars)) 0 (zeros (v ∷ vars)) loc at)

-- a line with tokens
some_tokens : (w name v : List ℕ) (vars : List (List ℕ)) (spots : List Spot) → said_in spots ≡ tokens (state_spelling w name v vars) → token_line (Ok spots) ≡ Some (spots ∷ [])
some_tokens w name v vars [] e = absurd cc
some_tokens w name v vars (s ∷ spots) e = refl

-- a line that says a state behind the word
pub record HasStateLine (w : List ℕ) (p : PlainPlant) : Type 0 where
  pub text : List ℕ
  pub spots : List Spot
  pub tokens_are : tokens_of text ≡ Ok spots
  pub line_is : token_line (Ok spots) ≡ Some (spots ∷ [])
  pub state : PlainState
  pub says : state_by w p (said_in spots) ≡ Some state

-- each proper plant has such a line
pub state_written : (w : List ℕ) → is_word w ≡ true → (p : PlainPlant) → IsProper p → HasStateLine w p
state_written w word_is p h = by_lists p.vars p.locs refl refl h.some_vars h.vars h.some_locs h.locs
  where
    by_lists : (vars : List (List ℕ)) (locs : List PlainLocation) → p.vars ≡ vars → p.locs ≡ locs → 0 < length vars → AllOf IsName vars → 0 < length locs → AllOf (IsLocation (length p.vars)) locs → HasStateLine w p
    by_lists [] locs e f a h b k = absurd (omega arith)
    by_lists (v ∷ vars) [] e f a h b k = absurd (omega arith)
    by_lists (v ∷ vars) (l ∷ locs) e f a h b k =
        let ss = state_spelling w l.name v vars in
        let line = spelled_tokens ss (word_spelling w word_is, (word_spelling l.name k.0.name.word, origin_spelled v vars h)) in
        record {
          text = spelled_line ss;
          spots = line.0;
          tokens_are = line.1;
          line_is = some_tokens w l.name v vars line.0 line.2;
          state = record { loc = 0; at = zeros (v ∷ vars) };
          says = ap (state_by w p) line.2 ∙ state_said w p l locs v vars f e k.0.name;
        }

-- so it has a state's line
pub some_state : (p : PlainPlant) → IsProper p → CanGoOn (IsSomeState p) []
some_state p h =
    let l = state_written (codes "state") refl p h in
    on_by (IsSomeState p) [] l.text l.spots l.tokens_are l.line_is (record { more = []; further = []; are = refl; is = (l.state, record { line = l.spots; lines_are = refl; says = l.says }) })
