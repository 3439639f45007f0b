-- What do the lines of a printed plant say?
use Rattle.std.proofs.Common.{◌≡◌, ◌<◌, ◌≤◌, ℕ, List, [], ◌∷◌, ◌++◌, length, map, refl, ap, ◌∙◌, true, false, Some, arith, codes, nat_le}
use Rattle.std.specs.Option.{option_map}
use Rattle.std.specs.Str.{bytes_eq}
use Rattle.std.proofs.lemmas.Bool.Decides.{nat_tests}
use Rattle.std.proofs.lemmas.Slice.Eq.{bytes_eq-Decides}
use Rattle.lhg_math.specs.Tests.{AllOf, by_bool, Every}
use Rattle.lhg_lex.specs.PlainToken.{PlainToken, word}
use Rattle.lhg_lex.specs.Word.{is_word}
use Rattle.lhg_row.specs.Constant.{varies}
use Rattle.lhg_row.specs.Piece.{PlainPiece}
use Rattle.lhg_plant.specs.Plant.{PlainLocation}
use Rattle.lhg_plant.specs.Word.{IsName, IsVariable}
use Rattle.lhg_plant.specs.declared.plants.Side.{Side}
use Rattle.lhg_plant.specs.declared.plants.Side.TheVariants.{Ctl, Env, Pick}
use Rattle.lhg_read.specs.Names.{is_taken, variable_names, vars_of}
use Rattle.lhg_plant.specs.Differ.{all_differ}
use Rattle.lhg_plant.specs.Limits.{most_variables}
use Rattle.lhg_plant.specs.Printable.{HasVariables}
use Rattle.lhg_plant.specs.Proper.{IsLine, IsLocation}
use Rattle.lhg_read.specs.PlantLine.{BlockLine, inv, flow, safe, WrittenSwitch, PlantLine, loc, block, switch, end, side_of, switch_of, line_of}
use Rattle.lhg_read.specs.PlantText.{Block, block_lines}
use Rattle.lhg_read.specs.Rows.{rows_of}
use Rattle.lhg_read.specs.declared.forms.Form.{Form}
use Rattle.lhg_read.specs.declared.forms.Form.TheVariants.{Plain, Flow, Jump}
use Rattle.lhg_row_text.specs.PrintedLine.{spaced}
use Rattle.lhg_text.specs.PlantText.{side_text, safe_line, location_lines}
use Rattle.lhg_row_text.specs.RowText.{rows_text, jump_names}
use Rattle.lhg_row_text.specs.Short.{AllShort}
use Rattle.lhg_text.specs.ShortPlant.{IsShortLocation}
use Rattle.lhg_row_text.proofs.LineText.{Says}
use Rattle.lhg_row_text.proofs.NamedRows.{words_say, word_says, AreRows, AreNames, AreRead, rows_are_read, name_read}

-- ---- lines

-- the line is this line of a plant over these variables
pub record IsLineOf (vars : List (List ℕ)) (line : List ℕ) (value : PlantLine) : Type 0 where
  pub first : PlainToken
  pub others : List PlainToken
  pub says : Says line (first ∷ others)
  pub reads : line_of vars (first ∷ others) ≡ Some value

loc_line : (vars : List (List ℕ)) (name : List ℕ) → IsName name → IsLineOf vars (spaced (codes "loc" ∷ name ∷ [])) (loc name)
unfolding line_of
loc_line vars name h = record {
  first = word (codes "loc");
  others = word name ∷ [];
  says = words_say (codes "loc" ∷ []) name (word name ∷ []) (record { word = refl }, tt) (word_says name h.word);
  reads = ap (option_map (λ n. loc n)) (name_read name h);
}

module _ (vars : List (List ℕ)) (rows : PlainPiece) where
  -- the line of rows behind a word, where it says such a line of a location
  rows_line : (w : List ℕ) (line : PlainPiece → BlockLine) (form : Form) (tokens : List PlainToken) → is_word w ≡ true → line_of vars (word w ∷ tokens) ≡ option_map (λ s. block (line s)) (rows_of form vars tokens)
      → Says (rows_text vars rows) tokens → rows_of form vars tokens ≡ Some rows → IsLineOf vars (spaced (w ∷ rows_text vars rows ∷ [])) (block (line rows))
  rows_line w line form tokens h e says reads = record {
    first = word w;
    others = tokens;
    says = words_say (w ∷ []) (rows_text vars rows) tokens (record { word = h }, tt) says;
    reads = e ∙ ap (option_map (λ s. block (line s))) reads;
  }

  inv_line : AreRead Plain vars rows → IsLineOf vars (spaced (codes "inv" ∷ rows_text vars rows ∷ [])) (block (inv rows))
  unfolding line_of
  inv_line r = rows_line (codes "inv") (λ s. inv s) Plain r.tokens refl refl r.says r.reads

  flow_line : AreRead Flow vars rows → IsLineOf vars (spaced (codes "flow" ∷ rows_text vars rows ∷ [])) (block (flow rows))
  unfolding line_of
  flow_line r = rows_line (codes "flow") (λ s. flow s) Flow r.tokens refl refl r.says r.reads

  safe_is : AreRead Plain vars rows → IsLineOf vars (safe_line vars rows) (block (safe rows))
  unfolding line_of
  safe_is r = rows_line (codes "safe") (λ s. safe s) Plain r.tokens refl refl r.says r.reads

-- the line of the end
pub end_line : (vars : List (List ℕ)) → IsLineOf vars (codes "end") end
unfolding line_of
end_line vars = record { first = word (codes "end"); others = []; says = word_says (codes "end") refl; reads = refl }

-- ---- switches

side_word : (s : Side) → is_word (side_text s) ≡ true
side_word Ctl = refl
side_word Env = refl
side_word Pick = refl

side_read : (s : Side) → side_of (word (side_text s)) ≡ Some s
side_read Ctl = refl
side_read Env = refl
side_read Pick = refl

switch_read : (vars : List (List ℕ)) (w : WrittenSwitch) (tokens : List PlainToken) → IsName w.name → IsName w.from → IsName w.to → rows_of Jump vars tokens ≡ Some w.jump
    → switch_of vars (word w.name ∷ word (side_text w.side) ∷ word w.from ∷ word w.to ∷ tokens) ≡ Some w
switch_read vars w tokens n f t h =
    let name = name_read w.name n in
    let side = side_read w.side in
    let from = name_read w.from f in
    let to = name_read w.to t in
    rw (name, side, from, to, h) refl

-- a switch as it is written
abbrev written_line : List (List ℕ) → WrittenSwitch → List ℕ
written_line vars w = spaced (codes "switch" ∷ w.name ∷ side_text w.side ∷ w.from ∷ w.to ∷ rows_text (jump_names vars) w.jump ∷ [])

-- the line of a switch is that switch as it is written
pub switch_is : (vars : List (List ℕ)) (w : WrittenSwitch) → AreNames vars → IsName w.name → IsName w.from → IsName w.to → AreRows Jump vars w.jump → IsLineOf vars (written_line vars w) (switch w)
unfolding line_of
switch_is vars w names n f t rows =
    let r = rows_are_read Jump vars w.jump names rows in
    record {
      first = word (codes "switch");
      others = word w.name ∷ word (side_text w.side) ∷ word w.from ∷ word w.to ∷ r.tokens;
      says = words_say (codes "switch" ∷ w.name ∷ side_text w.side ∷ w.from ∷ w.to ∷ []) (rows_text (jump_names vars) w.jump) r.tokens
          (record { word = refl }, (record { word = n.word }, (record { word = side_word w.side }, (record { word = f.word }, (record { word = t.word }, tt))))) r.says;
      reads = ap (option_map (λ s. switch s)) (switch_read vars w r.tokens n f t r.reads);
    }

-- ---- the lines of a location

-- the lines are these lines of a plant, one by one
abbrev pub AreLinesOf : List (List ℕ) → List (List ℕ) → List PlantLine → Type 0
AreLinesOf vars [] [] = Unit {0}
AreLinesOf vars (line ∷ lines) (value ∷ values) = IsLineOf vars line value × AreLinesOf vars lines values
AreLinesOf vars _ _ = ⊥

-- lines behind other lines
pub lines-append : (vars : List (List ℕ)) (xs : List (List ℕ)) (us : List PlantLine) (ys : List (List ℕ)) (vs : List PlantLine) → AreLinesOf vars xs us → AreLinesOf vars ys vs → AreLinesOf vars (xs ++ ys) (us ++ vs)
lines-append vars [] [] ys vs h k = k
lines-append vars [] (u ∷ us) ys vs h k = absurd h
lines-append vars (x ∷ xs) [] ys vs h k = absurd h
lines-append vars (x ∷ xs) (u ∷ us) ys vs h k = (h.0, lines-append vars xs us ys vs h.1 k)

-- a location as it is written
abbrev pub block_of : PlainLocation → Block
block_of l = record { name = l.name; lines = inv l.inv ∷ flow l.flow ∷ map (λ rows. safe rows) l.safe }

safe_lines : (vars : List (List ℕ)) (lists : List PlainPiece) → AreNames vars → AllOf (IsLine (length vars)) lists → AllOf (λ rows. Every varies rows) lists → AllOf AllShort lists
    → AreLinesOf vars (map (safe_line vars) lists) (map (λ line. block line) (map (λ rows. safe rows) lists))
safe_lines vars [] names h v s = tt
safe_lines vars (rows ∷ lists) names h v s = (safe_is vars rows (rows_are_read Plain vars rows names (record { line = h.0; vary = v.0; short = s.0 })), safe_lines vars lists names h.1 v.1 s.1)

-- the lines of a location are those of its block
pub location_is : (vars : List (List ℕ)) (l : PlainLocation) → AreNames vars → IsLocation (length vars) l → HasVariables l → IsShortLocation l → AreLinesOf vars (location_lines vars l) (block_lines (block_of l))
location_is vars l names h v s = (
  loc_line vars l.name h.name,
  (
    inv_line vars l.inv (rows_are_read Plain vars l.inv names (record { line = h.inv; vary = v.inv; short = s.inv })),
    (flow_line vars l.flow (rows_are_read Flow vars l.flow names (record { line = h.flow; vary = v.flow; short = s.flow })), safe_lines vars l.safe names h.safe v.safe s.safe),
  ),
)

-- ---- the line of the variables

not_taken : (w : List ℕ) → IsVariable w → is_taken w ≡ false
not_taken w h =
    let all = unequal w (codes "all") h.not_all in
    let still = unequal w (codes "still") h.not_still in
    let keep = unequal w (codes "keep") h.not_keep in
    rw (all, still, keep) refl
  where
    unequal : (v w : List ℕ) → (v ≡ w → ⊥) → bytes_eq v w ≡ false
    unequal v w h = by_bool (bytes_eq v w) (λ e. absurd (h ((bytes_eq-Decides v w).0 e))) (λ e. e)

variables_read : (vars : List (List ℕ)) → AllOf IsVariable vars → variable_names (map (λ w. word w) vars) ≡ Some vars
variables_read [] h = refl
variables_read (w ∷ vars) h =
    let n = name_read w h.0.name in
    let t = not_taken w h.0 in
    let more = variables_read vars h.1 in
    rw (n, t, more) refl

-- the line of the variables is read as these
pub vars_read : (vars : List (List ℕ)) → AllOf IsVariable vars → 0 < length vars → length vars ≤ most_variables → all_differ vars ≡ true → vars_of (word (codes "vars") ∷ map (λ w. word w) vars) ≡ Some vars
vars_read vars h some few differ =
    let names = variables_read vars h in
    let one : nat_le 1 (length vars) ≡ true = grind (arith, nat_tests) in
    let most : nat_le (length vars) most_variables ≡ true = grind (arith, nat_tests) in
    rw names (rw (one, most, differ) refl)
