-- What does each line of a report say?
use Rattle.std.proofs.Common.{◌≡◌, ◌≤◌, ℕ, List, [], ◌∷◌, ◌++◌, length, drop, refl, sym, ap, ◌∙◌, subst, true, Some, Result, Ok, Option, if◌then◌else◌, codes, decimal, append-nil}
use Rattle.std.proofs.Math.IntN.{pos}
use Rattle.std.specs.Int.RustNames.{unsigned_abs}
use Rattle.std.specs.Option.{unwrap_or}
use Rattle.lhg_math.specs.Inverses.{whole_parts}
use Rattle.lhg_math.specs.Number.{whole}
use Rattle.lhg_lex.specs.Literal.{limit}
use Rattle.lhg_lex.specs.LineTokens.{Spot, Fault, tokens_of}
use Rattle.lhg_lex.specs.PlainToken.{PlainToken, word, number}
use Rattle.lhg_lex.specs.Word.{is_word}
use Rattle.lhg_row.specs.Piece.{PlainPiece}
use Rattle.lhg_plant.specs.Plant.{PlainPlant}
use Rattle.lhg_read.specs.PlantSteps.{loc_names, switch_names}
use Rattle.lhg_read.specs.PlantText.{said_in}
use Rattle.lhg_read.specs.Signs as sign
use Rattle.lhg_read.specs.Term.{place_of}
use Rattle.lhg_row_text.proofs.LineText.{Says, line_says}
use Rattle.lhg_text.proofs.RowsBack.{rows_back}
use Rattle.lhg_text.specs.ReportLaws.{PrintedCause, env, leave, flow, PrintedLoss}

-- ---- the values of lines

-- a number of rounds, a piece with the place of its location, a guard with the place of its switch, a record, or another line
pub data ReportLine : Type 0 where
  rounds : ℕ → ReportLine
  piece : ℕ × PlainPiece → ReportLine
  guard : ℕ × PlainPiece → ReportLine
  loss : PrintedLoss → ReportLine
  other : ReportLine

-- the whole number that a token is
abbrev pub natural : PlainToken → ℕ
natural (number q) = unsigned_abs q.top
natural token = 0

abbrev pub natural_first : List PlainToken → ℕ
natural_first [] = 0
natural_first (token ∷ tokens) = natural token

-- the place of the name that a token is
abbrev pub place_said : List (List ℕ) → PlainToken → ℕ
place_said names (word w) = unwrap_or (place_of w names) 0
place_said names token = 0

abbrev pub place_first : List (List ℕ) → List PlainToken → ℕ
place_first names [] = 0
place_first names (token ∷ tokens) = place_said names token

-- a name and rows
abbrev pub placed_said : List (List ℕ) → List (List ℕ) → List PlainToken → ℕ × PlainPiece
placed_said names vars tokens = (place_first names tokens, rows_back vars (drop 1 tokens))

-- a cause, and the tokens behind it
abbrev pub cause_said : PlainPlant → PlainToken → List PlainToken → PrintedCause × List PlainToken
cause_said a first tokens =
    if sign.is_word (codes "env") first then (env (place_first (switch_names a.switches) tokens), drop 1 tokens) else
    (if sign.is_word (codes "flow") first then (flow (natural_first tokens), drop 1 tokens) else (leave, tokens))

-- a record by its parts
abbrev pub loss_by : PlainPlant → ℕ → ℕ → ℕ → PrintedCause × List PlainToken → ReportLine
loss_by a n round loc cause = loss (record { number = n; round = round; loc = loc; cause = cause.0; rows = rows_back a.vars cause.1 })

-- a record
abbrev pub loss_said : PlainPlant → List PlainToken → ReportLine
loss_said a (n ∷ round ∷ i ∷ loc ∷ cause ∷ tokens) = loss_by a (natural n) (natural i) (place_said (loc_names a.locs) loc) (cause_said a cause tokens)
loss_said a tokens = other

-- what tokens say by their first word
abbrev pub line_said : PlainPlant → List PlainToken → ReportLine
line_said a [] = other
line_said a (first ∷ tokens) =
    if sign.is_word (codes "rounds") first then rounds (natural_first tokens) else
    (if sign.is_word (codes "piece") first then piece (placed_said (loc_names a.locs) a.vars tokens) else
    (if sign.is_word (codes "guard") first then guard (placed_said (switch_names a.switches) a.vars tokens) else
    (if sign.is_word (codes "loss") first then loss_said a tokens else other)))

-- ---- lines have one value

-- the line says tokens with this value
pub record IsLineOf (a : PlainPlant) (line : List ℕ) (value : ReportLine) : Type 0 where
  pub tokens : List PlainToken
  pub says : Says line tokens
  pub value_is : line_said a tokens ≡ value

same_spots : (x y : List Spot) → (let r : Result (List Spot) Fault = Ok x in r ≡ Ok y) → x ≡ y
same_spots x y h = cc

-- a line says one list of tokens
one_list : (line : List ℕ) (ts us : List PlainToken) → Says line ts → Says line us → ts ≡ us
one_list line ts us s t = sym (s.says 0) ∙ ap said_in (same_spots (s.spots 0) (t.spots 0) (sym (line_says s) ∙ line_says t)) ∙ t.says 0

-- so it has one value
one_value : (a : PlainPlant) (line : List ℕ) (v w : ReportLine) → IsLineOf a line v → IsLineOf a line w → v ≡ w
one_value a line v w s t = sym s.value_is ∙ ap (line_said a) (one_list line s.tokens t.tokens s.says t.says) ∙ t.value_is

-- lines have these values, one by one
abbrev pub AreLinesOf : PlainPlant → List (List ℕ) → List ReportLine → Type 0
AreLinesOf a [] [] = Unit {0}
AreLinesOf a (line ∷ lines) (value ∷ values) = IsLineOf a line value × AreLinesOf a lines values
AreLinesOf a _ _ = ⊥

-- and no others
pub one_values : (a : PlainPlant) (lines : List (List ℕ)) (vs ws : List ReportLine) → AreLinesOf a lines vs → AreLinesOf a lines ws → vs ≡ ws
one_values a [] [] [] s t = refl
one_values a [] [] (w ∷ ws) s t = absurd t
one_values a [] (v ∷ vs) ws s t = absurd s
one_values a (line ∷ lines) [] ws s t = absurd s
one_values a (line ∷ lines) (v ∷ vs) [] s t = absurd t
one_values a (line ∷ lines) (v ∷ vs) (w ∷ ws) s t = ap (λ x. x ∷ vs) (one_value a line v w s.0 t.0) ∙ ap (λ xs. w ∷ xs) (one_values a lines vs ws s.1 t.1)

-- lines behind other lines
pub lines-append : (a : PlainPlant) (xs : List (List ℕ)) (us : List ReportLine) (ys : List (List ℕ)) (vs : List ReportLine) → AreLinesOf a xs us → AreLinesOf a ys vs → AreLinesOf a (xs ++ ys) (us ++ vs)
lines-append a [] [] ys vs h k = k
lines-append a [] (u ∷ us) ys vs h k = absurd h
lines-append a (x ∷ xs) [] ys vs h k = absurd h
lines-append a (x ∷ xs) (u ∷ us) ys vs h k = (h.0, lines-append a xs us ys vs h.1 k)

-- a whole number is found again in its token
pub natural_back : (n : ℕ) → natural (number (whole (pos n))) ≡ n
natural_back n = ap unsigned_abs (whole_parts (pos n)).0
