-- Printed lines are read one by one, each with its value.
use Rattle.std.proofs.Common.{◌≡◌, ℕ, List, [], ◌∷◌, ◌++◌, map, refl, ap, ◌∙◌, Option, Some}
use Rattle.lhg_math.specs.Tests.{AllOf}
use Rattle.lhg_lex.specs.LineTokens.{Spot}
use Rattle.lhg_lex.specs.PlainToken.{PlainToken}
use Rattle.lhg_read.specs.PlantText.{said_in}
use Rattle.lhg_read.specs.TokenText.{token_lines}
use Rattle.lhg_row_text.proofs.LineText.{Says}
use Rattle.lhg_row_text.proofs.LinesBack.{IsInner, token_lines-cons}
use Rattle.lhg_row_text.proofs.RowReads.{cons_eq}
use Rattle.lhg_read.specs.Numbered.{sizes_in}

-- the line says tokens that are read as this value, whatever their sizes
pub record IsLineBy (V : Type 0) (read : List PlainToken → List ℕ → Option V) (line : List ℕ) (value : V) : Type 0 where
  pub first : PlainToken
  pub others : List PlainToken
  pub says : Says line (first ∷ others)
  pub reads : (sizes : List ℕ) → read (first ∷ others) sizes ≡ Some value

-- the lines are read as these values, one by one
abbrev pub AreLinesBy : (V : Type 0) → (List PlainToken → List ℕ → Option V) → List (List ℕ) → List V → Type 0
AreLinesBy V read [] [] = Unit {0}
AreLinesBy V read (line ∷ lines) (value ∷ values) = IsLineBy V read line value × AreLinesBy V read lines values
AreLinesBy V read _ _ = ⊥

-- lines behind other lines
pub lines_by-append : (V : Type 0) (read : List PlainToken → List ℕ → Option V) (xs : List (List ℕ)) (us : List V) (ys : List (List ℕ)) (vs : List V) → AreLinesBy V read xs us → AreLinesBy V read ys vs → AreLinesBy V read (xs ++ ys) (us ++ vs)
lines_by-append V read [] [] ys vs h k = k
lines_by-append V read [] (u ∷ us) ys vs h k = absurd h
lines_by-append V read (x ∷ xs) [] ys vs h k = absurd h
lines_by-append V read (x ∷ xs) (u ∷ us) ys vs h k = (h.0, lines_by-append V read xs us ys vs h.1 k)

-- the tokens of lines, and what they say
pub record AreTokens (V : Type 0) (read : List PlainToken → List ℕ → Option V) (lines : List (List ℕ)) (values : List V) : Type 0 where
  pub tokens : List (List Spot)
  pub are : token_lines lines ≡ Some tokens
  pub say : map (λ l. read (said_in l) (sizes_in l)) tokens ≡ map (λ v. Some v) values
  pub inner : AllOf IsInner lines

pub lines_read : (V : Type 0) (read : List PlainToken → List ℕ → Option V) (lines : List (List ℕ)) (values : List V) → AreLinesBy V read lines values → AreTokens V read lines values
lines_read V read [] [] h = record { tokens = []; are = refl; say = refl; inner = tt }
lines_read V read [] (v ∷ values) h = absurd h
lines_read V read (l ∷ lines) [] h = absurd h
lines_read V read (l ∷ lines) (v ∷ values) h =
    let more = lines_read V read lines values h.1 in
    let s = h.0.says in
    record {
      tokens = s.spots 0 ∷ more.tokens;
      are = token_lines-cons l lines h.0.first h.0.others more.tokens s more.are;
      say = cons_eq (ap (λ ts. read ts (sizes_in (s.spots 0))) (s.says 0) ∙ h.0.reads (sizes_in (s.spots 0))) more.say;
      inner = (record { inner = s.inner }, more.inner);
    }
