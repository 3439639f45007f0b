-- Which lines are a list of values, one on each line, up to the line that ends it?
use Rattle.std.specs.Prelude.{◌≡◌, Bool, true, false, List, [], ◌∷◌, ◌++◌, map, Option, Some, None}
use Rattle.std.specs.Option.{option_map}
use Rattle.lhg_lex.specs.LineTokens.{Spot}
use Rattle.lhg_lex.specs.PlainToken.{PlainToken}

-- a value, or the end
pub data ListLine (V : Type 0) : Type 0 where
  item : V → ListLine V
  end : ListLine V

-- nothing more stands there
abbrev pub alone : {A : Type 0} → A → List PlainToken → Option A
alone x [] = Some x
alone x (token ∷ tokens) = None

-- what the lines of a list say
abbrev pub said_items : {V : Type 0} → List V → List (ListLine V)
said_items values = map (λ v. item v) values ++ end ∷ []

-- the lines say the values in order, and then the end
pub record IsListed (V : Type 0) (says : List Spot → Option (ListLine V)) (lines : List (List Spot)) (values : List V) : Type 0 where
  pub are : map says lines ≡ map (λ line. Some line) (said_items values)

-- the lines are some list
abbrev pub IsSomeListed : (V : Type 0) → (List Spot → Option (ListLine V)) → List (List Spot) → Type 0
IsSomeListed V says lines = (values : List V) × IsListed V says lines values

-- ---- line by line

-- the values so far, and whether the list has ended
pub record OpenList (V : Type 0) : Type 0 where
  pub values : List V
  pub ended : Bool

-- nothing is read yet
abbrev pub nothing_yet : {V : Type 0} → OpenList V
nothing_yet = record { values = []; ended = false }

-- what a line changes
abbrev pub with_line : {V : Type 0} → OpenList V → ListLine V → OpenList V
with_line o (item v) = record o { values = o.values ++ v ∷ [] }
with_line o end = record o { ended = true }

-- what the tokens of a line change
abbrev pub list_taken : {V : Type 0} → (List Spot → Option (ListLine V)) → OpenList V → List Spot → Option (OpenList V)
list_taken says o line = option_map (with_line o) (says line)
