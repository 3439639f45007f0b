-- What does a line of a plant say, once the variables are known?
use Rattle.std.specs.Prelude.{ℕ, if◌then◌else◌, List, [], ◌∷◌, Option, Some, None, codes}
use Rattle.std.specs.Option.{option_and_then, option_map}
use Rattle.lhg_row.specs.Piece.{PlainPiece}
use Rattle.lhg_lex.specs.PlainToken.{PlainToken}
use Rattle.lhg_plant.specs.declared.plants.Side.{Side}
use Rattle.lhg_plant.specs.declared.plants.Side.TheVariants.{Ctl, Env, Pick}
use Rattle.lhg_read.specs.Names.{name_of, one_name}
use Rattle.lhg_read.specs.Rows.{rows_of}
use Rattle.lhg_read.specs.Signs.{is_word}
use Rattle.lhg_read.specs.declared.forms.Form.TheVariants.{Plain, Flow, Jump}

-- a further line of a location: rows of its invariant, of its flow, or of safe states
pub data BlockLine : Type 0 where
  inv : PlainPiece → BlockLine
  flow : PlainPiece → BlockLine
  safe : PlainPiece → BlockLine

-- a switch as it is written: the two locations stand by their names
pub record WrittenSwitch : Type 0 where
  pub name : List ℕ
  pub side : Side
  pub from : List ℕ
  pub to : List ℕ
  pub jump : PlainPiece

-- a line behind that of the variables: a location begins, goes on, a switch, or the end
pub data PlantLine : Type 0 where
  loc : List ℕ → PlantLine
  block : BlockLine → PlantLine
  switch : WrittenSwitch → PlantLine
  end : PlantLine

-- `ctl`, `env` or `pick`
abbrev pub side_of : PlainToken → Option Side
side_of token =
    if is_word (codes "ctl") token then Some Ctl else
    (if is_word (codes "env") token then Some Env else
    (if is_word (codes "pick") token then Some Pick else None))

-- NAME SIDE FROM TO ROWS
abbrev pub switch_of : List (List ℕ) → List PlainToken → Option WrittenSwitch
switch_of vars (name ∷ side ∷ from ∷ to ∷ rows) =
    option_and_then (λ n. option_and_then (λ s. option_and_then (λ f. option_and_then (λ t.
    option_map (λ jump. record { name = n; side = s; from = f; to = t; jump = jump }) (rows_of Jump vars rows))
    (name_of to)) (name_of from)) (side_of side)) (name_of name)
switch_of vars tokens = None

-- nothing more stands there
abbrev pub nothing_more : List PlainToken → Option PlantLine
nothing_more [] = Some end
nothing_more (token ∷ tokens) = None

-- what a line with this first token says
abbrev pub line_by : List (List ℕ) → PlainToken → List PlainToken → Option PlantLine
line_by vars first tokens =
    if is_word (codes "loc") first then option_map (λ name. loc name) (one_name tokens) else
    (if is_word (codes "inv") first then option_map (λ rows. block (inv rows)) (rows_of Plain vars tokens) else
    (if is_word (codes "flow") first then option_map (λ rows. block (flow rows)) (rows_of Flow vars tokens) else
    (if is_word (codes "safe") first then option_map (λ rows. block (safe rows)) (rows_of Plain vars tokens) else
    (if is_word (codes "switch") first then option_map (λ s. switch s) (switch_of vars tokens) else
    (if is_word (codes "end") first then nothing_more tokens else None)))))

-- the line `loc NAME`, `inv ROWS`, `flow ROWS`, `safe ROWS`, `switch NAME SIDE FROM TO ROWS` or `end`
unfoldable pub line_of : List (List ℕ) → List PlainToken → Option PlantLine
line_of vars [] = None
line_of vars (first ∷ tokens) = line_by vars first tokens
