-- Which lines are a log of a plant, and which one do they say?
use Rattle.std.specs.Prelude.{◌≡◌, ℕ, Bool, true, false, if◌then◌else◌, List, [], ◌∷◌, ◌++◌, map, Option, Some, None, codes}
use Rattle.std.specs.Option.{option_and_then, option_map}
use Rattle.lhg_math.specs.Number.{Number, neg}
use Rattle.lhg_lex.specs.LineTokens.{Spot}
use Rattle.lhg_lex.specs.PlainToken.{PlainToken}
use Rattle.lhg_plant.specs.Plant.{PlainPlant}
use Rattle.lhg_plant.specs.Run.{PlainEntry, flow_entry, env_entry, land_entry}
use Rattle.lhg_plant.specs.State.{PlainState}
use Rattle.lhg_read.specs.Listed.{alone}
use Rattle.lhg_read.specs.PlantText.{said_in}
use Rattle.lhg_read.specs.PointText.{number_in, point_of}
use Rattle.lhg_read.specs.Signs.{is_word, is_minus}
use Rattle.lhg_read.specs.StateText.{state_by}
use Rattle.lhg_read.specs.TokenText.{IsTextBy}
use Rattle.lhg_read.specs.SwitchName.{is_uncontrollable, switch_in}

-- the start of a log, and its entries in order
pub record PlainLog : Type 0 where
  pub start : PlainState
  pub entries : List PlainEntry

-- an entry, or the end
pub data LogLine : Type 0 where
  entry : PlainEntry → LogLine
  end : LogLine

-- ---- the lines

-- the number, negated or not
abbrev pub signed_by : Bool → Number → Number
signed_by minus t = if minus then neg t else t

-- NUMBER POINT, the number negated or not
abbrev pub timed : List (List ℕ) → Bool → List PlainToken → Option PlainEntry
timed vars minus [] = None
timed vars minus (first ∷ point) = option_and_then (λ t. option_map (λ at. flow_entry (signed_by minus t) at) (point_of vars point)) (number_in first)

-- NUMBER POINT, where a `-` may stand before the number
abbrev pub flow_of : List (List ℕ) → List PlainToken → Option PlainEntry
flow_of vars [] = None
flow_of vars (first ∷ tokens) = if is_minus first then timed vars true tokens else timed vars false (first ∷ tokens)

-- SWITCH POINT, where the switch is uncontrollable
abbrev pub env_of : PlainPlant → List PlainToken → Option PlainEntry
env_of p [] = None
env_of p (name ∷ point) = option_and_then (λ e. option_map (λ at. env_entry e at) (point_of p.vars point)) (switch_in is_uncontrollable p name)

-- what a line with this first token says
abbrev pub log_by : PlainPlant → PlainToken → List PlainToken → Option LogLine
log_by p first tokens =
    if is_word (codes "flow") first then option_map (λ e. entry e) (flow_of p.vars tokens) else
    (if is_word (codes "env") first then option_map (λ e. entry e) (env_of p tokens) else
    (if is_word (codes "land") first then option_map (λ at. entry (land_entry at)) (point_of p.vars tokens) else
    (if is_word (codes "end") first then alone end tokens else None)))

-- the line `flow NUMBER POINT`, `env SWITCH POINT` for an uncontrollable switch, `land POINT`, or `end`; each point gives all
-- variables of the plant
abbrev pub log_line : PlainPlant → List PlainToken → Option LogLine
log_line p [] = None
log_line p (first ∷ tokens) = log_by p first tokens

-- the line `start LOCATION POINT`
abbrev pub start_line : PlainPlant → List PlainToken → Option PlainState
start_line p tokens = state_by (codes "start") p tokens

-- ---- the text

-- what the lines of a log say behind its start
abbrev pub said_entries : List PlainEntry → List LogLine
said_entries entries = map (λ e. entry e) entries ++ end ∷ []

-- lines with these tokens are a log: the start, the entries in order, and the end
pub record IsLog (p : PlainPlant) (lines : List (List Spot)) (log : PlainLog) : Type 0 where
  pub first : List Spot
  pub rest : List (List Spot)
  pub lines_are : lines ≡ first ∷ rest
  pub start_is : start_line p (said_in first) ≡ Some log.start
  pub rest_are : map (λ line. log_line p (said_in line)) rest ≡ map (λ line. Some line) (said_entries log.entries)

-- the lines of a text are a log
abbrev pub IsLogText : PlainPlant → List (List ℕ) → PlainLog → Type 0
IsLogText p lines log = IsTextBy (λ tokens. IsLog p tokens log) lines

-- the tokens of lines are some log
abbrev pub IsSomeLog : PlainPlant → List (List Spot) → Type 0
IsSomeLog p tokens = (log : PlainLog) × IsLog p tokens log

-- the lines are the text of some log
abbrev pub IsSomeLogText : PlainPlant → List (List ℕ) → Type 0
IsSomeLogText p lines = IsTextBy (IsSomeLog p) lines

-- ---- line by line

-- what is read so far, and whether the text has ended
pub record PlainOpenLog : Type 0 where
  pub log : PlainLog
  pub ended : Bool

-- a log that begins at a state
abbrev pub begun_at : PlainState → PlainOpenLog
begun_at s = record { log = record { start = s; entries = [] }; ended = false }

-- what a line changes
abbrev pub with_line : PlainOpenLog → LogLine → PlainOpenLog
with_line o (entry e) = record o { log = record { start = o.log.start; entries = o.log.entries ++ e ∷ [] } }
with_line o end = record o { ended = true }

-- what the tokens of a line change
abbrev pub log_taken : PlainPlant → PlainOpenLog → List PlainToken → Option PlainOpenLog
log_taken p o tokens = option_map (with_line o) (log_line p tokens)
