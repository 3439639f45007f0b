-- Which lines are a controller of a plant as it is printed, and which one do they say?
use Rattle.std.specs.Prelude.{◌≡◌, ℕ, suc, ◌≤◌, ◌==◌, true, if◌then◌else◌, List, [], ◌∷◌, ◌++◌, length, map, Option, Some, None, codes}
use Rattle.std.specs.Option.{option_and_then}
use Rattle.lhg_row.specs.Lists.{piece_limit}
use Rattle.lhg_row.specs.Piece.{PlainPiece}
use Rattle.lhg_lex.specs.LineTokens.{Spot}
use Rattle.lhg_plant.specs.Differ.{all_differ}
use Rattle.lhg_plant.specs.Plant.{PlainPlant}
use Rattle.lhg_read.specs.PlantText.{said_in}
use Rattle.lhg_read.specs.TokenText.{IsTextBy}
use Rattle.lhg_ctl.specs.ControllerLine.{ControllerLine, rounds, piece, guard, end, controller_line}
use Rattle.lhg_ctl.specs.Draft.{PlainDraft, guard_names}
use Rattle.lhg_read.specs.Numbered.{numbered, sizes_in}
use Rattle.lhg_ctl.specs.declared.versions.Version.{Version}
use Rattle.lhg_ctl.specs.declared.versions.Version.TheVariants.{First, Second}

-- the version with this number
abbrev pub version_by : ℕ → Option Version
version_by n = if n == 1 then Some First else (if n == 2 then Some Second else None)

-- the version that a head says: `controller 1` or `controller 2`, where the number is that one digit
abbrev pub version_in : List Spot → Option Version
version_in head = option_and_then version_by (numbered (codes "controller") 2 (said_in head) (sizes_in head))

-- how many of the pieces are at a place
abbrev pub count_at : ℕ → List (ℕ × PlainPiece) → ℕ
count_at k [] = 0
count_at k (p ∷ ps) = if p.0 == k then suc (count_at k ps) else count_at k ps

-- the number of rounds is said in version 2 alone
abbrev pub said_rounds : Version → ℕ → List ControllerLine
said_rounds First n = []
said_rounds Second n = rounds n ∷ []

-- guards with their names
abbrev pub named_guards : List (List ℕ) → List (ℕ × PlainPiece) → List ControllerLine
named_guards [] gs = []
named_guards (name ∷ names) [] = []
named_guards (name ∷ names) (g ∷ gs) = guard (Some name) g ∷ named_guards names gs

-- names are said in version 2 alone
abbrev pub said_guards : Version → List (List ℕ) → List (ℕ × PlainPiece) → List ControllerLine
said_guards First names gs = map (λ g. guard None g) gs
said_guards Second names gs = named_guards names gs

-- what the lines of a controller say behind its head: the rounds, the pieces, the guards, and the end
abbrev pub said_lines : Version → PlainDraft → List ControllerLine
said_lines v d = said_rounds v d.rounds ++ (map (λ p. piece p) d.pieces ++ (said_guards v d.names d.guards ++ end ∷ []))

-- in version 1 the number of rounds is not known, and the guards are named g1, g2 and so on in order; in version 2 each guard has a name,
-- and these are all different
abbrev pub AreNames : Version → PlainDraft → Type 0
AreNames First d = (d.rounds ≡ 0) × (d.names ≡ guard_names 1 (length d.guards))
AreNames Second d = (length d.names ≡ length d.guards) × (all_differ d.names ≡ true)

-- lines with these tokens are a controller: its head, and lines that say its rounds, its pieces, its guards and the end; not too many
-- pieces of one location, and not too many guards of one switch
pub record IsController (p : PlainPlant) (lines : List (List Spot)) (d : PlainDraft) : Type 0 where
  pub version : Version
  pub head : List Spot
  pub rest : List (List Spot)
  pub lines_are : lines ≡ head ∷ rest
  pub head_is : version_in head ≡ Some version
  pub rest_are : map (λ line. controller_line version p (said_in line) (sizes_in line)) rest ≡ map (λ line. Some line) (said_lines version d)
  pub few_pieces : (k : ℕ) → count_at k d.pieces ≤ piece_limit
  pub few_guards : (k : ℕ) → count_at k d.guards ≤ piece_limit
  pub names : AreNames version d

-- the lines of a text are a controller
abbrev pub IsControllerText : PlainPlant → List (List ℕ) → PlainDraft → Type 0
IsControllerText p lines d = IsTextBy (λ tokens. IsController p tokens d) lines

-- the tokens of lines are some controller
abbrev pub IsSomeController : PlainPlant → List (List Spot) → Type 0
IsSomeController p tokens = (d : PlainDraft) × IsController p tokens d

-- the lines are the text of some controller
abbrev pub IsSomeControllerText : PlainPlant → List (List ℕ) → Type 0
IsSomeControllerText p lines = IsTextBy (IsSomeController p) lines
