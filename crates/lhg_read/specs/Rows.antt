-- Which rows does a list of constraints give?
use Rattle.std.specs.Prelude.{ℕ, length, Bool, true, false, ◌&&◌, nat_le, if◌then◌else◌, List, [], ◌∷◌, Option, Some, None, codes}
use Rattle.std.specs.Option.{option_and_then}
use Rattle.lhg_row.specs.Piece.{PlainPiece}
use Rattle.lhg_plant.specs.Limits.{most_line_rows}
use Rattle.lhg_plant.specs.Still.{still_rows}
use Rattle.lhg_lex.specs.PlainToken.{PlainToken}
use Rattle.lhg_read.specs.Cut.{cut, parts_of}
use Rattle.lhg_read.specs.Keep.{keep_rows}
use Rattle.lhg_read.specs.Options.{joined}
use Rattle.lhg_read.specs.Pair.{pair_of}
use Rattle.lhg_read.specs.Signs.{is_one_word, is_comma, is_operator}
use Rattle.lhg_read.specs.declared.forms.Form.{Form}
use Rattle.lhg_read.specs.declared.forms.Form.TheVariants.{Plain, Flow, Jump}

-- the line is a flow line, or that of a switch
abbrev pub is_flow : Form → Bool
is_flow Plain = false
is_flow Flow = true
is_flow Jump = false

abbrev pub is_jump : Form → Bool
is_jump Plain = false
is_jump Flow = false
is_jump Jump = true

-- `SUM OP SUM`, or `SUM OP SUM OP SUM`, which is the two constraints of its neighbours
abbrev pub chain_of : Form → List (List ℕ) → List PlainToken → List (PlainToken × List PlainToken) → Option PlainPiece
chain_of form vars a [] = None
chain_of form vars a (b ∷ []) = pair_of form vars a b.0 b.1
chain_of form vars a (b ∷ c ∷ []) = joined (pair_of form vars a b.0 b.1) (pair_of form vars b.1 c.0 c.1)
chain_of form vars a (b ∷ c ∷ d ∷ more) = None

-- a constraint: `keep`, in a switch alone; or two or three sums with operators between
unfoldable pub constraint_of : Form → List (List ℕ) → List PlainToken → Option PlainPiece
constraint_of form vars tokens =
    if is_jump form && is_one_word (codes "keep") tokens then Some (keep_rows (length vars)) else
    chain_of form vars (cut is_operator tokens).first (cut is_operator tokens).others

-- constraints, one behind the other
abbrev pub constraints_of : Form → List (List ℕ) → List (List PlainToken) → Option PlainPiece
constraints_of form vars [] = Some []
constraints_of form vars (part ∷ parts) = joined (constraint_of form vars part) (constraints_of form vars parts)

-- the rows, where they are not too many
abbrev pub within_limit : PlainPiece → Option PlainPiece
within_limit rows = if nat_le (length rows) most_line_rows then Some rows else None

-- a list of constraints separated by `,`
abbrev pub list_of : Form → List (List ℕ) → List PlainToken → Option PlainPiece
list_of form vars tokens = option_and_then within_limit (constraints_of form vars (parts_of (cut is_comma tokens)))

-- the rows of a line: none for `all`; in a flow line those of `still`; or those of a list of constraints
unfoldable pub rows_of : Form → List (List ℕ) → List PlainToken → Option PlainPiece
rows_of form vars tokens =
    if is_one_word (codes "all") tokens then Some [] else
    (if is_flow form && is_one_word (codes "still") tokens then Some (still_rows (length vars)) else list_of form vars tokens)
