-- From which states does a switch lead into pieces, and which lists are formed for them?
use Rattle.std.specs.Prelude.{ℕ, ◌+◌, List, [], ◌∷◌, ◌++◌, map, length, Option, Some, None, slice_get}
use Rattle.lhg_num.specs.FracArithmetic.{frac_arithmetic}
use Rattle.lhg_num.specs.Marked.{Marked, done, and_then, valued}
use Rattle.lhg_row.specs.Piece.{PlainPiece}
use Rattle.lhg_row.specs.Widened.{widened}
use Rattle.lhg_row.specs.Trim.{trim}
use Rattle.lhg_row.specs.Eliminate.{each_joined}
use Rattle.lhg_row.specs.Pieces.{project}
use Rattle.lhg_row.specs.Lists.{listed, counted_pieces}
use Rattle.lhg_plant.specs.Plant.{PlainSwitch, PlainPlant}
use Rattle.lhg_plant.specs.Region.{PlainRegion}
use Rattle.lhg_plant.specs.Invariants.{pieces_at, invariant_at}

-- over the old and the new variables: the invariant's rows at the old ones, the jump rows, and the rows of q at the new ones
abbrev pub pre_rows : ℕ → PlainPiece → PlainPiece → PlainPiece → PlainPiece
pre_rows n jump q inv = map (widened 0 n) inv ++ jump ++ map (widened n 0) q

-- the piece of the points of the invariant from which the jump leads into q, where there are some
unfoldable pub pre_piece : ℕ → PlainPiece → PlainPiece → PlainPiece → Marked (Option PlainPiece)
pre_piece n jump q inv = and_then (trim frac_arithmetic (pre_rows n jump q inv)) (project frac_arithmetic (n + n) n)

-- the same for each piece of the source's invariant, of which there is one at most
abbrev pub pre_each : ℕ → PlainPiece → PlainPiece → List PlainPiece → Marked (List PlainPiece)
pre_each n jump q [] = done []
pre_each n jump q (inv ∷ invs) = and_then (pre_piece n jump q inv) (λ o. valued (listed o) (pre_each n jump q invs))

-- the same for each piece of a target, in order
unfoldable pub pre_list : ℕ → List PlainPiece → PlainPiece → List PlainPiece → Marked (List PlainPiece)
pre_list n invs jump target = and_then (each_joined (λ q. pre_each n jump q invs) target) counted_pieces

-- of a switch, where the invariants of all locations are given
abbrev pub pre_by : ℕ → PlainRegion → PlainSwitch → List PlainPiece → Marked (List PlainPiece)
pre_by n invs w target = pre_list n (pieces_at invs w.from) w.jump target

-- of a switch of the plant
abbrev pub pre_of : PlainPlant → List PlainPiece → Option PlainSwitch → Marked (List PlainPiece)
pre_of a target None = done []
pre_of a target (Some w) = and_then (invariant_at a w.from) (λ invs. pre_list (length a.vars) invs w.jump target)

-- of switch e of the plant
unfoldable pub pre : PlainPlant → ℕ → List PlainPiece → Marked (List PlainPiece)
pre a e target = pre_of a target (slice_get a.switches e)
