-- Which pieces hold the states from which the controller keeps a region by a switch, in which order, and which lists are formed for them?
use Rattle.std.specs.Prelude.{ℕ, cond, List, [], ◌∷◌, ◌++◌, length, nat_eq}
use Rattle.lhg_num.specs.FracArithmetic.{frac_arithmetic}
use Rattle.lhg_num.specs.Marked.{Marked, done, and_then, each}
use Rattle.lhg_row.specs.Piece.{PlainPiece}
use Rattle.lhg_row.specs.Lists.{counted_pieces, minus, meet_lists}
use Rattle.lhg_plant.specs.declared.plants.Side.{Side}
use Rattle.lhg_plant.specs.declared.plants.Side.TheVariants.{Ctl, Env, Pick}
use Rattle.lhg_plant.specs.Plant.{PlainSwitch, PlainPlant}
use Rattle.lhg_plant.specs.Region.{PlainRegion, PlainGuards}
use Rattle.lhg_plant.specs.Invariants.{pieces_at, invariants}
use Rattle.lhg_plant.specs.Pre.{pre_by}
use Rattle.lhg_plant.specs.OutCalculus.{away}

-- ---- back
-- the states with a result of the switch, none of whose results is outside
abbrev pub kept_by : ℕ → PlainRegion → PlainRegion → PlainSwitch → Marked (List PlainPiece)
kept_by n invs away w =
    and_then (pre_by n invs w (pieces_at invs w.to)) (λ all. and_then (pre_by n invs w (pieces_at away w.to)) (minus frac_arithmetic n all))

-- these, where the plant picks the result; where the controller picks it, the states with a result in the region
abbrev pub kept_side : ℕ → PlainRegion → PlainRegion → PlainRegion → PlainSwitch → Side → Marked (List PlainPiece)
kept_side n invs region away w Ctl = kept_by n invs away w
kept_side n invs region away w Env = done []
kept_side n invs region away w Pick = pre_by n invs w (pieces_at region w.to)

-- of one switch
unfoldable pub back_by : ℕ → PlainRegion → PlainRegion → PlainRegion → PlainSwitch → Marked (List PlainPiece)
back_by n invs region away w = kept_side n invs region away w w.side

-- a list for each switch, where the states outside the region are given
unfoldable pub back : PlainPlant → PlainRegion → PlainRegion → Marked PlainGuards
back a region away = and_then (invariants a) (λ invs. each (back_by (length a.vars) invs region away) a.switches)

-- ---- in one location
-- the lists of the switches that leave location l, joined in order
abbrev pub joined_at : ℕ → List PlainSwitch → PlainGuards → List PlainPiece
joined_at l [] kss = []
joined_at l (w ∷ ws) [] = []
joined_at l (w ∷ ws) (ks ∷ kss) = cond (nat_eq w.from l) ks [] ++ joined_at l ws kss

-- the states of location l with a controllable switch back
abbrev pub back_at : PlainPlant → PlainGuards → ℕ → Marked (List PlainPiece)
back_at a kss l = counted_pieces (joined_at l a.switches kss)

-- the states of the region in location l with no controllable switch back
unfoldable pub near_at : PlainPlant → PlainRegion → PlainGuards → ℕ → Marked (List PlainPiece)
near_at a region kss l = and_then (back_at a kss l) (minus frac_arithmetic (length a.vars) (pieces_at region l))

-- ---- guards
-- the states of the region from which the switch leads back
abbrev pub guard_by : ℕ → PlainRegion → PlainRegion → PlainRegion → PlainSwitch → Marked (List PlainPiece)
guard_by n invs region away w = and_then (back_by n invs region away w) (λ ks. meet_lists frac_arithmetic n ks (pieces_at region w.from))

-- a list for each switch
unfoldable pub guards : PlainPlant → PlainRegion → Marked PlainGuards
guards a region =
    and_then (invariants a) (λ invs. and_then (away (length a.vars) invs region) (λ outside. each (guard_by (length a.vars) invs region outside) a.switches))
