-- What do the definitions say of a few names, of a thermostat, and of a tank in which nothing moves?
use Rattle.std.specs.Prelude.{ℕ, pos, false, [], ◌∷◌, codes}
use Rattle.lhg_math.specs.Number.{neg, nought, unit, whole}
use Rattle.lhg_row.specs.Row.{PlainRow}
use Rattle.lhg_row.specs.Piece.{PlainPiece}
use Rattle.lhg_plant.specs.declared.plants.Side.TheVariants.{Ctl}
use Rattle.lhg_plant.specs.Word.{IsName, IsVariable}
use Rattle.lhg_plant.specs.Plant.{PlainPlant}
use Rattle.lhg_plant.specs.State.{PlainState, IsState, IsSafe}
use Rattle.lhg_plant.specs.Legal.{LegalSwitch}
use Rattle.lhg_plant.specs.OutBack.{Back}
use Rattle.lhg_plant.specs.Escape.{HasEscape}
use Rattle.lhg_plant.specs.Round.{InRound, IsRemovedIn}
use Rattle.lhg_plant.specs.Region.{PlainRegion}
use Rattle.lhg_plant.specs.Still.{still_rows, IsStill, HasNoSwitch}
use Rattle.lhg_plant.specs.Solution.{IsSolution}

-- names: a letter or `_` first, then digits too; `all` is a name, and not one of a variable
pub record WordFacts : Type 0 where
  pub level_1 : IsVariable (codes "level_1")
  pub lone_line : IsVariable (codes "_")
  pub digit_first : ¬ IsName (codes "1x")
  pub empty : ¬ IsName []
  pub long : ¬ IsName (codes "a_name_of_33_bytes_0123456789ABCD")
  pub keyword : IsName (codes "all")
  pub no_variable : ¬ IsVariable (codes "all")

-- x <= n
abbrev pub at_most : ℕ → PlainRow
at_most n = record { coefs = unit ∷ []; strict = false; bound = whole (pos n) }

-- -x <= -n, which is x >= n
abbrev pub at_least : ℕ → PlainRow
at_least n = record { coefs = neg unit ∷ []; strict = false; bound = neg (whole (pos n)) }

-- x <= 4, x' - x <= 0 and x - x' <= 0, over the old value and then the new one
abbrev pub keep_up_to_four : PlainPiece
keep_up_to_four =
    record { coefs = unit ∷ nought ∷ []; strict = false; bound = whole (pos 4) }
    ∷ record { coefs = neg unit ∷ unit ∷ []; strict = false; bound = nought }
    ∷ record { coefs = unit ∷ neg unit ∷ []; strict = false; bound = nought }
    ∷ []

-- it heats at speed 1 up to 10, and is safe up to 8; up to 4 the controller may switch it off, and then it is safe
abbrev pub thermostat : PlainPlant
thermostat = record {
  vars = codes "x" ∷ [];
  locs = record { name = codes "on"; inv = at_most 10 ∷ []; flow = at_least 1 ∷ at_most 1 ∷ []; safe = (at_most 8 ∷ []) ∷ [] } ∷ record { name = codes "off"; inv = []; flow = at_most 0 ∷ []; safe = [] ∷ [] } ∷ [];
  switches = record { name = codes "cut"; from = 0; to = 1; side = Ctl; jump = keep_up_to_four } ∷ [];
}

-- on at n
abbrev pub on_at : ℕ → PlainState
on_at n = record { loc = 0; at = whole (pos n) ∷ [] }

-- off at n
abbrev pub off_at : ℕ → PlainState
off_at n = record { loc = 1; at = whole (pos n) ∷ [] }

-- 5 is a state and safe, 9 is a state and not safe, 11 is no state; at 4 the controller can switch off, so 4 is in Back of the
-- safe states and stays in round 1; at 5 it cannot, and has an escape over 9, so 5 is removed in round 1
pub record ThermostatFacts : Type 0 where
  pub safe : IsSafe thermostat (on_at 5)
  pub state : IsState thermostat (on_at 9)
  pub unsafe_one : ¬ IsSafe thermostat (on_at 9)
  pub no_state : ¬ IsState thermostat (on_at 11)
  pub switch : LegalSwitch thermostat 0 (on_at 4) (off_at 4)
  pub no_switch : (z : PlainState) → ¬ LegalSwitch thermostat 0 (on_at 5) z
  pub back : Back thermostat (IsSafe thermostat) (on_at 4)
  pub kept : InRound thermostat 1 (on_at 4)
  pub escape : HasEscape thermostat (IsSafe thermostat) (Back thermostat (IsSafe thermostat)) (on_at 5)
  pub removed : IsRemovedIn thermostat 1 (on_at 5)

-- a tank whose level does not move: from 0 to 10, safe up to 8
abbrev pub tank : PlainPlant
tank = record {
  vars = codes "level" ∷ [];
  locs = record { name = codes "rest"; inv = at_least 0 ∷ at_most 10 ∷ []; flow = still_rows 1; safe = (at_most 8 ∷ []) ∷ [] } ∷ [];
  switches = [];
}

-- the levels up to 8
abbrev pub low_levels : PlainRegion
low_levels = ((at_most 8 ∷ []) ∷ []) ∷ []

-- it is still and has no switch, so its safe levels solve its game in round 1, with no guard and no record
pub record TankFacts : Type 0 where
  pub still : IsStill tank
  pub no_switch : HasNoSwitch tank
  pub solved : IsSolution tank (record { region = low_levels; guards = [] }) 1 []
