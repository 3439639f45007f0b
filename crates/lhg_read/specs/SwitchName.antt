-- Which switch does a token name?
use Rattle.std.specs.Prelude.{ℕ, Bool, true, false, if◌then◌else◌, Option, Some, None, slice_get}
use Rattle.std.specs.Option.{option_and_then}
use Rattle.lhg_lex.specs.PlainToken.{PlainToken}
use Rattle.lhg_plant.specs.declared.plants.Side.{Side}
use Rattle.lhg_plant.specs.declared.plants.Side.TheVariants.{Ctl, Env, Pick}
use Rattle.lhg_plant.specs.Plant.{PlainPlant, PlainSwitch}
use Rattle.lhg_read.specs.Names.{name_of}
use Rattle.lhg_read.specs.PlantSteps.{switch_names}
use Rattle.lhg_read.specs.Term.{place_of}

-- the controller takes the switch
abbrev pub is_controllable : Side → Bool
is_controllable Ctl = true
is_controllable Env = false
is_controllable Pick = true

-- the plant takes the switch
abbrev pub is_uncontrollable : Side → Bool
is_uncontrollable Ctl = false
is_uncontrollable Env = true
is_uncontrollable Pick = false

-- the switch is there, and its side is such
abbrev pub is_of : (Side → Bool) → Option PlainSwitch → Bool
is_of test None = false
is_of test (Some w) = test w.side

-- the place, where the side of the switch there is such
abbrev pub if_of : (Side → Bool) → PlainPlant → ℕ → Option ℕ
if_of test p e = if is_of test (slice_get p.switches e) then Some e else None

-- the place of the switch with such a side that a token names
abbrev pub switch_in : (Side → Bool) → PlainPlant → PlainToken → Option ℕ
switch_in test p token = option_and_then (if_of test p) (option_and_then (λ name. place_of name (switch_names p.switches)) (name_of token))
