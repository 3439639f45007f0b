-- From which states does the plant leave a set by a switch, and from which can the controller switch back into it?
use Rattle.std.specs.Prelude.{◌⊎◌, ℕ, slice_get, IsSomeAnd}
use Rattle.lhg_plant.specs.declared.plants.Side.{Side}
use Rattle.lhg_plant.specs.declared.plants.Side.TheVariants.{Ctl, Env, Pick}
use Rattle.lhg_plant.specs.Plant.{PlainPlant}
use Rattle.lhg_plant.specs.State.{PlainState, States, IsState}
use Rattle.lhg_plant.specs.Legal.{LegalSwitch, HasSide}

-- a legal uncontrollable switch leads to a state that is not in the set
pub record LeavesBySwitch (a : PlainPlant) (S : States) (s : PlainState) : Type 0 where
  pub number : ℕ
  pub result : PlainState
  pub side : HasSide a number Env
  pub legal : LegalSwitch a number s result
  pub gone : ¬ S result

-- the states that are not in the set, and those with a legal uncontrollable switch to a state that is not in it
abbrev pub Out : PlainPlant → States → PlainState → Type 0
Out a S s = (IsState a s × ¬ S s) ⊎ LeavesBySwitch a S s

-- switch e, of this side, keeps the state in the set: one whose result the plant picks has a legal result, and all its legal
-- results are in the set; one whose result the controller picks has a legal result in the set; on an uncontrollable one the
-- controller cannot rely
abbrev pub StaysBy : Side → PlainPlant → States → ℕ → PlainState → Type 0
StaysBy Ctl a S e s = ((z : PlainState) × LegalSwitch a e s z) × ((z : PlainState) → LegalSwitch a e s z → S z)
StaysBy Env a S e s = ⊥
StaysBy Pick a S e s = (z : PlainState) × LegalSwitch a e s z × S z

-- the state is in Back of the set by switch e
abbrev pub BackBy : PlainPlant → States → ℕ → PlainState → Type 0
BackBy a S e s = IsSomeAnd (slice_get a.switches e) (λ w. StaysBy w.side a S e s)

-- the states with a controllable switch by which they stay in the set: one of side `ctl` that has at least one legal result and
-- all of whose legal results are in the set, or one of side `pick` that has at least one legal result in the set
abbrev pub Back : PlainPlant → States → PlainState → Type 0
Back a S s = (e : ℕ) × BackBy a S e s
