-- Which states are in each level of the forward sets, which are forward reachable, and which level is the first to add nothing?
use Rattle.std.specs.Prelude.{◌≡◌, ◌⊎◌, ◌<◌, ℕ, zero, suc, List, [], ◌∷◌}
use Rattle.lhg_math.specs.Number.{Number}
use Rattle.lhg_row.specs.Row.{PlainPoint}
use Rattle.lhg_plant.specs.Plant.{PlainPlant}
use Rattle.lhg_plant.specs.State.{PlainState, States, moved_to}
use Rattle.lhg_plant.specs.Legal.{LegalFlow, LegalSwitch}

-- one flow with its time and its end, or one switch of any side with its result
pub data PlainAction : Type 0 where
  by_flow : (time : Number) → (to : PlainPoint) → PlainAction
  by_switch : (switch : ℕ) → (result : PlainState) → PlainAction

-- the state to which it leads
abbrev pub result_of : PlainState → PlainAction → PlainState
result_of s (by_flow t y) = moved_to s y
result_of s (by_switch e z) = z

-- it is legal from the state
abbrev pub IsLegalAction : PlainPlant → PlainState → PlainAction → Type 0
IsLegalAction a s (by_flow t y) = LegalFlow a s t y
IsLegalAction a s (by_switch e z) = LegalSwitch a e s z

-- a legal flow or a legal switch of any side leads from the state s to z
pub record LeadsTo (a : PlainPlant) (s z : PlainState) : Type 0 where
  pub action : PlainAction
  pub legal : IsLegalAction a s action
  pub leads : result_of s action ≡ z

-- such an action leads to the state from a state of the set
pub record FollowsFrom (a : PlainPlant) (S : States) (z : PlainState) : Type 0 where
  pub from : PlainState
  pub kept : S from
  pub step : LeadsTo a from z

-- level 0 is the first states, and each further level is the one before, with the states to which a legal action leads from there
abbrev pub AtLevel : PlainPlant → States → ℕ → PlainState → Type 0
AtLevel a S zero z = S z
AtLevel a S (suc i) z = AtLevel a S i z ⊎ FollowsFrom a (AtLevel a S i) z

-- ---- reachable
-- the actions lead from s to z, each legally from the result of the one before
abbrev pub IsPath : PlainPlant → PlainState → List PlainAction → PlainState → Type 0
IsPath a s [] z = s ≡ z
IsPath a s (x ∷ xs) z = IsLegalAction a s x × IsPath a (result_of s x) xs z

-- some finite list of legal flows and switches leads to the state from one of the first states
pub record IsReachable (a : PlainPlant) (S : States) (z : PlainState) : Type 0 where
  pub start : PlainState
  pub first : S start
  pub actions : List PlainAction
  pub path : IsPath a start actions z

-- ---- what a level adds
-- level i adds the state: it is in level i and not in level i - 1
pub record IsAddedIn (a : PlainPlant) (S : States) (i : ℕ) (z : PlainState) : Type 0 where
  pub level : ℕ
  pub number : i ≡ suc level
  pub now : AtLevel a S i z
  pub before : ¬ AtLevel a S level z

-- level i adds some state
abbrev pub AddsSome : PlainPlant → States → ℕ → Type 0
AddsSome a S i = (z : PlainState) × IsAddedIn a S i z

-- level i adds no state
abbrev pub AddsNothing : PlainPlant → States → ℕ → Type 0
AddsNothing a S i = (z : PlainState) → ¬ IsAddedIn a S i z

-- the first level, counted from 1, that adds nothing
pub record IsLastLevel (a : PlainPlant) (S : States) (i : ℕ) : Type 0 where
  pub counted : 0 < i
  pub settled : AddsNothing a S i
  pub first : (j : ℕ) → 0 < j → j < i → ¬ AddsNothing a S j
