-- What is formed in an exchange, so that a limit may be answered for it?
use Rattle.std.specs.Prelude.{◌≡◌, ◌⊎◌, ℕ, zero, suc, ◌-◌, List, [], ◌∷◌, length, Option, Some, None, slice_get}
use Rattle.lhg_math.specs.Number.{Number, nought}
use Rattle.lhg_num.specs.FracArithmetic.{frac_arithmetic}
use Rattle.lhg_num.specs.Marked.{Marked, done, and_then, valued, marked_mul}
use Rattle.lhg_row.specs.Row.{PlainPoint}
use Rattle.lhg_row.specs.Piece.{PlainPiece}
use Rattle.lhg_motion.specs.Play.{PlainMove}
use Rattle.lhg_plant.specs.Invariants.{invariant_at}
use Rattle.lhg_plant.specs.LegalTruths.{safe_truth, legal_switch_truth}
use Rattle.lhg_plant.specs.Loss.{PlainLoss}
use Rattle.lhg_plant.specs.Pick.{results_in}
use Rattle.lhg_plant.specs.Plant.{PlainPlant, PlainSwitch}
use Rattle.lhg_plant.specs.SpoilSteps.{PlainSpoilStep}
use Rattle.lhg_plant.specs.State.{PlainState}
use Rattle.lhg_play.specs.Cut.{point_at}
use Rattle.lhg_loss.specs.Holding.{holding}
use Rattle.lhg_loss.specs.Iterate.{nothing}
use Rattle.lhg_spoil.specs.Fibres.{fibre}
use Rattle.lhg_spoil.specs.Moves.{PlainCtlMove, waits, acts, state_on}
use Rattle.lhg_spoil.specs.Exchange.{offer, SpoilPlace, asked, IsExchange}

-- ---- parts
-- a calculation of which the marks alone count
abbrev pub only : {A : Type 0} → Marked A → Marked (Unit {0})
only m = valued nothing m

-- the point at the place q of flow k of a play from x, flows counted from 0
abbrev pub place_point : PlainPoint → List PlainMove → ℕ → Number → Marked PlainPoint
place_point x [] k q = done x
place_point x (m ∷ ms) zero q = point_at x m.to q
place_point x (m ∷ ms) (suc k) q = place_point m.to ms k q

-- the time of flow k as far as the place q
abbrev pub place_time : List PlainMove → ℕ → Number → Marked Number
place_time [] k q = done nought
place_time (m ∷ ms) zero q = marked_mul frac_arithmetic q m.time
place_time (m ∷ ms) (suc k) q = place_time ms k q

-- these results, where there are some, and else the further ones
abbrev pub results_or : Marked (Option PlainPiece) → Option PlainPiece → Marked (Option PlainPiece)
results_or further None = further
results_or further (Some results) = done (Some results)

-- the results of jump rows from x in the first piece of a list that has one
abbrev pub results_of : ℕ → PlainPoint → PlainPiece → List PlainPiece → Marked (Option PlainPiece)
results_of n x jump [] = done None
results_of n x jump (piece ∷ pieces) = and_then (results_in n x jump piece) (results_or (results_of n x jump pieces))

-- the legal results of a switch at the state: those in the piece of its target's invariant, where there is one
abbrev pub legal_results_by : PlainPlant → PlainState → Option PlainSwitch → Marked (Option PlainPiece)
legal_results_by a s None = done None
legal_results_by a s (Some w) = and_then (invariant_at a w.to) (results_of (length a.vars) s.at w.jump)

unfoldable pub legal_results : PlainPlant → ℕ → PlainState → Marked (Option PlainPiece)
legal_results a e s = legal_results_by a s (slice_get a.switches e)

-- ---- the exchange
-- whether rows hold at the state: those of its location's safe lines, and of the pieces of its location's records
abbrev pub IsHoldWork : PlainPlant → List PlainLoss → PlainState → Marked (Unit {0}) → Type 0
IsHoldWork a losses s m = (m ≡ only (safe_truth frac_arithmetic a s)) ⊎ (m ≡ only (holding s losses))

-- whether the switch leads to a named result
abbrev pub IsNamedWork : PlainPlant → ℕ → PlainState → Option PlainPoint → Marked (Unit {0}) → Type 0
IsNamedWork a e s to m = (y : PlainPoint) × (to ≡ Some y) × (m ≡ only (legal_switch_truth frac_arithmetic a e s y))

-- the fibres of some switch
abbrev pub IsFibreWork : PlainPlant → List PlainLoss → ℕ → PlainState → Marked (Unit {0}) → Type 0
IsFibreWork a losses j s m = (d : ℕ) × (m ≡ only (fibre a losses j d s))

-- whether the controller may take the switch at the state
abbrev pub IsTakeWork : PlainPlant → ℕ → PlainState → Option PlainPoint → Marked (Unit {0}) → Type 0
IsTakeWork a e p to m = IsNamedWork a e p to m ⊎ (m ≡ only (legal_results a e p))

-- what comes of a switch that may be taken at the state
abbrev pub IsSettleWork : PlainPlant → List PlainLoss → ℕ → PlainState → Marked (Unit {0}) → Type 0
IsSettleWork a losses j p m = IsHoldWork a losses p m ⊎ IsFibreWork a losses j p m

-- what an act forms: the point of its place, the time up to it, whether the switch may be taken there, and what comes of it
abbrev pub IsActWork : PlainPlant → List PlainLoss → ℕ → PlainState → List PlainMove → ℕ → Number → ℕ → Option PlainPoint → Marked (Unit {0}) → Type 0
IsActWork a losses j s moves k q e to m =
    (m ≡ only (place_point s.at moves (k - 1) q)) ⊎ ((m ≡ only (place_time moves (k - 1) q))
    ⊎ (IsTakeWork a e (state_on s moves k q) to m ⊎ IsSettleWork a losses j (state_on s moves k q) m))

-- what the answer to a move forms
abbrev pub IsMoveWork : PlainPlant → List PlainLoss → ℕ → PlainState → List PlainMove → PlainCtlMove → Marked (Unit {0}) → Type 0
IsMoveWork a losses j s moves waits m = ⊥
IsMoveWork a losses j s moves (acts k q e to) m = IsActWork a losses j s moves k q e to m

-- rows at a state where the exchange ends
abbrev pub IsEndWork : PlainPlant → List PlainLoss → ℕ → SpoilPlace → Option PlainCtlMove → Marked (Unit {0}) → Type 0
IsEndWork a losses j r move m = (steps : List PlainSpoilStep) × (next : SpoilPlace) × IsExchange a losses j r move steps next × IsHoldWork a losses next.state m

-- what an exchange forms: the escape that is offered, rows at the state where it begins, what the answer to its move forms, and rows at the state where it ends
abbrev pub IsExchangeWork : PlainPlant → List PlainLoss → ℕ → SpoilPlace → Option PlainCtlMove → Marked (Unit {0}) → Type 0
IsExchangeWork a losses j r move m =
    (m ≡ only (offer a losses r.state)) ⊎ (IsHoldWork a losses r.state m
    ⊎ (IsMoveWork a losses j r.state (offer a losses r.state).value.way.moves (asked r.again move (offer a losses r.state).value.way.moves) m ⊎ IsEndWork a losses j r move m))
