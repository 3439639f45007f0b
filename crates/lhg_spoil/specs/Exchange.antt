-- How does the plant answer one move of the controller from a lost state, and where does that end?
use Rattle.std.specs.Prelude.{◌≡◌, ◌⊎◌, ◌<◌, ◌≤◌, ℕ, zero, suc, ◌-◌, cond, List, [], ◌∷◌, ◌++◌, map, Option, Some, None, slice_get, IsSomeAnd}
use Rattle.lhg_math.specs.Number.{Number, lt, mul, nought}
use Rattle.lhg_num.specs.Marked.{Marked, done}
use Rattle.lhg_row.specs.Row.{PlainPoint}
use Rattle.lhg_motion.specs.Segment.{along}
use Rattle.lhg_motion.specs.Play.{PlainMove, last_point}
use Rattle.lhg_plant.specs.declared.plants.Side.{Side}
use Rattle.lhg_plant.specs.declared.plants.Side.TheVariants.{Ctl, Env, Pick}
use Rattle.lhg_plant.specs.Plant.{PlainPlant}
use Rattle.lhg_plant.specs.State.{PlainState, moved_to}
use Rattle.lhg_plant.specs.Legal.{HasSide}
use Rattle.lhg_plant.specs.Explained.{PlainWay, PlainEscape}
use Rattle.lhg_plant.specs.Loss.{PlainLoss}
use Rattle.lhg_plant.specs.Rank.{HasRank, IsPast}
use Rattle.lhg_plant.specs.Round.{IsRemovedIn}
use Rattle.lhg_plant.specs.SpoilSteps.{PlainSpoilStep, ranked, run_on, acted, landed_at, preempted}
use Rattle.lhg_loss.specs.Explanation.{explanation}
use Rattle.lhg_loss.specs.Holding.{holding}
use Rattle.lhg_plant.specs.Choice.{result_at}
use Rattle.lhg_spoil.specs.Fibres.{fibre}
use Rattle.lhg_spoil.specs.Moves.{PlainCtlMove, waits, acts, state_on, IsLegalMove}

-- ---- the offer
-- stands where no record holds the state
abbrev pub no_escape : PlainState → PlainEscape
no_escape s = record { round = 0; start = s; way = record { moves = []; last = None } }

-- the explanation by a record that may not be there
abbrev pub explained_by : PlainPlant → List PlainLoss → PlainState → Option ℕ → Marked PlainEscape
explained_by a losses s None = done (no_escape s)
explained_by a losses s (Some m) = explanation a losses m s

-- the escape that the plant offers from a lost state: the explanation by the first record that holds it
unfoldable pub offer : PlainPlant → List PlainLoss → PlainState → Marked PlainEscape
offer a losses s = explained_by a losses s (holding s losses).value

-- ---- steps
-- a flow of this time as far as the place q, at which it is at this point; at the place 0 there is no step of it
abbrev pub part_steps : Number → Number → PlainPoint → List PlainSpoilStep
part_steps q t at = cond (lt nought q) (run_on (mul q t) at ∷ []) []

-- a play as far as the place q of flow k, flows counted from 0
abbrev pub run_upto : PlainPoint → List PlainMove → ℕ → Number → List PlainSpoilStep
run_upto x [] k q = []
run_upto x (m ∷ ms) zero q = part_steps q m.time (along x m.to q)
run_upto x (m ∷ ms) (suc k) q = run_on m.time m.to ∷ run_upto m.to ms k q

-- a whole play
abbrev pub run_whole : List PlainMove → List PlainSpoilStep
run_whole moves = map (λ m. run_on m.time m.to) moves

-- the switch that ends a play, where there is one
abbrev pub last_step : Option (ℕ × PlainState) → List PlainSpoilStep
last_step None = []
last_step (Some last) = preempted last.0 last.1 ∷ []

-- the state that a play with its last switch comes to
abbrev pub end_of : PlainState → List PlainMove → Option (ℕ × PlainState) → PlainState
end_of s moves None = moved_to s (last_point s.at moves)
end_of s moves (Some last) = last.1

-- ---- places
-- where exchanges stand: at a state, and whether a switch that was asked for, with its named result, is answered again
pub record SpoilPlace : Type 0 where
  pub state : PlainState
  pub again : Option (ℕ × Option PlainPoint)

-- at a state, with nothing to answer again
abbrev pub stands_at : PlainState → SpoilPlace
stands_at s = record { state = s; again = None }

-- what a wait comes to: the steps of the play and of its last switch, and where they end
abbrev pub waited : PlainState → List PlainMove → Option (ℕ × PlainState) → List PlainSpoilStep × SpoilPlace
waited s moves last = (run_whole moves ++ last_step last, stands_at (end_of s moves last))

-- a switch is answered again where the rank is not 0
abbrev pub again_at : ℕ → ℕ → Option PlainPoint → Option (ℕ × Option PlainPoint)
again_at zero e to = None
again_at (suc rank) e to = Some (e, to)

-- a switch that is answered again is asked for at the start of the play, and is a wait where the play has no flow
abbrev pub asked_again : List PlainMove → ℕ × Option PlainPoint → PlainCtlMove
asked_again [] act = waits
asked_again (m ∷ ms) act = acts 1 nought act.0 act.1

-- the move that is answered next: what is answered again, else the next one of the list, and a wait after the list's end
abbrev pub asked : Option (ℕ × Option PlainPoint) → Option PlainCtlMove → List PlainMove → PlainCtlMove
asked (Some act) move play = asked_again play act
asked None None play = waits
asked None (Some move) play = move

-- how many moves are answered after it, where so many were before
abbrev pub answered_after : Option (ℕ × Option PlainPoint) → ℕ → ℕ
answered_after (Some act) i = i
answered_after None i = suc i

-- ---- answers
-- the play is run whole, and then its last switch
pub record Waits (s : PlainState) (way : PlainWay) (steps : List PlainSpoilStep) (next : SpoilPlace) : Type 0 where
  pub does : steps ≡ run_whole way.moves ++ last_step way.last
  pub goes : next ≡ stands_at (end_of s way.moves way.last)

-- the state p, at which the controller acts after these first steps, is outside round j, so the play ends there
pub record ComesPast (a : PlainPlant) (j : ℕ) (p : PlainState) (first : List PlainSpoilStep) (e : ℕ) (to : Option PlainPoint) (steps : List PlainSpoilStep) (next : SpoilPlace) : Type 0 where
  pub rank : ℕ
  pub within : rank ≤ j
  pub past : HasRank a rank p
  pub does : steps ≡ first
  pub goes : next ≡ record { state = p; again = again_at rank e to }

-- d is the first uncontrollable switch with a fibre at the state past round j, and this is the fibres' result
pub record IsFirstFibre (a : PlainPlant) (losses : List PlainLoss) (j : ℕ) (p : PlainState) (d : ℕ) (y : PlainPoint) : Type 0 where
  pub side : HasSide a d Env
  pub result : (fibre a losses j d p).value ≡ Some y
  pub first : (c : ℕ) → c < d → HasSide a c Env → (fibre a losses j c p).value ≡ None

-- no uncontrollable switch has a fibre at the state past round j
abbrev pub HasNoFibre : PlainPlant → List PlainLoss → ℕ → PlainState → Type 0
HasNoFibre a losses j p = (d : ℕ) → HasSide a d Env → (fibre a losses j d p).value ≡ None

-- the plant goes first, by the first uncontrollable switch with a fibre
pub record GoesFirst (a : PlainPlant) (losses : List PlainLoss) (j : ℕ) (p : PlainState) (first : List PlainSpoilStep) (steps : List PlainSpoilStep) (next : SpoilPlace) : Type 0 where
  pub inside : ¬ IsPast a j p
  pub number : ℕ
  pub result : PlainPoint
  pub fibres : IsFirstFibre a losses j p number result
  pub does : steps ≡ first ++ (preempted number (result_at a number result) ∷ [])
  pub goes : next ≡ stands_at (result_at a number result)

-- the result of the controller's switch, of this side, at the state: of the fibres where the plant picks it, and the named one else
abbrev pub IsResultBy : Side → PlainPlant → List PlainLoss → ℕ → ℕ → PlainState → Option PlainPoint → PlainPoint → Type 0
IsResultBy Ctl a losses j e p to y = (fibre a losses j e p).value ≡ Some y
IsResultBy Env a losses j e p to y = ⊥
IsResultBy Pick a losses j e p to y = to ≡ Some y

-- the controller switches
pub record Switches (a : PlainPlant) (losses : List PlainLoss) (j : ℕ) (p : PlainState) (first : List PlainSpoilStep) (e : ℕ) (to : Option PlainPoint) (steps : List PlainSpoilStep) (next : SpoilPlace) : Type 0 where
  pub inside : ¬ IsPast a j p
  pub none : HasNoFibre a losses j p
  pub result : PlainPoint
  pub picks : IsSomeAnd (slice_get a.switches e) (λ w. IsResultBy w.side a losses j e p to result)
  pub does : steps ≡ first ++ (acted e ∷ landed_at (result_at a e result) ∷ [])
  pub goes : next ≡ stands_at (result_at a e result)

-- the answer to switch e at the state p, to which the first steps lead
abbrev pub AnswersAt : PlainPlant → List PlainLoss → ℕ → PlainState → List PlainSpoilStep → ℕ → Option PlainPoint → List PlainSpoilStep → SpoilPlace → Type 0
AnswersAt a losses j p first e to steps next =
    ComesPast a j p first e to steps next ⊎ (GoesFirst a losses j p first steps next ⊎ Switches a losses j p first e to steps next)

-- the answer to a move from a state of rank j + 1, against the play that the plant offers
abbrev pub Answers : PlainPlant → List PlainLoss → ℕ → PlainState → PlainWay → PlainCtlMove → List PlainSpoilStep → SpoilPlace → Type 0
Answers a losses j s way waits steps next = Waits s way steps next
Answers a losses j s way (acts k q e to) steps next = AnswersAt a losses j (state_on s way.moves k q) (run_upto s.at way.moves (k - 1) q) e to steps next

-- an exchange from a state of rank j + 1, where the next move of the list is this one, or the list is at its end: the plant offers its escape, and the
-- move that is asked for is legal and is answered
pub record IsExchange (a : PlainPlant) (losses : List PlainLoss) (j : ℕ) (r : SpoilPlace) (move : Option PlainCtlMove) (steps : List PlainSpoilStep) (next : SpoilPlace) : Type 0 where
  pub removed : IsRemovedIn a (suc j) r.state
  pub legal : IsLegalMove a r.state (offer a losses r.state).value.way.moves (asked r.again move (offer a losses r.state).value.way.moves)
  pub does : List PlainSpoilStep
  pub answers : Answers a losses j r.state (offer a losses r.state).value.way (asked r.again move (offer a losses r.state).value.way.moves) does next
  pub whole : steps ≡ ranked (suc j) ∷ does
