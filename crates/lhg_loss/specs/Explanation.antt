-- Which play, and which last switch, explain that a state was lost, and which numbers and lists are formed for them?
use Rattle.std.specs.Prelude.{ℕ, zero, suc, ◌+◌, ◌-◌, List, [], ◌∷◌, ◌++◌, filter, take, length, get_or, slice_get, Option, Some, None}
use Rattle.lhg_math.specs.Number.{nought}
use Rattle.lhg_num.specs.FracArithmetic.{frac_arithmetic}
use Rattle.lhg_num.specs.Marked.{Marked, done, and_then, valued}
use Rattle.lhg_row.specs.Row.{PlainPoint}
use Rattle.lhg_row.specs.Piece.{PlainPiece}
use Rattle.lhg_row.specs.Constant.{varies}
use Rattle.lhg_row.specs.PutIn.{put_in_each}
use Rattle.lhg_row.specs.Pieces.{make}
use Rattle.lhg_row.specs.Sample.{sample}
use Rattle.lhg_motion.specs.CrossCalculus.{cross_rows}
use Rattle.lhg_motion.specs.Play.{PlainMove}
use Rattle.lhg_plant.specs.Plant.{PlainPlant, PlainLocation, PlainSwitch}
use Rattle.lhg_plant.specs.State.{PlainState}
use Rattle.lhg_plant.specs.Explained.{PlainWay, PlainEscape}
use Rattle.lhg_plant.specs.Loss.{PlainCause, by_env, by_leave, by_flow, PlainLoss}

-- ---- samples
-- the sample of a piece over n variables, where there is one
abbrev pub sample_where : ℕ → Option PlainPiece → Marked PlainPoint
sample_where n None = done []
sample_where n (Some piece) = sample n piece

-- the sample of what the rows over n variables make, without those that have no variable
abbrev pub sample_of : ℕ → PlainPiece → Marked PlainPoint
sample_of n rows = and_then (make frac_arithmetic n (filter varies rows)) (sample_where n)

-- values of n variables and then one more are the end of a flow and its time
abbrev pub move_at : ℕ → PlainPoint → PlainMove
move_at n yt = record { time = get_or yt n nought; to = take n yt }

-- the rows of a straight flow from a point x of the first piece, through the second, to the third: those of a crossing, with x put in
abbrev pub crossing_from : ℕ → PlainPiece → PlainPoint → PlainPiece → PlainPiece → PlainPiece → Marked PlainPiece
crossing_from n flow x start through into = and_then (cross_rows frac_arithmetic n start through into flow) (put_in_each frac_arithmetic x)

-- the flow: the sample of these rows
abbrev pub flow_from : ℕ → PlainPiece → PlainPoint → PlainPiece → PlainPiece → PlainPiece → Marked PlainMove
flow_from n flow x start through into = and_then (crossing_from n flow x start through into) (λ left. valued (move_at n) (sample_of (n + 1) left))

-- the result of the jump rows from x in a piece: the sample of these rows with x put in, followed by those of the piece
abbrev pub result_from : ℕ → PlainPiece → PlainPoint → PlainPiece → Marked PlainPoint
result_from n jump x into = and_then (put_in_each frac_arithmetic x jump) (λ left. sample_of n (left ++ into))

-- ---- steps
-- what a record says of one of its states: it flows to a state of the record with a number, it flows out, or a switch leads out
pub data PlainNext : Type 0 where
  flows_on : (move : PlainMove) → (number : ℕ) → PlainNext
  flows_out : (move : PlainMove) → PlainNext
  switches : (number : ℕ) → (result : PlainState) → PlainNext

-- stands where a list has no such record
abbrev pub no_loss : PlainLoss
no_loss = record { number = 0; round = 0; loc = 0; piece = []; cause = by_leave [] [] }

-- the record with a number, counted from 1
abbrev pub loss_at : List PlainLoss → ℕ → PlainLoss
loss_at losses m = get_or losses (m - 1) no_loss

-- the flow rows of a location that may not be there
abbrev pub flow_rows : Option PlainLocation → PlainPiece
flow_rows None = []
flow_rows (Some l) = l.flow

-- the flow from a point of the record
abbrev pub flow_by : PlainPlant → PlainLoss → PlainPoint → PlainPiece → PlainPiece → Marked PlainMove
flow_by a r x through into = flow_from (length a.vars) (flow_rows (slice_get a.locs r.loc)) x r.piece through into

-- the switch e, which may not be there, into a piece
abbrev pub switch_by : ℕ → ℕ → PlainPoint → PlainPiece → Option PlainSwitch → Marked PlainNext
switch_by n e x into None = done (switches e (record { loc = 0; at = [] }))
switch_by n e x into (Some w) = valued (λ y. switches e (record { loc = w.to; at = y })) (result_from n w.jump x into)

-- the step from a point of the record by its cause
abbrev pub next_by : PlainPlant → List PlainLoss → PlainLoss → PlainPoint → PlainCause → Marked PlainNext
next_by a losses r x (by_env e into) = switch_by (length a.vars) e x into (slice_get a.switches e)
next_by a losses r x (by_leave through into) = valued flows_out (flow_by a r x through into)
next_by a losses r x (by_flow m through) = valued (λ move. flows_on move m) (flow_by a r x through (loss_at losses m).piece)

-- ---- explanations
-- the way after a flow
abbrev pub onward : PlainMove → PlainWay → PlainWay
onward move way = record { moves = move ∷ way.moves; last = way.last }

-- the way that begins with a step, where further says that of the states of each record
abbrev pub way_by : List PlainLoss → (PlainLoss → PlainPoint → Marked PlainWay) → PlainNext → Marked PlainWay
way_by losses further (flows_on move m) = valued (onward move) (further (loss_at losses m) move.to)
way_by losses further (flows_out move) = done (record { moves = move ∷ []; last = None })
way_by losses further (switches e y) = done (record { moves = []; last = Some (e, y) })

-- the way from a point of the record, of at most so many steps: a record leads to one of a smaller number
abbrev pub way_within : ℕ → PlainPlant → List PlainLoss → PlainLoss → PlainPoint → Marked PlainWay
way_within zero a losses r x = done (record { moves = []; last = None })
way_within (suc left) a losses r x = and_then (next_by a losses r x r.cause) (way_by losses (way_within left a losses))

-- the explanation of a state by the record with a number, which holds it
unfoldable pub explanation : PlainPlant → List PlainLoss → ℕ → PlainState → Marked PlainEscape
explanation a losses m s =
    let r = loss_at losses m in
    valued (λ way. record { round = r.round; start = s; way = way }) (way_within m a losses r s.at)
