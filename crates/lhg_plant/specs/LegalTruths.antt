-- Is a point in an invariant, is a state safe, and is a flow or a switch legal, and which numbers are formed to tell?
use Rattle.std.specs.Prelude.{ℕ, Bool, false, ◌&&◌, ◌==◌, if◌then◌else◌, List, [], ◌∷◌, ◌++◌, Option, Some, None, slice_get}
use Rattle.lhg_math.specs.Number.{Number, lt, nought}
use Rattle.lhg_num.specs.Arithmetic.{Arithmetic}
use Rattle.lhg_num.specs.Marked.{Marked, done, and_then, valued, marked_sub, marked_mul, marked_cmp}
use Rattle.lhg_row.specs.Row.{PlainRow, PlainPoint}
use Rattle.lhg_row.specs.Piece.{PlainPiece}
use Rattle.lhg_row.specs.MarkedTests.{marked_all}
use Rattle.lhg_row.specs.Truths.{piece_truth, some_truth}
use Rattle.lhg_row.specs.Values.{plus_product, fits_order}
use Rattle.lhg_plant.specs.Plant.{PlainLocation, PlainSwitch, PlainPlant}
use Rattle.lhg_plant.specs.State.{PlainState}

-- both, with the marks of both
abbrev pub and_also : Marked Bool → Marked Bool → Marked Bool
and_also m n = and_then m (λ b. valued (λ c. b && c) n)

-- what is told of the value, and false where there is none
abbrev pub told_of : {A : Type 0} → (A → Marked Bool) → Option A → Marked Bool
told_of f None = done false
told_of f (Some x) = f x

-- s + c * (y - x)
abbrev pub plus_change : Arithmetic → Number → Number → Number → Number → Marked Number
plus_change a s c x y = and_then (marked_sub a y x) (λ d. plus_product a s c d)

-- s, and to it the products of the coefficients and the differences y - x, from the first variable to the last
abbrev pub marked_change : Arithmetic → Number → List Number → (x y : PlainPoint) → Marked Number
marked_change a s [] xs ys = done s
marked_change a s (c ∷ cs) [] ys = done s
marked_change a s (c ∷ cs) (x ∷ xs) [] = done s
marked_change a s (c ∷ cs) (x ∷ xs) (y ∷ ys) = and_then (plus_change a s c x y) (λ t. marked_change a t cs xs ys)

-- whether the flow row lets a state move from x to y in the time t: its value on the differences is compared with its bound times t
abbrev pub flow_row_truth : Arithmetic → PlainRow → PlainPoint → Number → PlainPoint → Marked Bool
flow_row_truth a r x t y = and_then (marked_change a nought r.coefs x y) (λ v. and_then (marked_mul a r.bound t) (λ b. valued (fits_order r.strict) (marked_cmp a v b)))

-- whether all flow rows do
abbrev pub flow_rows_truth : Arithmetic → PlainPiece → PlainPoint → Number → PlainPoint → Marked Bool
flow_rows_truth a rows x t y = marked_all (λ r. flow_row_truth a r x t y) rows

-- whether the state is one of the plant
abbrev pub state_truth : Arithmetic → PlainPlant → PlainState → Marked Bool
state_truth a p s = told_of (λ l. piece_truth a l.inv s.at) (slice_get p.locs s.loc)

-- whether some safe line holds at the state
abbrev pub safe_truth : Arithmetic → PlainPlant → PlainState → Marked Bool
safe_truth a p s = told_of (λ l. some_truth a l.safe s.at) (slice_get p.locs s.loc)

-- whether the flow from x to y in the time t is legal in the location; in no time there is none
abbrev pub flow_truth : Arithmetic → PlainLocation → PlainPoint → Number → PlainPoint → Marked Bool
flow_truth a l x t y = if lt nought t then and_also (piece_truth a l.inv x) (and_also (piece_truth a l.inv y) (flow_rows_truth a l.flow x t y)) else done false

-- whether the flow is legal in the location of the state
abbrev pub legal_flow_truth : Arithmetic → PlainPlant → PlainState → Number → PlainPoint → Marked Bool
legal_flow_truth a p s t y = told_of (λ l. flow_truth a l s.at t y) (slice_get p.locs s.loc)

-- whether the switch leads from the state to the point y of the location that it enters
abbrev pub switch_truth : Arithmetic → PlainPlant → PlainSwitch → PlainState → PlainPoint → Marked Bool
switch_truth a p w s y =
    if w.from == s.loc then and_also (state_truth a p s) (and_also (state_truth a p (record { loc = w.to; at = y })) (piece_truth a w.jump (s.at ++ y))) else done false

-- the same of a switch by its place in the plant's list
abbrev pub legal_switch_truth : Arithmetic → PlainPlant → ℕ → PlainState → PlainPoint → Marked Bool
legal_switch_truth a p e s y = told_of (λ w. switch_truth a p w s y) (slice_get p.switches e)
