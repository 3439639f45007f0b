-- A play as far as a place is its first flows, and then a part of one.
use Rattle.std.proofs.Common.{◌≡◌, ◌<◌, ◌+◌, ◌-◌, ℕ, zero, suc, List, [], ◌∷◌, ◌++◌, length, take, get_or, slice_get, Option, Some, None, refl, sym, ap, ◌∙◌, append_assoc, arith}
use Rattle.std.proofs.lemmas.List.{take_more, map-append, take-map}
use Rattle.lhg_math.specs.Tests.{AllOf}
use Rattle.lhg_math.specs.Number.{Number}
use Rattle.lhg_num.specs.FracArithmetic.{frac_arithmetic}
use Rattle.lhg_num.specs.Marked.{Marked, valued, marked_mul}
use Rattle.lhg_row.specs.Row.{PlainPoint}
use Rattle.lhg_motion.specs.Segment.{along}
use Rattle.lhg_motion.specs.Play.{PlainMove, last_point, point_of}
use Rattle.lhg_play.specs.Cut.{point_at}
use Rattle.lhg_play.specs.declared.plays.Move.{Move}
use Rattle.lhg_play.specs.declared.spoils.SpoilStep.{SpoilStep}
use Rattle.lhg_play.specs.declared.spoils.SpoilStep.TheVariants.{Flow, Act, Land, Env}
use Rattle.lhg_play.specs.Views.{plain_move, plain_moves, plain_spoil_step, plain_spoil_steps}
use Rattle.lhg_plant.specs.Plant.{PlainPlant, PlainSwitch}
use Rattle.lhg_plant.specs.declared.states.State.{State}
use Rattle.lhg_plant.specs.SpoilSteps.{PlainSpoilStep, run_on, acted, landed_at, preempted}
use Rattle.lhg_plant.specs.Views.{plain_state}
use Rattle.lhg_plant.specs.State.{PlainState}
use Rattle.lhg_plant.proofs.LegalSteps.{image_at}
use Rattle.lhg_plant.specs.Choice.{target_in, result_at}
use Rattle.lhg_spoil.specs.Exchange.{SpoilPlace, stands_at, part_steps, run_upto, run_whole}
use Rattle.lhg_spoil.specs.Views.{end_place}
use Rattle.lhg_spoil.specs.Work.{place_point, place_time}

same_move : (x y : PlainMove) → Some x ≡ Some y → x ≡ y
same_move x y h = cc

no_move : {P : Type 0} (m : PlainMove) (k : ℕ) → slice_get [] k ≡ Some m → P
no_move m k h = absurd cc

pub upto-split : (x : PlainPoint) (moves : List PlainMove) (k : ℕ) (q : Number) (m : PlainMove) → slice_get moves k ≡ Some m
    → run_upto x moves k q ≡ run_whole (take k moves) ++ part_steps q m.time (along (last_point x (take k moves)) m.to q)
upto-split x [] k q m h = no_move m k h
upto-split x (n ∷ ms) zero q m h = ap (λ (v : PlainMove). part_steps q v.time (along x v.to q)) (same_move n m h)
upto-split x (n ∷ ms) (suc k) q m h = ap (λ (xs : List PlainSpoilStep). run_on n.time n.to ∷ xs) (upto-split n.to ms k q m h)

pub point-split : (x : PlainPoint) (moves : List PlainMove) (k : ℕ) (q : Number) (m : PlainMove) → slice_get moves k ≡ Some m
    → place_point x moves k q ≡ point_at (last_point x (take k moves)) m.to q
point-split x [] k q m h = no_move m k h
point-split x (n ∷ ms) zero q m h = ap (λ (v : PlainMove). point_at x v.to q) (same_move n m h)
point-split x (n ∷ ms) (suc k) q m h = point-split n.to ms k q m h

pub place-split : (x : PlainPoint) (moves : List PlainMove) (k : ℕ) (q : Number) (m : PlainMove) → slice_get moves k ≡ Some m
    → point_of x moves k q ≡ along (last_point x (take k moves)) m.to q
place-split x [] k q m h = no_move m k h
place-split x (n ∷ ms) zero q m h = ap (λ (v : PlainMove). along x v.to q) (same_move n m h)
place-split x (n ∷ ms) (suc k) q m h = place-split n.to ms k q m h

pub time-split : (moves : List PlainMove) (k : ℕ) (q : Number) (m : PlainMove) → slice_get moves k ≡ Some m → place_time moves k q ≡ marked_mul frac_arithmetic q m.time
time-split [] k q m h = no_move m k h
time-split (n ∷ ms) zero q m h = ap (λ (v : PlainMove). marked_mul frac_arithmetic q v.time) (same_move n m h)
time-split (n ∷ ms) (suc k) q m h = time-split ms k q m h

-- ---- values that the code holds
-- the end of the last flow
pub last_end : (x : PlainPoint) (moves : List Move) (m : Move) → Some m ≡ slice_get moves (length moves - 1) → m.to ≡ last_point x (plain_moves moves)
last_end x [] m e = cc
last_end x (y ∷ []) m e = let same : m ≡ y = cc in ap (λ (w : Move). w.to) same
last_end x (y ∷ z ∷ moves) m e =
    let same : length (y ∷ z ∷ moves) - 1 ≡ suc (length (z ∷ moves) - 1) = omega arith in
    last_end y.to (z ∷ moves) m (e ∙ ap (slice_get (y ∷ z ∷ moves)) same)

module _ (moves : List Move) (i : ℕ) (m : Move) (is : m ≡ get_or moves i m) (less : i < length moves) where
  whole-taken : run_whole (plain_moves (take (i + 1) moves)) ≡ run_whole (plain_moves (take i moves)) ++ run_on m.time m.to ∷ []
  whole-taken =
      ap (λ (ms : List Move). run_whole (plain_moves ms)) (take_more moves i m less ∙ ap (λ (w : Move). take i moves ++ w ∷ []) (sym is))
      ∙ ap run_whole (map-append plain_move (take i moves) (m ∷ []))
      ∙ map-append (λ (n : PlainMove). run_on n.time n.to) (plain_moves (take i moves)) (plain_move m ∷ [])

  -- one step more
  pub whole-more : (out new : List SpoilStep) (to : PlainPoint) → plain_spoil_steps out ≡ run_whole (plain_moves (take i moves)) → to ≡ m.to → new ≡ out ++ Flow m.time to ∷ []
      → plain_spoil_steps new ≡ run_whole (plain_moves (take (i + 1) moves))
  whole-more out new to h there e =
      ap plain_spoil_steps e ∙ map-append plain_spoil_step out (Flow m.time to ∷ []) ∙ ap (λ (xs : List PlainSpoilStep). xs ++ run_on m.time to ∷ []) h
      ∙ ap (λ (p : PlainPoint). run_whole (plain_moves (take i moves)) ++ run_on m.time p ∷ []) there ∙ sym whole-taken

-- the flow at a place of the list
pub move_there : (moves : List Move) (k : ℕ) (m : Move) → k < length moves → m ≡ get_or moves k m → slice_get (plain_moves moves) k ≡ Some (plain_move m)
move_there moves k m less e = image_at plain_move moves k m less e

-- the end of the first flows has as many coordinates as the start
pub last_fits : (n : ℕ) (x : PlainPoint) (moves : List PlainMove) (k : ℕ) → length x ≡ n → AllOf (λ m. length m.to ≡ n) moves → length (last_point x (take k moves)) ≡ n
last_fits n x [] zero e h = e
last_fits n x [] (suc k) e h = e
last_fits n x (m ∷ ms) zero e h = e
last_fits n x (m ∷ ms) (suc k) e h = last_fits n m.to ms k h.0 h.1

pub end_fits : (n : ℕ) (moves : List PlainMove) (k : ℕ) (m : PlainMove) → AllOf (λ m. length m.to ≡ n) moves → slice_get moves k ≡ Some m → length m.to ≡ n
end_fits n [] k m h e = no_move m k e
end_fits n (x ∷ ms) zero m h e = ap (λ (v : PlainMove). length v.to) (sym (same_move x m e)) ∙ h.0
end_fits n (x ∷ ms) (suc k) m h e = end_fits n ms k m h.1 e

-- a place of flow k, at whose start the play is at this point
module _ (x : PlainPoint) (ms : List Move) (k : ℕ) (q : Number) (m : Move) (less : k < length ms) (is : m ≡ get_or ms k m) where
  there : slice_get (plain_moves ms) k ≡ Some (plain_move m)
  there = move_there ms k m less is

  module _ (from : PlainPoint) (from_is : from ≡ last_point x (plain_moves (take k ms))) where
    at_start : from ≡ last_point x (take k (plain_moves ms))
    at_start = from_is ∙ ap (last_point x) (sym (take-map plain_move k ms))

    -- the two ends of the flow have as many coordinates
    pub ends-fit : AllOf (λ n. length n.to ≡ length x) (plain_moves ms) → length from ≡ length m.to
    ends-fit h = ap length at_start ∙ last_fits (length x) x (plain_moves ms) k refl h ∙ sym (end_fits (length x) (plain_moves ms) k (plain_move m) h there)

    -- what is formed for the point, and the point
    pub point-is : point_at from m.to q ≡ place_point x (plain_moves ms) k q
    point-is = ap (λ (p : PlainPoint). point_at p m.to q) at_start ∙ sym (point-split x (plain_moves ms) k q (plain_move m) there)

    pub along-is : along from m.to q ≡ point_of x (plain_moves ms) k q
    along-is = ap (λ (p : PlainPoint). along p m.to q) at_start ∙ sym (place-split x (plain_moves ms) k q (plain_move m) there)

  -- the steps up to it
  pub upto-is : (first : List PlainSpoilStep) (at : PlainPoint) → first ≡ run_whole (plain_moves (take k ms)) → at ≡ point_of x (plain_moves ms) k q
      → first ++ part_steps q m.time at ≡ run_upto x (plain_moves ms) k q
  upto-is first at h e =
      ap (λ (xs : List PlainSpoilStep). xs ++ part_steps q m.time at) (h ∙ ap run_whole (sym (take-map plain_move k ms)))
      ∙ ap (λ (p : PlainPoint). run_whole (take k (plain_moves ms)) ++ part_steps q m.time p) (e ∙ place-split x (plain_moves ms) k q (plain_move m) there)
      ∙ sym (upto-split x (plain_moves ms) k q (plain_move m) there)

  -- what is formed for them
  pub upto-marked : (first : List PlainSpoilStep) (at : PlainPoint) → first ≡ run_whole (plain_moves (take k ms)) → at ≡ point_of x (plain_moves ms) k q
      → valued (λ _. first ++ part_steps q m.time at) (marked_mul frac_arithmetic q m.time) ≡ valued (λ _. run_upto x (plain_moves ms) k q) (place_time (plain_moves ms) k q)
  upto-marked first at h e =
      ap (λ (xs : List PlainSpoilStep). valued (λ _. xs) (marked_mul frac_arithmetic q m.time)) (upto-is first at h e)
      ∙ ap (λ (t : Marked Number). valued (λ _. run_upto x (plain_moves ms) k q) t) (sym (time-split (plain_moves ms) k q (plain_move m) there))

-- ---- results
abbrev state_of : Option PlainSwitch → PlainPoint → PlainState
state_of o x = record { loc = target_in o; at = x }

-- the result of the switch that is there
pub result-is : (a : PlainPlant) (e : ℕ) (x : PlainPoint) (w : PlainSwitch) → slice_get a.switches e ≡ Some w → ◌≡◌ {A = PlainState} (record { loc = w.to; at = x }) (result_at a e x)
result-is a e x w there = ap (λ (o : Option PlainSwitch). state_of o x) (sym there)

-- what an answer comes to
abbrev Course : Type 0
Course = List PlainSpoilStep × SpoilPlace

pair : (x y : List PlainSpoilStep) (u v : SpoilPlace) → x ≡ y → u ≡ v → ◌≡◌ {A = Course} (x, u) (y, v)
pair x y u v e f =
    let left : List PlainSpoilStep → Course = λ (w : List PlainSpoilStep). (w, u) in
    let right : SpoilPlace → Course = λ (w : SpoilPlace). (y, w) in
    ap left e ∙ ap right f

-- the steps with an uncontrollable switch and its result
pub first-done : (e : ℕ) (steps new : List SpoilStep) (z end : State) (x : PlainState) → new ≡ steps ++ Env e z ∷ [] → plain_state z ≡ x → plain_state end ≡ x
    → ◌≡◌ {A = Course} (plain_spoil_steps new, end_place end None) (plain_spoil_steps steps ++ (preempted e x ∷ []), stands_at x)
first-done e steps new z end x h k l =
    pair (plain_spoil_steps new) (plain_spoil_steps steps ++ (preempted e x ∷ [])) (end_place end None) (stands_at x)
    (ap plain_spoil_steps h ∙ map-append plain_spoil_step steps (Env e z ∷ []) ∙ ap (λ (u : PlainState). plain_spoil_steps steps ++ preempted e u ∷ []) k)
    (ap stands_at l)

-- the steps with a controllable switch and its result
pub switch-done : (e : ℕ) (steps more new : List SpoilStep) (z end : State) (x : PlainState) → more ≡ steps ++ Act e ∷ [] → new ≡ more ++ Land z ∷ [] → plain_state z ≡ x → plain_state end ≡ x
    → ◌≡◌ {A = Course} (plain_spoil_steps new, end_place end None) (plain_spoil_steps steps ++ (acted e ∷ landed_at x ∷ []), stands_at x)
switch-done e steps more new z end x g h k l =
    pair (plain_spoil_steps new) (plain_spoil_steps steps ++ (acted e ∷ landed_at x ∷ [])) (end_place end None) (stands_at x)
    (ap plain_spoil_steps (h ∙ ap (λ (us : List SpoilStep). us ++ Land z ∷ []) g ∙ append_assoc steps (Act e ∷ []) (Land z ∷ [])) ∙ map-append plain_spoil_step steps (Act e ∷ Land z ∷ [])
    ∙ ap (λ (u : PlainState). plain_spoil_steps steps ++ acted e ∷ landed_at u ∷ []) k)
    (ap stands_at l)
