-- From step to step of the way of an explanation.
use Rattle.std.proofs.Common.{◌≡◌, ◌+◌, ◌-◌, ◌<◌, ◌≤◌, ℕ, suc, List, [], ◌∷◌, ◌++◌, Option, Some, None, refl, sym, ap, ◌∙◌, subst, arith, append_assoc, append-nil}
use Rattle.lhg_num.specs.Marked.{Marked, and_then, valued, IsRest}
use Rattle.lhg_num.specs.MarkedLaws.{IsPart, rest_self, rest_rest, rest_part, and_then-rest, and_then-part}
use Rattle.lhg_row.specs.Row.{PlainPoint}
use Rattle.lhg_motion.specs.Play.{PlainMove, last_point}
use Rattle.lhg_plant.specs.Plant.{PlainPlant}
use Rattle.lhg_plant.specs.State.{PlainState}
use Rattle.lhg_plant.specs.Loss.{PlainLoss}
use Rattle.lhg_loss.specs.Explanation.{PlainNext, flows_on, flows_out, switches, way_by, way_within, loss_at, next_by, explanation}
use Rattle.lhg_plant.specs.Explained.{PlainWay, PlainEscape}
use Rattle.lhg_loss.specs.ExplainFacts.{IsHeldBy, state_in}
use Rattle.lhg_explain.proofs.HeldRecords.{IsOnward}

-- a way by its parts
abbrev pub way_of : List PlainMove → Option (ℕ × PlainState) → PlainWay
way_of moves last = record { moves = moves; last = last }

-- the way behind the flows that are known
abbrev pub behind : List PlainMove → PlainWay → PlainWay
behind ms way = record { moves = ms ++ way.moves; last = way.last }

-- what is left of the way after these flows, from the record with the number m
abbrev pub left_way : PlainPlant → List PlainLoss → ℕ → PlainPoint → ℕ → List PlainMove → Marked PlainWay
left_way a losses left x m ms = valued (behind ms) (way_within left a losses (loss_at losses m) (last_point x ms))

-- after i steps: what is left gives the way, and the record with the number m holds the end of the flows
pub record IsOnWay (a : PlainPlant) (losses : List PlainLoss) (number : ℕ) (x : PlainPoint) (i m : ℕ) (ms : List PlainMove) : Type 0 where
  pub within : m + i ≤ number
  pub rest : (left : ℕ) → left + i ≡ number → IsRest (way_within number a losses (loss_at losses number) x) (left_way a losses left x m ms)
  pub held : IsHeldBy a losses m (state_in losses m (last_point x ms))

-- at the start all is left
pub on_way-start : (a : PlainPlant) (losses : List PlainLoss) (number : ℕ) (x : PlainPoint) → IsHeldBy a losses number (state_in losses number x) → IsOnWay a losses number x 0 number []
on_way-start a losses number x h = record {
  within = omega arith;
  rest = λ left e. (let same : left ≡ number = omega arith in
      subst (λ k. IsRest (way_within number a losses (loss_at losses number) x) (left_way a losses k x number [])) (sym same) (rest_self (way_within number a losses (loss_at losses number) x)));
  held = h;
}

-- the end of flows with one more
pub last_more : (x : PlainPoint) (ms : List PlainMove) (move : PlainMove) → last_point x (ms ++ move ∷ []) ≡ move.to
last_more x [] move = refl
last_more x (m ∷ ms) move = last_more m.to ms move

module _ (a : PlainPlant) (losses : List PlainLoss) (number : ℕ) (x : PlainPoint) (i m : ℕ) (ms : List PlainMove) (h : IsOnWay a losses number x i m ms) (less : i < number) where
  abbrev whole : Marked PlainWay
  whole = way_within number a losses (loss_at losses number) x

  -- how many steps there may be after the next one
  abbrev left : ℕ
  left = number - suc i

  abbrev y : PlainPoint
  y = last_point x ms

  abbrev pub step : Marked PlainNext
  step = next_by a losses (loss_at losses m) y (loss_at losses m).cause

  abbrev further : PlainNext → Marked PlainWay
  further = way_by losses (way_within left a losses)

  here : IsRest whole (valued (behind ms) (and_then step further))
  here = h.rest (suc left) (omega arith)

  -- the marks of the step
  pub step_part : IsPart whole step
  step_part = rest_part whole (valued (behind ms) (and_then step further)) step here (record { wide = (and_then-part step further).wide; rows = (and_then-part step further).rows; pieces = (and_then-part step further).pieces })

  -- what is left after it
  after : (next : PlainNext) → next ≡ step.value → IsRest whole (valued (behind ms) (further next))
  after next e =
      let r = and_then-rest step further in
      let n : IsRest (valued (behind ms) (and_then step further)) (valued (behind ms) (further step.value)) = record { same = refl; wide = r.wide; rows = r.rows; pieces = r.pieces } in
      subst (λ w. IsRest whole (valued (behind ms) (further w))) (sym e) (rest_rest whole (valued (behind ms) (and_then step further)) (valued (behind ms) (further step.value)) here n)

  -- a step that ends the way
  pub ends_out : (move : PlainMove) → flows_out move ≡ step.value → way_of (ms ++ move ∷ []) None ≡ whole.value
  ends_out move e = (after (flows_out move) e).same

  pub ends_by : (k : ℕ) (s : PlainState) → switches k s ≡ step.value → way_of ms (Some (k, s)) ≡ whole.value
  ends_by k s e = ap (λ (ws : List PlainMove). way_of ws (Some (k, s))) (sym (append-nil ms)) ∙ (after (switches k s) e).same

  -- a step that goes on
  pub goes_on : (move : PlainMove) (k : ℕ) → flows_on move k ≡ step.value → IsOnward a losses m move k → IsOnWay a losses number x (suc i) k (ms ++ move ∷ [])
  goes_on move k e o =
      let w = h.within in
      let s = o.smaller in
      let n = after (flows_on move k) e in
      record {
        within = omega arith;
        rest = λ j f. (let same : j ≡ left = omega arith in subst (λ l. IsRest whole (left_way a losses l x k (ms ++ move ∷ []))) (sym same) (next n));
        held = subst (λ (z : PlainPoint). IsHeldBy a losses k (state_in losses k z)) (sym (last_more x ms move)) o.held;
      }
    where
      next : IsRest whole (valued (behind ms) (further (flows_on move k))) → IsRest whole (left_way a losses left x k (ms ++ move ∷ []))
      next n =
          let w = way_within left a losses (loss_at losses k) move.to in
          let moved : IsRest whole (valued (behind (ms ++ move ∷ [])) w) = record {
            same = ap (λ (ws : List PlainMove). way_of ws w.value.last) (append_assoc ms (move ∷ []) w.value.moves) ∙ n.same;
            wide = n.wide;
            rows = n.rows;
            pieces = n.pieces;
          } in
          subst (λ (z : PlainPoint). IsRest whole (valued (behind (ms ++ move ∷ [])) (way_within left a losses (loss_at losses k) z))) (sym (last_more x ms move)) moved

-- ---- the whole
-- an escape by its parts
abbrev pub escape_of : ℕ → PlainState → PlainWay → PlainEscape
escape_of round start way = record { round = round; start = start; way = way }

-- the marks of an explanation are those of its way
pub explanation-part : (a : PlainPlant) (losses : List PlainLoss) (m : ℕ) (s : PlainState) → IsPart (explanation a losses m s) (way_within m a losses (loss_at losses m) s.at)
unfolding explanation
explanation-part a losses m s = record { wide = λ h. h; rows = λ h. h; pieces = λ h. h }

-- its value
pub explanation-value : (a : PlainPlant) (losses : List PlainLoss) (m : ℕ) (s : PlainState)
    → (explanation a losses m s).value ≡ escape_of (loss_at losses m).round s (way_within m a losses (loss_at losses m) s.at).value
unfolding explanation
explanation-value a losses m s = refl
