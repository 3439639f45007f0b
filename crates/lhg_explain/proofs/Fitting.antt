-- An explanation fits its plant, and the first record that holds a state is one that does.
use Rattle.std.proofs.Common.{◌≡◌, ◌<◌, ℕ, zero, suc, List, [], ◌∷◌, ◌++◌, length, slice_get, Option, Some, None, IsSomeAnd, refl, sym, ◌∙◌, inl, inr, arith}
use Rattle.std.specs.Prelude.{Contains}
use Rattle.std.proofs.lemmas.List.Elements.{Contains-append_right}
use Rattle.lhg_math.specs.Tests.{AllOf}
use Rattle.lhg_row.specs.Row.{PlainPoint}
use Rattle.lhg_row.specs.Piece.{PlainPiece}
use Rattle.lhg_motion.specs.Play.{PlainMove, IsPlay, last_point}
use Rattle.lhg_plant.specs.Plant.{PlainPlant, PlainLocation}
use Rattle.lhg_plant.specs.State.{PlainState, States, IsState, moved_to}
use Rattle.lhg_plant.specs.Round.{InRound}
use Rattle.lhg_plant.specs.Loss.{PlainLoss}
use Rattle.lhg_plant.proofs.Options.{some_out}
use Rattle.lhg_loss.specs.Holding.{IsFirstHolding}
use Rattle.lhg_plant.specs.Explained.{PlainEscape}
use Rattle.lhg_loss.specs.ExplainFacts.{IsHeldBy}
use Rattle.lhg_plant.specs.Explained.{IsLeft, IsExplained, IsPlacedLast, FitsPlant}
use Rattle.lhg_explain.proofs.NextSteps.{there_below, some_below}

-- the flows of a play end at points with as many coordinates as its start
flows_fit : (n : ℕ) (inv flow : PlainPiece) (x : PlainPoint) (moves : List PlainMove) → length x ≡ n → IsPlay inv flow x moves → AllOf (λ (m : PlainMove). length m.to ≡ n) moves
flows_fit n inv flow x [] e h = tt
flows_fit n inv flow x (m ∷ ms) e h = let here : length m.to ≡ n = sym h.0.same_length ∙ e in (here, flows_fit n inv flow m.to ms here h.1)

-- the switch that leaves is there, and so is its result
last_fits : (a : PlainPlant) (S : States) (s : PlainState) (last : Option (ℕ × PlainState)) → IsLeft a S s last → IsPlacedLast a last
last_fits a S s None h = tt
last_fits a S s (Some last) h = (there_below a.switches last.0 h.1.switch h.1.is_there, some_below _ a.locs last.1.loc h.1.result.inside, h.1.result.fits)

-- an explanation fits the plant
pub explained_fits : (a : PlainPlant) (s : PlainState) (e : PlainEscape) → IsExplained a s e → FitsPlant a e.way
explained_fits a s e h = record {
  moves = some_out _ _ (λ (l : PlainLocation) p. flows_fit (length a.vars) l.inv l.flow s.at e.way.moves h.escape.play.start.fits p) (slice_get a.locs s.loc) h.escape.play.play;
  last = last_fits a (InRound a h.before) (moved_to s (last_point s.at e.way.moves)) e.way.last h.left;
}

-- the first record that holds a state holds it
pub first_held : (a : PlainPlant) (s : PlainState) (losses : List PlainLoss) (m : ℕ) → IsState a s → IsFirstHolding s losses (Some m) → IsHeldBy a losses m s
first_held a s [] m i h = absurd cc
first_held a s (r ∷ rs) m i (inl h) =
    let number : r.number ≡ m = cc in
    record { loss = r; listed = (zero, omega arith, refl); number = number; holds = record { state = i; here = sym h.0.here; inside = h.0.inside } }
first_held a s (r ∷ rs) m i (inr h) =
    let t = first_held a s rs m i h.1 in
    record { loss = t.loss; listed = Contains-append_right (r ∷ []) rs t.loss t.listed; number = t.number; holds = t.holds }
