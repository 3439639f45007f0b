-- What may the calls of an exchange answer?
use Rattle.std.specs.Prelude.{◌≡◌, ◌⊎◌, ◌<◌, ◌≤◌, ◌-◌, ℕ, true, false, cond, nat_lt, List, length, slice_get, Option, Some, None, Result, Ok, Err, IsSomeAnd}
use Rattle.lhg_math.specs.Number.{Number, lt, nought, unit}
use Rattle.lhg_num.specs.declared.refusals.Halt.{Halt}
use Rattle.lhg_num.specs.declared.refusals.Halt.TheVariants.{Wide, Rows, Pieces, Memory}
use Rattle.lhg_num.specs.FracArithmetic.{frac_arithmetic}
use Rattle.lhg_num.specs.Marked.{Marked}
use Rattle.lhg_row.specs.Row.{PlainPoint}
use Rattle.lhg_motion.specs.Play.{PlainMove}
use Rattle.lhg_plant.specs.Explained.{PlainWay}
use Rattle.lhg_plant.specs.Loss.{PlainLoss}
use Rattle.lhg_plant.specs.Plant.{PlainPlant}
use Rattle.lhg_plant.specs.Rank.{HasRank, IsPast}
use Rattle.lhg_plant.specs.State.{PlainState}
use Rattle.lhg_loss.specs.Holding.{holding, IsFirstHolding}
use Rattle.lhg_spoil.specs.declared.answers.Answer.{Answer}
use Rattle.lhg_spoil.specs.Exchange.{IsFirstFibre, HasNoFibre, Answers}
use Rattle.lhg_spoil.specs.Moves.{PlainCtlMove, IsLegalMove}
use Rattle.lhg_spoil.specs.Views.{plain_answer}
use Rattle.lhg_plant.specs.LegalTruths.{safe_truth}

-- an answer has the fact P; a halt comes only for the mark of something that is formed
abbrev pub IsAnsweredBy : {T : Type 0} → Result T Halt → (T → Type 0) → (Marked (Unit {0}) → Type 0) → Type 0
IsAnsweredBy (Ok x) P F = P x
IsAnsweredBy (Err Wide) P F = (m : Marked (Unit {0})) × F m × (m.wide ≡ true)
IsAnsweredBy (Err Rows) P F = (m : Marked (Unit {0})) × F m × (m.rows ≡ true)
IsAnsweredBy (Err Pieces) P F = (m : Marked (Unit {0})) × F m × (m.pieces ≡ true)
IsAnsweredBy (Err Memory) P F = Unit {0}

-- the rank of a state that lies outside round j, and none where it does not
abbrev pub IsRankWithin : PlainPlant → ℕ → PlainState → Option ℕ → Type 0
IsRankWithin a j s None = ¬ IsPast a j s
IsRankWithin a j s (Some rank) = IsPast a j s × HasRank a rank s

-- whether a row of a safe line, or of a piece of a record, of the state's location holds there is answered by a wide number
abbrev pub IsWideHold : PlainPlant → List PlainLoss → PlainState → Type 0
IsWideHold a losses s = ((safe_truth frac_arithmetic a s).wide ≡ true) ⊎ ((holding s losses).wide ≡ true)

-- the first uncontrollable switch with a fibre at the state past round j, with the fibres' result, and none where no one has
abbrev pub IsFirstFibreIn : PlainPlant → List PlainLoss → ℕ → PlainState → Option (ℕ × PlainPoint) → Type 0
IsFirstFibreIn a losses j s None = HasNoFibre a losses j s
IsFirstFibreIn a losses j s (Some f) = IsFirstFibre a losses j s f.0 f.1

-- the answer to a move that is legal, and none to one that is not
abbrev pub IsReply : PlainPlant → List PlainLoss → ℕ → PlainState → PlainWay → PlainCtlMove → Option Answer → Type 0
IsReply a losses j s way move None = ¬ IsLegalMove a s way.moves move
IsReply a losses j s way move (Some r) = IsLegalMove a s way.moves move × Answers a losses j s way move (plain_answer r).0 (plain_answer r).1

-- the place q of flow k, flows counted from 1, is one of the play, and not the end of the flow; and switch e leaves the location
pub record IsPlaced (a : PlainPlant) (s : PlainState) (moves : List PlainMove) (k : ℕ) (q : Number) (e : ℕ) : Type 0 where
  pub counted : 0 < k
  pub within : k ≤ length moves
  pub from_start : lt q nought ≡ false
  pub before_end : lt q unit ≡ true
  pub leaves : IsSomeAnd (slice_get a.switches e) (λ w. w.from ≡ s.loc)

-- the round of the first record that holds the state, and none where none does
abbrev pub IsRoundOfFirst : PlainState → List PlainLoss → Option ℕ → Type 0
IsRoundOfFirst s losses None = IsFirstHolding s losses None
IsRoundOfFirst s losses (Some i) = (m : ℕ) × (r : PlainLoss) × IsFirstHolding s losses (Some m) × (slice_get losses (m - 1) ≡ Some r) × (r.round ≡ i)

-- a round, where it is at most j
abbrev pub upto_of : ℕ → Option ℕ → Option ℕ
upto_of j None = None
upto_of j (Some i) = cond (nat_lt j i) None (Some i)
