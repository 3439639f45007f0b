-- Two legal flows, one after the other, are one.
use Rattle.std.proofs.Common.{◌≡◌, Bool, Result, Ok, Err, Option, Some, None, IsSomeAnd, sym, subst}
use Rattle.std.specs.Prelude.{IfOk}
use Rattle.lhg_math.specs.Number.{Number, add}
use Rattle.lhg_num.specs.Limits.{IsExact}
use Rattle.lhg_num.specs.declared.refusals.Wide.{Wide}
use Rattle.lhg_row.specs.Row.{PlainPoint}
use Rattle.lhg_motion.specs.Flow.{IsFlow}
use Rattle.lhg_motion.specs.Laws.{FlowLaws}
use Rattle.lhg_plant.specs.Plant.{PlainLocation, PlainPlant}
use Rattle.lhg_plant.specs.State.{PlainState, moved_to}
use Rattle.lhg_plant.specs.Legal.{LegalFlow}

-- in a location that may not be there
there_join : (o : Option PlainLocation) (x y z : PlainPoint) (s t : Number) → FlowLaws → IsSomeAnd o (λ l. IsFlow l.inv l.flow x s y) → IsSomeAnd o (λ l. IsFlow l.inv l.flow y t z)
    → IsSomeAnd o (λ l. IsFlow l.inv l.flow x (add s t) z)
there_join None x y z s t laws h k = h
there_join (Some l) x y z s t laws h k = laws.join l.inv l.flow x y z s t h k

-- in a plant
legal_join : (a : PlainPlant) (x : PlainState) (s t : Number) (y z : PlainPoint) → FlowLaws → LegalFlow a x s y → LegalFlow a (moved_to x y) t z → LegalFlow a x (add s t) z
legal_join a x s t y z laws h k = record { start = h.start; flow = there_join _ x.at y z s t laws h.flow k.flow }

-- where the sum of the times is formed
pub joined : (r : Result Number Wide) (b : Bool) (a : PlainPlant) (x : PlainState) (s t : Number) (y z : PlainPoint) → FlowLaws → LegalFlow a x s y → LegalFlow a (moved_to x y) t z
    → IsExact r b (λ q. q ≡ add s t) → IfOk r (λ q. LegalFlow a x q z)
joined (Ok q) b a x s t y z laws h k e = subst (λ w. LegalFlow a x w z) (sym e.1) (legal_join a x s t y z laws h k)
joined (Err w) b a x s t y z laws h k e = tt
