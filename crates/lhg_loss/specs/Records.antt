-- Which records does a round make, in which order, and which region does it leave?
use Rattle.std.specs.Prelude.{ℕ, ◌+◌, ◌-◌, false, cond, ◌||◌, List, [], ◌∷◌, ◌++◌, map, length, get_or, nat_lt}
use Rattle.lhg_num.specs.FracArithmetic.{frac_arithmetic}
use Rattle.lhg_num.specs.Marked.{Marked, and_then, valued, walk}
use Rattle.lhg_row.specs.Piece.{PlainPiece}
use Rattle.lhg_row.specs.Lists.{minus}
use Rattle.lhg_motion.specs.Found.{PlainFound}
use Rattle.lhg_motion.specs.ReachCalculus.{reach}
use Rattle.lhg_plant.specs.Plant.{PlainPlant, PlainLocation}
use Rattle.lhg_plant.specs.Region.{PlainRegion, PlainGuards}
use Rattle.lhg_plant.specs.Invariants.{pieces_at}
use Rattle.lhg_plant.specs.OutCalculus.{PlainHit, PlainOuts, hit_pieces, numbered, out}
use Rattle.lhg_plant.specs.BackCalculus.{back, near_at}
use Rattle.lhg_plant.specs.Loss.{PlainCause, by_env, by_leave, by_flow, PlainLoss}

-- ---- limits
-- how many records there may be over all rounds
abbrev pub record_limit : ℕ
record_limit = 16384

-- how many rows they may have in all
abbrev pub record_row_limit : ℕ
record_row_limit = 262144

-- the rows that a cause names
abbrev pub cause_rows : PlainCause → ℕ
cause_rows (by_env e into) = length into
cause_rows (by_leave through into) = length through + length into
cause_rows (by_flow m through) = length through

-- the rows of records
abbrev pub loss_rows : List PlainLoss → ℕ
loss_rows [] = 0
loss_rows (r ∷ rs) = length r.piece + cause_rows r.cause + loss_rows rs

-- ---- records
-- the pieces alone
abbrev pub pieces_lost : List PlainLoss → List PlainPiece
pieces_lost losses = map (λ r. r.piece) losses

-- the record of a hit of location l, with its number
abbrev pub hit_loss : ℕ → ℕ → ℕ → PlainHit → PlainLoss
hit_loss round l number h = record { number = number; round = round; loc = l; piece = h.piece; cause = by_env h.switch h.into }

-- the records of the hits of location l, numbered from the first
abbrev pub hit_losses : ℕ → ℕ → ℕ → List PlainHit → List PlainLoss
hit_losses round l first [] = []
hit_losses round l first (h ∷ hs) = hit_loss round l first h ∷ hit_losses round l (first + 1) hs

-- why a found piece is lost: the pieces outside the region stand first among those that are reached, and where its crossing leads
-- to another one, that is the piece of the record of this place, the first of which has the number first
abbrev pub found_cause : List PlainPiece → List PlainPiece → ℕ → PlainFound → PlainCause
found_cause away ways first f =
    cond (nat_lt f.to (length away)) (by_leave (get_or ways f.through []) (get_or away f.to [])) (by_flow (first + (f.to - length away)) (get_or ways f.through []))

-- the record of a found piece, with its cause and its number
abbrev pub found_loss : ℕ → ℕ → (PlainFound → PlainCause) → ℕ → PlainFound → PlainLoss
found_loss round l why number f = record { number = number; round = round; loc = l; piece = f.piece; cause = why f }

-- the records of found pieces, from a number on
abbrev pub found_losses : ℕ → ℕ → (PlainFound → PlainCause) → ℕ → List PlainFound → List PlainLoss
found_losses round l why number [] = []
found_losses round l why number (f ∷ fs) = found_loss round l why number f ∷ found_losses round l why (number + 1) fs

-- those of a location: of its hits, and then of what is found from outside the region and from the hits
abbrev pub losses_from : ℕ → ℕ → ℕ → List PlainPiece → List PlainHit → List PlainPiece → List PlainFound → List PlainLoss
losses_from round l first away hits near found =
    hit_losses round l first hits ++ found_losses round l (found_cause away ((away ++ hit_pieces hits) ++ near) first) (first + length hits) found

-- ---- a round
-- the records of location l with these flow rows over n variables: of its hits, and of what reach finds from the pieces outside and the hits
abbrev pub reached_losses : ℕ → ℕ → ℕ → ℕ → List PlainPiece → List PlainHit → List PlainPiece → PlainPiece → Marked (List PlainLoss)
reached_losses n round l first away hits near flow = valued (λ r. losses_from round l first away hits near r.found) (reach frac_arithmetic n (away ++ hit_pieces hits) near flow)

-- the records of a location that stands with its place in the plant, where the states outside the region, the hits and the
-- pieces of each switch back are given
unfoldable pub losses_at : PlainPlant → PlainRegion → PlainOuts → PlainGuards → ℕ → ℕ → ℕ × PlainLocation → Marked (List PlainLoss)
losses_at a region outs kss round first place =
    and_then (near_at a region kss place.0) (λ near.
    reached_losses (length a.vars) round place.0 first (pieces_at outs.away place.0) (get_or outs.hits place.0 []) near place.1.flow)

-- the records of a round, and the region after it
pub record PlainRound : Type 0 where
  pub losses : List PlainLoss
  pub next : PlainRegion

-- a round before its first location
abbrev pub no_round : PlainRound
no_round = record { losses = []; next = [] }

-- one location after those before it
abbrev pub round_at : PlainPlant → PlainRegion → PlainOuts → PlainGuards → ℕ → ℕ → PlainRound → ℕ × PlainLocation → Marked PlainRound
round_at a region outs kss round first so_far place =
    and_then (losses_at a region outs kss round (first + length so_far.losses) place) (λ ls.
    valued (λ rest. record { losses = so_far.losses ++ ls; next = so_far.next ++ rest ∷ [] })
    (minus frac_arithmetic (length a.vars) (pieces_at region place.0) (pieces_lost ls)))

-- the round, with the mark that its records are past their limits: the number of the last one, or their rows
abbrev pub counted_round : ℕ → PlainRound → Marked PlainRound
counted_round first r =
    record { value = r; wide = false; rows = false; pieces = nat_lt (record_limit + 1) (first + length r.losses) || nat_lt record_row_limit (loss_rows r.losses) }

-- all locations in order
abbrev pub round_over : PlainPlant → PlainRegion → PlainOuts → PlainGuards → ℕ → ℕ → Marked PlainRound
round_over a region outs kss round first = walk (round_at a region outs kss round first) no_round (numbered 0 a.locs)

-- a round on the region, with its number and the number of its first record
unfoldable pub one_round : PlainPlant → PlainRegion → ℕ → ℕ → Marked PlainRound
one_round a region round first =
    and_then (out a region) (λ outs.
    and_then (back a region outs.away) (λ kss.
    and_then (round_over a region outs kss round first) (counted_round first)))
