-- What does the iteration give for known plants, by computation alone?
use Rattle.std.specs.Prelude.{◌≡◌, ℕ, ℤ, pos, negsuc, Bool, List, [], ◌∷◌, map, codes}
use Rattle.std.proofs.Common.{refl}
use Rattle.lhg_math.specs.Gcd.{gcd}
use Rattle.lhg_math.specs.Number.{ratio_suc, ratio, add, mul, neg, sub, whole, lt, nought, unit, inverse, quot, half, mid}
use Rattle.lhg_row.specs.Piece.{PlainPiece}
use Rattle.lhg_row.specs.Trim.{trim}
use Rattle.lhg_row.specs.Eliminate.{eliminate}
use Rattle.lhg_row.specs.Pieces.{make}
use Rattle.lhg_row.specs.Lists.{minus, meet_lists}
use Rattle.lhg_row.specs.Worked.{weak, one, minus_one, seen, seen_rows}
use Rattle.lhg_row.specs.WorkedPieces.{at_most, below, not_below, above}
use Rattle.lhg_motion.specs.CrossCalculus.{cross}
use Rattle.lhg_motion.specs.ReachCalculus.{layer_of, reach}
use Rattle.lhg_plant.specs.declared.plants.Side.TheVariants.{Ctl, Env, Pick}
use Rattle.lhg_plant.specs.Plant.{PlainPlant}
use Rattle.lhg_plant.specs.Proper.{IsProper}
use Rattle.lhg_plant.specs.Loss.{PlainCause, by_env, by_leave, by_flow, PlainLoss}
use Rattle.lhg_plant.specs.SafeRegion.{safe_region}
use Rattle.lhg_plant.specs.Invariants.{invariants}
use Rattle.lhg_plant.specs.Pre.{pre_piece, pre_list}
use Rattle.lhg_plant.specs.OutCalculus.{away, hits_at, out}
use Rattle.lhg_plant.specs.BackCalculus.{back_by, back, near_at, guards}
use Rattle.lhg_loss.specs.Records.{losses_at, one_round}
use Rattle.lhg_loss.specs.Iterate.{PlainSolution, solved, spent, stage, solution}
use Rattle.lhg_loss.specs.LimitFacts.{IsWithinLists}
use Rattle.lhg_loss.specs.StageFacts.{IsSolvedWithin}

-- ---- plants
-- x rises at speed 1 up to 10, and is safe up to 8
abbrev pub rising : PlainPlant
rising = record {
  vars = codes "x" ∷ [];
  locs = record { name = codes "only"; inv = not_below (pos 0) ∷ at_most (pos 10) ∷ []; flow = at_most (pos 1) ∷ not_below (negsuc 0) ∷ []; safe = (at_most (pos 8) ∷ []) ∷ [] } ∷ [];
  switches = [];
}

-- the value stays over a switch
abbrev pub keep : PlainPiece
keep = weak (minus_one ∷ one ∷ []) (pos 0) ∷ weak (one ∷ minus_one ∷ []) (pos 0) ∷ []

-- a thermostat: heating at 1 to 2, cooling at 1 to 2, safe from 18 to 22, where the switch off has these rows
abbrev pub thermostat : PlainPiece → PlainPlant
thermostat off = record {
  vars = codes "x" ∷ [];
  locs =
      record { name = codes "heat"; inv = not_below (pos 0) ∷ at_most (pos 40) ∷ []; flow = not_below (negsuc 0) ∷ at_most (pos 2) ∷ []; safe = (not_below (negsuc 17) ∷ at_most (pos 22) ∷ []) ∷ [] }
      ∷ record { name = codes "cool"; inv = not_below (pos 0) ∷ at_most (pos 40) ∷ []; flow = not_below (pos 2) ∷ at_most (negsuc 0) ∷ []; safe = (not_below (negsuc 17) ∷ at_most (pos 22) ∷ []) ∷ [] }
      ∷ [];
  switches = record { name = codes "off"; from = 0; to = 1; side = Ctl; jump = off } ∷ record { name = codes "on"; from = 1; to = 0; side = Ctl; jump = keep } ∷ [];
}

-- a thermostat that can be switched off from 23 on only
abbrev pub late : PlainPlant
late = thermostat (weak (minus_one ∷ pos 0 ∷ []) (negsuc 22) ∷ keep)

-- the plant may double x, which is safe up to 1
abbrev pub doubling : PlainPlant
doubling = record {
  vars = codes "x" ∷ [];
  locs = record { name = codes "grow"; inv = not_below (pos 0) ∷ []; flow = at_most (pos 0) ∷ not_below (pos 0) ∷ []; safe = (at_most (pos 1) ∷ []) ∷ [] } ∷ [];
  switches = record { name = codes "double"; from = 0; to = 0; side = Env; jump = weak (negsuc 1 ∷ one ∷ []) (pos 0) ∷ weak (pos 2 ∷ minus_one ∷ []) (pos 0) ∷ [] } ∷ [];
}

-- x rises in run, where it is safe up to 8; the controller may go to rest, where it is safe up to 5, and picks x by the rows of the jump
abbrev pub picking : PlainPiece → PlainPlant
picking jump = record {
  vars = codes "x" ∷ [];
  locs =
      record { name = codes "run"; inv = not_below (pos 0) ∷ at_most (pos 10) ∷ []; flow = at_most (pos 1) ∷ not_below (negsuc 0) ∷ []; safe = (at_most (pos 8) ∷ []) ∷ [] }
      ∷ record { name = codes "rest"; inv = not_below (pos 0) ∷ at_most (pos 10) ∷ []; flow = at_most (pos 0) ∷ not_below (pos 0) ∷ []; safe = (at_most (pos 5) ∷ []) ∷ [] }
      ∷ [];
  switches = record { name = codes "go"; from = 0; to = 1; side = Pick; jump = jump } ∷ [];
}

-- ---- what is seen
-- the kind of a cause, and the number of its switch or record
abbrev pub seen_cause : PlainCause → ℕ × ℕ
seen_cause (by_env e into) = (0, e)
seen_cause (by_leave through into) = (1, 0)
seen_cause (by_flow m through) = (2, m)

-- number, round, location, cause and rows of a record
abbrev pub SeenLoss : Type 0
SeenLoss = ℕ × ℕ × ℕ × (ℕ × ℕ) × List (List (ℤ × ℕ) × Bool × (ℤ × ℕ))

abbrev pub seen_loss : PlainLoss → SeenLoss
seen_loss l = (l.number, l.round, l.loc, seen_cause l.cause, seen_rows l.piece)

-- a record as it is expected
abbrev pub lost_by : ℕ → ℕ → ℕ → ℕ × ℕ → PlainPiece → SeenLoss
lost_by number round loc cause piece = (number, round, loc, cause, seen_rows piece)

-- the number of rounds, the region, the guards and the records; 0 rounds, the location and the point where the budget is spent
abbrev pub SeenSolution : Type 0
SeenSolution = ℕ × List (List (List (List (ℤ × ℕ) × Bool × (ℤ × ℕ)))) × List (List (List (List (ℤ × ℕ) × Bool × (ℤ × ℕ)))) × List SeenLoss × ℕ × List (ℤ × ℕ)

abbrev pub seen_solution : PlainSolution → SeenSolution
seen_solution (solved rounds region guards losses) = (rounds, map (map seen_rows) region, map (map seen_rows) guards, map seen_loss losses, 0, [])
seen_solution (spent s) = (0, [], [], [], s.loc, map seen s.at)

-- 18 <= x <= 22
abbrev pub comfort : PlainPiece
comfort = not_below (negsuc 17) ∷ at_most (pos 22) ∷ []

-- rising: 8 leaves, and what is below flows to 8. The thermostat keeps all. The late one loses heating in round 1 and then cooling
-- in round 2, and with a budget of 2 the state 18 of cooling shows this. Doubling loses the upper half in each round.
-- Picking keeps all where any result may be picked; where none below 6 may be, it loses run as rising does
pub record RoundRows : Type 0 where
  pub rises : seen_solution (solution rising 64) ≡ (2, [] ∷ [], [], lost_by 1 1 0 (1, 0) (not_below (negsuc 7) ∷ at_most (pos 8) ∷ []) ∷ lost_by 2 1 0 (2, 1) (not_below (pos 0) ∷ below (pos 8) ∷ []) ∷ [], 0, [])
  pub keeps : seen_solution (solution (thermostat keep) 64)
      ≡ (1, map (map seen_rows) ((comfort ∷ []) ∷ (comfort ∷ []) ∷ []), map (map seen_rows) ((comfort ∷ []) ∷ (comfort ∷ []) ∷ []), [], 0, [])
  pub depends : seen_solution (solution late 3)
      ≡ (
        3,
        [] ∷ [] ∷ [],
        [] ∷ [] ∷ [],
        lost_by 1 1 0 (1, 0) (not_below (negsuc 21) ∷ at_most (pos 22) ∷ [])
            ∷ lost_by 2 1 0 (2, 1) (not_below (negsuc 17) ∷ below (pos 22) ∷ [])
            ∷ lost_by 3 2 1 (1, 0) (not_below (negsuc 17) ∷ at_most (pos 18) ∷ [])
            ∷ lost_by 4 2 1 (2, 3) (above (negsuc 17) ∷ at_most (pos 22) ∷ [])
            ∷ [],
        0,
        [],
      )
  pub spends : seen_solution (solution late 2) ≡ (0, [], [], [], 1, (pos 18, 1) ∷ [])
  pub picks : seen_solution (solution (picking []) 64)
      ≡ (
        1,
        map (map seen_rows) (((not_below (pos 0) ∷ at_most (pos 8) ∷ []) ∷ []) ∷ ((not_below (pos 0) ∷ at_most (pos 5) ∷ []) ∷ []) ∷ []),
        map (map seen_rows) (((not_below (pos 0) ∷ at_most (pos 8) ∷ []) ∷ []) ∷ []),
        [],
        0,
        [],
      )
  pub picks_too_high : seen_solution (solution (picking (weak (pos 0 ∷ minus_one ∷ []) (negsuc 5) ∷ [])) 64)
      ≡ (
        2,
        [] ∷ map (map seen_rows) (((not_below (pos 0) ∷ at_most (pos 5) ∷ []) ∷ []) ∷ []),
        [] ∷ [],
        lost_by 1 1 0 (1, 0) (not_below (negsuc 7) ∷ at_most (pos 8) ∷ []) ∷ lost_by 2 1 0 (2, 1) (not_below (pos 0) ∷ below (pos 8) ∷ []) ∷ [],
        0,
        [],
      )
  pub doubles : seen_solution (solution doubling 3) ≡ (0, [], [], [], 0, (pos 1, 4) ∷ [])

-- rising is a plant, stays within the limits for 64 rounds, and is solved
abbrev pub RisingSolved : Type 0
RisingSolved = IsProper rising × IsWithinLists rising 64 × IsSolvedWithin rising 64 (solution rising 64)

-- ---- by computation
pub round_rows : RoundRows
unfolding gcd ratio_suc ratio add mul neg sub whole lt nought unit inverse quot half mid trim eliminate make minus meet_lists cross layer_of reach safe_region invariants pre_piece pre_list away hits_at out back_by back near_at guards losses_at one_round stage solution
round_rows = record {
  rises = refl;
  keeps = refl;
  depends = refl;
  spends = refl;
  picks = refl;
  picks_too_high = refl;
  doubles = refl;
}
