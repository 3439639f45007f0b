-- What do the definitions say of a plant with a switch whose result the controller picks?
use Rattle.std.specs.Prelude.{◌≡◌, ℕ, ℤ, pos, negsuc, false, List, [], ◌∷◌, map, codes, Option, Some, None, option_map}
use Rattle.lhg_math.specs.Number.{neg, nought, unit, whole}
use Rattle.lhg_num.specs.FracArithmetic.{frac_arithmetic}
use Rattle.lhg_row.specs.Row.{PlainRow, PlainPoint}
use Rattle.lhg_row.specs.Piece.{PlainPiece}
use Rattle.lhg_row.specs.PutIn.{put_in}
use Rattle.lhg_row.specs.Worked.{seen, seen_row}
use Rattle.lhg_plant.specs.declared.plants.Side.{Side}
use Rattle.lhg_plant.specs.declared.plants.Side.TheVariants.{Ctl, Pick}
use Rattle.lhg_plant.specs.Plant.{PlainPlant}
use Rattle.lhg_plant.specs.State.{PlainState, IsSafe}
use Rattle.lhg_plant.specs.OutBack.{Back}
use Rattle.lhg_plant.specs.Region.{PlainRegion}
use Rattle.lhg_plant.specs.Pick.{picked_result}
use Rattle.lhg_plant.specs.Example.{at_most, at_least}

-- -x + x' <= 1, over the old value and then the new one
abbrev pub one_more : PlainRow
one_more = record { coefs = neg unit ∷ unit ∷ []; strict = false; bound = unit }

-- it runs at speed 1 from 0 to 10, and is safe up to 8; to rest, which is safe up to 5, it comes by a switch of this side, at up to
-- one more than before
abbrev pub lift : Side → PlainPlant
lift side = record {
  vars = codes "x" ∷ [];
  locs = record { name = codes "run"; inv = at_least 0 ∷ at_most 10 ∷ []; flow = at_least 1 ∷ at_most 1 ∷ []; safe = (at_most 8 ∷ []) ∷ [] }
      ∷ record { name = codes "rest"; inv = at_least 0 ∷ at_most 10 ∷ []; flow = []; safe = (at_most 5 ∷ []) ∷ [] } ∷ [];
  switches = record { name = codes "go"; from = 0; to = 1; side = side; jump = one_more ∷ [] } ∷ [];
}

-- running at 8
abbrev pub run_at_eight : PlainState
run_at_eight = record { loc = 0; at = whole (pos 8) ∷ [] }

-- 0 to 8 of run, and these pieces of rest
abbrev pub kept_lift : List PlainPiece → PlainRegion
kept_lift rest = ((at_least 0 ∷ at_most 8 ∷ []) ∷ []) ∷ rest ∷ []

-- what is picked has these coordinates, each as numerator and denominator, or nothing is
abbrev pub IsPickedAt : Option PlainPoint → Option (List (ℤ × ℕ)) → Type 0
IsPickedAt o at = option_map (map seen) o ≡ at

-- at 8 the controller can pick a result that is safe, so 8 is in Back of the safe states; where the plant picks it, it may be 6, and 8
-- is not. With 8 put in, -x + x' <= 1 is x' <= 9. Of 0 to 5 it picks 0; of 2 to 5 and then 0 to 5 it picks 2; of 10 upwards there is
-- no result, so of that and then 4 upwards it picks 4, and of that alone nothing, as where rest has no piece
pub record LiftFacts : Type 0 where
  pub back : Back (lift Pick) (IsSafe (lift Pick)) run_at_eight
  pub not_back : ¬ Back (lift Ctl) (IsSafe (lift Ctl)) run_at_eight
  pub row : seen_row (put_in frac_arithmetic (whole (pos 8) ∷ []) one_more).value ≡ seen_row (at_most 9)
  pub first : IsPickedAt (picked_result (lift Pick) (kept_lift ((at_least 0 ∷ at_most 5 ∷ []) ∷ [])) 0 run_at_eight).value (Some ((pos 0, 1) ∷ []))
  pub in_order : IsPickedAt (picked_result (lift Pick) (kept_lift ((at_least 2 ∷ at_most 5 ∷ []) ∷ (at_least 0 ∷ at_most 5 ∷ []) ∷ [])) 0 run_at_eight).value (Some ((pos 2, 1) ∷ []))
  pub passed_over : IsPickedAt (picked_result (lift Pick) (kept_lift ((at_least 10 ∷ []) ∷ (at_least 4 ∷ []) ∷ [])) 0 run_at_eight).value (Some ((pos 4, 1) ∷ []))
  pub none : IsPickedAt (picked_result (lift Pick) (kept_lift ((at_least 10 ∷ []) ∷ [])) 0 run_at_eight).value None
  pub empty : IsPickedAt (picked_result (lift Pick) (kept_lift []) 0 run_at_eight).value None
