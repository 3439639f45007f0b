-- The small cases, by computation.
use Rattle.std.proofs.Common.{◌≡◌, refl, [], ◌∷◌, zero, suc, length, true, false, ap, sym, ◌∙◌, arith}
use Rattle.lhg_math.specs.Gcd.{gcd}
use Rattle.lhg_math.specs.Represents.{number_ext}
use Rattle.lhg_math.specs.Number.{Number, add, mul, neg, sub, lt, nought, unit, half, whole, ratio, ratio_suc}
use Rattle.lhg_math.specs.NumberRing.{nought-add, neg-mul, nought-mul}
use Rattle.lhg_math.specs.NumberOrder.{nought_unit, lt_irrefl, lt_asym, neg-lt_nought}
use Rattle.lhg_math.specs.Interpolate.{interpolate}
use Rattle.lhg_math.specs.InterpolateLaws.{unit-mul}
use Rattle.lhg_math.specs.PlacesLaws.{end_place}
use Rattle.lhg_row.specs.Row.{PlainPoint}
use Rattle.lhg_row.specs.Piece.{InPiece}
use Rattle.lhg_motion.specs.Segment.{along}
use Rattle.lhg_motion.specs.Flow.{IsFlow}
use Rattle.lhg_motion.specs.Play.{IsEarlier}
use Rattle.lhg_motion.specs.CheckPoint.{IsTurn}
use Rattle.lhg_row.specs.Decisions.{clash}
use Rattle.lhg_row.specs.Example.{two, below}
use Rattle.lhg_motion.specs.MotionExample.{slow, flat, two_moves, MotionFacts}

-- half of the way from 0 to 1
half_way : along (nought ∷ []) (unit ∷ []) half ≡ half ∷ []
unfolding gcd interpolate lt add mul neg sub nought unit half whole ratio ratio_suc
half_way = ap (λ w. w ∷ []) (number_ext (interpolate nought unit half) half refl refl)

-- a flow at speed 1
half_flow : IsFlow [] slow (nought ∷ []) half (half ∷ [])
unfolding gcd lt add mul neg sub nought unit half whole ratio ratio_suc
half_flow = record {
  takes_time = refl;
  from_in = tt;
  to_in = tt;
  same_length = refl;
  speed = unit ∷ [];
  slope = ap (λ w. w ∷ []) (number_ext (sub half nought) (mul half unit) refl refl);
  allowed = (refl, tt);
}

-- the first of two flows at speed 1
first_flow : IsFlow [] slow (nought ∷ []) unit (unit ∷ [])
unfolding gcd lt add mul neg sub nought unit half whole ratio ratio_suc
first_flow = record {
  takes_time = refl;
  from_in = tt;
  to_in = tt;
  same_length = refl;
  speed = unit ∷ [];
  slope = ap (λ w. w ∷ []) (number_ext (sub unit nought) (mul unit unit) refl refl);
  allowed = (refl, tt);
}

-- the second of them
second_flow : IsFlow [] slow (unit ∷ []) unit (two ∷ [])
unfolding gcd lt add mul neg sub nought unit half whole ratio ratio_suc
second_flow = record {
  takes_time = refl;
  from_in = tt;
  to_in = tt;
  same_length = refl;
  speed = unit ∷ [];
  slope = ap (λ w. w ∷ []) (number_ext (sub two unit) (mul unit unit) refl refl);
  allowed = (refl, tt);
}

-- the end of the second of two flows is no earlier place
end_not_earlier : IsEarlier two_moves (suc zero) unit → ⊥
end_not_earlier h = clash (lt unit unit) (h.before_end refl) (lt_irrefl unit)

-- x < 1/2 turns half of the way from 0 to 1
half_turn : IsTurn (below half) (nought ∷ []) (unit ∷ []) half
unfolding gcd interpolate lt add mul neg sub nought unit half whole ratio ratio_suc
half_turn = record { moves = λ e. clash (lt nought unit) nought_unit (differ e); tight = number_ext _ half refl refl }
  where
    differ : add nought (mul unit nought) ≡ add nought (mul unit unit) → lt nought unit ≡ false
    differ e = ap (λ w. lt nought w) (sym (sym (nought-add (mul unit nought) ∙ unit-mul nought) ∙ e ∙ nought-add (mul unit unit) ∙ unit-mul unit)) ∙ lt_irrefl nought

-- a row without a variable turns nowhere
no_turn : (p : Number) → IsTurn flat (nought ∷ []) (unit ∷ []) p → ⊥
no_turn p h = h.moves (ap (λ w. add nought w) (nought-mul nought ∙ sym (nought-mul unit)))

-- motion
pub motion : MotionFacts
motion = record {
  half_way = half_way;
  flow = half_flow;
  play = (first_flow, (second_flow, tt));
  last = refl;
  earlier = record { flow = omega arith; place = end_place; before_end = λ (e : suc zero ≡ length two_moves). absurd (omega arith) };
  not_earlier = end_not_earlier;
  turn = half_turn;
  no_turn = no_turn;
}
