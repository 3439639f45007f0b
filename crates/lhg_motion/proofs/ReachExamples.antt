-- The example of three pieces of a line, by computation.
use Rattle.std.specs.Prelude.{◌≡◌, Bool, not, zero, suc, true, false, [], ◌∷◌, length}
use Rattle.std.proofs.Common.{refl, sym, ap, ◌∙◌, inl, inr, arith}
use Rattle.lhg_math.specs.Gcd.{gcd}
use Rattle.lhg_math.specs.Represents.{number_ext}
use Rattle.lhg_math.specs.Number.{Number, add, mul, neg, sub, lt, nought, unit, half, whole, ratio, ratio_suc}
use Rattle.lhg_math.specs.NumberRing.{neg-mul, nought-add}
use Rattle.lhg_math.specs.NumberOrder.{lt-neg, le_trans}
use Rattle.lhg_math.specs.Interpolate.{interpolate}
use Rattle.lhg_math.specs.InterpolateLaws.{unit-mul}
use Rattle.lhg_math.specs.PlacesLaws.{half_inner}
use Rattle.lhg_math.specs.Tests.{false_true}
use Rattle.lhg_row.specs.Row.{PlainPoint}
use Rattle.lhg_row.specs.Piece.{InPiece, InClosure}
use Rattle.lhg_motion.specs.Segment.{along}
use Rattle.lhg_row.specs.Example.{two}
use Rattle.lhg_motion.specs.Convex.{piece_between, piece_ends}
use Rattle.lhg_motion.specs.Flow.{IsFlow}
use Rattle.lhg_motion.specs.Reach.{InLevel}
use Rattle.lhg_motion.specs.ReachSound.{level_play}
use Rattle.lhg_motion.specs.ReachExample.{first_part, second_part, third_part, onward, bad_part, near_parts, origin, ReachExampleFacts}

first_flow : IsFlow [] onward origin unit (unit ∷ [])
unfolding gcd lt add mul neg sub nought unit half whole ratio ratio_suc
first_flow = record { takes_time = refl; from_in = tt; to_in = tt; same_length = refl; speed = unit ∷ []; slope = ap (λ w. w ∷ []) (number_ext (sub unit nought) (mul unit unit) refl refl); allowed = (refl, (refl, tt)) }

second_flow : IsFlow [] onward (unit ∷ []) unit (two ∷ [])
unfolding gcd lt add mul neg sub nought unit half whole ratio ratio_suc
second_flow = record { takes_time = refl; from_in = tt; to_in = tt; same_length = refl; speed = unit ∷ []; slope = ap (λ w. w ∷ []) (number_ext (sub two unit) (mul unit unit) refl refl); allowed = (refl, (refl, tt)) }

first_edges : InPiece first_part origin × InClosure first_part origin × InClosure first_part (unit ∷ []) × InPiece first_part (along origin (unit ∷ []) half)
unfolding gcd interpolate lt add mul neg sub nought unit half whole ratio ratio_suc
first_edges = ((refl, (refl, tt)), (refl, (refl, tt)), (refl, (refl, tt)), (refl, (refl, tt)))

second_edges : InPiece second_part (unit ∷ []) × InClosure second_part (unit ∷ []) × InClosure second_part (two ∷ []) × InPiece second_part (along (unit ∷ []) (two ∷ []) half)
unfolding gcd interpolate lt add mul neg sub nought unit half whole ratio ratio_suc
second_edges = ((refl, (refl, tt)), (refl, (refl, tt)), (refl, (refl, tt)), (refl, (refl, tt)))

third_in : InPiece third_part (two ∷ [])
unfolding gcd lt add mul neg nought unit half whole ratio ratio_suc
third_in = (refl, tt)

pub second_layer : InLevel bad_part near_parts onward (suc (suc zero)) origin
second_layer = inr (record {
  from_in = inl first_edges.0;
  time = unit;
  to = unit ∷ [];
  legal = first_flow;
  passes = inr (inl (λ p i. piece_between first_part origin (unit ∷ []) half p refl first_edges.1 first_edges.2 half_inner first_edges.3 i));
  into = inr (record {
    from_in = inr (inl second_edges.0);
    time = unit;
    to = two ∷ [];
    legal = second_flow;
    passes = inr (inr (inl (λ p i. piece_between second_part (unit ∷ []) (two ∷ []) half p refl second_edges.1 second_edges.2 half_inner second_edges.3 i)));
    into = inl third_in;
  });
})

not_bad : ¬ InPiece third_part origin
unfolding gcd lt add mul neg nought unit half whole ratio ratio_suc
not_bad h = false_true h.0

not_third_edge : ¬ InClosure third_part origin
unfolding gcd lt add mul neg nought unit half whole ratio ratio_suc
not_third_edge h = false_true h.0

not_second_edge : ¬ InClosure second_part origin
unfolding gcd lt add mul neg nought unit half whole ratio ratio_suc
not_second_edge h = false_true h.0

unit_two : lt unit two ≡ true
unfolding gcd lt add mul neg nought unit half whole ratio ratio_suc
unit_two = refl

is_false : (b : Bool) → not b ≡ true → b ≡ false
is_false true h = false_true h
is_false false h = refl

-- no number is at most 1 and at least 2
apart : (y : Number) → InClosure first_part (y ∷ []) → InPiece third_part (y ∷ []) → ⊥
apart y h k =
    let below : lt unit y ≡ false = ap (λ w. lt unit w) (sym (nought-add (mul unit y) ∙ unit-mul y)) ∙ is_false _ h.1.0 in
    let above : lt y two ≡ false = sym (lt-neg two y) ∙ ap (λ w. lt (neg two) w) (sym (nought-add (mul (neg unit) y) ∙ neg-mul unit y ∙ ap neg (unit-mul y))) ∙ is_false _ k.0 in
    false_true (sym (le_trans two y unit above below) ∙ unit_two)

far : (y : PlainPoint) → length origin ≡ length y → InClosure first_part y → InPiece third_part y → ⊥
far [] e h k = absurd (omega arith)
far (y ∷ []) e h k = apart y h k
far (y ∷ z ∷ ys) e h k = absurd (omega arith)

pub not_first : ¬ InLevel bad_part near_parts onward (suc zero) origin
not_first (inl h) = elim h [ inl k ↦ not_bad k | inr k ↦ k ]
not_first (inr s) =
    elim s.into [
      | inl k ↦ elim s.passes [
        | inl g ↦ not_third_edge (piece_ends third_part origin s.to s.legal.same_length g).0
        | inr more ↦ elim more [
          | inl g ↦ far s.to s.legal.same_length (piece_ends first_part origin s.to s.legal.same_length g).1 k
          | inr rest ↦ elim rest [ inl g ↦ not_second_edge (piece_ends second_part origin s.to s.legal.same_length g).0 | inr none ↦ none ]
        ]
      ]
      | inr k ↦ k
    ]

pub facts : ReachExampleFacts
facts = record { second_layer = second_layer; play = level_play bad_part near_parts onward (suc (suc zero)) origin second_layer; not_first = not_first }
