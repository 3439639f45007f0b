-- After a flow from a piece are exactly the points to which a legal flow leads from it.
use Rattle.std.proofs.Common.{◌≡◌, ◌↔◌, ℕ, List, [], ◌∷◌, map, length, slice_get, IsSomeAnd, Option, Some, None, refl, sym, ap, ◌∙◌, subst}
use Rattle.lhg_math.specs.PlacesLaws.{inner_place}
use Rattle.lhg_math.specs.Tests.{AllOf}
use Rattle.lhg_num.specs.FracArithmetic.{frac_arithmetic, frac_is_lawful}
use Rattle.lhg_row.specs.Row.{PlainPoint}
use Rattle.lhg_row.specs.Piece.{PlainPiece, InPiece}
use Rattle.lhg_row.specs.PieceLemmas.{in_piece_is}
use Rattle.lhg_row.specs.Width.{AllWide}
use Rattle.lhg_row.specs.Pieces.{make}
use Rattle.lhg_row.specs.PieceFacts.{IsMade}
use Rattle.lhg_row.specs.MakeLaws.{make-exact}
use Rattle.lhg_row.specs.Lists.{listed}
use Rattle.lhg_motion.specs.Convex.{piece_convex}
use Rattle.lhg_motion.specs.Crossing.{HasCrossing}
use Rattle.lhg_motion.specs.CrossCalculus.{cross}
use Rattle.lhg_motion.specs.CrossFact.{IsCross}
use Rattle.lhg_motion.specs.CrossLaws.{cross-exact}
use Rattle.lhg_motion.specs.Flow.{IsFlow}
use Rattle.lhg_plant.specs.Plant.{PlainLocation, PlainPlant}
use Rattle.lhg_plant.specs.Proper.{IsLocation, IsProper}
use Rattle.lhg_plant.specs.State.{IsState}
use Rattle.lhg_plant.specs.Legal.{LegalFlow}
use Rattle.lhg_plant.specs.Sound.{IsInside}
use Rattle.lhg_plant.specs.SwitchFacts.{state_at}
use Rattle.lhg_plant.proofs.Options.{some_there, there_some, some_out}
use Rattle.lhg_plant.proofs.PreStates.{all_there}
use Rattle.lhg_forward.specs.After.{turned, flow_within, flow_in, after_flow}
use Rattle.lhg_forward.specs.AfterFacts.{IsFlowEnd, HasPoints, HasPointsOr}
use Rattle.lhg_forward.proofs.FlowBack.{flow_back, back_flow, turned-wide}

module _ (a : PlainPlant) (proper : IsProper a) (l : ℕ) (place : PlainLocation) (there : slice_get a.locs l ≡ Some place)
    (piece : PlainPiece) (wide : AllWide (length a.vars) piece) (inside : IsInside a l piece) where
  abbrev n : ℕ
  n = length a.vars

  location : IsLocation n place
  location = all_there (IsLocation n) a.locs l place there proper.locs

  -- a state of the location is a point of its invariant
  in_inv : (x : PlainPoint) → IsState a (state_at l x) → InPiece place.inv x
  in_inv x h = some_there (slice_get a.locs l) place (λ k. InPiece k.inv x) there h.inside

  module _ (inv : PlainPiece) (is : IsMade frac_arithmetic n place.inv (Some inv)) where
    into_inv : (x : PlainPoint) → length x ≡ n → InPiece place.inv x → InPiece inv x
    into_inv x e h = (in_piece_is inv x).1 (is.points x e ∙ (in_piece_is place.inv x).0 h)

    out_inv : (x : PlainPoint) → length x ≡ n → InPiece inv x → InPiece place.inv x
    out_inv x e h = (in_piece_is place.inv x).1 (sym (is.points x e) ∙ (in_piece_is inv x).0 h)

    crossing_end : (y : PlainPoint) → length y ≡ n → HasCrossing inv inv piece (map turned place.flow) y → IsFlowEnd a l piece y
    crossing_end y e c =
        let f = back_flow place.flow c.to y c.time c.legal in
        let fits : length c.to ≡ n = f.same_length ∙ e in
        let start = inside c.to fits c.into_in in
        record {
          start = c.to;
          inside = c.into_in;
          time = c.time;
          legal = record {
            start = start;
            flow = there_some (slice_get a.locs l) place _ there (record {
              takes_time = f.takes_time;
              from_in = in_inv c.to start;
              to_in = out_inv y e c.from_in;
              same_length = f.same_length;
              speed = f.speed;
              slope = f.slope;
              allowed = f.allowed;
            });
          };
        }

    end_crossing : (y : PlainPoint) → length y ≡ n → IsFlowEnd a l piece y → HasCrossing inv inv piece (map turned place.flow) y
    end_crossing y e h =
        let f = some_there (slice_get a.locs l) place _ there h.legal.flow in
        let fits : length h.start ≡ n = f.same_length ∙ e in
        let from = into_inv y e f.to_in in
        let to = into_inv h.start fits f.from_in in
        record {
          from_in = from;
          time = h.time;
          to = h.start;
          into_in = h.inside;
          legal = flow_back place.flow h.start y h.time (record { takes_time = f.takes_time; from_in = tt; to_in = tt; same_length = f.same_length; speed = f.speed; slope = f.slope; allowed = f.allowed });
          passes = λ p i. piece_convex inv y h.start p (sym f.same_length) from to (inner_place p i);
        }

    crossed : (o : Option PlainPiece) → IsCross frac_arithmetic n inv inv piece (map turned place.flow) o → HasPointsOr n (IsFlowEnd a l piece) o
    crossed None h = λ y e k. h y e (end_crossing y e k)
    crossed (Some q) h = record {
      points = λ y e. (λ i. crossing_end y e ((h.points y e).0 i), λ k. (h.points y e).1 (end_crossing y e k));
      poly = h.poly;
    }

  flow_made : (o : Option PlainPiece) → IsMade frac_arithmetic n place.inv o → HasPointsOr n (IsFlowEnd a l piece) (flow_within n place.flow piece (listed o [])).value
  flow_made None m = λ y e h. m y e (some_there (slice_get a.locs l) place _ there h.legal.flow).to_in
  flow_made (Some inv) m =
      crossed inv m (cross frac_arithmetic n inv inv piece (map turned place.flow)).value
      (cross-exact frac_arithmetic n frac_is_lawful inv inv piece (map turned place.flow) m.poly.wide m.poly.wide wide (turned-wide n place.flow location.flow.wide))

  flow_exact : HasPointsOr n (IsFlowEnd a l piece) (flow_in n piece (Some place)).value
  flow_exact = flow_made (make frac_arithmetic n place.inv).value (make-exact frac_arithmetic n place.inv frac_is_lawful location.inv.wide)

-- without a location there is no flow
pub after_flow-exact : (a : PlainPlant) → IsProper a → (l : ℕ) (piece : PlainPiece) → AllWide (length a.vars) piece → IsInside a l piece
    → HasPointsOr (length a.vars) (IsFlowEnd a l piece) (after_flow a l piece).value
unfolding after_flow
after_flow-exact a proper l piece wide inside = go (slice_get a.locs l) refl
  where
    go : (o : Option PlainLocation) → slice_get a.locs l ≡ o → HasPointsOr (length a.vars) (IsFlowEnd a l piece) (flow_in (length a.vars) piece o).value
    go None e = λ y f h. absurd (subst (λ (o : Option PlainLocation). IsSomeAnd o (λ k. IsFlow k.inv k.flow h.start h.time y)) e h.legal.flow)
    go (Some place) e = flow_exact a proper l place e piece wide inside
