-- A flow of a run stays in the region as far as it is run.
use Rattle.std.proofs.Common.{◌≡◌, inl, inr, [], slice_get, get_or, length, refl, sym, ap, ◌∙◌, true, false}
use Rattle.lhg_math.specs.Number.{Number, lt, unit, mid}
use Rattle.lhg_math.specs.NumberOrder.{lt_irrefl, lt_trans, le-lt_trans, lt-le_trans}
use Rattle.lhg_math.specs.Places.{IsPlace}
use Rattle.lhg_math.specs.Tests.{by_bool}
use Rattle.lhg_row.specs.Row.{PlainPoint}
use Rattle.lhg_motion.specs.Segment.{along}
use Rattle.lhg_motion.specs.SegmentLemmas.{along_end, length-along}
use Rattle.lhg_motion.specs.Convex.{piece_convex}
use Rattle.lhg_motion.specs.CheckPoint.{rows_of, AreNeighbours, IsBetween}
use Rattle.lhg_row.specs.Decisions.{clash}
use Rattle.lhg_row.specs.Members.{all_split}
use Rattle.lhg_motion.specs.CheckLemmas.{neighbours_truth, some_carried, inside_place}
use Rattle.lhg_motion.specs.CheckPlaces.{mid_between, only_middle}
use Rattle.lhg_motion.specs.Enclose.{enclose}
use Rattle.lhg_plant.specs.Plant.{PlainPlant}
use Rattle.lhg_plant.specs.State.{PlainState, IsState, moved_to}
use Rattle.lhg_plant.specs.Legal.{LegalFlow}
use Rattle.lhg_plant.specs.Region.{InRegion}
use Rattle.lhg_plant.specs.Controller.{PlainController}
use Rattle.lhg_plant.specs.Run.{guard_rows, run_rows, IsCheckOf, state_along, PassesWhole, IsFirstOutside}
use Rattle.lhg_plant.proofs.Options.{some_weaken, some_out}

-- both ends of a legal flow have as many coordinates
pub flow_length : (a : PlainPlant) (s : PlainState) (t : Number) (y : PlainPoint) → LegalFlow a s t y → length s.at ≡ length y
flow_length a s t y h = some_out _ _ (λ l f. f.same_length) (slice_get a.locs s.loc) h.flow

-- each point of a legal flow is one of a state
pub along_state : (a : PlainPlant) (s : PlainState) (t : Number) (y : PlainPoint) (p : Number) → LegalFlow a s t y → IsPlace p
    → IsState a (state_along s y p)
along_state a s t y p h i = record {
  fits = length-along s.at y p (flow_length a s t y h) ∙ h.start.fits;
  inside = some_weaken _ _ (λ l f. piece_convex l.inv s.at y p f.same_length f.from_in f.to_in i) (slice_get a.locs s.loc) h.flow;
}

-- the end of a flow is its place 1
pub end_state : (a : PlainPlant) (s : PlainState) (t : Number) (y : PlainPoint) → LegalFlow a s t y → moved_to s y ≡ state_along s y unit
end_state a s t y h = ap (λ w. moved_to s w) (sym (along_end s.at y (flow_length a s t y h)))

-- the region's truth is one between two neighbours
pub region_carried : (a : PlainPlant) (c : PlainController) (s : PlainState) (t : Number) (y : PlainPoint) (l r u v : Number) → LegalFlow a s t y
    → AreNeighbours (run_rows a c s.loc) s.at y l r
    → IsBetween l r u → IsBetween l r v → InRegion a c.region (state_along s y u) → InRegion a c.region (state_along s y v)
region_carried a c s t y l r u v h n i j k =
    let pieces = get_or c.region s.loc [] in
    let rows = neighbours_truth (run_rows a c s.loc) s.at y l r u v (flow_length a s t y h) n i j in
    record {
      state = along_state a s t y v h (inside_place l r v n.left.place n.right.place j);
      some = some_carried pieces (along s.at y u) (along s.at y v) (all_split _ (rows_of pieces) (guard_rows a.switches c.guards s.loc) rows).0 k.some;
    }

-- a flow whose check points are in the region stays in it
pub passes_inside : (a : PlainPlant) (c : PlainController) (s : PlainState) (t : Number) (y : PlainPoint) → LegalFlow a s t y → PassesWhole a c s y
    → (p : Number) → IsPlace p → InRegion a c.region (state_along s y p)
passes_inside a c s t y h whole p i =
    elim (enclose (run_rows a c s.loc) s.at y p (flow_length a s t y h) i) [
      | inl cut ↦ whole p (inl cut)
      | inr f ↦
          region_carried a c s t y f.left f.right (mid f.left f.right) p h f.neighbours (mid_between f.left f.right f.neighbours.order) f.between
          (whole (mid f.left f.right) (inr (record { left = f.left; right = f.right; neighbours = f.neighbours; middle = refl })))
    ]

-- up to a check point before the first one outside the flow is in the region
pub upto_inside : (a : PlainPlant) (c : PlainController) (s : PlainState) (t : Number) (y : PlainPoint) (p z u : Number) → LegalFlow a s t y
    → IsFirstOutside a c s y z → IsCheckOf a c s y p → lt p z ≡ true → IsPlace u → lt p u ≡ false
    → InRegion a c.region (state_along s y u)
upto_inside a c s t y p z u h first check before i le =
    elim (enclose (run_rows a c s.loc) s.at y u (flow_length a s t y h) i) [
      | inl cut ↦ first.before u (inl cut) (le-lt_trans u p z le before)
      | inr f ↦
          (let m = mid f.left f.right in
          let k = mid_between f.left f.right f.neighbours.order in
          let low : lt f.left p ≡ true = lt-le_trans f.left u p f.between.left le in
          let m_le : lt p m ≡ false =
          by_bool (lt p m)
          (λ e.
          let same : p ≡ m = only_middle (run_rows a c s.loc) s.at y f.left f.right p f.neighbours (record { left = low; right = lt_trans p m f.right e k.right }) check in
          clash (lt p m) e (ap (λ w. lt w m) same ∙ lt_irrefl m))
          (λ e. e) in
          region_carried a c s t y f.left f.right m u h f.neighbours k f.between
          (first.before m (inr (record { left = f.left; right = f.right; neighbours = f.neighbours; middle = refl })) (le-lt_trans m p z m_le before)))
    ]
