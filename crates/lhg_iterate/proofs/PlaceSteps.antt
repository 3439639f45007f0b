-- Steps of one location of a round.
use Rattle.std.proofs.Common.{◌≡◌, ◌+◌, ◌<◌, ◌≤◌, ◌^◌, ℕ, List, [], ◌∷◌, ◌++◌, false, length, get_or, sym, ap, ◌∙◌, subst, arith, length-append}
use Rattle.std.proofs.lemmas.List.{length-map}
use Rattle.lhg_math.specs.Tests.{AllOf}
use Rattle.lhg_num.specs.FracArithmetic.{frac_arithmetic}
use Rattle.lhg_num.specs.Marked.{Marked, valued, IsRest}
use Rattle.lhg_num.specs.MarkedLaws.{IsPart, and_then-part, and_then-rest}
use Rattle.lhg_row.specs.Lists.{is_past_list, piece_limit, minus}
use Rattle.lhg_row.specs.ListLimits.{within-length}
use Rattle.lhg_row.specs.Piece.{PlainPiece}
use Rattle.lhg_motion.specs.Found.{PlainFound, pieces_of, EachNamed}
use Rattle.lhg_motion.specs.ReachCalculus.{reach}
use Rattle.lhg_plant.specs.Plant.{PlainPlant, PlainLocation}
use Rattle.lhg_plant.specs.Region.{PlainRegion, PlainGuards}
use Rattle.lhg_plant.specs.Invariants.{pieces_at}
use Rattle.lhg_plant.specs.OutCalculus.{PlainHit, PlainOuts, hit_pieces}
use Rattle.lhg_plant.specs.BackCalculus.{near_at}
use Rattle.lhg_plant.specs.Loss.{PlainLoss}
use Rattle.lhg_jump.specs.declared.hits.Hit.{Hit}
use Rattle.lhg_jump.specs.HitViews.{plain_hit, plain_hits}
use Rattle.lhg_reach.specs.declared.found.Found.{Found}
use Rattle.lhg_reach.specs.FoundParts.{plain_found, plain_founds}
use Rattle.lhg_loss.specs.Records.{PlainRound, pieces_lost, hit_losses, found_cause, found_losses, losses_from, reached_losses, losses_at, round_at}
use Rattle.lhg_loss.specs.RoundFacts.{AreReached, IsReachedAt}
use Rattle.lhg_iterate.specs.Naming.{IsNameable}

-- ---- found pieces
-- each of them can be named: its way is there, and the piece that it leads to stands among the known and the found ones
pub nameable : {N : Type 0} (first most n : ℕ) (near ways known : List PlainPiece) (flow : PlainPiece) (fs : List (Found N)) → EachNamed n near ways known flow (plain_founds fs)
    → length known + length fs ≤ most → first + most < 2 ^ 32 → AllOf (IsNameable first (length ways)) fs
nameable first most n near ways known flow [] h few fits = tt
nameable first most n near ways known flow (f ∷ fs) h few fits =
    let to = h.0.to_there in
    let more = length-append known (f.piece.lines ∷ []) in
    (record { through = h.0.through_there; to = omega arith }, nameable first most n near ways (known ++ (f.piece.lines ∷ [])) flow fs h.1 (omega arith) fits)

-- there are no more of them than pieces in a list
pub few-found : {N : Type 0} (bad : List PlainPiece) (fs : List (Found N)) → is_past_list (bad ++ pieces_of (plain_founds fs)) ≡ false → length bad + length fs ≤ piece_limit
few-found bad fs h =
    let k = within-length (bad ++ pieces_of (plain_founds fs)) h in
    let many : length (pieces_of (plain_founds fs)) ≡ length (plain_founds fs) = length-map (plain_founds fs) (λ (f : PlainFound). f.piece) in
    let same : length (plain_founds fs) ≡ length fs = length-map fs plain_found in
    omega (arith, length-append bad (pieces_of (plain_founds fs)))

-- there are no more hits than bad pieces
pub hits-fewer : (away : List PlainPiece) (hits : List Hit) (bad : List PlainPiece) → bad ≡ away ++ hit_pieces (plain_hits hits) → length hits ≤ length bad
hits-fewer away hits bad e =
    let many : length (hit_pieces (plain_hits hits)) ≡ length (plain_hits hits) = length-map (plain_hits hits) (λ (h : PlainHit). h.piece) in
    let same : length (plain_hits hits) ≡ length hits = length-map hits plain_hit in
    let all : length bad ≡ length (away ++ hit_pieces (plain_hits hits)) = ap length e in
    omega (arith, length-append away (hit_pieces (plain_hits hits)))

-- ---- found pieces of a location
module _ (n round first l : ℕ) (away : List PlainPiece) (hits : List PlainHit) (near : List PlainPiece) (flow : PlainPiece) where
  -- the marks of reach are those of the records
  pub from-part : IsPart (reached_losses n round l first away hits near flow) (reach frac_arithmetic n (away ++ hit_pieces hits) near flow)
  from-part = record { wide = λ h. h; rows = λ h. h; pieces = λ h. h }

  -- the records of what it finds
  pub from-value : (ways : List PlainPiece) (many : ℕ) (found : List PlainFound) → ways ≡ (away ++ hit_pieces hits) ++ near → many ≡ length hits
      → found ≡ (reach frac_arithmetic n (away ++ hit_pieces hits) near flow).value.found
      → hit_losses round l first hits ++ found_losses round l (found_cause away ways first) (first + many) found ≡ (reached_losses n round l first away hits near flow).value
  from-value ways many found ways_are many_is found_is =
      ap (λ w. hit_losses round l first hits ++ found_losses round l (found_cause away w first) (first + many) found) ways_are
      ∙ ap (λ k. hit_losses round l first hits ++ found_losses round l (found_cause away ((away ++ hit_pieces hits) ++ near) first) (first + k) found) many_is
      ∙ ap (λ fs. losses_from round l first away hits near fs) found_is

-- ---- a location
module _ (a : PlainPlant) (region : PlainRegion) (outs : PlainOuts) (kss : PlainGuards) (round first l : ℕ) (place : PlainLocation) where
  abbrev n : ℕ
  n = length a.vars

  abbrev from_near : List PlainPiece → Marked (List PlainLoss)
  from_near near = reached_losses n round l first (pieces_at outs.away l) (get_or outs.hits l []) near place.flow

  -- the marks of the near pieces are among those of the records
  pub losses-near : IsPart (losses_at a region outs kss round first (l, place)) (near_at a region kss l)
  unfolding losses_at
  losses-near = and_then-part (near_at a region kss l) from_near

  near-rest : IsRest (losses_at a region outs kss round first (l, place)) (from_near (near_at a region kss l).value)
  unfolding losses_at
  near-rest = and_then-rest (near_at a region kss l) from_near

  module _ (away : List PlainPiece) (hits : List PlainHit) (near : List PlainPiece) (flow : PlainPiece) (away_is : away ≡ pieces_at outs.away l) (hits_are : hits ≡ get_or outs.hits l []) (near_is : near ≡ (near_at a region kss l).value) (flow_is : flow ≡ place.flow) where
    -- the records from what the code holds
    pub losses-rest : IsRest (losses_at a region outs kss round first (l, place)) (reached_losses n round l first away hits near flow)
    losses-rest =
        let whole = losses_at a region outs kss round first (l, place) in
        let of : List PlainPiece → List PlainHit → List PlainPiece → PlainPiece → Type 0 = λ x y z w. IsRest whole (reached_losses n round l first x y z w) in
        subst (λ x. of x hits near flow) (sym away_is) (subst (λ y. of (pieces_at outs.away l) y near flow) (sym hits_are)
        (subst (λ z. of (pieces_at outs.away l) (get_or outs.hits l []) z flow) (sym near_is) (subst (λ w. of (pieces_at outs.away l) (get_or outs.hits l []) (near_at a region kss l).value w) (sym flow_is) near-rest)))

    -- what is reached from them
    pub reached-at : AreReached n (away ++ hit_pieces hits) near flow (reach frac_arithmetic n (away ++ hit_pieces hits) near flow).value.found → IsReachedAt a region outs kss l place
    reached-at h =
        let of : List PlainPiece → List PlainHit → List PlainPiece → PlainPiece → Type 0 = λ x y z w. AreReached n (x ++ hit_pieces y) z w (reach frac_arithmetic n (x ++ hit_pieces y) z w).value.found in
        subst (λ w. of (pieces_at outs.away l) (get_or outs.hits l []) (near_at a region kss l).value w) flow_is
        (subst (λ z. of (pieces_at outs.away l) (get_or outs.hits l []) z flow) near_is (subst (λ y. of (pieces_at outs.away l) y near flow) hits_are (subst (λ x. of x hits near flow) away_is h)))

-- ---- a location after those before it
-- a round of these records, and the region after it
abbrev pub round_from : List PlainLoss → PlainRegion → PlainRound
round_from losses next = record { losses = losses; next = next }

module _ (a : PlainPlant) (region : PlainRegion) (outs : PlainOuts) (kss : PlainGuards) (round first l : ℕ) (place : PlainLocation) (so_far : PlainRound) (start : ℕ) (start_is : start ≡ first + length so_far.losses) where
  abbrev whole : Marked PlainRound
  whole = round_at a region outs kss round first so_far (l, place)

  abbrev made_from : ℕ → Marked (List PlainLoss)
  made_from k = losses_at a region outs kss round k (l, place)

  abbrev left_by : List PlainLoss → Marked PlainRound
  left_by ls = valued (λ rest. record { losses = so_far.losses ++ ls; next = so_far.next ++ rest ∷ [] }) (minus frac_arithmetic (length a.vars) (pieces_at region l) (pieces_lost ls))

  -- the marks of its records are those of the step
  pub round-losses : IsPart whole (made_from start)
  round-losses = subst (λ k. IsPart whole (made_from k)) (sym start_is) (and_then-part (made_from (first + length so_far.losses)) left_by)

  module _ (ls : List PlainLoss) (made : ls ≡ (made_from start).value) where
    round-rest : IsRest whole (left_by ls)
    round-rest =
        subst (λ x. IsRest whole (left_by x)) (sym made)
        (subst (λ k. IsRest whole (left_by (made_from k).value)) (sym start_is) (and_then-rest (made_from (first + length so_far.losses)) left_by))

    -- and so are those of what is left
    pub round-left : IsPart whole (minus frac_arithmetic (length a.vars) (pieces_at region l) (pieces_lost ls))
    round-left = let r = round-rest in record { wide = r.wide; rows = r.rows; pieces = r.pieces }

    -- the round with the location
    pub round-value : (losses : List PlainLoss) (next : PlainRegion) (rest : List PlainPiece) → losses ≡ so_far.losses ++ ls → next ≡ so_far.next ++ rest ∷ []
        → rest ≡ (minus frac_arithmetic (length a.vars) (pieces_at region l) (pieces_lost ls)).value → round_from losses next ≡ whole.value
    round-value losses next rest losses_are next_is rest_is =
        ap (λ x. round_from x next) losses_are ∙ ap (λ x. round_from (so_far.losses ++ ls) x) next_is ∙ ap (λ x. round_from (so_far.losses ++ ls) (so_far.next ++ x ∷ [])) rest_is ∙ round-rest.same
