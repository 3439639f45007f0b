-- The records of a location are sound.
use Rattle.std.proofs.Common.{◌≡◌, ◌<◌, ◌≤◌, ◌+◌, ◌-◌, true, false, cond, ℕ, zero, suc, List, [], ◌∷◌, ◌++◌, length, slice_get, get_or, Some, refl, sym, ap, ◌∙◌, inl, inr, subst, append_assoc, arith, length-append}
use Rattle.std.specs.Prelude.{nat_lt}
use Rattle.std.proofs.lemmas.Bool.Decides.{nat_tests}
use Rattle.std.proofs.lemmas.List.{length-map, map-append, get_or_append_left, get_or-append_right}
use Rattle.lhg_math.specs.Number.{Number}
use Rattle.lhg_math.specs.Tests.{AllOf, by_bool}
use Rattle.lhg_row.specs.Row.{PlainPoint}
use Rattle.lhg_row.specs.Piece.{PlainPiece, InPiece, InSome}
use Rattle.lhg_motion.specs.Flow.{IsFlow}
use Rattle.lhg_row.specs.Members.{SomeOf, all-append}
use Rattle.lhg_row.specs.SomeLists.{in_either, some_out, some_at, in_some_of}
use Rattle.lhg_motion.specs.Crossing.{GoesThrough, HasCrossing}
use Rattle.lhg_motion.specs.Found.{PlainFound, NamesCrossing, EachNamed, pieces_of}
use Rattle.lhg_plant.specs.Plant.{PlainLocation, PlainPlant}
use Rattle.lhg_plant.specs.State.{PlainState, IsState}
use Rattle.lhg_plant.specs.Legal.{LegalSwitch}
use Rattle.lhg_plant.specs.OutBack.{Back}
use Rattle.lhg_plant.specs.Escape.{MayPass}
use Rattle.lhg_plant.specs.Loss.{PlainCause, by_env, by_leave, by_flow, PlainLoss, InPieceAt, InLoss, IsEarlierLoss}
use Rattle.lhg_plant.specs.Sound.{HasFlowThrough, Shows, IsSoundBetween}
use Rattle.lhg_plant.specs.OutCalculus.{PlainHit, hit_pieces}
use Rattle.lhg_plant.specs.SwitchFacts.{state_at, IsHit}
use Rattle.lhg_plant.proofs.Losses.{shows_move}
use Rattle.lhg_plant.proofs.Options.{some_there, there_some}
use Rattle.lhg_loss.specs.Records.{pieces_lost, hit_losses, found_cause, found_losses}
use Rattle.lhg_loss.specs.RoundFacts.{AreNumbered}
use Rattle.lhg_loss.proofs.Transfer.{IsWithin, within_left}
use Rattle.lhg_loss.proofs.Numbers.{all_rounds, numbered_at, numbered_append}

-- a state of location l is the point of that location
at_here : (l : ℕ) (s : PlainState) → s.loc ≡ l → state_at l s.at ≡ s
at_here l s e = ap (λ k. state_at k s.at) (sym e)

-- the member of a list at a place holds what some member of the list holds
pub member_some : (ps : List PlainPiece) (k : ℕ) (p : PlainPoint) → k < length ps → InPiece (get_or ps k []) p → InSome ps p
member_some ps k p l h = (in_some_of ps p).1 (some_at (λ piece. InPiece piece p) [] ps k l h)

-- a record whose pieces show its move is sound, where an escape may pass its states
sound_by : (a : PlainPlant) (S U : PlainState → Type 0) (losses : List PlainLoss) (loss : PlainLoss) → ((p : PlainPoint) → length p ≡ length a.vars → InPiece loss.piece p → S (state_at loss.loc p))
    → ((s : PlainState) → S s → IsState a s) → ((p : PlainPoint) → length p ≡ length a.vars → InPiece loss.piece p → ¬ U (state_at loss.loc p))
    → ((p : PlainPoint) → length p ≡ length a.vars → InPiece loss.piece p → MayPass a S (Back a S) (state_at loss.loc p)) → Shows a S losses loss loss.cause → IsSoundBetween a S U losses loss
sound_by a S U losses loss kept state gone may shows = record {
  is_true = record {
    kept = λ s k. subst S (at_here loss.loc s k.here) (kept s.at k.state.fits k.inside);
    gone = λ s k u. gone s.at k.state.fits k.inside (subst U (sym (at_here loss.loc s k.here)) u);
    move = shows_move a S losses loss loss.cause (λ s k. subst (λ (w : PlainState). MayPass a S (Back a S) w) (at_here loss.loc s k.here) (may s.at k.state.fits k.inside)) shows;
  };
  inside = λ p e h. state (state_at loss.loc p) (kept p e h);
  shows = shows;
}

-- ---- hits
module _ (a : PlainPlant) (S U : PlainState → Type 0) (state : (s : PlainState) → S s → IsState a s) (l round : ℕ) (whole : List PlainLoss) where
  hit_sound : (first : ℕ) (hit : PlainHit) → IsHit a S l hit → ((p : PlainPoint) → length p ≡ length a.vars → InPiece hit.piece p → ¬ U (state_at l p))
      → IsSoundBetween a S U whole (record { number = first; round = round; loc = l; piece = hit.piece; cause = by_env hit.switch hit.into })
  hit_sound first hit h gone =
      let loss : PlainLoss = record { number = first; round = round; loc = l; piece = hit.piece; cause = by_env hit.switch hit.into } in
      sound_by a S U whole loss h.kept state gone
      (λ p e k. (let r = h.result p e k in inl (inr (record { number = hit.switch; result = r.0; side = h.side; legal = r.1; gone = h.missed r.0 r.2 }))))
      (record {
        side = h.side;
        target = h.target;
        enters = h.enters;
        inside = h.inside;
        result = λ s k. subst (λ (w : PlainState). (z : PlainState) × LegalSwitch a hit.switch w z × InPieceAt a h.target hit.into z) (at_here l s k.here) (h.result s.at k.state.fits k.inside);
        missed = h.missed;
      })

  -- the records of hits are sound
  pub hits_sound : (first : ℕ) (hits : List PlainHit) → AllOf (IsHit a S l) hits → ((p : PlainPoint) → length p ≡ length a.vars → InSome (hit_pieces hits) p → ¬ U (state_at l p))
      → AllOf (IsSoundBetween a S U whole) (hit_losses round l first hits)
  hits_sound first [] h gone = tt
  hits_sound first (hit ∷ hits) h gone = (hit_sound first hit h.0 (λ p e k. gone p e (inl k)), hits_sound (first + 1) hits h.1 (λ p e k. gone p e (inr k)))

-- ---- earlier records
-- the records before those of found pieces: their numbers, their location, and that they hold states of the set
pub record AreBefore (a : PlainPlant) (S : PlainState → Type 0) (l round first : ℕ) (before : List PlainLoss) : Type 0 where
  pub numbered : AreNumbered round first before
  pub places : AllOf (λ r. r.loc ≡ l) before
  pub kept : (p : PlainPoint) → length p ≡ length a.vars → InSome (pieces_lost before) p → S (state_at l p)

-- a record of the list with this number, which is smaller than another, this round and location, and this piece
record HasEarlier (before : List PlainLoss) (l round m number : ℕ) (piece : PlainPiece) : Type 0 where
  earlier : PlainLoss
  index : ℕ
  is_there : slice_get before index ≡ Some earlier
  number_is : earlier.number ≡ m
  smaller : m < number
  round_is : earlier.round ≡ round
  loc_is : earlier.loc ≡ l
  piece_is : earlier.piece ≡ piece
  holds : (p : PlainPoint) → InPiece earlier.piece p → InSome (pieces_lost before) p

-- the member of a list at a place
member_at : (losses : List PlainLoss) (k : ℕ) → k < length losses → (x : PlainLoss) × (slice_get losses k ≡ Some x)
member_at [] k l = absurd (omega arith)
member_at (x ∷ xs) zero l = (x, refl)
member_at (x ∷ xs) (suc k) l = member_at xs k (omega arith)

piece_at : (losses : List PlainLoss) (k : ℕ) (x : PlainLoss) → slice_get losses k ≡ Some x → get_or (pieces_lost losses) k [] ≡ x.piece
piece_at [] k x e = cc
piece_at (y ∷ losses) zero x e = let same : y ≡ x = cc in ap (λ (w : PlainLoss). w.piece) same
piece_at (y ∷ losses) (suc k) x e = piece_at losses k x e

holds_there : (losses : List PlainLoss) (k : ℕ) (x : PlainLoss) → slice_get losses k ≡ Some x → (p : PlainPoint) → InPiece x.piece p → InSome (pieces_lost losses) p
holds_there [] k x e p h = cc
holds_there (y ∷ losses) zero x e p h = let same : x ≡ y = cc in inl (subst (λ (w : PlainLoss). InPiece w.piece p) same h)
holds_there (y ∷ losses) (suc k) x e p h = inr (holds_there losses k x e p h)

all_there : (P : PlainLoss → Type 0) (losses : List PlainLoss) (k : ℕ) (x : PlainLoss) → AllOf P losses → slice_get losses k ≡ Some x → P x
all_there P [] k x h e = cc
all_there P (y ∷ losses) zero x h e = let same : y ≡ x = cc in subst P same h.0
all_there P (y ∷ losses) (suc k) x h e = all_there P losses k x h.1 e

-- the record of the piece to which a crossing leads that does not leave the set
earlier_is : (away : List PlainPiece) (l round first number : ℕ) (before : List PlainLoss) (to : ℕ) → AreNumbered round first before → AllOf (λ r. r.loc ≡ l) before → number ≡ first + length before → length away ≤ to
    → to < length (away ++ pieces_lost before) → HasEarlier before l round (first + (to - length away)) number (get_or (away ++ pieces_lost before) to [])
earlier_is away l round first number before to numbered places count from_away within =
    let lengths = length-append away (pieces_lost before) in
    let many = length-map before (λ (r : PlainLoss). r.piece) in
    let less : to - length away < length before = omega arith in
    let x = member_at before (to - length away) less in
    let at = numbered_at round first before (to - length away) x.0 numbered x.1 in
    record {
      earlier = x.0;
      index = to - length away;
      is_there = x.1;
      number_is = at;
      smaller = omega arith;
      round_is = all_there (λ r. r.round ≡ round) before (to - length away) x.0 (all_rounds round first before numbered) x.1;
      loc_is = all_there (λ r. r.loc ≡ l) before (to - length away) x.0 places x.1;
      piece_is = sym (get_or-append_right away (pieces_lost before) (length away) to [] refl from_away ∙ piece_at before (to - length away) x.0 x.1);
      holds = λ p h. holds_there before (to - length away) x.0 x.1 p h;
    }

is_less : (m n : ℕ) → nat_lt m n ≡ true → m < n
is_less m n h = grind (arith, nat_tests)

not_less : (m n : ℕ) → nat_lt m n ≡ false → n ≤ m
not_less m n h = grind (arith, nat_tests)

-- ---- crossings
-- one straight flow from a point of some near piece, through one piece, into another
record Crosses (near : List PlainPiece) (through into flow : PlainPiece) (x : PlainPoint) : Type 0 where
  from_in : InSome near x
  time : Number
  to : PlainPoint
  into_in : InPiece into to
  legal : IsFlow [] flow x time to
  passes : GoesThrough through x to

crosses_from : (near : List PlainPiece) (through into flow : PlainPiece) (x : PlainPoint) → SomeOf (λ from. HasCrossing from through into flow x) near → Crosses near through into flow x
crosses_from near through into flow x h =
    some_out (λ from. HasCrossing from through into flow x) (Crosses near through into flow x) near
    (λ from back c. record { from_in = (in_some_of near x).1 (back (λ piece. InPiece piece x) c.from_in); time = c.time; to = c.to; into_in = c.into_in; legal = c.legal; passes = c.passes }) h

module _ (a : PlainPlant) (S U : PlainState → Type 0) (state : (s : PlainState) → S s → IsState a s) (l : ℕ) (place : PlainLocation) (there : slice_get a.locs l ≡ Some place)
    (away near ways : List PlainPiece) (away_out : (p : PlainPoint) → length p ≡ length a.vars → InSome away p → IsState a (state_at l p) × ¬ S (state_at l p))
    (near_points : (p : PlainPoint) → length p ≡ length a.vars → InSome near p → S (state_at l p) × ¬ Back a S (state_at l p))
    (ways_may : (p : PlainPoint) → length p ≡ length a.vars → InSome ways p → IsState a (state_at l p) × MayPass a S (Back a S) (state_at l p)) where
  in_inv : (p : PlainPoint) → IsState a (state_at l p) → InPiece place.inv p
  in_inv p i = some_there (slice_get a.locs l) place (λ k. InPiece k.inv p) there i.inside

  -- the flow of a crossing is legal where its end is a state
  flow_through : (through into : PlainPiece) (target : PlainState → Type 0) (p : PlainPoint) → length p ≡ length a.vars → (c : Crosses near through into place.flow p) → IsState a (state_at l c.to) → target (state_at l c.to)
      → HasFlowThrough a through target (state_at l p)
  flow_through through into target p e c i t =
      let start = state (state_at l p) (near_points p e c.from_in).0 in
      let flow : IsFlow place.inv place.flow p c.time c.to = record {
        takes_time = c.legal.takes_time;
        from_in = in_inv p start;
        to_in = in_inv c.to i;
        same_length = c.legal.same_length;
        speed = c.legal.speed;
        slope = c.legal.slope;
        allowed = c.legal.allowed;
      } in
      record {
        move = record { time = c.time; to = c.to };
        legal = record { start = start; flow = there_some (slice_get a.locs l) place (λ k. IsFlow k.inv k.flow p c.time c.to) there flow };
        ends = t;
        inner = c.passes;
      }

  -- ---- one found piece
  module _ (round first : ℕ) (whole : List PlainLoss) (number : ℕ) (f : PlainFound) (through : PlainPiece) (through_in : (p : PlainPoint) → InPiece through p → InSome ways p) where
    abbrev loss_by : PlainCause → PlainLoss
    loss_by cause = record { number = number; round = round; loc = l; piece = f.piece; cause = cause }

    found_by : (cause : PlainCause) (into : PlainPiece) → ((p : PlainPoint) → length p ≡ length a.vars → InPiece f.piece p → Crosses near through into place.flow p)
        → ((p : PlainPoint) → length p ≡ length a.vars → InPiece f.piece p → ¬ U (state_at l p)) → Shows a S whole (loss_by cause) cause → IsSoundBetween a S U whole (loss_by cause)
    found_by cause into crosses gone shows =
        sound_by a S U whole (loss_by cause) (λ p e h. (near_points p e (crosses p e h).from_in).0) state gone (λ p e h. inr (near_points p e (crosses p e h).from_in).1) shows

    -- it leaves the set, where its crossing leads to a piece outside
    leaves_sound : (into : PlainPiece) → ((p : PlainPoint) → InPiece into p → InSome away p) → ((p : PlainPoint) → length p ≡ length a.vars → InPiece f.piece p → Crosses near through into place.flow p)
        → ((p : PlainPoint) → length p ≡ length a.vars → InPiece f.piece p → ¬ U (state_at l p)) → IsSoundBetween a S U whole (loss_by (by_leave through into))
    leaves_sound into into_in crosses gone = found_by (by_leave through into) into crosses gone (record {
      through_inside = λ p e h. (ways_may p e (through_in p h)).0;
      into_inside = λ p e h. (away_out p e (into_in p h)).0;
      flow = λ s k. subst (λ (w : PlainState). HasFlowThrough a through (InPieceAt a l into) w) (at_here l s k.here)
          (let c = crosses s.at k.state.fits k.inside in
          let i = (away_out c.to (sym c.legal.same_length ∙ k.state.fits) (into_in c.to c.into_in)).0 in
          flow_through through into (InPieceAt a l into) s.at k.state.fits c i (record { state = i; here = refl; inside = c.into_in }));
      missed = λ z k s. (away_out z.at k.state.fits (into_in z.at k.inside)).1 (subst S (sym (at_here l z k.here)) s);
      passed = λ z k. subst (λ (w : PlainState). MayPass a S (Back a S) w) (at_here l z k.here) (ways_may z.at k.state.fits (through_in z.at k.inside)).1;
    })

    -- it flows to the states of an earlier record, where its crossing leads to that one's piece
    flows_sound : (m : ℕ) (earlier : PlainLoss) → IsEarlierLoss whole m (loss_by (by_flow m through)) earlier → earlier.loc ≡ l → ((p : PlainPoint) → length p ≡ length a.vars → InPiece earlier.piece p → S (state_at l p))
        → ((p : PlainPoint) → length p ≡ length a.vars → InPiece f.piece p → Crosses near through earlier.piece place.flow p)
        → ((p : PlainPoint) → length p ≡ length a.vars → InPiece f.piece p → ¬ U (state_at l p)) → IsSoundBetween a S U whole (loss_by (by_flow m through))
    flows_sound m earlier is_earlier same kept crosses gone = found_by (by_flow m through) earlier.piece crosses gone (record {
      through_inside = λ p e h. (ways_may p e (through_in p h)).0;
      earlier = earlier;
      is_earlier = is_earlier;
      flow = λ s k. subst (λ (w : PlainState). HasFlowThrough a through (InLoss a earlier) w) (at_here l s k.here)
          (let c = crosses s.at k.state.fits k.inside in
          let i = state (state_at l c.to) (kept c.to (sym c.legal.same_length ∙ k.state.fits) c.into_in) in
          flow_through through earlier.piece (InLoss a earlier) s.at k.state.fits c i (record { state = i; here = sym same; inside = c.into_in }));
      passed = λ z k. subst (λ (w : PlainState). MayPass a S (Back a S) w) (at_here l z k.here) (ways_may z.at k.state.fits (through_in z.at k.inside)).1;
    })

  -- ---- all found pieces
  -- the record of a found piece, by whether its crossing leads outside
  found_sound : (round first number : ℕ) (whole before : List PlainLoss) (f : PlainFound) → IsWithin before whole → number ≡ first + length before → AreBefore a S l round first before
      → NamesCrossing (length a.vars) near ways (away ++ pieces_lost before) place.flow f → ((p : PlainPoint) → length p ≡ length a.vars → InPiece f.piece p → ¬ U (state_at l p))
      → IsSoundBetween a S U whole (record { number = number; round = round; loc = l; piece = f.piece; cause = found_cause away ways first f })
  found_sound round first number whole before f within count b names gone =
      let through = get_or ways f.through [] in
      let into = get_or (away ++ pieces_lost before) f.to [] in
      let outside = get_or away f.to [] in
      let m = first + (f.to - length away) in
      let in_ways : (p : PlainPoint) → InPiece through p → InSome ways p = λ p h. member_some ways f.through p names.through_there h in
      let crosses : (p : PlainPoint) → length p ≡ length a.vars → InPiece f.piece p → Crosses near through into place.flow p = λ p e h. crosses_from near through into place.flow p (names.crosses p e h) in
      by_bool (nat_lt f.to (length away))
      (λ e. subst (λ c. IsSoundBetween a S U whole (record { number = number; round = round; loc = l; piece = f.piece; cause = cond c (by_leave through outside) (by_flow m through) })) (sym e)
      (let less = is_less f.to (length away) e in
      let same : into ≡ outside = get_or_append_left away (pieces_lost before) [] f.to less in
      leaves_sound round first whole number f through in_ways outside (λ p h. member_some away f.to p less h)
      (λ p k h. subst (λ (w : PlainPiece). Crosses near through w place.flow p) same (crosses p k h)) gone))
      (λ e. subst (λ c. IsSoundBetween a S U whole (record { number = number; round = round; loc = l; piece = f.piece; cause = cond c (by_leave through outside) (by_flow m through) })) (sym e)
      (let r = earlier_is away l round first number before f.to b.numbered b.places count (not_less f.to (length away) e) names.to_there in
      let w = within r.index r.earlier r.is_there in
      flows_sound round first whole number f through in_ways m r.earlier
      (record { index = w.0; is_there = w.1; number = r.number_is; smaller = r.smaller; same_round = r.round_is; same_loc = r.loc_is })
      r.loc_is
      (λ p k h. b.kept p k (r.holds p h))
      (λ p k h. subst (λ (q : PlainPiece). Crosses near through q place.flow p) (sym r.piece_is) (crosses p k h)) gone))

  -- the records of found pieces are sound
  pub founds_sound : (round first number : ℕ) (whole before : List PlainLoss) (fs : List PlainFound) → whole ≡ before ++ found_losses round l (found_cause away ways first) number fs → number ≡ first + length before
      → AreBefore a S l round first before → EachNamed (length a.vars) near ways (away ++ pieces_lost before) place.flow fs → ((p : PlainPoint) → length p ≡ length a.vars → InSome (pieces_of fs) p → ¬ U (state_at l p))
      → AllOf (IsSoundBetween a S U whole) (found_losses round l (found_cause away ways first) number fs)
  founds_sound round first number whole before [] same count b names gone = tt
  founds_sound round first number whole before (f ∷ fs) same count b names gone =
      let loss : PlainLoss = record { number = number; round = round; loc = l; piece = f.piece; cause = found_cause away ways first f } in
      let more = before ++ loss ∷ [] in
      let rest = found_losses round l (found_cause away ways first) (number + 1) fs in
      let pieces : pieces_lost more ≡ pieces_lost before ++ f.piece ∷ [] = map-append (λ (r : PlainLoss). r.piece) before (loss ∷ []) in
      let known : (away ++ pieces_lost before) ++ f.piece ∷ [] ≡ away ++ pieces_lost more = append_assoc away (pieces_lost before) (f.piece ∷ []) ∙ ap (λ w. away ++ w) (sym pieces) in
      let longer = length-append before (loss ∷ []) in
      let within : IsWithin before whole = subst (λ (w : List PlainLoss). IsWithin before w) (sym same) (within_left before (loss ∷ rest)) in (
        found_sound round first number whole before f within count b names.0 (λ p e h. gone p e (inl h)),
        founds_sound round first (number + 1) whole more fs (same ∙ sym (append_assoc before (loss ∷ []) rest)) (omega arith)
            (record {
              numbered = numbered_append round first before (loss ∷ []) b.numbered (count, refl, tt);
              places = all-append (λ r. r.loc ≡ l) before (loss ∷ []) b.places (refl, tt);
              kept = λ p e h. elim (in_either (pieces_lost before) (f.piece ∷ []) p (subst (λ (w : List PlainPiece). InSome w p) pieces h)) [
                | inl k ↦ b.kept p e k
                | inr k ↦ only_found f p e names.0 k
              ];
            })
            (subst (λ (w : List PlainPiece). EachNamed (length a.vars) near ways w place.flow fs) known names.1)
            (λ p e h. gone p e (inr h)),
      )
    where
      only_found : (f : PlainFound) (p : PlainPoint) → length p ≡ length a.vars → NamesCrossing (length a.vars) near ways (away ++ pieces_lost before) place.flow f → InSome (f.piece ∷ []) p → S (state_at l p)
      only_found f p e n (inl h) = (near_points p e (crosses_from near (get_or ways f.through []) (get_or (away ++ pieces_lost before) f.to []) place.flow p (n.crosses p e h)).from_in).0
      only_found f p e n (inr h) = absurd h
