-- What all results of the newest pieces add to a level.
use Rattle.std.proofs.Common.{◌≡◌, ◌≢◌, ◌<◌, ◌≤◌, ◌+◌, ◌⊎◌, inl, inr, ℕ, zero, suc, Bool, true, false, cond, List, [], ◌∷◌, ◌++◌, length, replicate, get_or, slice_get, IsSomeAnd, nat_eq, Option, Some, None, refl, sym, ap, ◌∙◌, subst, arith}
use Rattle.std.specs.List.{range_with_len}
use Rattle.std.proofs.lemmas.Bool.{eq-eqb, eqb-true}
use Rattle.lhg_math.specs.Number.{Number}
use Rattle.lhg_math.specs.Tests.{AllOf, false_true, by_bool}
use Rattle.lhg_num.specs.FracArithmetic.{frac_arithmetic}
use Rattle.lhg_num.specs.Marked.{Marked, walk}
use Rattle.lhg_row.specs.Row.{PlainPoint}
use Rattle.lhg_row.specs.Piece.{PlainPiece, InPiece, InSome}
use Rattle.lhg_row.specs.Width.{AllWide}
use Rattle.lhg_row.specs.Members.{SomeOf, all_some}
use Rattle.lhg_row.specs.SomeLists.{in_some_of}
use Rattle.lhg_row.specs.PieceFacts.{IsPoly, AllOver}
use Rattle.lhg_row.specs.CoveredLaws.{polys-over}
use Rattle.lhg_motion.specs.Flow.{IsFlow}
use Rattle.lhg_motion.specs.WalkLaws.{HasWalked, HasStepped, walked}
use Rattle.lhg_plant.specs.Plant.{PlainSwitch, PlainPlant}
use Rattle.lhg_plant.specs.Proper.{IsSwitch, IsProper}
use Rattle.lhg_plant.specs.State.{PlainState, IsState, moved_to}
use Rattle.lhg_plant.specs.Legal.{LegalFlow, LegalSwitch}
use Rattle.lhg_plant.specs.Region.{PlainRegion, InRegion}
use Rattle.lhg_plant.specs.Invariants.{pieces_at}
use Rattle.lhg_plant.specs.Sound.{IsInside}
use Rattle.lhg_plant.specs.Inside.{AllInside}
use Rattle.lhg_plant.specs.OutCalculus.{numbered}
use Rattle.lhg_plant.specs.SwitchFacts.{state_at}
use Rattle.lhg_plant.proofs.Options.{some_there, there_some, some_out}
use Rattle.lhg_plant.proofs.PreStates.{all_there}
use Rattle.lhg_plant.proofs.ListSteps.{numbered_there}
use Rattle.lhg_forward.specs.Level.{PlainAction, by_flow, by_switch, result_of, IsLegalAction, LeadsTo, FollowsFrom}
use Rattle.lhg_forward.specs.After.{after_flow, after_switch}
use Rattle.lhg_forward.specs.AfterFacts.{IsFlowEnd, IsResult, HasPointsOr}
use Rattle.lhg_forward.specs.Growth.{PlainGrowth, PlainStage, add_new, add_flow, add_result, add_switch, add_piece, newest_at, add_location, no_growth, growth}
use Rattle.lhg_forward.specs.GrowthFacts.{IsRegion, known_at, IsGrowth, IsWholeGrowth}
use Rattle.lhg_forward.proofs.AfterFlow.{after_flow-exact}
use Rattle.lhg_forward.proofs.AfterSwitch.{after_switch-exact}
use Rattle.lhg_forward.proofs.GrowthSteps.{HaveGrown, Knows, knows_more, added}
use Rattle.lhg_forward.proofs.StagePieces.{newest_inside, numbered_at, range_all, range_of, there_below}

-- a piece of location l: over the plant's variables, inside the invariant, and inside the pieces of the region
pub record IsFrom (a : PlainPlant) (region : PlainRegion) (l : ℕ) (q : PlainPiece) : Type 0 where
  pub wide : AllWide (length a.vars) q
  pub inside : IsInside a l q
  pub kept : (x : PlainPoint) → length x ≡ length a.vars → InPiece q x → InSome (pieces_at region l) x

same_growth : (g : PlainGrowth) → HaveGrown g g
same_growth g l x i = i

growth_on : (g h k : PlainGrowth) → HaveGrown g h → HaveGrown h k → HaveGrown g k
growth_on g h k f e l x i = e l x (f l x i)

module _ (a : PlainPlant) (proper : IsProper a) (region : PlainRegion) (region_is : IsRegion a region) where
  abbrev n : ℕ
  n = length a.vars

  abbrev Sound : PlainGrowth → Type 0
  Sound g = IsGrowth a region g

  over : (l : ℕ) → AllOver n (pieces_at region l)
  over l = polys-over frac_arithmetic n (pieces_at region l) (region_is.polys l)

  -- a switch with its place leads only where it is known
  abbrev SwitchKnown : ℕ → PlainPiece → ℕ × PlainSwitch → PlainGrowth → Type 0
  SwitchKnown l q (e, w) g = w.from ≡ l → Knows n region w.to (IsResult a e q) g

  -- all that the piece leads to is known
  pub record PieceKnown (l : ℕ) (q : PlainPiece) (g : PlainGrowth) : Type 0 where
    pub flow : Knows n region l (IsFlowEnd a l q) g
    pub switches : AllOf (λ p. SwitchKnown l q p g) (numbered 0 a.switches)

  switch_more : (l : ℕ) (q : PlainPiece) (p : ℕ × PlainSwitch) (g h : PlainGrowth) → HaveGrown g h → SwitchKnown l q p g → SwitchKnown l q p h
  switch_more l q (e, w) g h grown k leaves = knows_more n region w.to (IsResult a e q) g h grown (k leaves)

  all_more : {A : Type 0} (Q : A → PlainGrowth → Type 0) (g h : PlainGrowth) → ((x : A) → Q x g → Q x h) → (xs : List A) → AllOf (λ x. Q x g) xs → AllOf (λ x. Q x h) xs
  all_more Q g h f [] k = tt
  all_more Q g h f (x ∷ xs) k = (f x k.0, all_more Q g h f xs k.1)

  piece_more : (l : ℕ) (q : PlainPiece) (g h : PlainGrowth) → HaveGrown g h → PieceKnown l q g → PieceKnown l q h
  piece_more l q g h grown k = record {
    flow = knows_more n region l (IsFlowEnd a l q) g h grown k.flow;
    switches = all_more (SwitchKnown l q) g h (λ p. switch_more l q p g h grown) (numbered 0 a.switches) k.switches;
  }

  -- ---- one piece
  module _ (l : ℕ) (there : l < length a.locs) (q : PlainPiece) (from : IsFrom a region l q) where
    -- a state of the piece is one of the region
    in_region : (x : PlainPoint) → IsState a (state_at l x) → InPiece q x → InRegion a region (state_at l x)
    in_region x s i = record { state = s; some = from.kept x s.fits i }

    flow_follows : (y : PlainPoint) → length y ≡ n → IsFlowEnd a l q y → FollowsFrom a (InRegion a region) (state_at l y)
    flow_follows y e h = record {
      from = state_at l h.start;
      kept = in_region h.start h.legal.start h.inside;
      step = record { action = by_flow h.time y; legal = h.legal; leads = refl };
    }

    flow_added : (g : PlainGrowth) → Sound g → HasStepped Sound HaveGrown (Knows n region l (IsFlowEnd a l q)) g (add_flow a region l q g).value
    flow_added g h = added a region over l there (IsFlowEnd a l q) flow_follows (after_flow a l q).value (after_flow-exact a proper l q from.wide from.inside) g h

    module _ (e : ℕ) (w : PlainSwitch) (is : slice_get a.switches e ≡ Some w) (leaves : w.from ≡ l) where
      result_follows : (y : PlainPoint) → length y ≡ n → IsResult a e q y → FollowsFrom a (InRegion a region) (state_at w.to y)
      result_follows y f h =
          let g = some_there (slice_get a.switches e) w (λ k. LegalSwitch a e (state_at k.from h.start) (state_at k.to y)) is h.legal in
          let start : InRegion a region (state_at w.from h.start) =
          subst (λ (k : ℕ). InRegion a region (state_at k h.start)) (sym leaves) (in_region h.start (subst (λ (k : ℕ). IsState a (state_at k h.start)) leaves g.start) h.inside) in
          record { from = state_at w.from h.start; kept = start; step = record { action = by_switch e (state_at w.to y); legal = g; leads = refl } }

      result_added : (g : PlainGrowth) → Sound g → HasStepped Sound HaveGrown (Knows n region w.to (IsResult a e q)) g (add_result a region q g e w).value
      result_added g h =
          added a region over w.to (all_there (IsSwitch n (length a.locs)) a.switches e w is proper.switches).to (IsResult a e q) result_follows (after_switch a e q).value
          (after_switch-exact a proper e q from.wide (there_some (slice_get a.switches e) w (λ k. IsInside a k.from q) is (subst (λ (k : ℕ). IsInside a k q) (sym leaves) from.inside))) g h

    switch_added : (p : ℕ × PlainSwitch) → slice_get a.switches p.0 ≡ Some p.1 → (g : PlainGrowth) → Sound g
        → HasStepped Sound HaveGrown (SwitchKnown l q p) g (add_switch a region l q g p).value
    switch_added (e, w) is g h =
        by_bool (nat_eq w.from l)
        (λ t.
        let leaves = eqb-true w.from l t in
        let s = result_added e w is leaves g h in
        subst (λ b. HasStepped Sound HaveGrown (SwitchKnown l q (e, w)) g (cond b (add_result a region q g e w) (record { value = g; wide = false; rows = false; pieces = false })).value) (sym t)
        (record { sound = s.sound; grown = s.grown; left = λ _. s.left }))
        (λ f.
        subst (λ b. HasStepped Sound HaveGrown (SwitchKnown l q (e, w)) g (cond b (add_result a region q g e w) (record { value = g; wide = false; rows = false; pieces = false })).value) (sym f)
        (record { sound = h; grown = same_growth g; left = λ leaves. false_true (sym f ∙ eq-eqb w.from l leaves) }))

    switches_added : (g : PlainGrowth) → Sound g
        → HasWalked Sound HaveGrown (SwitchKnown l q) g (numbered 0 a.switches) (walk (add_switch a region l q) g (numbered 0 a.switches)).value
    switches_added g h =
        walked Sound HaveGrown (SwitchKnown l q) (λ p. slice_get a.switches p.0 ≡ Some p.1) (add_switch a region l q) same_growth growth_on (λ p s t f k. switch_more l q p s t f k) switch_added
        (numbered 0 a.switches) (numbered_there a.switches a.switches 0 (λ j. ap (slice_get a.switches) (omega arith))) g h

    piece_added : (g : PlainGrowth) → Sound g → HasStepped Sound HaveGrown (PieceKnown l q) g (add_piece a region l g q).value
    piece_added g h =
        let first = flow_added g h in
        let next = (add_flow a region l q g).value in
        let rest = switches_added next first.sound in
        let end = (walk (add_switch a region l q) next (numbered 0 a.switches)).value in
        record {
          sound = rest.sound;
          grown = growth_on g next end first.grown rest.grown;
          left = record { flow = knows_more n region l (IsFlowEnd a l q) next end rest.grown first.left; switches = rest.left };
        }

-- ---- all newest pieces
module _ (a : PlainPlant) (proper : IsProper a) (s : PlainStage) (region_is : IsRegion a s.region) where
  abbrev Grows : PlainGrowth → Type 0
  Grows g = IsGrowth a s.region g

  abbrev LocationKnown : ℕ → PlainGrowth → Type 0
  LocationKnown l g = AllOf (λ q. PieceKnown a proper s.region region_is l q g) (newest_at s l)

  location_more : (l : ℕ) (g h : PlainGrowth) → HaveGrown g h → LocationKnown l g → LocationKnown l h
  location_more l g h grown k =
      all_more a proper s.region region_is (PieceKnown a proper s.region region_is l) g h (λ q. piece_more a proper s.region region_is l q g h grown) (newest_at s l) k

  newest_from : (l : ℕ) → AllOf (IsFrom a s.region l) (newest_at s l)
  newest_from l = newest_inside a s region_is l (IsFrom a s.region l) (λ q poly inside kept. record { wide = poly.wide; inside = inside; kept = kept })

  location_added : (l : ℕ) → l < length a.locs → (g : PlainGrowth) → Grows g → HasStepped Grows HaveGrown (LocationKnown l) g (add_location a s g l).value
  location_added l there g h =
      let w = walked Grows HaveGrown (PieceKnown a proper s.region region_is l) (IsFrom a s.region l) (add_piece a s.region l) same_growth growth_on (λ q g h f k. piece_more a proper s.region region_is l q g h f k)
      (λ q from g h. piece_added a proper s.region region_is l there q from g h) (newest_at s l) (newest_from l) g h in
      record { sound = w.sound; grown = w.grown; left = w.left }

  no_new : (m l : ℕ) → pieces_at (no_growth m).new l ≡ []
  no_new zero l = refl
  no_new (suc m) zero = refl
  no_new (suc m) (suc l) = no_new m l

  no_many : (m : ℕ) → length (no_growth m).new ≡ m
  no_many zero = refl
  no_many (suc m) = ap (λ (k : ℕ). suc k) (no_many m)

  nothing_grown : Grows (no_growth (length a.locs))
  nothing_grown =
      let m = length a.locs in
      record {
        many = no_many m;
        polys = λ l. subst (AllOf (IsPoly frac_arithmetic (length a.vars))) (sym (no_new m l)) tt;
        sound = λ z e i. absurd (subst (λ ps. InSome ps z.at) (no_new m z.loc) i);
        adds = no_new m;
      }

  all_added : HasWalked Grows HaveGrown LocationKnown (no_growth (length a.locs)) (range_with_len 0 (length a.locs)) (growth a s).value
  unfolding growth
  all_added =
      walked Grows HaveGrown LocationKnown (λ l. l < length a.locs) (add_location a s) same_growth growth_on location_more location_added
      (range_with_len 0 (length a.locs)) (range_all (length a.locs)) (no_growth (length a.locs)) nothing_grown

  module _ (g : PlainGrowth) (left : AllOf (λ l. LocationKnown l g) (range_with_len 0 (length a.locs))) where
    known_from : (l : ℕ) → l < length a.locs → LocationKnown l g
    known_from l there = range_of (λ k. LocationKnown k g) (length a.locs) l there left

    module _ (z : PlainState) (q : PlainPiece) (inside : InPiece q z.at) (k : PieceKnown a proper s.region region_is z.loc q g) where
      fits_after : (t : Number) (y : PlainPoint) → LegalFlow a z t y → length y ≡ length a.vars
      fits_after t y h = some_out (λ p. IsFlow p.inv p.flow z.at t y) (length y ≡ length a.vars) (λ p f. sym f.same_length ∙ h.start.fits) (slice_get a.locs z.loc) h.flow

      action_known : (x : PlainAction) → IsLegalAction a z x → InSome (known_at s.region g (result_of z x).loc) (result_of z x).at
      action_known (by_flow t y) h = k.flow y (fits_after t y h) (record { start = z.at; inside = inside; time = t; legal = h })
      action_known (by_switch e y) h =
          let w = h.switch in
          let leads : SwitchKnown a proper s.region region_is z.loc q (e, w) g = numbered_at (λ p. SwitchKnown a proper s.region region_is z.loc q p g) a.switches e w h.is_there k.switches in
          let at : LegalSwitch a e (state_at w.from z.at) (state_at w.to y.at) =
          subst (λ (i : ℕ). LegalSwitch a e (state_at i z.at) (state_at w.to y.at)) (sym h.leaves) (subst (λ (i : ℕ). LegalSwitch a e z (state_at i y.at)) (sym h.enters) h) in
          subst (λ (i : ℕ). InSome (known_at s.region g i) y.at) h.enters
          (leads h.leaves y.at h.result.fits (record { start = z.at; inside = inside; legal = there_some (slice_get a.switches e) w (λ v. LegalSwitch a e (state_at v.from z.at) (state_at v.to y.at)) h.is_there at }))

    -- a legal action from a state of a newest piece leads to what is known
    newest_known : (z y : PlainState) → InSome (newest_at s z.loc) z.at → LeadsTo a z y → InSome (known_at s.region g y.loc) y.at
    newest_known z y i step =
        let there : z.loc < length a.locs = action_below z step.action step.legal in
        subst (λ (w : PlainState). InSome (known_at s.region g w.loc) w.at) step.leads
        (all_some (λ q. PieceKnown a proper s.region region_is z.loc q g) (λ q. InPiece q z.at) (InSome (known_at s.region g (result_of z step.action).loc) (result_of z step.action).at)
        (λ q k inside. action_known z q inside k step.action step.legal) (newest_at s z.loc) (known_from z.loc there) ((in_some_of (newest_at s z.loc) z.at).0 i))
      where
        action_below : (z : PlainState) (x : PlainAction) → IsLegalAction a z x → z.loc < length a.locs
        action_below z (by_flow t y) h = there_below (λ p. InPiece p.inv z.at) a.locs z.loc h.start.inside
        action_below z (by_switch e y) h = there_below (λ p. InPiece p.inv z.at) a.locs z.loc h.start.inside

  -- the new pieces of a level
  pub whole_growth : IsWholeGrowth a s (growth a s).value
  whole_growth = record { growth = all_added.sound; whole = newest_known (growth a s).value all_added.left }
