-- The stage after a level, where that before it is a level.
use Rattle.std.proofs.Common.{◌≡◌, ◌⊎◌, ◌↔◌, ◌<◌, ◌≤◌, ◌+◌, not, ◌&&◌, inl, inr, ℕ, zero, suc, Bool, true, false, List, [], ◌∷◌, ◌++◌, map, take, drop, length, get_or, slice_get, Option, Some, None, refl, sym, ap, ◌∙◌, subst, arith, append-nil}
use Rattle.std.specs.List.{range_with_len}
use Rattle.std.proofs.lemmas.Bool.{and_parts, not-true, cases_lt}
use Rattle.lhg_math.specs.Number.{Number}
use Rattle.lhg_math.specs.Tests.{AllOf, false_true, by_bool, all_from_every}
use Rattle.lhg_num.specs.FracArithmetic.{frac_arithmetic, frac_is_lawful}
use Rattle.lhg_num.specs.Marked.{Marked, each}
use Rattle.lhg_row.specs.Row.{PlainPoint}
use Rattle.lhg_row.specs.Piece.{PlainPiece, InPiece, InSome, in_some}
use Rattle.lhg_row.specs.PieceLemmas.{in_some_is}
use Rattle.lhg_row.specs.Decisions.{nat_decided}
use Rattle.lhg_row.specs.Members.{all-append}
use Rattle.lhg_row.specs.SomeLists.{in_left, in_right, in_either}
use Rattle.lhg_row.specs.PieceFacts.{IsPoly, AllPolys, IsDifference, HasUncovered, IsPointOf}
use Rattle.lhg_row.specs.Lists.{minus}
use Rattle.lhg_row.specs.MinusLaws.{minus-exact}
use Rattle.lhg_row.specs.CoveredLaws.{minus-polys, polys-over}
use Rattle.lhg_row.specs.Sample.{sample}
use Rattle.lhg_row.specs.SampleLaws.{sample-in}
use Rattle.lhg_plant.specs.Plant.{PlainPlant}
use Rattle.lhg_plant.specs.Proper.{IsProper}
use Rattle.lhg_plant.specs.State.{PlainState, IsState, moved_to}
use Rattle.lhg_plant.specs.Legal.{LegalFlow, LegalSwitch}
use Rattle.lhg_plant.specs.Region.{PlainRegion, InRegion}
use Rattle.lhg_plant.specs.Invariants.{pieces_at}
use Rattle.lhg_plant.specs.Inside.{AllInside}
use Rattle.lhg_plant.specs.Sound.{IsInside}
use Rattle.lhg_plant.specs.SwitchFacts.{state_at}
use Rattle.lhg_plant.proofs.InsideStates.{inside_from, some_inside}
use Rattle.lhg_plant.proofs.ListSteps.{range-at, range-past, difference-in}
use Rattle.lhg_plant.proofs.Options.{some_weaken, some_out}
use Rattle.lhg_motion.specs.Flow.{IsFlow}
use Rattle.lhg_forward.specs.Level.{PlainAction, by_flow, by_switch, result_of, IsLegalAction, LeadsTo, FollowsFrom, AtLevel, IsAddedIn, AddsSome, AddsNothing, IsLastLevel}
use Rattle.lhg_forward.specs.Growth.{PlainGrowth, PlainStage, older_at, newest_at, oldest_at, joined_at, joined, grown_stage, growth, staged, first_stage, first_sample, new_state, spent_at, spent_state, none_new}
use Rattle.lhg_forward.specs.GrowthFacts.{IsRegion, known_at, HasNewFirst, HasFirst, IsGrowth, IsWholeGrowth, IsClosedStage, HasNewestAt, HasNewest}
use Rattle.lhg_forward.specs.StageFacts.{IsStage, IsForward}
use Rattle.lhg_forward.proofs.Levels.{level_reachable, stands_still}
use Rattle.lhg_forward.proofs.StagePieces.{parts_join, take_first, drop_first}

-- ---- lists that are joined
past_end : (xs : List (List PlainPiece)) (l : ℕ) → length xs ≤ l → get_or xs l [] ≡ []
past_end [] l h = refl
past_end (x ∷ xs) zero h = absurd (omega arith)
past_end (x ∷ xs) (suc l) h = past_end xs l (omega arith)

pub joined-at : (m : ℕ) (region new : PlainRegion) → length region ≡ m → length new ≡ m → (l : ℕ) → pieces_at (joined m region new).value l ≡ pieces_at region l ++ pieces_at new l
unfolding joined
joined-at m region new r n l = elim (cases_lt l m) [
  | inl less ↦ (let here : 0 + l ≡ l = omega arith in range-at (joined_at region new) 0 m l less ∙ ap (λ (k : ℕ). pieces_at region k ++ pieces_at new k) here)
  | inr more ↦ range-past (joined_at region new) 0 m l more ∙ sym (ap (λ ps. ps ++ pieces_at new l) (past_end region l (omega arith)) ∙ past_end new l (omega arith))
]

joined-many : (m : ℕ) (region new : PlainRegion) → length (joined m region new).value ≡ m
unfolding joined
joined-many m region new = each_many (joined_at region new) 0 m
  where
    each_many : (f : ℕ → Marked (List PlainPiece)) (k m : ℕ) → length (each f (range_with_len k m)).value ≡ m
    each_many f k zero = refl
    each_many f k (suc m) = ap (λ (i : ℕ). suc i) (each_many f (k + 1) m)

-- how many pieces each location had
lengths_at : (region : PlainRegion) (l : ℕ) → get_or (map length region) l 0 ≡ length (pieces_at region l)
lengths_at [] l = refl
lengths_at (ps ∷ region) zero = refl
lengths_at (ps ∷ region) (suc l) = lengths_at region l

-- ---- actions
-- a legal action ends in a state
flow_state : (a : PlainPlant) (s : PlainState) (t : Number) (y : PlainPoint) → LegalFlow a s t y → IsState a (moved_to s y)
flow_state a s t y h = record {
  fits = some_out (λ p. IsFlow p.inv p.flow s.at t y) (length y ≡ length a.vars) (λ p f. sym f.same_length ∙ h.start.fits) (slice_get a.locs s.loc) h.flow;
  inside = some_weaken (λ p. IsFlow p.inv p.flow s.at t y) (λ p. InPiece p.inv y) (λ p f. f.to_in) (slice_get a.locs s.loc) h.flow;
}

result_state : (a : PlainPlant) (s : PlainState) (x : PlainAction) → IsLegalAction a s x → IsState a (result_of s x)
result_state a s (by_flow t y) h = flow_state a s t y h
result_state a s (by_switch e y) h = h.result

pub action_state : (a : PlainPlant) (s z : PlainState) → LeadsTo a s z → IsState a z
action_state a s z step = subst (IsState a) step.leads (result_state a s step.action step.legal)

-- a point over n variables in some piece of the list
pub record IsPointIn (n : ℕ) (ps : List PlainPiece) (x : PlainPoint) : Type 0 where
  pub wide : length x ≡ n
  pub inside : InSome ps x

-- the sample of the first of some pieces is a point of these, in the location
sampled_first : (n l : ℕ) (ps : List PlainPiece) → AllPolys frac_arithmetic n ps → (x : PlainPoint) → InSome ps x
    → ((first_sample n l ps).value.loc ≡ l) × IsPointIn n ps (first_sample n l ps).value.at
sampled_first n l [] polys x i = absurd i
sampled_first n l (p ∷ ps) polys x i = let at = sample-in n p polys.0.wide polys.0.point in (refl, record { wide = at.wide; inside = inl at.inside })

-- ---- the next stage
module _ (a : PlainPlant) (s : PlainStage) (c : IsClosedStage a s) (g : PlainGrowth) (w : IsWholeGrowth a s g) where
  abbrev n : ℕ
  n = length a.vars

  abbrev m : ℕ
  m = length a.locs

  abbrev region : PlainRegion
  region = s.region

  abbrev next : PlainStage
  next = grown_stage s g.first (joined m region g.new).value

  abbrev after : PlainRegion
  after = (joined m region g.new).value

  all_at : (l : ℕ) → pieces_at after l ≡ known_at region g l
  all_at l = joined-at m region g.new c.region_is.listed w.growth.many l

  older_is : (l : ℕ) → older_at next l ≡ length (pieces_at region l)
  older_is l = lengths_at region l

  oldest_is : (l : ℕ) → oldest_at next l ≡ pieces_at region l
  oldest_is l = ap (λ (k : ℕ). take k (pieces_at after l)) (older_is l) ∙ ap (take (length (pieces_at region l))) (all_at l) ∙ take_first (pieces_at region l) (pieces_at g.new l)

  newest_is : (l : ℕ) → newest_at next l ≡ pieces_at g.new l
  newest_is l = ap (λ (k : ℕ). drop k (pieces_at after l)) (older_is l) ∙ ap (drop (length (pieces_at region l))) (all_at l) ∙ drop_first (pieces_at region l) (pieces_at g.new l)

  -- a new piece holds states
  new_state_is : (l : ℕ) (x : PlainPoint) → length x ≡ n → InSome (pieces_at g.new l) x → IsState a (state_at l x)
  new_state_is l x e i = let f = w.growth.sound (state_at l x) e i in action_state a f.from (state_at l x) f.step

  after_polys : (l : ℕ) → AllPolys frac_arithmetic n (pieces_at after l)
  after_polys l = subst (AllPolys frac_arithmetic n) (sym (all_at l)) (all-append (IsPoly frac_arithmetic n) (pieces_at region l) (pieces_at g.new l) (c.region_is.polys l) (w.growth.polys l))

  after_inside : (l : ℕ) → AllInside a l (pieces_at after l)
  after_inside l =
      subst (AllInside a l) (sym (all_at l))
      (all-append (IsInside a l) (pieces_at region l) (pieces_at g.new l) (c.region_is.inside l) (inside_from a l (pieces_at g.new l) (new_state_is l)))

  pub after_is : IsRegion a after
  after_is = record { listed = joined-many m region g.new; polys = after_polys; inside = after_inside }

  -- what is known is in the region
  known_in : (z : PlainState) → IsState a z → InSome (known_at region g z.loc) z.at → InRegion a after z
  known_in z state i = record { state = state; some = subst (λ ps. InSome ps z.at) (sym (all_at z.loc)) i }

  kept_in : (z : PlainState) → InRegion a region z → InRegion a after z
  kept_in z h = known_in z h.state (in_left (pieces_at region z.loc) (pieces_at g.new z.loc) z.at h.some)

  -- a legal action from a state of the region leads into the next one
  pub leads_in : (z y : PlainState) → InRegion a region z → LeadsTo a z y → InRegion a after y
  leads_in z y h step =
      let parts : InSome (oldest_at s z.loc ++ newest_at s z.loc) z.at = subst (λ ps. InSome ps z.at) (sym (parts_join (older_at s z.loc) (pieces_at region z.loc))) h.some in
      elim (in_either (oldest_at s z.loc) (newest_at s z.loc) z.at parts) [
        | inl i ↦ kept_in y (c.closed z y i step)
        | inr i ↦ known_in y (action_state a z y step) (w.whole z y i step)
      ]

  pub next_closed : IsClosedStage a next
  next_closed = record {
    region_is = after_is;
    closed = λ z y i step.
        let here : InSome (pieces_at region z.loc) z.at = subst (λ ps. InSome ps z.at) (oldest_is z.loc) i in
        leads_in z y (record { state = started a z step; some = here }) step;
  }
    where
      start_of : (a : PlainPlant) (z : PlainState) (x : PlainAction) → IsLegalAction a z x → IsState a z
      start_of a z (by_flow t y) h = h.start
      start_of a z (by_switch e y) h = h.start

      started : (a : PlainPlant) (z : PlainState) {y : PlainState} → LeadsTo a z y → IsState a z
      started a z step = start_of a z step.action step.legal

  -- what the next region holds
  pub after_states : (z : PlainState) → InRegion a after z ↔ (InRegion a region z ⊎ FollowsFrom a (InRegion a region) z)
  after_states z = (
    λ h. elim (in_either (pieces_at region z.loc) (pieces_at g.new z.loc) z.at (subst (λ ps. InSome ps z.at) (all_at z.loc) h.some)) [
      | inl i ↦ inl (record { state = h.state; some = i })
      | inr i ↦ inr (w.growth.sound z h.state.fits i)
    ],
    λ h. elim h [
      | inl k ↦ kept_in z k
      | inr f ↦ leads_in f.from z f.kept f.step
    ],
  )

  -- ---- the sample
  -- a point of the first new piece that is in no piece of the location is left of it
  sample_new : (l : ℕ) → HasNewFirst n region g.new l
      → (x : PlainState) × ((spent_at n next (Some l)).value ≡ x) × InRegion a after x × ¬ InRegion a region x
  sample_new l f =
      let rest = (minus frac_arithmetic n (f.piece ∷ []) (pieces_at region l)).value in
      let new_polys : AllPolys frac_arithmetic n (f.piece ∷ f.others) = subst (AllPolys frac_arithmetic n) f.is (w.growth.polys l) in
      let one : AllPolys frac_arithmetic n (f.piece ∷ []) = (new_polys.0, tt) in
      let over = polys-over frac_arithmetic n (pieces_at region l) (c.region_is.polys l) in
      let differ = minus-exact frac_arithmetic n (f.piece ∷ []) (pieces_at region l) frac_is_lawful (new_polys.0.wide, tt) over in
      let polys = minus-polys frac_arithmetic n (f.piece ∷ []) (pieces_at region l) frac_is_lawful one over in
      let here : InSome rest f.uncovered.point =
      (difference-in n (f.piece ∷ []) (pieces_at region l) rest f.uncovered.point f.uncovered.wide differ).1
      ((in_some_is (f.piece ∷ []) f.uncovered.point).1 f.uncovered.inside, λ k. false_true (sym f.uncovered.outside ∙ (in_some_is (pieces_at region l) f.uncovered.point).0 k)) in
      let x = (first_sample n l rest).value in
      let same : (spent_at n next (Some l)).value ≡ x =
      ap (λ ps. (new_state n l (oldest_at next l) ps).value) (newest_is l ∙ f.is) ∙ ap (λ ps. (new_state n l ps (f.piece ∷ f.others)).value) (oldest_is l) in
      let at = sampled_first n l rest polys f.uncovered.point here in
      let both = (difference-in n (f.piece ∷ []) (pieces_at region l) rest x.at at.1.wide differ).0 at.1.inside in
      let new_here : InSome (pieces_at g.new l) x.at = subst (λ ps. InSome ps x.at) (sym f.is) (first_in f.piece f.others x.at both.0) in
      let state : IsState a (state_at l x.at) = new_state_is l x.at at.1.wide new_here in
      let placed : InRegion a after (state_at l x.at) = known_in (state_at l x.at) state (in_right (pieces_at region l) (pieces_at g.new l) x.at new_here) in
      (x, same, subst (λ (k : ℕ). InRegion a after (state_at k x.at)) (sym at.0) placed, λ h. both.1 (subst (λ (k : ℕ). InSome (pieces_at region k) x.at) at.0 h.some))
    where
      first_in : (p : PlainPiece) (ps : List PlainPiece) (x : PlainPoint) → InSome (p ∷ []) x → InSome (p ∷ ps) x
      first_in p ps x (inl i) = inl i
      first_in p ps x (inr i) = absurd i

-- ---- levels
module _ (a : PlainPlant) (init : PlainRegion) (i : ℕ) (s : PlainStage) (h : IsStage a init i s) (g : PlainGrowth) (w : IsWholeGrowth a s g) where
  abbrev on : PlainStage
  on = grown_stage s g.first (joined (length a.locs) s.region g.new).value

  -- the next region is the next level
  on_exact : (z : PlainState) → InRegion a on.region z ↔ AtLevel a (InRegion a init) (suc i) z
  on_exact z =
      let both = after_states a s h.closed_is g w z in (
        λ k. elim (both.0 k) [
          | inl x ↦ inl ((h.exact z).0 x)
          | inr f ↦ inr (record { from = f.from; kept = (h.exact f.from).0 f.kept; step = f.step })
        ],
        λ k. elim k [
          | inl x ↦ both.1 (inl ((h.exact z).1 x))
          | inr f ↦ both.1 (inr (record { from = f.from; kept = (h.exact f.from).1 f.kept; step = f.step }))
        ],
      )

  first_adds : (o : Option ℕ) → HasFirst (length a.vars) (length a.locs) s.region g.new o → none_new o ≡ false → IsAddedIn a (InRegion a init) (suc i) (spent_at (length a.vars) on o).value
  first_adds None none f = false_true (sym f)
  first_adds (Some l) some f =
      let x = sample_new a s h.closed_is g w l some.1 in
      subst (IsAddedIn a (InRegion a init) (suc i)) (sym x.1)
      (record { level = i; number = refl; now = (on_exact x.0).0 x.2; before = λ k. x.3 ((h.exact x.0).1 k) })

  -- a level with a new piece adds the sample
  pub sample_added : none_new g.first ≡ false → IsAddedIn a (InRegion a init) (suc i) (spent_state a on).value
  sample_added f = first_adds g.first w.growth.adds f

  -- and its stage is the next one
  pub stage_step : none_new g.first ≡ false → IsStage a init (suc i) on
  stage_step f = record {
    closed_is = next_closed a s h.closed_is g w;
    exact = on_exact;
    adds = λ j l k. elim (nat_decided j (suc i)) [
      | inl e ↦ subst (λ (x : ℕ). AddsSome a (InRegion a init) x) (sym e) ((spent_state a on).value, sample_added f)
      | inr e ↦ h.adds j l (omega arith)
    ];
    sampled = λ l. sample_added f;
  }

  -- the first of its newest pieces has a point that is in no older one
  first_newest : (o : Option ℕ) → HasFirst (length a.vars) (length a.locs) s.region g.new o → none_new o ≡ false → HasNewestAt a on o
  first_newest None none f = false_true (sym f)
  first_newest (Some l) some f = (
    some.0,
    record {
      piece = some.1.piece;
      others = some.1.others;
      is = newest_is a s h.closed_is g w l ∙ some.1.is;
      uncovered = subst (HasUncovered (length a.vars) (some.1.piece ∷ [])) (sym (oldest_is a s h.closed_is g w l)) some.1.uncovered;
    },
  )

  pub newest_on : none_new g.first ≡ false → HasNewest a on
  newest_on f = first_newest g.first w.growth.adds f

  nothing_more : (o : Option ℕ) → HasFirst (length a.vars) (length a.locs) s.region g.new o → none_new o ≡ true → (l : ℕ) → pieces_at g.new l ≡ []
  nothing_more None none f l = none l
  nothing_more (Some k) some f l = false_true f

  -- a level without a new piece holds no more
  stays_here : none_new g.first ≡ true → (z : PlainState) → InRegion a on.region z → InRegion a s.region z
  stays_here f z k = record {
    state = k.state;
    some = subst (λ ps. InSome ps z.at)
        (all_at a s h.closed_is g w z.loc ∙ ap (λ ps. pieces_at s.region z.loc ++ ps) (nothing_more g.first w.growth.adds f z.loc) ∙ append-nil (pieces_at s.region z.loc)) k.some;
  }

  no_more : none_new g.first ≡ true → (z : PlainState) → AtLevel a (InRegion a init) (suc i) z → AtLevel a (InRegion a init) i z
  no_more f z k = (h.exact z).0 (stays_here f z ((on_exact z).1 k))

  -- so it is the first to add nothing, and its region is what is reachable
  pub stage_ended : none_new g.first ≡ true → IsForward a init (suc i) (suc i) on.region
  stage_ended f = record {
    region_is = after_is a s h.closed_is g w;
    exact = λ z. (
      λ k. level_reachable a (InRegion a init) (suc i) z ((on_exact z).0 k),
      λ k. (on_exact z).1 (inl (stands_still a (InRegion a init) i (no_more f) z k)),
    );
    last = record {
      counted = omega arith;
      settled = λ z k. (let same : k.level ≡ i = (let e = k.number in omega arith) in k.before (subst (λ (x : ℕ). AtLevel a (InRegion a init) x z) (sym same) (no_more f z k.now)));
      first = λ j l m k. (let x = h.adds j l (omega arith) in k x.0 x.1);
    };
    within = omega arith;
  }
