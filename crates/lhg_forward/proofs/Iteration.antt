-- The iteration over the levels ends with the forward reachable states, or with a state that the last level of its budget adds.
use Rattle.std.proofs.Common.{◌≡◌, ◌⊎◌, ◌↔◌, ◌<◌, ◌≤◌, ◌+◌, inl, inr, ℕ, zero, suc, true, false, cond, List, [], ◌∷◌, map, take, get_or, nat_eq, refl, sym, ap, ◌∙◌, subst, arith}
use Rattle.std.proofs.lemmas.Bool.{cases_lt, eq-eqb}
use Rattle.lhg_math.specs.Tests.{by_bool}
use Rattle.lhg_num.specs.Marked.{Marked, done, valued}
use Rattle.lhg_num.specs.MarkedLaws.{IsPart, part_self, part_part, rest_part, and_then-rest, and_then-part}
use Rattle.lhg_row.specs.Decisions.{nat_decided}
use Rattle.lhg_row.specs.Piece.{PlainPiece, InSome}
use Rattle.lhg_plant.specs.Plant.{PlainPlant}
use Rattle.lhg_plant.specs.Proper.{IsProper}
use Rattle.lhg_plant.specs.State.{PlainState}
use Rattle.lhg_plant.specs.Region.{PlainRegion, InRegion}
use Rattle.lhg_plant.specs.Invariants.{pieces_at}
use Rattle.lhg_forward.specs.Level.{AtLevel, IsAddedIn, AddsSome, IsLastLevel}
use Rattle.lhg_forward.specs.Growth.{PlainGrowth, PlainStage, PlainForward, ended, spent, older_at, oldest_at, growth, joined, grown_stage, staged, first_stage, stage, none_new, spent_state, forward_within, forward_sets, nothing, work}
use Rattle.lhg_forward.specs.GrowthFacts.{IsRegion, IsClosedStage}
use Rattle.lhg_forward.specs.StageFacts.{IsStage, IsForward, IsSpent, IsEnd}
use Rattle.lhg_forward.specs.Laws.{ForwardLaw, OutcomeLaws}
use Rattle.lhg_forward.specs.WorkLaws.{StepLaws, WorkLaws}
use Rattle.lhg_forward.proofs.GrowthWalks.{whole_growth}
use Rattle.lhg_forward.proofs.Levels.{last_once}
use Rattle.lhg_forward.proofs.StageSteps.{stage_step, sample_added, stage_ended}

-- ---- the first stage
none_older : (init : PlainRegion) (l : ℕ) → older_at (first_stage init) l ≡ zero
none_older [] l = refl
none_older (ps ∷ init) zero = refl
none_older (ps ∷ init) (suc l) = none_older init l

none_oldest : (init : PlainRegion) (l : ℕ) → oldest_at (first_stage init) l ≡ []
none_oldest init l = ap (λ (k : ℕ). take k (pieces_at init l)) (none_older init l)

pub stage_start : (a : PlainPlant) (init : PlainRegion) → IsRegion a init → IsStage a init 0 (first_stage init)
stage_start a init h = record {
  closed_is = record { region_is = h; closed = λ z y i step. absurd (subst (λ ps. InSome ps z.at) (none_oldest init z.loc) i) };
  exact = λ z. (λ k. k, λ k. k);
  adds = λ j l k. absurd (omega arith);
  sampled = λ l. absurd (omega arith);
}

-- ---- from a stage on
pub within_more : (a : PlainPlant) (init : PlainRegion) (b budget rounds : ℕ) (region : PlainRegion) → b ≤ budget → IsForward a init b rounds region → IsForward a init budget rounds region
within_more a init b budget rounds region l h = record { region_is = h.region_is; exact = h.exact; last = h.last; within = let w = h.within in omega arith }

pub forward_ends : (left : ℕ) (a : PlainPlant) (init : PlainRegion) (budget i : ℕ) (s : PlainStage) → left + i ≡ budget → 0 < budget → IsProper a → IsStage a init i s
    → IsEnd a init budget (forward_within left a i s)
forward_ends zero a init budget i s sum some proper h =
    let same : i ≡ budget = omega arith in
    subst (λ (w : ℕ). IsSpent a init w (spent_state a s).value) same (record { added = h.sampled (omega arith); adds = h.adds })
forward_ends (suc left) a init budget i s sum some proper h =
    let g = (growth a s).value in
    let w = whole_growth a proper s h.closed_is.region_is in
    let t = (staged a s).value in
    let now : PlainForward = ended (suc i) t.region in
    let later : PlainForward = forward_within left a (suc i) t in
    by_bool (none_new g.first)
    (λ e. subst (λ b. IsEnd a init budget (cond b now later)) (sym e) (within_more a init (suc i) budget (suc i) t.region (omega arith) (stage_ended a init i s h g w e)))
    (λ e. subst (λ b. IsEnd a init budget (cond b now later)) (sym e) (forward_ends left a init budget (suc i) t (omega arith) some proper (stage_step a init i s h g w e)))

pub forward_law : (a : PlainPlant) → ForwardLaw a
unfolding forward_sets stage
forward_law a proper init h budget some = forward_ends budget a init budget 0 (first_stage init) (omega arith) some proper (stage_start a init h)

-- ---- the two ends exclude each other
pub outcome_laws : (a : PlainPlant) (init : PlainRegion) (budget : ℕ) → OutcomeLaws a init budget
outcome_laws a init budget = record {
  not_spent = λ z r h l k. (let x = h.adds r l.counted k in l.settled x.0 x.1);
  not_ended = λ rounds region h f. (let x = f rounds h.last.counted h.within in h.last.settled x.0 x.1);
  last = λ rounds region r h l. last_once a (InRegion a init) rounds r h.last l;
}

-- ---- steps
module _ (a : PlainPlant) (init : PlainRegion) where
  begins : (budget : ℕ) → forward_sets a init budget ≡ forward_within budget a 0 (stage a init 0).value
  unfolding forward_sets
  begins budget = refl

  starts : (stage a init 0).value ≡ first_stage init
  unfolding stage
  starts = refl

  follows : (i : ℕ) → (stage a init (suc i)).value ≡ (staged a (stage a init i).value).value
  unfolding stage
  follows i = refl

  module _ (left i : ℕ) (s : PlainStage) where
    abbrev t : PlainStage
    t = (staged a s).value

    either_step : forward_within (suc left) a i s ≡ cond (none_new t.first) (ended (suc i) t.region) (forward_within left a (suc i) t)
    either_step = refl

    go_on_step : none_new t.first ≡ false → forward_within (suc left) a i s ≡ forward_within left a (suc i) t
    go_on_step e = either_step ∙ ap (λ b. cond b (ended (suc i) t.region) (forward_within left a (suc i) t)) e

    ended_step : none_new t.first ≡ true → forward_within (suc left) a i s ≡ ended (suc i) t.region
    ended_step e = either_step ∙ ap (λ b. cond b (ended (suc i) t.region) (forward_within left a (suc i) t)) e

  pub step_laws : StepLaws a init
  step_laws = record {
    first = begins;
    starts = starts;
    next = follows;
    go_on = go_on_step;
    ended = ended_step;
    used_up = λ i s. refl;
  }

-- ---- marks
module _ (a : PlainPlant) (init : PlainRegion) (budget i : ℕ) where
  abbrev beside : PlainStage → Marked (Unit {0})
  beside s =
      let last = valued nothing (spent_state a s) in
      cond (nat_eq (suc i) budget) last (done tt)

  abbrev whole : Marked (Unit {0})
  whole = work a init budget (suc i)

  stage_part : IsPart whole (stage a init (suc i))
  unfolding work
  stage_part = and_then-part (stage a init (suc i)) beside

  level_part : IsPart (stage a init (suc i)) (staged a (stage a init i).value)
  unfolding stage
  level_part = part_self (staged a (stage a init i).value)

  beside_part : IsPart whole (beside (stage a init (suc i)).value)
  unfolding work
  beside_part =
      let b = beside (stage a init (suc i)).value in
      rest_part whole b b (and_then-rest (stage a init (suc i)) beside) (part_self b)

  last_part : suc i ≡ budget → IsPart whole (spent_state a (stage a init (suc i)).value)
  last_part e =
      let sampled = valued nothing (spent_state a (stage a init (suc i)).value) in
      let h = subst (λ b. IsPart whole (cond b sampled (done tt))) (eq-eqb (suc i) budget e) beside_part in
      record { wide = h.wide; rows = h.rows; pieces = h.pieces }

  pub work_laws : WorkLaws a init budget i
  work_laws = record {
    level = part_part whole (stage a init (suc i)) (staged a (stage a init i).value) stage_part level_part;
    last = last_part;
  }
