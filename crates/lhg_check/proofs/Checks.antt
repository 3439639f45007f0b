-- The check of a controller is exact.
use Rattle.std.proofs.Common.{◌≡◌, ℕ, List, [], length, get_or, slice_get, IsSomeAnd, Option, Some, None, refl, subst, inl, inr}
use Rattle.lhg_num.specs.Marked.{IsRest, and_then}
use Rattle.lhg_num.specs.MarkedLaws.{IsPart, rest_rest, rest_part, and_then-rest, and_then-part}
use Rattle.lhg_row.specs.Piece.{PlainPiece}
use Rattle.lhg_row.specs.Sample.{sample}
use Rattle.lhg_plant.specs.Plant.{PlainSwitch, PlainPlant}
use Rattle.lhg_plant.specs.Proper.{IsProper}
use Rattle.lhg_plant.specs.State.{PlainState}
use Rattle.lhg_plant.specs.Controller.{PlainController}
use Rattle.lhg_plant.specs.Region.{PlainRegion}
use Rattle.lhg_plant.specs.OutCalculus.{PlainOuts, out}
use Rattle.lhg_plant.specs.SwitchFacts.{state_at}
use Rattle.lhg_plant.proofs.Decided.{safe_decided}
use Rattle.lhg_check.specs.Check.{PlainVerdict, valid, unsafe, bad_guard, escapes, unsafe_pieces, broken_guards, lost_pieces, sample_at, from_of, first_piece, verdict, check}
use Rattle.lhg_check.specs.CheckFacts.{IsCheckable, HasReachedFor, AllSafe, AllGuardsHold, IsClosed, BreaksSafe, BreaksGuard, IsBadGuard, IsEscaping, IsVerdict}
use Rattle.lhg_check.specs.CheckLaws.{IsExactVerdict, CheckLaw, CheckedLaw}
use Rattle.lhg_check.proofs.Marks.{part_unmarked}
use Rattle.lhg_check.proofs.CheckLists.{IsFirstOf, first_is, first_sample, none_in}
use Rattle.lhg_check.proofs.CheckSafe.{unsafe_list}
use Rattle.lhg_check.proofs.CheckGuards.{broken_list, guard_holds}
use Rattle.lhg_check.proofs.CheckPast.{lost_first, lost_none, reached_past}

-- ---- each verdict comes exactly where it holds
pub exact_verdict : (a : PlainPlant) (c : PlainController) (v : PlainVerdict) → IsVerdict a c v → IsExactVerdict a c v
exact_verdict a c valid h = record {
  says = h;
  at_valid = (λ e. h, λ k. refl);
  at_unsafe = (λ e. absurd (no_unsafe e.0 e.1), λ k. absurd (k h.safe));
  at_guard = (λ e. absurd (no_guard e.0 e.1 e.2), λ k. absurd (k.1 h.guarded));
  at_escape = (λ e. absurd (no_escape e.0 e.1), λ k. absurd (k.2 h.closed));
}
  where
    no_unsafe : (s : PlainState) → valid ≡ unsafe s → ⊥
    no_unsafe s e = cc

    no_guard : (i : ℕ) (s : PlainState) → valid ≡ bad_guard i s → ⊥
    no_guard i s e = cc

    no_escape : (s : PlainState) → valid ≡ escapes s → ⊥
    no_escape s e = cc
exact_verdict a c (unsafe z) h = record {
  says = h;
  at_valid = (λ e. absurd (no_valid e), λ k. absurd (h.1 (k.safe z h.0)));
  at_unsafe = (λ e k. h.1 (k z h.0), λ k. (z, refl));
  at_guard = (λ e. absurd (no_guard e.0 e.1 e.2), λ k. absurd (h.1 (k.0 z h.0)));
  at_escape = (λ e. absurd (no_escape e.0 e.1), λ k. absurd (h.1 (k.0 z h.0)));
}
  where
    no_valid : unsafe z ≡ valid → ⊥
    no_valid e = cc

    no_guard : (i : ℕ) (s : PlainState) → unsafe z ≡ bad_guard i s → ⊥
    no_guard i s e = cc

    no_escape : (s : PlainState) → unsafe z ≡ escapes s → ⊥
    no_escape s e = cc
exact_verdict a c (bad_guard j z) h = record {
  says = h;
  at_valid = (λ e. absurd (no_valid e), λ k. absurd (h.breaks.1 (k.guarded j z h.breaks.0)));
  at_unsafe = (λ e. absurd (no_unsafe e.0 e.1), λ k. absurd (k h.safe));
  at_guard = (λ e. (h.safe, λ k. h.breaks.1 (k j z h.breaks.0)), λ k. (j, z, refl));
  at_escape = (λ e. absurd (no_escape e.0 e.1), λ k. absurd (h.breaks.1 (k.1 j z h.breaks.0)));
}
  where
    no_valid : bad_guard j z ≡ valid → ⊥
    no_valid e = cc

    no_unsafe : (s : PlainState) → bad_guard j z ≡ unsafe s → ⊥
    no_unsafe s e = cc

    no_escape : (s : PlainState) → bad_guard j z ≡ escapes s → ⊥
    no_escape s e = cc
exact_verdict a c (escapes z) h = record {
  says = h;
  at_valid = (λ e. absurd (no_valid e), λ k. absurd (k.closed z h.breaks.0 h.breaks.1));
  at_unsafe = (λ e. absurd (no_unsafe e.0 e.1), λ k. absurd (k h.safe));
  at_guard = (λ e. absurd (no_guard e.0 e.1 e.2), λ k. absurd (k.1 h.guarded));
  at_escape = (λ e. (h.safe, h.guarded, λ k. k z h.breaks.0 h.breaks.1), λ k. (z, refl));
}
  where
    no_valid : escapes z ≡ valid → ⊥
    no_valid e = cc

    no_unsafe : (s : PlainState) → escapes z ≡ unsafe s → ⊥
    no_unsafe s e = cc

    no_guard : (i : ℕ) (s : PlainState) → escapes z ≡ bad_guard i s → ⊥
    no_guard i s e = cc

-- ---- the verdict that is given
-- what holds at the place that the switch leaves
from_some : (P : ℕ → Type 0) (o : Option PlainSwitch) → IsSomeAnd o (λ w. P w.from) → P (from_of o)
from_some P None h = absurd h
from_some P (Some w) h = h

module _ (a : PlainPlant) (proper : IsProper a) (c : PlainController) (given : IsCheckable a c) where
  abbrev n : ℕ
  n = length a.vars

  abbrev bad : PlainRegion
  bad = (unsafe_pieces a c.region).value

  abbrev broken : List (List PlainPiece)
  broken = (broken_guards a c (out a c.region).value.away).value

  abbrev lost : PlainRegion
  lost = (lost_pieces a c (out a c.region).value).value

  -- a part without a piece holds
  pub all_safe : first_piece bad ≡ None → AllSafe a c
  all_safe e s h =
      let none = subst (λ (o : Option (ℕ × PlainPiece)). IsFirstOf bad o) e (first_is bad) in
      elim (safe_decided a s) [
        | inl k ↦ k
        | inr k ↦ absurd (none_in n (λ p. BreaksSafe a c (state_at s.loc p)) (get_or bad s.loc []) (unsafe_list a proper c given s.loc) (none s.loc) s.at h.state.fits (h, k))
      ]

  pub all_hold : first_piece broken ≡ None → AllGuardsHold a c
  all_hold e i = let none = subst (λ (o : Option (ℕ × PlainPiece)). IsFirstOf broken o) e (first_is broken) in guard_holds a proper c given i (none i)

  pub closed : HasReachedFor a c (out a c.region).value None → first_piece lost ≡ None → IsClosed a c
  closed reached e s h k =
      let none = subst (λ (o : Option (ℕ × PlainPiece)). IsFirstOf lost o) e (first_is lost) in
      lost_none a proper c given s.loc (reached s.loc) (none s.loc) s.at h.state.fits (h, k)

  -- the sample of the first piece breaks it
  pub unsafe_first : (f : ℕ × PlainPiece) → first_piece bad ≡ Some f → BreaksSafe a c (sample_at n f.0 f.1).value
  unsafe_first f e =
      let h = subst (λ (o : Option (ℕ × PlainPiece)). IsFirstOf bad o) e (first_is bad) in
      first_sample n (λ p. BreaksSafe a c (state_at f.0 p)) (get_or bad f.0 []) f.1 h.rest (unsafe_list a proper c given f.0) h.is_there

  pub guard_first : AllSafe a c → (f : ℕ × PlainPiece) → first_piece broken ≡ Some f → IsBadGuard a c f.0 (sample_at n (from_of (slice_get a.switches f.0)) f.1).value
  guard_first safe f e =
      let i = subst (λ (o : Option (ℕ × PlainPiece)). IsFirstOf broken o) e (first_is broken) in
      let x = (sample n f.1).value in
      record {
        safe = safe;
        before = λ k l. guard_holds a proper c given k (i.before k l);
        breaks = from_some (λ k. BreaksGuard a c f.0 (state_at k x)) (slice_get a.switches f.0)
            (first_sample n (λ p. IsSomeAnd (slice_get a.switches f.0) (λ w. BreaksGuard a c f.0 (state_at w.from p))) (get_or broken f.0 []) f.1 i.rest (broken_list a proper c given f.0) i.is_there);
      }

  pub escape_first : (f : ℕ × PlainPiece) → HasReachedFor a c (out a c.region).value (Some f) → AllSafe a c → AllGuardsHold a c → first_piece lost ≡ Some f → IsEscaping a c (sample_at n f.0 f.1).value
  escape_first f reached safe guarded e =
      let j = subst (λ (o : Option (ℕ × PlainPiece)). IsFirstOf lost o) e (first_is lost) in
      record { safe = safe; guarded = guarded; breaks = lost_first a proper c given f.0 reached f.1 j.rest j.is_there }

  verdict_by : (first second third : Option (ℕ × PlainPiece)) → first_piece bad ≡ first → first_piece broken ≡ second → first_piece lost ≡ third → (AllSafe a c → AllGuardsHold a c → HasReachedFor a c (out a c.region).value third)
      → IsVerdict a c (verdict a first second third).value
  verdict_by (Some f) second third h i j reached = unsafe_first f h
  verdict_by None (Some f) third h i j reached = guard_first (all_safe h) f i
  verdict_by None None (Some f) h i j reached = escape_first f (reached (all_safe h) (all_hold i)) (all_safe h) (all_hold i) j
  verdict_by None None None h i j reached = record { safe = all_safe h; guarded = all_hold i; closed = closed (reached (all_safe h) (all_hold i)) j }

  -- what the verdict says holds
  pub verdict_is : (AllSafe a c → AllGuardsHold a c → HasReachedFor a c (out a c.region).value (first_piece lost)) → IsVerdict a c (check a c).value
  unfolding check
  verdict_is reached = verdict_by (first_piece bad) (first_piece broken) (first_piece lost) refl refl refl reached

-- ---- the laws
pub check_law : (a : PlainPlant) → CheckLaw a
check_law a c proper given reached = exact_verdict a c (check a c).value (verdict_is a proper c given reached)

-- the marks of each part are among those of the check, and the verdict is what is left of it
pub record CheckWork (a : PlainPlant) (c : PlainController) : Type 0 where
  pub first : IsPart (check a c) (unsafe_pieces a c.region)
  pub outs : IsPart (check a c) (out a c.region)
  pub second : IsPart (check a c) (broken_guards a c (out a c.region).value.away)
  pub third : IsPart (check a c) (lost_pieces a c (out a c.region).value)
  pub rest : IsRest (check a c)
      (verdict a (first_piece (unsafe_pieces a c.region).value) (first_piece (broken_guards a c (out a c.region).value.away).value) (first_piece (lost_pieces a c (out a c.region).value).value))

pub check_work : (a : PlainPlant) (c : PlainController) → CheckWork a c
unfolding check
check_work a c =
    let outs = (out a c.region).value in
    let bad = unsafe_pieces a c.region in
    let broken = broken_guards a c outs.away in
    let lost = lost_pieces a c outs in
    let last = λ (ls : PlainRegion). verdict a (first_piece bad.value) (first_piece broken.value) (first_piece ls) in
    let three = λ (bs : List (List PlainPiece)). and_then lost (λ ls. verdict a (first_piece bad.value) (first_piece bs) (first_piece ls)) in
    let two = λ (os : PlainOuts). and_then (broken_guards a c os.away) (λ bs. and_then (lost_pieces a c os) (λ ls. verdict a (first_piece bad.value) (first_piece bs) (first_piece ls))) in
    let one = λ (us : PlainRegion). and_then (out a c.region) (λ os. and_then (broken_guards a c os.away) (λ bs. and_then (lost_pieces a c os) (λ ls. verdict a (first_piece us) (first_piece bs) (first_piece ls)))) in
    let after_one = and_then-rest bad one in
    let after_two = rest_rest _ _ _ after_one (and_then-rest (out a c.region) two) in
    let after_three = rest_rest _ _ _ after_two (and_then-rest broken three) in
    record {
      first = and_then-part bad one;
      outs = rest_part _ _ _ after_one (and_then-part (out a c.region) two);
      second = rest_part _ _ _ after_two (and_then-part broken three);
      third = rest_part _ _ _ after_three (and_then-part lost last);
      rest = rest_rest _ _ _ after_three (and_then-rest lost last);
    }

pub checked_law : (a : PlainPlant) → CheckedLaw a
checked_law a c proper given h =
    let lost = lost_pieces a c (out a c.region).value in
    let all = reached_past a proper c given (part_unmarked (check a c) lost (check_work a c).third h) in
    check_law a c proper given (λ s g. for_first (first_piece lost.value) all)
  where
    for_first : (o : Option (ℕ × PlainPiece)) → HasReachedFor a c (out a c.region).value None → HasReachedFor a c (out a c.region).value o
    for_first None all = all
    for_first (Some f) all = all f.0
