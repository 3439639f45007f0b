-- What the code knows after each part: the verdict that it gives is exact, and is what is left of the calculus.
use Rattle.std.proofs.Common.{◌≡◌, ℕ, length, slice_get, Option, Some, None, refl, sym, subst}
use Rattle.lhg_num.specs.Marked.{valued, IsRest}
use Rattle.lhg_row.specs.Piece.{PlainPiece}
use Rattle.lhg_plant.specs.Plant.{PlainPlant}
use Rattle.lhg_plant.specs.Proper.{IsProper}
use Rattle.lhg_plant.specs.State.{PlainState}
use Rattle.lhg_plant.specs.Controller.{PlainController}
use Rattle.lhg_plant.specs.OutCalculus.{PlainOuts, out}
use Rattle.lhg_check.specs.Check.{valid, unsafe, bad_guard, escapes, unsafe_pieces, broken_guards, lost_pieces, sample_at, from_of, first_piece, verdict, check}
use Rattle.lhg_check.specs.CheckFacts.{IsCheckable, HasReachedFor, BreaksSafe, IsBadGuard, IsEscaping}
use Rattle.lhg_check.specs.CheckLaws.{IsExactVerdict}
use Rattle.lhg_check.proofs.Checks.{exact_verdict, all_safe, all_hold, closed, unsafe_first, guard_first, escape_first, check_work}

-- a first piece, with its place
abbrev pub Spot : Type 0
Spot = ℕ × PlainPiece

module _ (a : PlainPlant) (c : PlainController) where
  abbrev n : ℕ
  n = length a.vars

  abbrev outs : PlainOuts
  outs = (out a c.region).value

  abbrev bad : Option Spot
  bad = first_piece (unsafe_pieces a c.region).value

  abbrev broken : Option Spot
  broken = first_piece (broken_guards a c outs.away).value

  abbrev lost : Option Spot
  lost = first_piece (lost_pieces a c outs).value

  -- ---- what is left
  verdict_rest : (first second third : Option Spot) → bad ≡ first → broken ≡ second → lost ≡ third → IsRest (check a c) (verdict a first second third)
  verdict_rest first second third h i j =
      subst (λ (o : Option Spot). IsRest (check a c) (verdict a o second third)) h
      (subst (λ (o : Option Spot). IsRest (check a c) (verdict a bad o third)) i (subst (λ (o : Option Spot). IsRest (check a c) (verdict a bad broken o)) j (check_work a c).rest))

  -- after the first part
  pub unsafe_rest : (f : Spot) → bad ≡ Some f → IsRest (check a c) (valued unsafe (sample_at n f.0 f.1))
  unsafe_rest f h = let r = verdict_rest bad broken lost refl refl refl in subst (λ (o : Option Spot). IsRest (check a c) (verdict a o broken lost)) h r

  -- after the second
  pub guard_rest : (f : Spot) → bad ≡ None → broken ≡ Some f → IsRest (check a c) (valued (bad_guard f.0) (sample_at n (from_of (slice_get a.switches f.0)) f.1))
  guard_rest f h i = verdict_rest None (Some f) lost h i refl

  -- after the third
  pub escape_rest : (f : Spot) → bad ≡ None → broken ≡ None → lost ≡ Some f → IsRest (check a c) (valued escapes (sample_at n f.0 f.1))
  escape_rest f h i j = verdict_rest None None (Some f) h i j

  pub valid_rest : bad ≡ None → broken ≡ None → lost ≡ None → valid ≡ (check a c).value
  valid_rest h i j = (verdict_rest None None None h i j).same

  -- ---- what is said
  module _ (proper : IsProper a) (given : IsCheckable a c) where
    pub unsafe_exact : (f : Spot) → bad ≡ Some f → (s : PlainState) → s ≡ (sample_at n f.0 f.1).value → IsExactVerdict a c (unsafe s)
    unsafe_exact f h s e = exact_verdict a c (unsafe s) (subst (λ (z : PlainState). BreaksSafe a c z) (sym e) (unsafe_first a proper c given f h))

    pub guard_exact : (f : Spot) → bad ≡ None → broken ≡ Some f → (s : PlainState) → s ≡ (sample_at n (from_of (slice_get a.switches f.0)) f.1).value → IsExactVerdict a c (bad_guard f.0 s)
    guard_exact f h i s e = exact_verdict a c (bad_guard f.0 s) (subst (λ (z : PlainState). IsBadGuard a c f.0 z) (sym e) (guard_first a proper c given (all_safe a proper c given h) f i))

    pub escape_exact : (f : Spot) → bad ≡ None → broken ≡ None → lost ≡ Some f → HasReachedFor a c outs (Some f) → (s : PlainState) → s ≡ (sample_at n f.0 f.1).value → IsExactVerdict a c (escapes s)
    escape_exact f h i j reached s e =
        exact_verdict a c (escapes s) (subst (λ (z : PlainState). IsEscaping a c z) (sym e) (escape_first a proper c given f reached (all_safe a proper c given h) (all_hold a proper c given i) j))

    pub valid_exact : bad ≡ None → broken ≡ None → lost ≡ None → HasReachedFor a c outs None → IsExactVerdict a c valid
    valid_exact h i j reached = exact_verdict a c valid (record { safe = all_safe a proper c given h; guarded = all_hold a proper c given i; closed = closed a proper c given reached j })
