-- Steps of the search for the first record that holds a state.
use Rattle.std.proofs.Common.{◌≡◌, ℕ, Bool, true, false, cond, List, [], ◌∷◌, nat_eq, Option, Some, refl, sym, ap, ◌∙◌, inl, inr, subst}
use Rattle.std.proofs.lemmas.Bool.{eq-eqb, eqb-true}
use Rattle.lhg_math.specs.Tests.{by_bool}
use Rattle.lhg_num.specs.FracArithmetic.{frac_arithmetic}
use Rattle.lhg_num.specs.Marked.{Marked, and_then, IsRest}
use Rattle.lhg_num.specs.MarkedLaws.{IsPart, rest_self, rest_rest, rest_part, and_then-rest, and_then-part}
use Rattle.lhg_row.specs.PieceLemmas.{in_piece_is}
use Rattle.lhg_row.specs.Truths.{piece_truth, piece_truth-value}
use Rattle.lhg_row.specs.Decisions.{clash}
use Rattle.lhg_plant.specs.State.{PlainState}
use Rattle.lhg_plant.specs.Loss.{PlainLoss}
use Rattle.lhg_loss.specs.Holding.{this_or, holding, IsFirstHolding}

module _ (s : PlainState) (r : PlainLoss) (rs : List PlainLoss) where
  abbrev test : Marked Bool
  test = piece_truth frac_arithmetic r.piece s.at

  abbrev here : Marked (Option ℕ)
  here = and_then test (this_or r.number (holding s rs))

  -- a record of another location is passed over
  pub other_rest : nat_eq r.loc s.loc ≡ false → IsRest (holding s (r ∷ rs)) (holding s rs)
  other_rest e = subst (λ b. IsRest (cond b here (holding s rs)) (holding s rs)) (sym e) (rest_self (holding s rs))

  -- one of the location is asked
  here_rest : nat_eq r.loc s.loc ≡ true → IsRest (holding s (r ∷ rs)) here
  here_rest e = subst (λ b. IsRest (cond b here (holding s rs)) here) (sym e) (rest_self here)

  pub test_part : nat_eq r.loc s.loc ≡ true → IsPart (holding s (r ∷ rs)) test
  test_part e = rest_part (holding s (r ∷ rs)) here test (here_rest e) (and_then-part test (this_or r.number (holding s rs)))

  -- and passed over where it does not hold the state
  pub skip_rest : nat_eq r.loc s.loc ≡ true → test.value ≡ false → IsRest (holding s (r ∷ rs)) (holding s rs)
  skip_rest e f =
      let next = this_or r.number (holding s rs) test.value in
      let same : next.value ≡ (holding s rs).value = ap (λ b. cond b (Some r.number) (holding s rs).value) f in
      let rest = rest_rest (holding s (r ∷ rs)) here next (here_rest e) (and_then-rest test (this_or r.number (holding s rs))) in
      record { same = sym same ∙ rest.same; wide = rest.wide; rows = rest.rows; pieces = rest.pieces }

  -- else it is the first
  pub found_value : nat_eq r.loc s.loc ≡ true → test.value ≡ true → (holding s (r ∷ rs)).value ≡ Some r.number
  found_value e f = sym (here_rest e).same ∙ ap (λ b. cond b (Some r.number) (holding s rs).value) f

-- the value is the first record that holds the state
pub holding_first : (s : PlainState) (rs : List PlainLoss) → IsFirstHolding s rs (holding s rs).value
holding_first s [] = refl
holding_first s (r ∷ rs) =
    let told = piece_truth-value frac_arithmetic r.piece s.at in
    let now = (piece_truth frac_arithmetic r.piece s.at).value in
    by_bool (nat_eq r.loc s.loc)
    (λ e. by_bool now
    (λ f. inl (record { here = eqb-true r.loc s.loc e; inside = (in_piece_is r.piece s.at).1 (sym told ∙ f) }, found_value s r rs e f))
    (λ f. inr (
      (λ h. clash now (told ∙ (in_piece_is r.piece s.at).0 h.inside) f),
      subst (λ o. IsFirstHolding s rs o) (skip_rest s r rs e f).same (holding_first s rs),
    )))
    (λ e. inr ((λ h. clash (nat_eq r.loc s.loc) (eq-eqb r.loc s.loc h.here) e), subst (λ o. IsFirstHolding s rs o) (other_rest s r rs e).same (holding_first s rs)))
