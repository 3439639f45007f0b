-- Steps of the code that finds fibres.
use Rattle.std.proofs.Common.{◌≡◌, ◌<◌, ◌≤◌, ◌+◌, ℕ, Bool, true, false, not, ◌&&◌, List, [], ◌∷◌, ◌++◌, length, take, drop, get_or, nat_eq, slice_get, Option, Some, None, refl, sym, ap, ◌∙◌, subst}
use Rattle.std.specs.Prelude.{nat_lt, is_some}
use Rattle.std.proofs.lemmas.List.{take_more, map-append, drop_all}
use Rattle.lhg_math.specs.Tests.{by_bool}
use Rattle.lhg_num.specs.FracArithmetic.{frac_arithmetic}
use Rattle.lhg_num.specs.Marked.{Marked, done, and_then, IsRest}
use Rattle.lhg_num.specs.MarkedLaws.{IsPart, rest_rest, rest_part, and_then-rest, and_then-part}
use Rattle.lhg_row.specs.Row.{PlainPoint}
use Rattle.lhg_row.specs.Piece.{PlainPiece}
use Rattle.lhg_row.specs.System.{PlainSystem}
use Rattle.lhg_row.specs.Lists.{minus}
use Rattle.lhg_union.specs.PolyLists.{lines_of}
use Rattle.lhg_plant.specs.Plant.{PlainPlant, PlainLocation, PlainSwitch}
use Rattle.lhg_plant.specs.State.{PlainState}
use Rattle.lhg_plant.specs.Invariants.{invariant_list, invariant_of}
use Rattle.lhg_plant.specs.SafeRegion.{safe_list}
use Rattle.lhg_plant.specs.Loss.{PlainLoss}
use Rattle.lhg_plant.specs.Pick.{results_in, first_result}
use Rattle.lhg_loss.specs.declared.losses.Loss.{Loss}
use Rattle.lhg_loss.specs.Records.{pieces_lost}
use Rattle.lhg_loss.specs.Views.{plain_loss, plain_losses}
use Rattle.lhg_math.specs.ListFacts.{drop_cons}
use Rattle.lhg_num.specs.PartLaws.{rest_step, step_part}
use Rattle.lhg_spoil.specs.Fibres.{safe_of, unsafe_at, losses_past, past_at, fibre_by, fibre_of, fibre}
use Rattle.lhg_spoil.specs.Work.{results_or, results_of, legal_results_by, legal_results}

-- ---- unsafe states
abbrev unsafe_of : ℕ → Option PlainLocation → Marked (List PlainPiece)
unsafe_of n o = and_then (invariant_of n o) (λ inv. and_then (safe_of n o) (minus frac_arithmetic n inv))

module _ (a : PlainPlant) (l : ℕ) (loc : PlainLocation) (there : slice_get a.locs l ≡ Some loc) where
  abbrev n : ℕ
  n = length a.vars

  unsafe-is : unsafe_at a l ≡ unsafe_of n (Some loc)
  unfolding unsafe_at
  unsafe-is = ap (unsafe_of n) there

  abbrev after_inv : List PlainPiece → Marked (List PlainPiece)
  after_inv inv = and_then (safe_list n loc) (minus frac_arithmetic n inv)

  -- the invariant is made first
  pub unsafe-inv : IsPart (unsafe_at a l) (invariant_list n loc)
  unsafe-inv = subst (λ (m : Marked (List PlainPiece)). IsPart m (invariant_list n loc)) (sym unsafe-is) (and_then-part (invariant_list n loc) after_inv)

  after-is : IsRest (unsafe_at a l) (after_inv (invariant_list n loc).value)
  after-is = subst (λ (m : Marked (List PlainPiece)). IsRest m (after_inv (invariant_list n loc).value)) (sym unsafe-is) (and_then-rest (invariant_list n loc) after_inv)

  -- then the safe pieces
  pub unsafe-safe : IsPart (unsafe_at a l) (safe_list n loc)
  unsafe-safe = rest_part (unsafe_at a l) (after_inv (invariant_list n loc).value) (safe_list n loc) after-is (and_then-part (safe_list n loc) (minus frac_arithmetic n (invariant_list n loc).value))

  -- what these leave of it is left
  pub unsafe-rest : IsRest (unsafe_at a l) (minus frac_arithmetic n (invariant_list n loc).value (safe_list n loc).value)
  unsafe-rest =
      rest_rest (unsafe_at a l) (after_inv (invariant_list n loc).value) (minus frac_arithmetic n (invariant_list n loc).value (safe_list n loc).value) after-is
      (and_then-rest (safe_list n loc) (minus frac_arithmetic n (invariant_list n loc).value))

-- ---- records
-- whether the record is of the location and of a round up to j
abbrev pub is_past : ℕ → ℕ → PlainLoss → Bool
is_past l j r = nat_eq r.loc l && not (nat_lt j r.round)

past_in : (l j : ℕ) (losses : List PlainLoss) (r : PlainLoss) → is_past l j r ≡ true → losses_past l j (losses ++ r ∷ []) ≡ losses_past l j losses ++ r ∷ []
past_in l j [] r e = rw e refl
past_in l j (x ∷ xs) r e = by_bool (is_past l j x) (λ f. rw f (ap (λ w. x ∷ w) (past_in l j xs r e))) (λ f. rw f (past_in l j xs r e))

past_out : (l j : ℕ) (losses : List PlainLoss) (r : PlainLoss) → is_past l j r ≡ false → losses_past l j (losses ++ r ∷ []) ≡ losses_past l j losses
past_out l j [] r e = rw e refl
past_out l j (x ∷ xs) r e = by_bool (is_past l j x) (λ f. rw f (ap (λ w. x ∷ w) (past_out l j xs r e))) (λ f. rw f (past_out l j xs r e))

module _ (l j : ℕ) (losses : List Loss) (i : ℕ) (r : Loss) (is : r ≡ get_or losses i r) (less : i < length losses) where
  taken : plain_losses (take (i + 1) losses) ≡ plain_losses (take i losses) ++ plain_loss r ∷ []
  taken = ap plain_losses (take_more losses i r less ∙ ap (λ w. take i losses ++ w ∷ []) (sym is)) ∙ map-append plain_loss (take i losses) (r ∷ [])

  pub past-more : (out : List PlainPiece) → out ≡ pieces_lost (losses_past l j (plain_losses (take i losses))) → is_past l j (plain_loss r) ≡ true
      → out ++ r.piece.lines ∷ [] ≡ pieces_lost (losses_past l j (plain_losses (take (i + 1) losses)))
  past-more out e f =
      ap (λ w. w ++ r.piece.lines ∷ []) e
      ∙ sym (map-append (λ (x : PlainLoss). x.piece) (losses_past l j (plain_losses (take i losses))) (plain_loss r ∷ []))
      ∙ ap pieces_lost (sym (past_in l j (plain_losses (take i losses)) (plain_loss r) f))
      ∙ ap (λ w. pieces_lost (losses_past l j w)) (sym taken)

  pub past-same : (out : List PlainPiece) → out ≡ pieces_lost (losses_past l j (plain_losses (take i losses))) → is_past l j (plain_loss r) ≡ false
      → out ≡ pieces_lost (losses_past l j (plain_losses (take (i + 1) losses)))
  past-same out e f = e ∙ ap pieces_lost (sym (past_out l j (plain_losses (take i losses)) (plain_loss r) f)) ∙ ap (λ w. pieces_lost (losses_past l j w)) (sym taken)

-- ---- fibres
module _ (a : PlainPlant) (losses : List PlainLoss) (j e : ℕ) (s : PlainState) (w : PlainSwitch) (there : slice_get a.switches e ≡ Some w) where
  -- a switch that leaves another location has none
  pub fibre-other : nat_eq w.from s.loc ≡ false → fibre a losses j e s ≡ done None
  unfolding fibre
  fibre-other f = ap (fibre_of a losses j s) there ∙ rw f refl

  fibre-is : nat_eq w.from s.loc ≡ true → fibre a losses j e s ≡ fibre_by a losses j s w
  unfolding fibre
  fibre-is f = ap (fibre_of a losses j s) there ∙ rw f refl

  -- the pieces outside are made first
  pub fibre-part : nat_eq w.from s.loc ≡ true → IsPart (fibre a losses j e s) (past_at a losses j w.to)
  fibre-part f = subst (λ (m : Marked (Option PlainPoint)). IsPart m (past_at a losses j w.to)) (sym (fibre-is f)) (and_then-part (past_at a losses j w.to) (first_result (length a.vars) s.at w.jump))

  -- then the first result in them
  pub fibre-rest : nat_eq w.from s.loc ≡ true → IsRest (fibre a losses j e s) (first_result (length a.vars) s.at w.jump (past_at a losses j w.to).value)
  fibre-rest f =
      subst (λ (m : Marked (Option PlainPoint)). IsRest m (first_result (length a.vars) s.at w.jump (past_at a losses j w.to).value)) (sym (fibre-is f))
      (and_then-rest (past_at a losses j w.to) (first_result (length a.vars) s.at w.jump))

-- ---- results
module _ (n : ℕ) (x : PlainPoint) (jump : PlainPiece) (pieces : List PlainSystem) (i : ℕ) (p : PlainSystem) (p_is : p ≡ get_or pieces i p) (in_list : i < length pieces)
    (whole : Marked (Option PlainPiece)) (r : IsRest whole (results_of n x jump (lines_of (drop i pieces)))) where
  -- what the pieces behind give
  abbrev behind : Marked (Option PlainPiece)
  behind = results_of n x jump (lines_of (drop (i + 1) pieces))

  here : IsRest whole (results_of n x jump (p.lines ∷ lines_of (drop (i + 1) pieces)))
  here = subst (λ (ps : List PlainSystem). IsRest whole (results_of n x jump (lines_of ps))) (drop_cons pieces i p p_is in_list) r

  -- the marks of the results in the piece at hand
  pub some-part : IsPart whole (results_in n x jump p.lines)
  some-part = step_part whole (results_in n x jump p.lines) (results_or behind) here

  -- where it holds none, the pieces behind are left
  pub some-passed : None ≡ (results_in n x jump p.lines).value → IsRest whole behind
  some-passed e = rest_step whole (results_in n x jump p.lines) (results_or behind) None here e

  -- where it holds some, there are some
  pub some-found : (rows : PlainPiece) → Some rows ≡ (results_in n x jump p.lines).value → is_some whole.value ≡ true
  some-found rows e = ap is_some (sym (rest_step whole (results_in n x jump p.lines) (results_or behind) (Some rows) here e).same)

-- at the end there are none
pub some-end : (n : ℕ) (x : PlainPoint) (jump : PlainPiece) (pieces : List PlainSystem) (i : ℕ) (whole : Marked (Option PlainPiece)) → length pieces ≤ i
    → IsRest whole (results_of n x jump (lines_of (drop i pieces))) → is_some whole.value ≡ false
some-end n x jump pieces i whole h r =
    let e = subst (λ (ps : List PlainSystem). IsRest whole (results_of n x jump (lines_of ps))) (drop_all i pieces h) r in ap is_some (sym e.same)

-- ---- legal results
module _ (a : PlainPlant) (e : ℕ) (s : PlainState) (w : PlainSwitch) (there : slice_get a.switches e ≡ Some w) (loc : PlainLocation) (at : slice_get a.locs w.to ≡ Some loc) where
  abbrev after_made : List PlainPiece → Marked (Option PlainPiece)
  after_made = results_of (length a.vars) s.at w.jump

  legal-is : legal_results a e s ≡ and_then (invariant_list (length a.vars) loc) after_made
  unfolding legal_results
  legal-is = ap (legal_results_by a s) there ∙ ap (λ (o : Option PlainLocation). and_then (invariant_of (length a.vars) o) after_made) at

  pub legal-part : IsPart (legal_results a e s) (invariant_list (length a.vars) loc)
  legal-part = subst (λ (m : Marked (Option PlainPiece)). IsPart m (invariant_list (length a.vars) loc)) (sym legal-is) (and_then-part (invariant_list (length a.vars) loc) after_made)

  pub legal-rest : IsRest (legal_results a e s) (results_of (length a.vars) s.at w.jump (invariant_list (length a.vars) loc).value)
  legal-rest = subst (λ (m : Marked (Option PlainPiece)). IsRest m (after_made (invariant_list (length a.vars) loc).value)) (sym legal-is) (and_then-rest (invariant_list (length a.vars) loc) after_made)
