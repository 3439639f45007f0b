-- Steps of the second part for one switch.
use Rattle.std.proofs.Common.{◌≡◌, ℕ, true, List, [], ◌∷◌, ◌++◌, length, get_or, Some, None, refl, sym, ap, ◌∙◌, subst}
use Rattle.lhg_num.specs.FracArithmetic.{frac_arithmetic}
use Rattle.lhg_num.specs.Marked.{Marked, walk, valued, each, IsRest}
use Rattle.lhg_num.specs.MarkedLaws.{IsPart, and_then-part, and_then-rest}
use Rattle.lhg_row.specs.Piece.{PlainPiece}
use Rattle.lhg_row.specs.Lists.{is_nil, minus_one, minus, meet_lists}
use Rattle.lhg_plant.specs.declared.plants.Side.{Side}
use Rattle.lhg_plant.specs.declared.plants.Side.TheVariants.{Ctl, Env, Pick}
use Rattle.lhg_plant.specs.Plant.{PlainSwitch, PlainPlant}
use Rattle.lhg_plant.specs.Region.{PlainRegion}
use Rattle.lhg_plant.specs.Controller.{PlainController}
use Rattle.lhg_plant.specs.Invariants.{pieces_at, invariants}
use Rattle.lhg_plant.specs.OutCalculus.{numbered}
use Rattle.lhg_plant.specs.Pre.{pre}
use Rattle.lhg_check.specs.Check.{first_of, outside_by, stuck_by, led_by, unkept_by, broken_ctl, broken_pick, broken_side, broken_at, broken_guards}
use Rattle.lhg_check.proofs.CheckLists.{followed-first, followed-rest, followed-part}
use Rattle.lhg_check.proofs.FirstSteps.{valued_rest}

-- ---- a guard without a piece
-- a list that is tested to have none is empty
pub nil-is : (ps : List PlainPiece) → is_nil ps ≡ true → ps ≡ []
nil-is [] e = refl
nil-is (p ∷ ps) e = cc

-- nothing is left of it
minus_nothing : (n : ℕ) (qs : List PlainPiece) → (minus frac_arithmetic n [] qs).value ≡ []
unfolding minus
minus_nothing n qs = go qs
  where
    go : (qs : List PlainPiece) → (walk (minus_one frac_arithmetic n) [] qs).value ≡ []
    go [] = refl
    go (q ∷ qs) = go qs

-- and it meets nothing
meet_nothing : (n : ℕ) (qs : List PlainPiece) → (meet_lists frac_arithmetic n [] qs).value ≡ []
unfolding meet_lists
meet_nothing n qs = refl

module _ (a : PlainPlant) (invs away : PlainRegion) (c : PlainController) (e : ℕ) (w : PlainSwitch) where
  abbrev n : ℕ
  n = length a.vars

  abbrev guard : List PlainPiece
  guard = get_or c.guards e []

  -- it breaks nothing
  pub none-broken : (d : Side) → guard ≡ [] → (broken_side a invs away c e w d).value ≡ []
  unfolding broken_ctl broken_pick
  none-broken Ctl none =
      let here = pieces_at c.region w.from in
      let all = (pre a e (pieces_at invs w.to)).value in
      let lost = (pre a e (pieces_at away w.to)).value in
      ap (λ (g : List PlainPiece). (minus frac_arithmetic n g here).value ++ ((minus frac_arithmetic n g all).value ++ (meet_lists frac_arithmetic n g lost).value)) none
      ∙ ap (λ (ps : List PlainPiece). ps ++ ((minus frac_arithmetic n [] all).value ++ (meet_lists frac_arithmetic n [] lost).value)) (minus_nothing n here)
      ∙ ap (λ (ps : List PlainPiece). ps ++ (meet_lists frac_arithmetic n [] lost).value) (minus_nothing n all) ∙ meet_nothing n lost
  none-broken Env none = refl
  none-broken Pick none =
      let here = pieces_at c.region w.from in
      let kept = (pre a e (pieces_at c.region w.to)).value in
      ap (λ (g : List PlainPiece). (minus frac_arithmetic n g here).value ++ (minus frac_arithmetic n g kept).value) none
      ∙ ap (λ (ps : List PlainPiece). ps ++ (minus frac_arithmetic n [] kept).value) (minus_nothing n here) ∙ minus_nothing n kept

-- ---- one list after another
module _ (a : PlainPlant) (invs away : PlainRegion) (c : PlainController) (e : ℕ) (w : PlainSwitch) where
  abbrev outside : Marked (List PlainPiece)
  outside = outside_by a c e w

  -- where the plant picks the result
  pub ctl-part : IsPart (valued first_of (broken_ctl a invs away c e w)) (valued first_of outside)
  unfolding broken_ctl
  ctl-part = followed-part outside (unkept_by a invs away c e w)

  pub ctl-first : (piece : PlainPiece) → first_of outside.value ≡ Some piece → Some piece ≡ first_of (broken_ctl a invs away c e w).value
  unfolding broken_ctl
  ctl-first piece h = sym (followed-first outside (unkept_by a invs away c e w) piece h)

  pub ctl-rest : first_of outside.value ≡ None → IsRest (valued first_of (broken_ctl a invs away c e w)) (valued first_of (unkept_by a invs away c e w))
  unfolding broken_ctl
  ctl-rest h = followed-rest outside (unkept_by a invs away c e w) h

  -- where the controller picks it
  abbrev stuck : Marked (List PlainPiece)
  stuck = stuck_by a c e (pieces_at c.region w.to)

  pub pick-part : IsPart (valued first_of (broken_pick a c e w)) (valued first_of outside)
  unfolding broken_pick
  pick-part = followed-part outside stuck

  pub pick-first : (piece : PlainPiece) → first_of outside.value ≡ Some piece → Some piece ≡ first_of (broken_pick a c e w).value
  unfolding broken_pick
  pick-first piece h = sym (followed-first outside stuck piece h)

  pub pick-rest : first_of outside.value ≡ None → IsRest (valued first_of (broken_pick a c e w)) (valued first_of stuck)
  unfolding broken_pick
  pick-rest h = followed-rest outside stuck h

-- ---- pre, and then the guard
module _ (a : PlainPlant) (c : PlainController) (e : ℕ) (target : List PlainPiece) where
  abbrev leading : Marked (List PlainPiece)
  leading = pre a e target

  -- the marks of pre are among those of both
  pub stuck-pre : IsPart (valued first_of (stuck_by a c e target)) leading
  stuck-pre = let p = and_then-part leading (minus frac_arithmetic (length a.vars) (get_or c.guards e [])) in record { wide = p.wide; rows = p.rows; pieces = p.pieces }

  pub led-pre : IsPart (valued first_of (led_by a c e target)) leading
  led-pre = let p = and_then-part leading (meet_lists frac_arithmetic (length a.vars) (get_or c.guards e [])) in record { wide = p.wide; rows = p.rows; pieces = p.pieces }

  -- after it the guard is left
  pub stuck-rest : IsRest (valued first_of (stuck_by a c e target)) (valued first_of (minus frac_arithmetic (length a.vars) (get_or c.guards e []) leading.value))
  stuck-rest = valued_rest first_of (stuck_by a c e target) _ (and_then-rest leading (minus frac_arithmetic (length a.vars) (get_or c.guards e [])))

  pub led-rest : IsRest (valued first_of (led_by a c e target)) (valued first_of (meet_lists frac_arithmetic (length a.vars) (get_or c.guards e []) leading.value))
  led-rest = valued_rest first_of (led_by a c e target) _ (and_then-rest leading (meet_lists frac_arithmetic (length a.vars) (get_or c.guards e [])))

-- ---- all switches
module _ (a : PlainPlant) (c : PlainController) (away : PlainRegion) where
  -- the lists of all switches, where the invariants are given
  abbrev pub at_each : PlainRegion → Marked (List (List PlainPiece))
  at_each invs = each (broken_at a invs away c) (numbered 0 a.switches)

  pub guards-rest : IsRest (broken_guards a c away) (at_each (invariants a).value)
  unfolding broken_guards
  guards-rest = and_then-rest (invariants a) at_each

  -- the same where the code holds the invariants
  pub guards-all : (invs : PlainRegion) → invs ≡ (invariants a).value → IsRest (broken_guards a c away) (at_each invs)
  guards-all invs same = subst (λ (is : PlainRegion). IsRest (broken_guards a c away) (at_each is)) (sym same) guards-rest
