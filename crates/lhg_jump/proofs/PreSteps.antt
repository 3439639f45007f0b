-- Steps of the loops that gather the states from which a switch leads into pieces.
use Rattle.std.proofs.Common.{Option, Some, slice_get, ◌≡◌, ℕ, ◌+◌, ◌<◌, ◌≤◌, List, [], ◌++◌, length, drop, get_or, refl, sym, subst}
use Rattle.lhg_num.specs.FracArithmetic.{frac_arithmetic}
use Rattle.lhg_num.specs.Marked.{Marked, and_then, valued, IsRest}
use Rattle.lhg_num.specs.MarkedLaws.{IsPart, and_then-part, and_then-rest}
use Rattle.lhg_row.specs.Piece.{PlainPiece}
use Rattle.lhg_row.specs.System.{PlainSystem}
use Rattle.lhg_row.specs.Lists.{listed, counted_pieces}
use Rattle.lhg_row.specs.Members.{all-append}
use Rattle.lhg_union.specs.PolyLists.{lines_of, AllVars}
use Rattle.lhg_jump.proofs.EachSteps.{IsGiven, given-end, piece-part, piece-step, IsJoined}
use Rattle.lhg_jump.proofs.EachSteps as joined
use Rattle.lhg_row.specs.Trim.{trim}
use Rattle.lhg_row.specs.Pieces.{project}
use Rattle.lhg_plant.specs.Plant.{PlainLocation, PlainSwitch, PlainPlant}
use Rattle.lhg_plant.specs.Invariants.{invariant_list, invariant_of}
use Rattle.lhg_plant.specs.Pre.{pre_rows, pre_piece, pre_each, pre_list, pre_of, pre}

-- ---- one piece of the target
-- the states that lead into a piece from the states of one invariant, and from those of each of a list
abbrev pub leading : ℕ → PlainPiece → PlainPiece → PlainSystem → Marked (Option PlainPiece)
leading n jump q inv = pre_piece n jump q inv.lines

abbrev pub all_leading : ℕ → PlainPiece → PlainPiece → List PlainSystem → Marked (List PlainPiece)
all_leading n jump q invs = pre_each n jump q (lines_of invs)

-- the pieces so far
abbrev pub IsEach : ℕ → PlainPiece → PlainPiece → List PlainSystem → List PlainSystem → ℕ → Type 0
IsEach n jump q invs out i = IsGiven (all_leading n jump q) invs out i

module _ (n : ℕ) (jump q : PlainPiece) (invs out : List PlainSystem) (i : ℕ) (inv : PlainSystem) (is : inv ≡ get_or invs i inv) (there : i < length invs) (h : IsEach n jump q invs out i) where
  -- the marks of the next piece
  pub each-part : IsPart (pre_each n jump q (lines_of invs)) (valued (λ o. lines_of out ++ listed o []) (pre_piece n jump q inv.lines))
  each-part = piece-part (leading n jump q) (all_leading n jump q) (λ r rs. refl) invs out i inv is there h (λ o. lines_of out ++ listed o [])

  -- the next piece
  pub each-step : (more : List PlainSystem) → lines_of more ≡ lines_of out ++ listed (pre_piece n jump q inv.lines).value [] → IsEach n jump q invs more (i + 1)
  each-step = piece-step (leading n jump q) (all_leading n jump q) (λ r rs. refl) invs out i inv is there h

-- at the end these are all
pub each-end : (n : ℕ) (jump q : PlainPiece) (invs out : List PlainSystem) (i : ℕ) → length invs ≤ i → IsEach n jump q invs out i → lines_of out ≡ (pre_each n jump q (lines_of invs)).value
each-end n jump q invs out i = given-end (all_leading n jump q) invs out i refl

-- ---- all pieces of the target
-- the pieces so far
abbrev pub IsListed : ℕ → List PlainPiece → PlainPiece → List PlainSystem → List PlainSystem → ℕ → Type 0
IsListed n invs jump target out i = IsJoined (λ q. pre_each n jump q invs) target out i

module _ (n : ℕ) (invs : List PlainPiece) (jump : PlainPiece) (target out : List PlainSystem) (i : ℕ) (q : PlainSystem) (is : q ≡ get_or target i q) (there : i < length target) (h : IsListed n invs jump target out i) where
  -- the marks of the next pieces
  pub list-part : IsPart (pre_list n invs jump (lines_of target)) (pre_each n jump q.lines invs)
  unfolding pre_list
  list-part = joined.list-part (λ r. pre_each n jump r invs) target out i q is there h

  -- a list that is past its limits is so in the end
  pub limit-part : (found : List PlainSystem) → lines_of found ≡ (pre_each n jump q.lines invs).value → IsPart (pre_list n invs jump (lines_of target)) (counted_pieces (lines_of (out ++ found)))
  unfolding pre_list
  limit-part = joined.limit-part (λ r. pre_each n jump r invs) target out i q is there h

  -- the next pieces
  pub list-step : (found more : List PlainSystem) → lines_of found ≡ (pre_each n jump q.lines invs).value → more ≡ out ++ found → IsListed n invs jump target more (i + 1)
  list-step = joined.list-step (λ r. pre_each n jump r invs) target out i q is there h

-- at the end these are all
pub list-end : (n : ℕ) (invs : List PlainPiece) (jump : PlainPiece) (target out : List PlainSystem) (i : ℕ) → length target ≤ i → IsListed n invs jump target out i → lines_of out ≡ (pre_list n invs jump (lines_of target)).value
unfolding pre_list
list-end n invs jump target out i = joined.joined-end (λ q. pre_each n jump q invs) target out i

-- more pieces over the same variables
pub vars-append : (n : ℕ) (ps qs more : List PlainSystem) → AllVars n ps → AllVars n qs → more ≡ ps ++ qs → AllVars n more
vars-append n ps qs more v w e = subst (AllVars n) (sym e) (all-append (λ (s : PlainSystem). s.width ≡ n) ps qs v w)

-- ---- one piece
module _ (n : ℕ) (jump q inv : PlainPiece) where
  -- the marks of the trimmed rows
  pub trim-part : IsPart (pre_piece n jump q inv) (trim frac_arithmetic (pre_rows n jump q inv))
  unfolding pre_piece
  trim-part = and_then-part (trim frac_arithmetic (pre_rows n jump q inv)) (project frac_arithmetic (n + n) n)

  -- after them the projection is left
  pub project-rest : IsRest (pre_piece n jump q inv) (project frac_arithmetic (n + n) n (trim frac_arithmetic (pre_rows n jump q inv)).value)
  unfolding pre_piece
  project-rest = and_then-rest (trim frac_arithmetic (pre_rows n jump q inv)) (project frac_arithmetic (n + n) n)

-- ---- a switch of the plant
module _ (a : PlainPlant) (e : ℕ) (target : List PlainPiece) (w : PlainSwitch) (l : PlainLocation) (is : slice_get a.switches e ≡ Some w) (l_is : slice_get a.locs w.from ≡ Some l) where
  abbrev of_location : Option PlainLocation → Marked (List PlainPiece)
  of_location o = and_then (invariant_of (length a.vars) o) (λ invs. pre_list (length a.vars) invs w.jump target)

  -- the marks of the invariant
  pub invariant-part : IsPart (pre a e target) (invariant_list (length a.vars) l)
  unfolding pre
  invariant-part =
      subst (λ o. IsPart (pre_of a target o) (invariant_list (length a.vars) l)) (sym is)
      (subst (λ o. IsPart (of_location o) (invariant_list (length a.vars) l)) (sym l_is) (and_then-part (invariant_list (length a.vars) l) (λ invs. pre_list (length a.vars) invs w.jump target)))

  -- after it the list is left
  pub list-rest : IsRest (pre a e target) (pre_list (length a.vars) (invariant_list (length a.vars) l).value w.jump target)
  unfolding pre
  list-rest =
      subst (λ o. IsRest (pre_of a target o) (pre_list (length a.vars) (invariant_list (length a.vars) l).value w.jump target)) (sym is)
      (subst (λ o. IsRest (of_location o) (pre_list (length a.vars) (invariant_list (length a.vars) l).value w.jump target)) (sym l_is)
      (and_then-rest (invariant_list (length a.vars) l) (λ invs. pre_list (length a.vars) invs w.jump target)))
