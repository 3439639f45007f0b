-- Steps of the loops that take one piece from a list, and a list from a list.
use Rattle.std.proofs.Common.{◌≡◌, ℕ, ◌+◌, ◌<◌, ◌≤◌, List, ◌∷◌, ◌++◌, length, drop, get_or, sym, ap, ◌∙◌, subst}
use Rattle.std.proofs.lemmas.List.{drop_all}
use Rattle.lhg_num.specs.Arithmetic.{Arithmetic}
use Rattle.lhg_num.specs.Marked.{Marked, walk, IsRest}
use Rattle.lhg_num.specs.MarkedLaws.{IsPart, IsBuilt, rest_self, walk-step, walk-part}
use Rattle.lhg_math.specs.ListFacts.{drop_cons}
use Rattle.lhg_row.specs.Piece.{PlainPiece}
use Rattle.lhg_row.specs.System.{PlainSystem}
use Rattle.lhg_row.specs.Eliminate.{each_joined}
use Rattle.lhg_row.specs.Lists.{minus_piece, minus_one, minus}
use Rattle.lhg_union.specs.PolyLists.{lines_of, AllVars}
use Rattle.lhg_union.proofs.ListFacts.{lines_of-append, all_at}
use Rattle.lhg_union.proofs.GatherSteps.{more-step}
use Rattle.lhg_row.specs.Members.{all-append}

-- ---- a list by one piece
-- what is left of the pieces so far, and the pieces to come
pub record IsReducing (a : Arithmetic) (n : ℕ) (q : PlainPiece) (all out rest : List PlainSystem) : Type 0 where
  pub built : IsBuilt (each_joined (λ p. minus_piece a n p q) (lines_of all)) (lines_of out) (each_joined (λ p. minus_piece a n p q) (lines_of rest))
  pub vars : AllVars n out
  pub later : AllVars n rest

module _ (a : Arithmetic) (n : ℕ) (q : PlainPiece) (all out rest : List PlainSystem) (p : PlainSystem) (more : List PlainSystem) (is : rest ≡ p ∷ more) (h : IsReducing a n q all out rest) where
  abbrev f : PlainPiece → Marked (List PlainPiece)
  f r = minus_piece a n r q

  here : IsBuilt (each_joined f (lines_of all)) (lines_of out) (each_joined f (p.lines ∷ lines_of more))
  here = subst (λ ps. IsBuilt (each_joined f (lines_of all)) (lines_of out) (each_joined f (lines_of ps))) is h.built

  -- what is left of one piece more
  pub reducing-built : (left : List PlainPiece) → left ≡ (f p.lines).value → IsBuilt (each_joined f (lines_of all)) (lines_of out ++ left) (each_joined f (lines_of more))
  reducing-built left e = more-step (each_joined f (lines_of all)) (lines_of out) (f p.lines) (λ ys. ys) (each_joined f (lines_of more)) here left e

  -- one piece more
  pub reducing-step : (left new : List PlainSystem) → lines_of left ≡ (f p.lines).value → AllVars n left → new ≡ out ++ left → IsReducing a n q all new more
  reducing-step left new e v g = record {
    built = subst (λ ps. IsBuilt (each_joined f (lines_of all)) ps (each_joined f (lines_of more))) (sym (ap lines_of g ∙ lines_of-append out left)) (reducing-built (lines_of left) e);
    vars = subst (AllVars n) (sym g) (all-append (λ (s : PlainSystem). s.width ≡ n) out left h.vars v);
    later = (subst (AllVars n) is h.later).1;
  }

-- ---- a list by a list
-- what is left so far and over which variables, whatever n they are
pub record IsWalking (a : Arithmetic) (n : ℕ) (ps qs left : List PlainSystem) (i : ℕ) : Type 0 where
  pub rest : IsRest (minus a n (lines_of ps) (lines_of qs)) (walk (minus_one a n) (lines_of left) (lines_of (drop i qs)))
  pub vars : AllVars n left

-- at the start all pieces are left
pub walking-start : (a : Arithmetic) (n : ℕ) (ps qs left : List PlainSystem) → left ≡ ps → AllVars n ps → IsWalking a n ps qs left 0
unfolding minus
walking-start a n ps qs left e v = record {
  rest = subst (λ rs. IsRest (walk (minus_one a n) (lines_of ps) (lines_of qs)) (walk (minus_one a n) (lines_of rs) (lines_of qs))) (sym e) (rest_self (walk (minus_one a n) (lines_of ps) (lines_of qs)));
  vars = subst (AllVars n) (sym e) v;
}

-- at the end what is left is the answer
pub walking-end : (a : Arithmetic) (n : ℕ) (ps qs left : List PlainSystem) (i : ℕ) → length qs ≤ i → IsWalking a n ps qs left i → lines_of left ≡ (minus a n (lines_of ps) (lines_of qs)).value
walking-end a n ps qs left i h w = sym (ap (λ rs. (walk (minus_one a n) (lines_of left) (lines_of rs)).value) (drop_all i qs h)) ∙ w.rest.same

module _ (a : Arithmetic) (n : ℕ) (ps qs left : List PlainSystem) (i : ℕ) (q : PlainSystem) (q_is : q ≡ get_or qs i q) (in_qs : i < length qs) (over : AllVars n qs) (h : IsWalking a n ps qs left i) where
  abbrev all : Marked (List PlainPiece)
  all = minus a n (lines_of ps) (lines_of qs)

  walk-here : IsRest all (walk (minus_one a n) (lines_of left) (q.lines ∷ lines_of (drop (i + 1) qs)))
  walk-here = subst (λ rs. IsRest all (walk (minus_one a n) (lines_of left) (lines_of rs))) (drop_cons qs i q q_is in_qs) h.rest

  -- the next piece is over n variables
  pub walking-width : q.width ≡ n
  walking-width = all_at (λ (s : PlainSystem). s.width ≡ n) qs i q q_is in_qs over

  -- the marks of the next piece
  pub walking-part : IsPart all (minus_one a q.width (lines_of left) q.lines)
  walking-part = subst (λ m. IsPart all (minus_one a m (lines_of left) q.lines)) (sym walking-width) (walk-part (minus_one a n) all (lines_of left) q.lines (lines_of (drop (i + 1) qs)) walk-here)

  -- one piece more
  pub walking-step : (new : List PlainSystem) → lines_of new ≡ (minus_one a q.width (lines_of left) q.lines).value → AllVars q.width new → IsWalking a n ps qs new (i + 1)
  walking-step new e v = record {
    rest = walk-step (minus_one a n) all (lines_of left) (lines_of new) q.lines (lines_of (drop (i + 1) qs)) walk-here (e ∙ ap (λ m. (minus_one a m (lines_of left) q.lines).value) walking-width);
    vars = subst (λ m. AllVars m new) walking-width v;
  }
