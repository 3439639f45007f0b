-- A piece is covered by two lists where nothing is left of it without the one and then without the other.
use Rattle.std.proofs.Common.{◌≡◌, ◌||◌, ℕ, Bool, true, false, List, [], ◌∷◌, ◌++◌, Result, Ok, Err, refl, sym, ap, ◌∙◌, subst}
use Rattle.lhg_math.specs.Tests.{false_true}
use Rattle.lhg_num.specs.FracArithmetic.{frac_arithmetic}
use Rattle.lhg_num.specs.Marked.{Marked, and_then, done, valued, walk, IsRest}
use Rattle.lhg_num.specs.MarkedLaws.{IsPart, walk-append}
use Rattle.lhg_row.specs.Piece.{PlainPiece}
use Rattle.lhg_row.specs.Lists.{minus_one, minus, is_nil, covered}

-- a mark of one of two steps
either_mark : (b c d : Bool) → (c ≡ true → d ≡ true) → (b || c) ≡ true → (b || d) ≡ true
either_mark true c d f h = refl
either_mark false c d f h = f h

-- the marks of a walk over the first members are among those over all
pub walk-first : {S A : Type 0} (f : S → A → Marked S) (s : S) (xs ys : List A) → IsPart (walk f s (xs ++ ys)) (walk f s xs)
walk-first f s [] ys = record { wide = λ h. false_true h; rows = λ h. false_true h; pieces = λ h. false_true h }
walk-first f s (x ∷ xs) ys =
    let rest = walk-first f (f s x).value xs ys in
    record { wide = either_mark (f s x).wide _ _ rest.wide; rows = either_mark (f s x).rows _ _ rest.rows; pieces = either_mark (f s x).pieces _ _ rest.pieces }

module _ (n : ℕ) (ps qs rs : List PlainPiece) where
  abbrev whole : Marked Bool
  whole = covered frac_arithmetic n ps (qs ++ rs)

  -- the marks of the first step
  pub cover-part : IsPart whole (minus frac_arithmetic n ps qs)
  unfolding minus
  cover-part = let p = walk-first (minus_one frac_arithmetic n) ps qs rs in record { wide = p.wide; rows = p.rows; pieces = p.pieces }

  -- what is left after it
  cover-rest : IsRest (minus frac_arithmetic n ps (qs ++ rs)) (minus frac_arithmetic n (minus frac_arithmetic n ps qs).value rs)
  unfolding minus
  cover-rest = walk-append (minus_one frac_arithmetic n) ps qs rs

  module _ (left : List PlainPiece) (left_is : left ≡ (minus frac_arithmetic n ps qs).value) where
    same_left : minus frac_arithmetic n (minus frac_arithmetic n ps qs).value rs ≡ minus frac_arithmetic n left rs
    same_left = ap (λ ls. minus frac_arithmetic n ls rs) (sym left_is)

    -- the marks of the second step
    pub cover-then : IsPart whole (minus frac_arithmetic n left rs)
    cover-then = let r = cover-rest in subst (IsPart whole) same_left (record { wide = r.wide; rows = r.rows; pieces = r.pieces })

    -- and its value
    pub cover-value : (end : List PlainPiece) → end ≡ (minus frac_arithmetic n left rs).value → is_nil end ≡ whole.value
    cover-value end e = ap is_nil (e ∙ ap (λ m. m.value) (sym same_left) ∙ cover-rest.same)
