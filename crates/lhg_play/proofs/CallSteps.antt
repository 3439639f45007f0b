-- What is left of a cut, of a turn and of a point after each of their steps.
use Rattle.std.proofs.Common.{◌≡◌, ℕ, List, [], ◌∷◌, ◌++◌, length, map, Result, Ok, Err, refl, sym, ap, ◌∙◌, subst, arith}
use Rattle.std.specs.Prelude.{IfOk}
use Rattle.std.proofs.lemmas.List.{map-id}
use Rattle.lhg_math.specs.Number.{Number, nought, sub}
use Rattle.lhg_math.specs.Interpolate.{interpolate}
use Rattle.lhg_num.specs.FracArithmetic.{frac_arithmetic}
use Rattle.lhg_num.specs.Halting.{IsHaltedByWide, IsWideBy}
use Rattle.lhg_num.specs.Marked.{Marked, and_then, IsRest, marked_sub, marked_div}
use Rattle.lhg_num.specs.MarkedLaws.{IsPart, IsBuilt, part_self, rest_self, rest_part, rest_rest, and_then-part, and_then-rest}
use Rattle.lhg_num.specs.declared.refusals.Halt.{Halt}
use Rattle.lhg_num.specs.declared.refusals.Halt.TheVariants.{Wide, Rows, Pieces, Memory}
use Rattle.lhg_num.specs.PartLaws.{rest_step, step_part}
use Rattle.lhg_row.specs.Row.{PlainPoint, PlainRow}
use Rattle.lhg_row.specs.Values.{marked_value}
use Rattle.lhg_motion.specs.Segment.{along}
use Rattle.lhg_play.specs.Cut.{each_two, change, coordinate_at, point_at, kept_place, level_place, turns, with_middles, cut}

-- ---- points
-- the coordinates of a point, as the code reads them, are the point
pub point-seen : (read items point : List Number) → read ≡ items → map (λ (q : Number). q) items ≡ point → read ≡ point
point-seen read items point e f = e ∙ sym (map-id items) ∙ f

-- the point that is formed at a place is the one there
pub point_at-value : (x y : PlainPoint) (p : Number) → (point_at x y p).value ≡ along x y p
unfolding point_at interpolate
point_at-value [] ys p = refl
point_at-value (x ∷ xs) [] p = refl
point_at-value (x ∷ xs) (y ∷ ys) p = ap (λ w. interpolate x y p ∷ w) (point_at-value xs ys p)

-- at the start no coordinate is formed
pub coordinates-start : (x y : PlainPoint) (p : Number) (out : List Number) → out ≡ [] → IsBuilt (point_at x y p) out (each_two (coordinate_at p) x y)
unfolding point_at
coordinates-start x y p out e = record { same = ap (λ w. w ++ (each_two (coordinate_at p) x y).value) e; part = part_self (each_two (coordinate_at p) x y) }

-- there is one difference for each coordinate
pub length-change : (x y : PlainPoint) → length x ≡ length y → length x ≡ length (change x y).value
length-change [] ys e = refl
length-change (x ∷ xs) [] e = absurd (omega arith)
length-change (x ∷ xs) (y ∷ ys) e = let k = length-change xs ys (omega arith) in omega (arith, k)

-- ---- answers
-- an answer of what is left is one of the whole
pub rest_halts_wide : {T A : Type 0} (r : Result T Halt) (whole rest : Marked A) (f : T → A) → IsRest whole rest → IsHaltedByWide r rest f → IsHaltedByWide r whole f
rest_halts_wide (Ok x) whole rest f i h = h ∙ i.same
rest_halts_wide (Err Wide) whole rest f i h = i.wide h
rest_halts_wide (Err Rows) whole rest f i h = h
rest_halts_wide (Err Pieces) whole rest f i h = h
rest_halts_wide (Err Memory) whole rest f i h = h

-- the same where numbers alone may be refused
pub rest_wide : {T E A : Type 0} (r : Result T E) (whole rest : Marked A) (f : T → A) → IsRest whole rest → IsWideBy r rest f → IsWideBy r whole f
rest_wide (Ok x) whole rest f i h = h ∙ i.same
rest_wide (Err e) whole rest f i h = i.wide h

-- what is exact of the value of the calculus is exact of an answer that is this value
pub halted_exact : {T A : Type 0} (r : Result T Halt) (m : Marked A) (f : T → A) (P : A → Type 0) → IsHaltedByWide r m f → P m.value → IfOk r (λ x. P (f x))
halted_exact (Ok x) m f P h p = subst P (sym h) p
halted_exact (Err e) m f P h p = tt

-- ---- the place of a row
module _ (x : PlainPoint) (r : PlainRow) (slope : Number) where
  -- what is left after the value, the gap and the quotient
  pub level-rest : (v gap place : Number) → v ≡ (marked_value frac_arithmetic nought r.coefs x).value → gap ≡ (marked_sub frac_arithmetic r.bound v).value → place ≡ (marked_div gap slope).value
      → IsRest (level_place x r slope) (kept_place place)
  level-rest v gap place e f g =
      let whole = level_place x r slope in
      rest_step whole (marked_div gap slope) kept_place place
      (rest_step whole (marked_sub frac_arithmetic r.bound v) (λ d. and_then (marked_div d slope) kept_place) gap
      (rest_step whole (marked_value frac_arithmetic nought r.coefs x) (λ w. and_then (marked_sub frac_arithmetic r.bound w) (λ d. and_then (marked_div d slope) kept_place)) v (rest_self whole) e) f) g

-- ---- the cut
module _ (x y : PlainPoint) (rows : List PlainRow) where
  -- the differences are a part of the whole
  pub change-part : IsPart (cut x y rows) (change x y)
  unfolding cut
  change-part = and_then-part (change x y) (λ d. and_then (turns x d rows) with_middles)

  -- what is left after them
  change-rest : (d : List Number) → d ≡ (change x y).value → IsRest (cut x y rows) (and_then (turns x d rows) with_middles)
  unfolding cut
  change-rest d e = rest_step (cut x y rows) (change x y) (λ d. and_then (turns x d rows) with_middles) d (rest_self (cut x y rows)) e

  -- the turns are a part
  pub turns-part : (d : List Number) → d ≡ (change x y).value → IsPart (cut x y rows) (turns x d rows)
  turns-part d e = step_part (cut x y rows) (turns x d rows) with_middles (change-rest d e)

  -- what is left after them
  pub turns-rest : (d ts : List Number) → d ≡ (change x y).value → ts ≡ (turns x d rows).value → IsRest (cut x y rows) (with_middles ts)
  turns-rest d ts e f = rest_step (cut x y rows) (turns x d rows) with_middles ts (change-rest d e) f
