-- Why does the sample of a piece lie in it?
use Rattle.std.specs.Prelude.{◌≡◌, ℕ, zero, suc, Bool, true, false, ◌&&◌, List, [], ◌∷◌, filter, insert, remove, length, Option, Some, None}
use Rattle.std.proofs.Common.{refl, sym, ap, ◌∙◌, arith, subst}
use Rattle.std.proofs.Math.Bool.{and-true, and-false, and_assoc}
use Rattle.std.proofs.lemmas.Bool.{and_parts}
use Rattle.lhg_math.specs.Number.{Number, add, mul, neg, sub, quot, nought}
use Rattle.lhg_math.specs.NumberOrder.{lt_asym}
use Rattle.lhg_math.specs.Bounds.{Bound, under, over}
use Rattle.lhg_math.specs.Tests.{all_of, by_bool, every_from_all, all_from_every}
use Rattle.lhg_num.specs.FracArithmetic.{frac_arithmetic, frac_is_lawful}
use Rattle.lhg_num.specs.Marked.{walk}
use Rattle.lhg_row.specs.Row.{PlainRow, PlainPoint, row_value, holds_at}
use Rattle.lhg_row.specs.Piece.{PlainPiece, InPiece, in_piece}
use Rattle.lhg_row.specs.Values.{marked_value}
use Rattle.lhg_row.specs.ValueLaws.{marked_value-value}
use Rattle.lhg_row.specs.Column.{coef_at, upper_at, lower_at, level_at}
use Rattle.lhg_row.specs.ColumnLaws.{bar_at, holds-insert}
use Rattle.lhg_row.specs.Bars.{meets, stands, bound_of, meets_upper, meets_lower, level_meets}
use Rattle.lhg_row.specs.Width.{AllWide}
use Rattle.lhg_row.specs.WidthLaws.{eliminate-wide}
use Rattle.lhg_row.specs.HasValue.{HasValue, HasPoint}
use Rattle.lhg_row.specs.PieceFacts.{IsPointOf}
use Rattle.lhg_row.specs.Eliminate.{eliminate}
use Rattle.lhg_row.specs.EliminateLaws.{eliminate-exact}
use Rattle.lhg_row.specs.Ends.{insert-end, longer, last_of, none_left}
use Rattle.lhg_row.specs.Sample.{bound_at, greater_of, lesser_of, tighten, tightened, greatest_lower, least_upper, chosen, value_of, sample}
use Rattle.lhg_row.specs.BoundLaws.{greater_of-over, lesser_of-under, over_bound, under_bound, chosen-between}

-- ---- the bound of one row
-- coefficients past the point add nothing to the value
value-remove : (s : Number) (j : ℕ) (cs : List Number) (p : PlainPoint) → length p ≡ j → length cs ≡ suc j → row_value s cs p ≡ row_value s (remove cs j) p
value-remove s j [] p e w = absurd (omega arith)
value-remove s zero (c ∷ []) [] e w = refl
value-remove s zero (c ∷ d ∷ cs) p e w = absurd (omega arith)
value-remove s zero (c ∷ []) (x ∷ p) e w = absurd (omega arith)
value-remove s (suc j) (c ∷ cs) [] e w = absurd (omega arith)
value-remove s (suc j) (c ∷ cs) (x ∷ p) e w = value-remove (add s (mul c x)) j cs p (omega arith) (omega arith)

-- the bound of a row is that of its constraint on the variable
bound_at-is : (j : ℕ) (p : PlainPoint) (r : PlainRow) → length p ≡ j → length r.coefs ≡ suc j → (bound_at j p r).value ≡ bound_of (bar_at j p r)
unfolding sub
bound_at-is j p r e w =
    let same : (marked_value frac_arithmetic nought r.coefs p).value ≡ row_value nought (remove r.coefs j) p = marked_value-value frac_arithmetic nought r.coefs p ∙ value-remove nought j r.coefs p e w in
    ap (λ v. built (quot (add r.bound (neg v)) (coef_at j r))) same
  where
    built : Number → Bound
    built x = record { at = x; strict = r.strict }

-- ---- all rows
lower_first : (h l o u : Bool) → (h && (l && (o && u))) ≡ (l && ((h && o) && u))
lower_first true l o u = refl
lower_first false true o u = refl
lower_first false false o u = refl

upper_first : (h l o u : Bool) → (h && (l && (o && u))) ≡ (l && (o && (h && u)))
upper_first true l o u = refl
upper_first false l o u = sym (ap (λ b. l && b) (and-false o) ∙ and-false l)

module _ (j : ℕ) (p : PlainPoint) (e : length p ≡ j) where
  -- the bound that a row gives
  abbrev given : PlainRow → Bound
  given r = bound_of (bar_at j p r)

  abbrev all_over : PlainPiece → Number → Bool
  all_over rows u = all_of (λ r. over (given r) u) (filter (lower_at j) rows)

  abbrev all_under : PlainPiece → Number → Bool
  all_under rows u = all_of (λ r. under (given r) u) (filter (upper_at j) rows)

  abbrev levels_stand : PlainPiece → Bool
  levels_stand rows = all_of (λ r. stands (bar_at j p r)) (filter (level_at j) rows)

  -- the rows hold where those without the variable stand, and the value is above all lower and below all upper bounds
  split : (u : Number) (rows : PlainPiece) → AllWide (suc j) rows → in_piece rows (insert p j u) ≡ (levels_stand rows && (all_over rows u && all_under rows u))
  split u [] w = refl
  split u (r ∷ rows) w =
      let meet : holds_at r (insert p j u) ≡ meets (bar_at j p r) u = holds-insert r j u p (omega (arith, w.0)) (omega (arith, w.0, e)) in
      let on = split u rows w.1 in
      let l = levels_stand rows in
      let o = all_over rows u in
      let n = all_under rows u in
      by_bool (upper_at j r)
      (λ i. let k : lower_at j r ≡ false = lt_asym nought (coef_at j r) i in
      rw (i, k) (ap (λ b. b && in_piece rows (insert p j u)) (meet ∙ meets_upper (bar_at j p r) u i) ∙ ap (λ b. under (given r) u && b) on ∙ upper_first (under (given r) u) l o n))
      (λ i. by_bool (lower_at j r)
      (λ k. rw (i, k) (ap (λ b. b && in_piece rows (insert p j u)) (meet ∙ meets_lower (bar_at j p r) u k) ∙ ap (λ b. over (given r) u && b) on ∙ lower_first (over (given r) u) l o n))
      (λ k. let z : level_at j r ≡ true = rw (i, k) refl in
      rw (i, k) (ap (λ b. b && in_piece rows (insert p j u)) (meet ∙ level_meets (bar_at j p r) u z) ∙ ap (λ b. stands (bar_at j p r) && b) on ∙ sym (and_assoc (stands (bar_at j p r)) l (o && n)))))

  -- ---- the tightest bounds
  tighten-over : (kept : Option Bound) (b : Bound) (u : Number) → over_bound (tighten greater_of kept b).value u ≡ (over_bound kept u && over b u)
  tighten-over None b u = refl
  tighten-over (Some l) b u = greater_of-over l b u

  tighten-under : (kept : Option Bound) (b : Bound) (u : Number) → under_bound (tighten lesser_of kept b).value u ≡ (under_bound kept u && under b u)
  tighten-under None b u = refl
  tighten-under (Some l) b u = lesser_of-under l b u

  walk-over : (kept : Option Bound) (rows : PlainPiece) (u : Number) → AllWide (suc j) rows
      → over_bound (walk (tightened greater_of (lower_at j) j p) kept rows).value u ≡ (over_bound kept u && all_over rows u)
  walk-over kept [] u w = sym (and-true (over_bound kept u))
  walk-over kept (r ∷ rows) u w =
      by_bool (lower_at j r)
      (λ k. rw k (walk-over (tighten greater_of kept (bound_at j p r).value).value rows u w.1
      ∙ ap (λ b. b && all_over rows u) (tighten-over kept (bound_at j p r).value u ∙ ap (λ b. over_bound kept u && over b u) (bound_at-is j p r e w.0))
      ∙ and_assoc (over_bound kept u) (over (given r) u) (all_over rows u)))
      (λ k. rw k (walk-over kept rows u w.1))

  walk-under : (kept : Option Bound) (rows : PlainPiece) (u : Number) → AllWide (suc j) rows
      → under_bound (walk (tightened lesser_of (upper_at j) j p) kept rows).value u ≡ (under_bound kept u && all_under rows u)
  walk-under kept [] u w = sym (and-true (under_bound kept u))
  walk-under kept (r ∷ rows) u w =
      by_bool (upper_at j r)
      (λ k. rw k (walk-under (tighten lesser_of kept (bound_at j p r).value).value rows u w.1
      ∙ ap (λ b. b && all_under rows u) (tighten-under kept (bound_at j p r).value u ∙ ap (λ b. under_bound kept u && under b u) (bound_at-is j p r e w.0))
      ∙ and_assoc (under_bound kept u) (under (given r) u) (all_under rows u)))
      (λ k. rw k (walk-under kept rows u w.1))

  -- where some value of the variable satisfies the rows, the chosen one does
  pub value_of-holds : (rows : PlainPiece) → AllWide (suc j) rows → HasValue j rows p → InPiece rows (insert p j (value_of j p rows).value)
  value_of-holds rows w h =
      let lo = (greatest_lower j p rows).value in
      let up = (least_upper j p rows).value in
      let lo_is = λ (u : Number). walk-over None rows u w in
      let up_is = λ (u : Number). walk-under None rows u w in
      let v = h.value in
      let s = and_parts (levels_stand rows) (all_over rows v && all_under rows v) (sym (split v rows w) ∙ all_from_every (λ r. holds_at r (insert p j v)) rows h.holds) in
      let t = and_parts (all_over rows v) (all_under rows v) s.1 in
      let c = chosen-between lo up v (record { above = lo_is v ∙ t.0; below = up_is v ∙ t.1 }) in
      let u = (chosen lo up).value in
      let above : all_over rows u ≡ true = sym (lo_is u) ∙ c.above in
      let below : all_under rows u ≡ true = sym (up_is u) ∙ c.below in
      every_from_all (λ r. holds_at r (insert p j u)) rows (split u rows w ∙ ap (λ b. b && (all_over rows u && all_under rows u)) s.0 ∙ ap (λ b. b && all_under rows u) above ∙ below)

-- ---- the sample
-- a piece with a point has one without its last variable
less-point : (j : ℕ) (rows : PlainPiece) → AllWide (suc j) rows → HasPoint (suc j) rows → HasPoint j (eliminate frac_arithmetic j rows).value
less-point j rows w h =
    let l = last_of j h.point h.wide in
    let at : insert l.front j l.last ≡ h.point = insert-end j l.last l.front l.many ∙ l.joined in
    record {
      point = l.front;
      wide = l.many;
      holds = (eliminate-exact frac_arithmetic j (suc j) rows l.front frac_is_lawful (omega arith) (ap suc (sym l.many)) w).1 (record { value = l.last; holds = subst (InPiece rows) (sym at) h.holds });
    }

-- the sample of a piece lies in it
pub sample-in : (n : ℕ) (piece : PlainPiece) → AllWide n piece → HasPoint n piece → IsPointOf n piece (sample n piece).value
sample-in zero piece w h = record { wide = refl; inside = subst (InPiece piece) (none_left h.point h.wide) h.holds }
sample-in (suc j) piece w h =
    let es = (eliminate frac_arithmetic j piece).value in
    let p = (sample j es).value in
    let on = sample-in j es (eliminate-wide frac_arithmetic j j piece frac_is_lawful (omega arith) w) (less-point j piece w h) in
    let v = (eliminate-exact frac_arithmetic j (suc j) piece p frac_is_lawful (omega arith) (ap suc (sym on.wide)) w).0 on.inside in
    let u = (value_of j p piece).value in
    record {
      wide = longer j u p on.wide;
      inside = subst (InPiece piece) (insert-end j u p on.wide) (value_of-holds j p on.wide piece w v);
    }
