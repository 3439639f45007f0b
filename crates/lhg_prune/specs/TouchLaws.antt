-- What happens to rows on the way to a point of their closure?
use Rattle.std.specs.Prelude.{◌≡◌, ◌⊎◌, Bool, true, false, not, ◌&&◌, [], ◌∷◌, length, filter}
use Rattle.std.proofs.Common.{refl, sym, ap, ◌∙◌, inl, inr}
use Rattle.std.proofs.lemmas.Bool.{and_parts, not-true}
use Rattle.lhg_math.specs.Number.{Number, add, mul, lt, nought, half}
use Rattle.lhg_math.specs.NumberRing.{add-nought, nought-add, mul-nought, neg_nought}
use Rattle.lhg_math.specs.NumberOrder.{lt_asym, lt_irrefl, lt_antisymm, lt-mul}
use Rattle.lhg_math.specs.Interpolate.{interpolate}
use Rattle.lhg_math.specs.InterpolateLaws.{interpolate_is}
use Rattle.lhg_math.specs.Places.{IsInner}
use Rattle.lhg_math.specs.PlacesLaws.{inner_place, half_inner, nonpos_at, negative_left, negative_right, crossing_up}
use Rattle.lhg_math.specs.Tests.{AllOf, by_bool, false_true}
use Rattle.lhg_row.specs.Row.{PlainRow, PlainPoint, Holds, holds_at, relaxed}
use Rattle.lhg_row.specs.Piece.{PlainPiece, in_piece}
use Rattle.lhg_motion.specs.Segment.{along}
use Rattle.lhg_motion.specs.SegmentLemmas.{excess, fits_sign, holds_excess, excess_along, length-along}
use Rattle.lhg_prune.specs.Touch.{strictly, IsTouchedBy}

-- ---- numbers
-- from 0 the number at a place is that share of the end
from_nought : (b p : Number) → interpolate nought b p ≡ mul p b
from_nought b p = interpolate_is nought b p ∙ nought-add _ ∙ ap (mul p) (ap (add b) neg_nought ∙ add-nought b)

-- a share of a number has its sign
share_fits : (s : Bool) (b p : Number) → IsInner p → fits_sign s (mul p b) ≡ fits_sign s b
share_fits s b p i =
    let below : lt (mul p b) nought ≡ lt b nought = ap (lt (mul p b)) (sym (mul-nought p)) ∙ lt-mul p b nought i.above in
    let above : lt nought (mul p b) ≡ lt nought b = ap (λ w. lt w (mul p b)) (sym (mul-nought p)) ∙ lt-mul p nought b i.above in
    rw (below, above) refl

-- a row holds where its excess is below 0
fitting : (s : Bool) (e : Number) → lt e nought ≡ true → fits_sign s e ≡ true
fitting true e h = h
fitting false e h = ap not (lt_asym e nought h)

-- ---- nearer points
-- a point at which what holds weakly at c and holds at x holds, and what is tight at c and fails at x fails
pub record IsNearer (c x y : PlainPoint) : Type 0 where
  pub wide : length c ≡ length y
  pub holds : (r : PlainRow) → Holds (relaxed r) c → holds_at r x ≡ true → holds_at r y ≡ true
  pub fails : (r : PlainRow) → Holds (relaxed r) c → holds_at (strictly r) c ≡ false → holds_at r x ≡ false → holds_at r y ≡ false

-- the same with a fact
pub record HasNearer (c x : PlainPoint) (P : PlainPoint → Type 0) : Type 0 where
  pub point : PlainPoint
  pub nearer : IsNearer c x point
  pub has : P point

nearer_self : (c x : PlainPoint) → length c ≡ length x → IsNearer c x x
nearer_self c x e = record { wide = e; holds = λ r w h. h; fails = λ r w t h. h }

nearer_trans : (c x y z : PlainPoint) → IsNearer c x y → IsNearer c y z → IsNearer c x z
nearer_trans c x y z f g = record { wide = g.wide; holds = λ r w h. g.holds r w (f.holds r w h); fails = λ r w t h. g.fails r w t (f.fails r w t h) }

-- inner points of the segment are nearer
nearer_along : (c x : PlainPoint) (p : Number) → length c ≡ length x → IsInner p → IsNearer c x (along c x p)
nearer_along c x p e i = record {
  wide = sym (length-along c x p e);
  holds = λ r w h.
      holds_excess r (along c x p) ∙ ap (fits_sign r.strict) (excess_along r c x p e)
      ∙ on r.strict (excess r c) (excess r x) (low r w) (sym (holds_excess r x) ∙ h);
  fails = λ r w t h.
      let zero : excess r c ≡ nought = lt_antisymm (excess r c) nought (sym (holds_excess (strictly r) c) ∙ t) (low r w) in
      holds_excess r (along c x p) ∙ ap (fits_sign r.strict) (excess_along r c x p e ∙ ap (λ w. interpolate w (excess r x) p) zero ∙ from_nought (excess r x) p)
      ∙ share_fits r.strict (excess r x) p i ∙ sym (holds_excess r x) ∙ h;
}
  where
    low : (r : PlainRow) → Holds (relaxed r) c → lt nought (excess r c) ≡ false
    low r w = not-true (lt nought (excess r c)) (sym (holds_excess (relaxed r) c) ∙ w)

    on : (s : Bool) (a b : Number) → lt nought a ≡ false → fits_sign s b ≡ true → fits_sign s (interpolate a b p) ≡ true
    on true a b l f = negative_right a b p l f i
    on false a b l f = ap not (nonpos_at a b p l (not-true (lt nought b) f) (inner_place p i))

-- near enough to a point at which a row has room, the row holds
row_nearer : (c x : PlainPoint) → length c ≡ length x → (u : PlainRow) → Holds (strictly u) c → HasNearer c x (λ y. holds_at u y ≡ true)
row_nearer c x e u h =
    by_bool (lt nought (excess u x))
    (λ k.
    let cross = crossing_up (excess u c) (excess u x) below k in
    let z = along c x cross.at in
    let f = nearer_along c x cross.at e cross.inner in
    record {
      point = along c z half;
      nearer = nearer_trans c x z (along c z half) f (nearer_along c z half f.wide half_inner);
      has = held z f.wide (ap (λ b. lt (interpolate (excess u c) b half) nought) (excess_along u c x cross.at e ∙ cross.level) ∙ negative_left (excess u c) nought half below (lt_irrefl nought) half_inner);
    })
    (λ k. record { point = along c x half; nearer = nearer_along c x half e half_inner; has = held x e (negative_left (excess u c) (excess u x) half below k half_inner) })
  where
    below : lt (excess u c) nought ≡ true
    below = sym (holds_excess (strictly u) c) ∙ h

    held : (z : PlainPoint) → length c ≡ length z → lt (interpolate (excess u c) (excess u z) half) nought ≡ true → holds_at u (along c z half) ≡ true
    held z l low = holds_excess u (along c z half) ∙ ap (fits_sign u.strict) (excess_along u c z half l) ∙ fitting u.strict (interpolate (excess u c) (excess u z) half) low

-- rows that hold weakly at c hold nearer to it
pub all_nearer : (c x y : PlainPoint) (keeps : PlainRow → Bool) (rows : PlainPiece) → AllOf (IsTouchedBy keeps c) rows → IsNearer c x y → in_piece rows x ≡ true → in_piece rows y ≡ true
all_nearer c x y keeps [] h f i = refl
all_nearer c x y keeps (r ∷ rows) h f i =
    let j = and_parts (holds_at r x) (in_piece rows x) i in
    rw (f.holds r h.0.weak j.0, all_nearer c x y keeps rows h.1 f j.1) refl

-- near enough to a point all rows hold, if those that pass the test hold and the others have room
pub rows_nearer : (c x : PlainPoint) → length c ≡ length x → (keeps : PlainRow → Bool) (rows : PlainPiece) → AllOf (IsTouchedBy keeps c) rows
    → in_piece (filter keeps rows) x ≡ true → HasNearer c x (λ y. in_piece rows y ≡ true)
rows_nearer c x e keeps [] h i = record { point = x; nearer = nearer_self c x e; has = refl }
rows_nearer c x e keeps (r ∷ rows) h i =
    by_bool (keeps r)
    (λ k.
    let all : (holds_at r x && in_piece (filter keeps rows) x) ≡ true = rw k at i in
    let j = and_parts (holds_at r x) (in_piece (filter keeps rows) x) all in
    let m = rows_nearer c x e keeps rows h.1 j.1 in
    record { point = m.point; nearer = m.nearer; has = rw (m.nearer.holds r h.0.weak j.0, m.has) refl })
    (λ k.
    let rest : in_piece (filter keeps rows) x ≡ true = rw k at i in
    let m = rows_nearer c x e keeps rows h.1 rest in
    let u = row_nearer c m.point m.nearer.wide r (or_room h.0.room k) in
    record {
      point = u.point;
      nearer = nearer_trans c x m.point u.point m.nearer u.nearer;
      has = rw (u.has, all_nearer c m.point u.point keeps rows h.1 u.nearer m.has) refl;
    })
  where
    or_room : (keeps r ≡ true) ⊎ Holds (strictly r) c → keeps r ≡ false → Holds (strictly r) c
    or_room (inl f) k = false_true (sym k ∙ f)
    or_room (inr f) k = f
