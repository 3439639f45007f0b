-- Why does the tightest bound stand for all bounds of its side, and why do two bounds allow the value chosen between them?
use Rattle.std.specs.Prelude.{◌≡◌, Bool, true, false, not, ◌&&◌, Option, Some, None}
use Rattle.std.proofs.Common.{refl, ap, ◌∙◌}
use Rattle.std.proofs.Math.Bool.{and_comm}
use Rattle.lhg_math.specs.Number.{Number, lt, mid, compare}
use Rattle.lhg_math.specs.NumberOrder.{lt_irrefl, lt_antisymm, lt-le_trans, le-lt_trans}
use Rattle.lhg_math.specs.Bounds.{Bound, under, over, le_from_over, le_from_under, one_more, one_less, fits_of_between, mid_fits}
use Rattle.lhg_math.specs.BoundPairs.{bounded, below_greater, above_lesser, over_both, under_both}
use Rattle.lhg_math.specs.Tests.{by_bool, false_true}
use Rattle.lhg_row.specs.Sample.{greater_of, lesser_of, chosen}

-- ---- the tighter of two
-- the greater of two lower bounds allows what both do
pub greater_of-over : (l m : Bound) (v : Number) → over (greater_of l m (compare l.at m.at)) v ≡ (over l v && over m v)
greater_of-over l m v =
    by_bool (lt l.at m.at)
    (λ e. rw e (below_greater l m v e))
    (λ e. by_bool (lt m.at l.at)
    (λ f. rw (e, f) (below_greater m l v f ∙ and_comm (over m v) (over l v)))
    (λ f. rw (e, f) (over_both l.at v l.strict m.strict ∙ ap (λ b. over l v && over (bounded b m.strict) v) (lt_antisymm l.at m.at e f))))

-- the lesser of two upper bounds allows what both do
pub lesser_of-under : (l m : Bound) (v : Number) → under (lesser_of l m (compare l.at m.at)) v ≡ (under l v && under m v)
lesser_of-under l m v =
    by_bool (lt l.at m.at)
    (λ e. rw e (above_lesser l m v e))
    (λ e. by_bool (lt m.at l.at)
    (λ f. rw (e, f) (above_lesser m l v f ∙ and_comm (under m v) (under l v)))
    (λ f. rw (e, f) (under_both l.at v l.strict m.strict ∙ ap (λ b. under l v && under (bounded b m.strict) v) (lt_antisymm l.at m.at e f))))

-- ---- where there may be no bound
-- a lower bound, where there is one, allows the value
abbrev pub over_bound : Option Bound → Number → Bool
over_bound None v = true
over_bound (Some l) v = over l v

-- an upper bound, where there is one, allows the value
abbrev pub under_bound : Option Bound → Number → Bool
under_bound None v = true
under_bound (Some u) v = under u v

-- ---- the value between two bounds
weak_over : (b : Number) → over (bounded b false) b ≡ true
weak_over b = ap not (lt_irrefl b)

weak_under : (b : Number) → under (bounded b false) b ≡ true
weak_under b = ap not (lt_irrefl b)

-- an upper bound that allows a value allows each that is not above it
under_lower : (u : Bound) (v w : Number) → lt v w ≡ false → under u v ≡ true → under u w ≡ true
under_lower u v w h k = down u.strict k
  where
    down : (s : Bool) → under (bounded u.at s) v ≡ true → under (bounded u.at s) w ≡ true
    down true i = le-lt_trans w v u.at h i
    down false i =
        by_bool (lt u.at w)
        (λ e. let t : lt u.at v ≡ true = lt-le_trans u.at w v e h in let z : false ≡ true = rw t at i in false_true z)
        (λ e. ap not e)

-- a lower bound that allows a value allows each that is not below it
over_higher : (l : Bound) (v w : Number) → lt w v ≡ false → over l v ≡ true → over l w ≡ true
over_higher l v w h k = up l.strict k
  where
    up : (s : Bool) → over (bounded l.at s) v ≡ true → over (bounded l.at s) w ≡ true
    up true i = lt-le_trans l.at v w i h
    up false i =
        by_bool (lt w l.at)
        (λ e. let t : lt v l.at ≡ true = le-lt_trans v w l.at h e in let z : false ≡ true = rw t at i in false_true z)
        (λ e. ap not e)

-- two bounds allow the value
pub record IsAllowed (l u : Option Bound) (v : Number) : Type 0 where
  pub above : over_bound l v ≡ true
  pub below : under_bound u v ≡ true

-- where two bounds allow some value, they allow the chosen one
pub chosen-between : (l u : Option Bound) (v : Number) → IsAllowed l u v → IsAllowed l u (chosen l u).value
chosen-between None None v h = record { above = refl; below = refl }
chosen-between (Some l) None v h =
    by_bool l.strict
    (λ s. rw s (record { above = one_more l.at; below = refl }))
    (λ s. rw s (record { above = weak_over l.at; below = refl }))
chosen-between None (Some u) v h =
    by_bool u.strict
    (λ s. rw s (record { above = refl; below = one_less u.at }))
    (λ s. rw s (record { above = refl; below = weak_under u.at }))
chosen-between (Some l) (Some u) v h =
    by_bool l.strict
    (λ s. by_bool u.strict
    (λ t.
    let m = mid_fits l u (fits_of_between l u v h.above h.below) in
    let low : lt l.at (mid l.at u.at) ≡ true = rw s at m.0 in
    let high : lt (mid l.at u.at) u.at ≡ true = rw t at m.1 in
    rw (s, t) (record { above = low; below = high }))
    (λ t.
    let low : lt l.at u.at ≡ true = rw s at (over_higher l v u.at (le_from_under u v h.below) h.above) in
    rw (s, t) (record { above = low; below = weak_under u.at })))
    (λ s. rw s (record { above = weak_over l.at; below = under_lower u v l.at (le_from_over l v h.above) h.below }))
