-- Does what is left of whole rows make the piece that another number type makes?
use Rattle.std.specs.Prelude.{◌≡◌, ◌⊎◌, ℕ, ◌+◌, ◌-◌, ◌≤◌, Bool, true, false, ◌&&◌, List, [], ◌∷◌, filter}
use Rattle.std.proofs.Common.{refl, sym, ap, ◌∙◌, arith, subst, inl, inr}
use Rattle.lhg_math.specs.Number.{Number, mul, lt, nought}
use Rattle.lhg_math.specs.Signs.{same_number}
use Rattle.lhg_math.specs.Tests.{AllOf, by_bool}
use Rattle.lhg_num.specs.Arithmetic.{Arithmetic, IsLawful}
use Rattle.lhg_row.specs.Row.{PlainRow, PlainPoint, Holds, holds_at, relaxed}
use Rattle.lhg_row.specs.Piece.{PlainPiece, InPiece, in_piece}
use Rattle.lhg_row.specs.PieceLemmas.{in_piece_is}
use Rattle.lhg_row.specs.ValueLaws.{scaled_row, holds-scaled}
use Rattle.lhg_row.specs.Width.{AllWide}
use Rattle.lhg_row.specs.WithoutLaws.{filter-wide}
use Rattle.lhg_row.specs.System.{IsSystem}
use Rattle.lhg_row.specs.HasValue.{HasPoint}
use Rattle.lhg_row.specs.Trim.{agree, lead_size}
use Rattle.lhg_row.specs.TrimmedLaws.{trimmed-settled}
use Rattle.lhg_row.specs.Eliminate.{eliminate_last}
use Rattle.lhg_row.specs.Pieces.{make, project}
use Rattle.lhg_elim.specs.Alike.{IsAlike, AllAlike}
use Rattle.lhg_elim.specs.AlikeEliminate.{eliminate_last-alike}
use Rattle.lhg_elim.specs.SystemLaws.{eliminate_last-system}
use Rattle.lhg_elim.specs.Turned.{AllTurned}
use Rattle.lhg_elim.specs.TurnedLaws.{turned-back}
use Rattle.lhg_prune.specs.Touch.{strictly, IsTouchedBy, IsTouched, AreEnough}
use Rattle.lhg_prune.specs.Directions.{IsByDirection}
use Rattle.lhg_prune.specs.Pruning.{IsPruning, IsLeft}
use Rattle.lhg_prune.specs.Pruned.{point_left, filter-trimmed, pruning-piece}

-- ---- directions
-- whether products agree does not hang on the type
agree-any : (a w : Arithmetic) (made : Number → Number) (f g : Number) (cs ds : List Number) → (agree a made f g cs ds).value ≡ (agree w made f g cs ds).value
agree-any a w made f g [] [] = refl
agree-any a w made f g [] (d ∷ ds) = refl
agree-any a w made f g (c ∷ cs) [] = refl
agree-any a w made f g (c ∷ cs) (d ∷ ds) = ap (λ b. same_number (mul f c) (made (mul g d)) && b) (agree-any a w made f g cs ds)

-- so a test of directions is one over each type
direction-any : (a w : Arithmetic) (test : PlainRow → Bool) → IsByDirection w test → IsByDirection a test
direction-any a w test by = record {
  coefs = by.coefs;
  multiple = by.multiple;
  direction = λ r s v u e. by.direction r s v u (sym (agree-any a w (λ y. y) (lead_size s) (lead_size r) r.coefs s.coefs) ∙ e);
}

-- ---- alike rows
module _ (a : Arithmetic) (n : ℕ) where
  -- alike rows hold at the same points
  alike-holds : (rs ss : PlainPiece) → AllAlike a rs ss → (x : PlainPoint) → in_piece ss x ≡ in_piece rs x
  alike-holds [] [] h x = refl
  alike-holds [] (s ∷ ss) h x = absurd h
  alike-holds (r ∷ rs) [] h x = absurd h
  alike-holds (r ∷ rs) (s ∷ ss) h x =
      ap (λ (q : PlainRow). holds_at q x && in_piece ss x) h.0.is ∙ ap (λ b. b && in_piece ss x) (holds-scaled h.0.factor r x h.0.positive)
      ∙ ap (λ b. holds_at r x && b) (alike-holds rs ss h.1 x)

  pub alike-inside : (rs ss : PlainPiece) → AllAlike a rs ss → (x : PlainPoint) → InPiece rs x → InPiece ss x
  alike-inside rs ss h x i = (in_piece_is ss x).1 (alike-holds rs ss h x ∙ (in_piece_is rs x).0 i)

  -- rows whose alike rows have a point have it
  pub alike-point : (rs ss : PlainPiece) → AllAlike a rs ss → HasPoint n ss → HasPoint n rs
  alike-point rs ss h p = record { point = p.point; wide = p.wide; holds = (in_piece_is rs p.point).1 (sym (alike-holds rs ss h p.point) ∙ (in_piece_is ss p.point).0 p.holds) }

  module _ (rows others : PlainPiece) (alike : AllAlike a rows others) (keeps : PlainRow → Bool) (multiple : (k : Number) (r : PlainRow) → lt nought k ≡ true → keeps (scaled_row k r) ≡ keeps r) where
    same_test : (r s : PlainRow) → IsAlike a r s → keeps s ≡ keeps r
    same_test r s h = ap keeps h.is ∙ multiple h.factor r h.positive

    -- what touches a row touches one alike it
    alike-touched_by : (c : PlainPoint) (r s : PlainRow) → IsAlike a r s → IsTouchedBy keeps c s → IsTouchedBy keeps c r
    alike-touched_by c r s h t =
        let k = h.factor in
        record {
          weak = sym (holds-scaled k (relaxed r) c h.positive) ∙ subst (λ (q : PlainRow). Holds (relaxed q) c) h.is t.weak;
          room = on t.room;
        }
      where
        on : (keeps s ≡ true) ⊎ Holds (strictly s) c → (keeps r ≡ true) ⊎ Holds (strictly r) c
        on (inl e) = inl (sym (same_test r s h) ∙ e)
        on (inr e) = inr (sym (holds-scaled h.factor (strictly r) c h.positive) ∙ subst (λ (q : PlainRow). Holds (strictly q) c) h.is e)

    all-touched_by : (c : PlainPoint) (rs ss : PlainPiece) → AllAlike a rs ss → AllOf (IsTouchedBy keeps c) ss → AllOf (IsTouchedBy keeps c) rs
    all-touched_by c [] [] h t = tt
    all-touched_by c [] (s ∷ ss) h t = absurd h
    all-touched_by c (r ∷ rs) [] h t = absurd h
    all-touched_by c (r ∷ rs) (s ∷ ss) h t = (alike-touched_by c r s h.0 t.0, all-touched_by c rs ss h.1 t.1)

    alike-touched : (r s : PlainRow) → IsAlike a r s → IsTouched n others keeps s → IsTouched n rows keeps r
    alike-touched r s h t = record {
      point = t.point;
      wide = t.wide;
      touches = all-touched_by t.point rows others alike t.touches;
      tight = sym (holds-scaled h.factor (strictly r) t.point h.positive) ∙ subst (λ (q : PlainRow). holds_at (strictly q) t.point ≡ false) h.is t.tight;
    }

    all-touched : (rs ss : PlainPiece) → AllAlike a rs ss → AllOf (λ s. keeps s ≡ true → IsTouched n others keeps s) ss → AllOf (λ r. keeps r ≡ true → IsTouched n rows keeps r) rs
    all-touched [] [] h t = tt
    all-touched [] (s ∷ ss) h t = absurd h
    all-touched (r ∷ rs) [] h t = absurd h
    all-touched (r ∷ rs) (s ∷ ss) h t = ((λ e. alike-touched r s h.0 (t.0 (same_test r s h.0 ∙ e))), all-touched rs ss h.1 t.1)

    -- the rows that are kept are alike
    alike-filter : (rs ss : PlainPiece) → AllAlike a rs ss → AllAlike a (filter keeps rs) (filter keeps ss)
    alike-filter [] [] h = tt
    alike-filter [] (s ∷ ss) h = absurd h
    alike-filter (r ∷ rs) [] h = absurd h
    alike-filter (r ∷ rs) (s ∷ ss) h =
        let e = same_test r s h.0 in
        by_bool (keeps r)
        (λ f. let g : keeps s ≡ true = e ∙ f in rw (f, g) (h.0, alike-filter rs ss h.1))
        (λ f. let g : keeps s ≡ false = e ∙ f in rw (f, g) (alike-filter rs ss h.1))

    -- rows alike those that are enough are enough
    alike-enough : AreEnough n others keeps → AreEnough n rows keeps
    alike-enough e = record {
      points = λ x l i. sym (alike-holds rows others alike x) ∙ e.points x l (alike-holds (filter keeps rows) (filter keeps others) (alike-filter rows others alike) x ∙ i);
      touched = all-touched rows others alike e.touched;
    }

-- ---- the piece
-- the pruning of alike rows, turned back, is over the first variables, and makes the piece that the rows project to
pruned_alike : (a w : Arithmetic) (n keep : ℕ) (rows others kept back : PlainPiece) → IsLawful a → IsLawful w → keep ≤ n → IsSystem a n rows → AllAlike a rows others
    → IsPruning w n keep others kept → AllTurned a kept back → AllWide keep back × ((project a n keep rows).value ≡ (make a keep back).value)
pruned_alike a w n keep rows others kept back laws wlaws h s alike p turned =
    let count = n - keep in
    let left = (eliminate_last a keep count rows).value in
    let all : n ≡ keep + count = omega (arith, h) in
    let la : AllAlike a left (eliminate_last w keep count others).value = eliminate_last-alike a w keep count laws wlaws rows others alike in
    let by : IsByDirection a p.keeps = direction-any a w p.keeps p.by in
    let some : HasPoint n rows = alike-point a n rows others alike p.some in
    let sl : IsSystem a keep left = eliminate_last-system a keep count n rows laws all s in
    let pl : HasPoint keep left = point_left a keep count n rows laws all s.wide some in
    let fewer = filter p.keeps left in
    let t = filter-trimmed a keep left laws p.keeps by sl.trimmed pl in
    let q : IsPruning a n keep rows fewer = record {
      some = some;
      keeps = p.keeps;
      by = by;
      is = refl;
      enough = alike-enough a keep left (eliminate_last w keep count others).value la p.keeps by.multiple p.enough;
    } in
    let fa : AllAlike a fewer kept = subst (AllAlike a fewer) (sym p.is) (alike-filter a keep left (eliminate_last w keep count others).value la p.keeps by.multiple left (eliminate_last w keep count others).value la) in
    let back_is : back ≡ fewer = turned-back a laws fewer kept back (trimmed-settled a fewer laws t) fa turned in
    (subst (AllWide keep) (sym back_is) (filter-wide keep p.keeps left sl.wide), pruning-piece a n keep rows fewer laws h s q ∙ ap (λ rs. (make a keep rs).value) (sym back_is))

-- so does all that is left
all_alike : (a w : Arithmetic) (n keep : ℕ) (rows others kept back : PlainPiece) → IsLawful a → IsLawful w → keep ≤ n → IsSystem a n rows → AllAlike a rows others
    → kept ≡ (eliminate_last w keep (n - keep) others).value → AllTurned a kept back → AllWide keep back × ((project a n keep rows).value ≡ (make a keep back).value)
all_alike a w n keep rows others kept back laws wlaws h s alike is turned =
    let count = n - keep in
    let left = (eliminate_last a keep count rows).value in
    let all : n ≡ keep + count = omega (arith, h) in
    let la : AllAlike a left kept = subst (AllAlike a left) (sym is) (eliminate_last-alike a w keep count laws wlaws rows others alike) in
    let sl : IsSystem a keep left = eliminate_last-system a keep count n rows laws all s in
    let back_is : back ≡ left = turned-back a laws left kept back (trimmed-settled a left laws sl.trimmed) la turned in
    (subst (AllWide keep) (sym back_is) sl.wide, ap (λ rs. (make a keep rs).value) (sym back_is))

-- the one or the other
pub left_alike : (a w : Arithmetic) (n keep : ℕ) (rows others kept back : PlainPiece) → IsLawful a → IsLawful w → keep ≤ n → IsSystem a n rows → AllAlike a rows others
    → IsLeft w n keep others kept → AllTurned a kept back → AllWide keep back × ((project a n keep rows).value ≡ (make a keep back).value)
left_alike a w n keep rows others kept back laws wlaws h s alike (inl is) turned = all_alike a w n keep rows others kept back laws wlaws h s alike is turned
left_alike a w n keep rows others kept back laws wlaws h s alike (inr p) turned = pruned_alike a w n keep rows others kept back laws wlaws h s alike p turned
