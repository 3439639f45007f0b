-- Why do the combinations of all upper with all lower rows say what is left of a list without one variable?
use Rattle.std.specs.Prelude.{◌≡◌, ℕ, suc, ◌<◌, Bool, true, List, [], ◌∷◌, ◌++◌, map, length, filter, insert, flat_map}
use Rattle.std.proofs.Common.{refl, sym, ap, ◌∙◌, arith, subst}
use Rattle.std.proofs.lemmas.List.{map-append}
use Rattle.lhg_math.specs.Number.{Number}
use Rattle.lhg_math.specs.Tests.{Every, all_of, every_from_all, all_from_every, by_bool}
use Rattle.lhg_num.specs.Arithmetic.{Arithmetic}
use Rattle.lhg_row.specs.Row.{PlainRow, PlainPoint, holds_at}
use Rattle.lhg_row.specs.Piece.{PlainPiece, InPiece}
use Rattle.lhg_row.specs.Column.{upper_at, lower_at, level_at, drop_column}
use Rattle.lhg_row.specs.Combine.{comb}
use Rattle.lhg_row.specs.Width.{AllWide}
use Rattle.lhg_row.specs.HasValue.{HasValue}
use Rattle.lhg_row.specs.Bars.{meets, stands, comb_bar, is_upper, is_lower, is_level, AreEliminated, eliminated_has_value, value_is_eliminated, filter_every}
use Rattle.lhg_row.specs.ColumnLaws.{bar_at, holds-insert, holds-drop_column, holds-comb}
use Rattle.lhg_row.specs.Members.{all-append, all_split, all-filter}

-- the rows without the variable, and the combinations of each upper row with each lower one
abbrev pub paired : Arithmetic → ℕ → PlainPiece → PlainPiece
paired a k rows = map (drop_column k) (filter (level_at k) rows ++ flat_map (λ u. map (λ l. (comb a u l k).value) (filter (lower_at k) rows)) (filter (upper_at k) rows))

-- ---- lists
-- a filter keeps the width
pub filter-wide : (n : ℕ) (p : PlainRow → Bool) (rows : PlainPiece) → AllWide n rows → AllWide n (filter p rows)
filter-wide n p = all-filter (λ r. length r.coefs ≡ n) p

-- the images that pass a test are the images of the members whose image passes it
filter-map : {A B : Type 0} (t : A → B) (p : B → Bool) (xs : List A) → filter p (map t xs) ≡ map t (filter (λ x. p (t x)) xs)
filter-map t p [] = refl
filter-map t p (x ∷ xs) = by_bool (p (t x)) (λ e. rw e (ap (λ ys. t x ∷ ys) (filter-map t p xs))) (λ e. rw e (filter-map t p xs))

-- ---- from rows to constraints on the variable, and back
to_stand : (k : ℕ) (x : PlainPoint) (rows : PlainPiece) → InPiece (map (drop_column k) rows) x → Every stands (map (bar_at k x) rows)
to_stand k x [] h = tt
to_stand k x (r ∷ rs) h = (sym (holds-drop_column r k x) ∙ h.0, to_stand k x rs h.1)

-- rows without the variable hold where their bars stand
from_stand : (k : ℕ) (x : PlainPoint) (rows : PlainPiece) → Every stands (map (bar_at k x) rows) → InPiece (map (drop_column k) rows) x
from_stand k x [] h = tt
from_stand k x (r ∷ rs) h = (holds-drop_column r k x ∙ h.0, from_stand k x rs h.1)

module _ (a : Arithmetic) (k n : ℕ) (x : PlainPoint) (in_n : k < n) (n_is : n ≡ suc (length x)) where
  -- where rows hold, the value meets their bars
  to_meet : (v : Number) (rows : PlainPiece) → AllWide n rows → InPiece rows (insert x k v) → Every (λ b. meets b v) (map (bar_at k x) rows)
  to_meet v [] w h = tt
  to_meet v (r ∷ rs) w h = (sym (holds-insert r k v x (omega (arith, w.0)) (w.0 ∙ n_is)) ∙ h.0, to_meet v rs w.1 h.1)

  -- and back
  from_meet : (v : Number) (rows : PlainPiece) → AllWide n rows → Every (λ b. meets b v) (map (bar_at k x) rows) → InPiece rows (insert x k v)
  from_meet v [] w h = tt
  from_meet v (r ∷ rs) w h = (holds-insert r k v x (omega (arith, w.0)) (w.0 ∙ n_is) ∙ h.0, from_meet v rs w.1 h.1)

  -- the bar of a combination is the pair of the two bars
  comb_row : (u l : PlainRow) → length u.coefs ≡ n → length l.coefs ≡ n → upper_at k u ≡ true → lower_at k l ≡ true
      → holds_at (drop_column k (comb a u l k).value) x ≡ stands (comb_bar (bar_at k x u) (bar_at k x l))
  comb_row u l e f h j = holds-comb a u l k x (e ∙ sym f) (omega (arith, e)) h j

  -- where the combinations with one upper row stand, so do the pairs of their bars
  row_pairs : (u : PlainRow) (ls : PlainPiece) → length u.coefs ≡ n → upper_at k u ≡ true → AllWide n ls → Every (lower_at k) ls
      → InPiece (map (drop_column k) (map (λ l. (comb a u l k).value) ls)) x → Every (λ l. stands (comb_bar (bar_at k x u) l)) (map (bar_at k x) ls)
  row_pairs u [] e h w lo s = tt
  row_pairs u (l ∷ ls) e h w lo s = (sym (comb_row u l e w.0 h lo.0) ∙ s.0, row_pairs u ls e h w.1 lo.1 s.1)

  -- and back
  pairs_row : (u : PlainRow) (ls : PlainPiece) → length u.coefs ≡ n → upper_at k u ≡ true → AllWide n ls → Every (lower_at k) ls
      → Every (λ l. stands (comb_bar (bar_at k x u) l)) (map (bar_at k x) ls) → InPiece (map (drop_column k) (map (λ l. (comb a u l k).value) ls)) x
  pairs_row u [] e h w lo s = tt
  pairs_row u (l ∷ ls) e h w lo s = (comb_row u l e w.0 h lo.0 ∙ s.0, pairs_row u ls e h w.1 lo.1 s.1)

  -- the combinations of each upper with each lower row, over the other variables
  abbrev combs : PlainPiece → PlainPiece → PlainPiece
  combs ls us = flat_map (λ u. map (λ l. (comb a u l k).value) ls) us

  -- where all combinations hold, all pairs of bars stand
  to_pairs : (us ls : PlainPiece) → AllWide n us → Every (upper_at k) us → AllWide n ls → Every (lower_at k) ls
      → InPiece (map (drop_column k) (combs ls us)) x → Every (λ u. all_of (λ l. stands (comb_bar u l)) (map (bar_at k x) ls)) (map (bar_at k x) us)
  to_pairs [] ls wu up wl lo h = tt
  to_pairs (u ∷ us) ls wu up wl lo h =
      let s = all_split (λ r. holds_at r x ≡ true) _ _ (subst (λ rows. InPiece rows x) (map-append (drop_column k) (map (λ l. (comb a u l k).value) ls) (combs ls us)) h) in
      (all_from_every _ (map (bar_at k x) ls) (row_pairs u ls wu.0 up.0 wl lo s.0), to_pairs us ls wu.1 up.1 wl lo s.1)

  -- and back
  from_pairs : (us ls : PlainPiece) → AllWide n us → Every (upper_at k) us → AllWide n ls → Every (lower_at k) ls
      → Every (λ u. all_of (λ l. stands (comb_bar u l)) (map (bar_at k x) ls)) (map (bar_at k x) us) → InPiece (map (drop_column k) (combs ls us)) x
  from_pairs [] ls wu up wl lo h = tt
  from_pairs (u ∷ us) ls wu up wl lo h =
      subst (λ rows. InPiece rows x) (sym (map-append (drop_column k) (map (λ l. (comb a u l k).value) ls) (combs ls us)))
      (all-append (λ r. holds_at r x ≡ true) _ _ (pairs_row u ls wu.0 up.0 wl lo (every_from_all _ (map (bar_at k x) ls) h.0)) (from_pairs us ls wu.1 up.1 wl lo h.1))

  -- ---- both directions
  -- where the list without the variable holds, some value of the variable satisfies the rows
  pub paired_has_value : (rows : PlainPiece) → AllWide n rows → InPiece (paired a k rows) x → HasValue k rows x
  paired_has_value rows w h =
      let lev = filter (level_at k) rows in
      let us = filter (upper_at k) rows in
      let ls = filter (lower_at k) rows in
      let s = all_split (λ r. holds_at r x ≡ true) _ _ (subst (λ q. InPiece q x) (map-append (drop_column k) lev (combs ls us)) h) in
      let bs = map (bar_at k x) rows in
      let q = to_pairs us ls (filter-wide n (upper_at k) rows w) (filter_every (upper_at k) rows) (filter-wide n (lower_at k) rows w) (filter_every (lower_at k) rows) s.1 in
      let el : AreEliminated bs = record {
        levels = rw (filter-map (bar_at k x) is_level rows) (to_stand k x lev s.0);
        pairs = rw (filter-map (bar_at k x) is_lower rows, filter-map (bar_at k x) is_upper rows) q;
      } in
      let r = eliminated_has_value bs el in
      record { value = r.0; holds = from_meet r.0 rows w r.1 }

  -- and where some value satisfies the rows, the list without the variable holds
  pub has_value_paired : (rows : PlainPiece) → AllWide n rows → HasValue k rows x → InPiece (paired a k rows) x
  has_value_paired rows w h =
      let lev = filter (level_at k) rows in
      let us = filter (upper_at k) rows in
      let ls = filter (lower_at k) rows in
      let bs = map (bar_at k x) rows in
      let el = value_is_eliminated bs h.value (to_meet h.value rows w h.holds) in
      let l1 : Every stands (map (bar_at k x) lev) = rw (filter-map (bar_at k x) is_level rows) at el.levels in
      let q : Every (λ u. all_of (λ l. stands (comb_bar u l)) (map (bar_at k x) ls)) (map (bar_at k x) us) = rw (filter-map (bar_at k x) is_lower rows, filter-map (bar_at k x) is_upper rows) at el.pairs in
      subst (λ p. InPiece p x) (sym (map-append (drop_column k) lev (combs ls us)))
      (all-append (λ r. holds_at r x ≡ true) _ _ (from_stand k x lev l1) (from_pairs us ls (filter-wide n (upper_at k) rows w) (filter_every (upper_at k) rows) (filter-wide n (lower_at k) rows w) (filter_every (lower_at k) rows) q))
