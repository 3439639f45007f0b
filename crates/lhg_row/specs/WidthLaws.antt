-- How many coefficients have trimmed rows and those without a variable, and are they tidy?
use Rattle.std.specs.Prelude.{◌≡◌, ℕ, suc, ◌<◌, true, not, List, [], ◌∷◌, ◌++◌, map, length, filter, Option, Some, None}
use Rattle.std.proofs.Common.{refl, sym, ap, ◌∙◌, arith, inl, inr}
use Rattle.std.proofs.lemmas.List.{length-map, length-replicate}
use Rattle.lhg_math.specs.Number.{Number, mul, nought}
use Rattle.lhg_math.specs.Signs.{size_of}
use Rattle.lhg_math.specs.Tests.{any_of, by_bool, false_true}
use Rattle.lhg_num.specs.Arithmetic.{Arithmetic, IsLawful, scaled_multiple}
use Rattle.lhg_num.specs.Marked.{each}
use Rattle.lhg_row.specs.Row.{PlainRow}
use Rattle.lhg_row.specs.Piece.{PlainPiece}
use Rattle.lhg_row.specs.Column.{upper_at, lower_at, level_at, drop_column, coef_at}
use Rattle.lhg_row.specs.Constant.{is_constant, is_true, is_false, never, is_nothing}
use Rattle.lhg_row.specs.ConstantLaws.{never-never, never-dropped, is_never-is, filter-varies}
use Rattle.lhg_row.specs.Width.{AllWide, IsTidy}
use Rattle.lhg_row.specs.Combine.{comb, entries}
use Rattle.lhg_row.specs.Trim.{entries_of, canon, gathered, settled, trim}
use Rattle.lhg_row.specs.TrimLaws.{row_of-canon, tighter-all, gathered-all, gathered-varies}
use Rattle.lhg_row.specs.Eliminate.{row_at, beside, same_side, partner, with_lowers, each_joined, combinations, without, pair_at, eliminate}
use Rattle.lhg_row.specs.WithoutLaws.{filter-wide}
use Rattle.lhg_row.specs.PairLaws.{HasPair, pair_at-is, beside-wide}
use Rattle.lhg_row.specs.Members.{all-append}
use Rattle.std.proofs.lemmas.List.Edits.{length-remove}

-- ---- trim
canon-wide : (a : Arithmetic) (n : ℕ) (r : PlainRow) → IsLawful a → length r.coefs ≡ n → length (canon a r).value.coefs ≡ n
canon-wide a n r laws w =
    by_bool (is_constant r) (λ e. rw e w)
    (λ e. rw e (ap (λ (q : PlainRow). length q.coefs) (row_of-canon a r laws) ∙ length-map r.coefs (λ x. mul (scaled_multiple a (entries_of r) laws).factor x) ∙ w))

-- canon of each row keeps the width
pub canons-wide : (a : Arithmetic) (n : ℕ) (rows : PlainPiece) → IsLawful a → AllWide n rows → AllWide n (each (canon a) rows).value
canons-wide a n [] laws w = tt
canons-wide a n (r ∷ rows) laws w = (canon-wide a n r laws w.0, canons-wide a n rows laws w.1)

-- two lists of one width together have it
pub append-wide : (n : ℕ) (xs ys : PlainPiece) → AllWide n xs → AllWide n ys → AllWide n (xs ++ ys)
append-wide n = all-append (λ r. length r.coefs ≡ n)

-- gathered rows of one width have it
pub gathered-wide : (a : Arithmetic) (n : ℕ) (ks rows : PlainPiece) → AllWide n ks → AllWide n rows → AllWide n (gathered a ks rows).value
gathered-wide a n = gathered-all a (λ r. length r.coefs ≡ n) (tighter-all (λ cs. length cs ≡ n))

-- and so have the settled rows
settled-wide : (a : Arithmetic) (n : ℕ) (rows : PlainPiece) → AllWide n rows → AllWide n (settled a rows).value
settled-wide a n [] w = tt
settled-wide a n (r ∷ rows) w =
    by_bool (any_of is_false (r ∷ rows)) (λ e. rw e (length-replicate (length r.coefs) nought ∙ w.0, tt))
    (λ e. rw e (gathered-wide a n [] (filter (λ s. not (is_true s)) (r ∷ rows)) tt (filter-wide n (λ s. not (is_true s)) (r ∷ rows) w)))

-- trim keeps the width
pub trim-wide : (a : Arithmetic) (n : ℕ) (rows : PlainPiece) → IsLawful a → AllWide n rows → AllWide n (trim a rows).value
unfolding trim
trim-wide a n rows laws w = settled-wide a n (each (canon a) rows).value (canons-wide a n rows laws w)

-- settled rows are tidy
settled-tidy : (a : Arithmetic) (rows : PlainPiece) → IsTidy (settled a rows).value
settled-tidy a [] = inr tt
settled-tidy a (r ∷ rows) =
    by_bool (any_of is_false (r ∷ rows))
    (λ e. rw e (inl (never-never (length r.coefs))))
    (λ e. rw e (inr (gathered-varies a [] (filter (λ s. not (is_true s)) (r ∷ rows)) tt (filter-varies (r ∷ rows) e))))

-- what trim leaves is tidy
pub trim-tidy : (a : Arithmetic) (rows : PlainPiece) → IsTidy (trim a rows).value
unfolding trim
trim-tidy a rows = settled-tidy a (each (canon a) rows).value

-- ---- eliminate
entries-length : (a : Arithmetic) (f g : Number) (cs ds : List Number) → length cs ≡ length ds → length (entries a f g cs ds).value ≡ length cs
entries-length a f g [] ds e = refl
entries-length a f g (c ∷ cs) [] e = absurd (omega arith)
entries-length a f g (c ∷ cs) (d ∷ ds) e = ap suc (entries-length a f g cs ds (omega arith))

-- rows without one column are one narrower
drop-wide : (k m : ℕ) (rows : PlainPiece) → k < suc m → AllWide (suc m) rows → AllWide m (map (drop_column k) rows)
drop-wide k m [] h w = tt
drop-wide k m (r ∷ rows) h w = (omega (arith, length-remove r.coefs k (omega (arith, h, w.0)), w.0), drop-wide k m rows h w.1)

module _ (a : Arithmetic) (k n : ℕ) where
  -- a combination has the width of its rows
  pub comb-wide : (r s : PlainRow) → length r.coefs ≡ n → length s.coefs ≡ n → length (comb a r s k).value.coefs ≡ n
  comb-wide r s h i = entries-length a (size_of (coef_at k s)) (size_of (coef_at k r)) r.coefs s.coefs (h ∙ sym i) ∙ h

  -- combinations of one row with others have the width of all
  with_lows : (u : PlainRow) (lows : PlainPiece) → length u.coefs ≡ n → AllWide n lows → AllWide n (each (λ l. comb a u l k) lows).value
  with_lows u [] h w = tt
  with_lows u (l ∷ lows) h w = (comb-wide u l h w.0, with_lows u lows h w.1)

  -- and those of each upper with each lower row
  all_pairs : (rows ups : PlainPiece) → AllWide n rows → AllWide n ups → AllWide n (each_joined (with_lowers a k rows) ups).value
  all_pairs rows [] w v = tt
  all_pairs rows (u ∷ ups) w v =
      append-wide n (with_lowers a k rows u).value _ (with_lows u (filter (lower_at k) rows) v.0 (filter-wide n (lower_at k) rows w)) (all_pairs rows ups w v.1)

  -- the partner of a row has the width of the pair
  pub partner-wide : (one other r : PlainRow) → length one.coefs ≡ n → length other.coefs ≡ n → length (partner k one other r).coefs ≡ n
  partner-wide one other r h i = by_bool (same_side k r one) (λ e. rw e i) (λ e. rw e h)

  -- and those with the one or the other of a pair
  with_partner : (one other : PlainRow) (rs : PlainPiece) → length one.coefs ≡ n → length other.coefs ≡ n → AllWide n rs → AllWide n (each (λ r. comb a r (partner k one other r) k) rs).value
  with_partner one other [] h i w = tt
  with_partner one other (r ∷ rs) h i w = (comb-wide r (partner k one other r) w.0 (partner-wide one other r h i), with_partner one other rs h i w.1)

  -- all combinations have the width of the rows
  combinations-wide : (rows : PlainPiece) (o : Option (ℕ × ℕ)) → HasPair a k rows o → AllWide n rows → AllWide n (combinations a k rows o).value
  combinations-wide rows None is w = all_pairs rows (filter (upper_at k) rows) w (filter-wide n (upper_at k) rows w)
  combinations-wide rows (Some p) is w =
      let v = beside-wide a k rows p.0 p.1 is n w in
      with_partner (row_at rows p.0) (row_at rows p.1) (filter (λ r. not (level_at k r)) (beside rows p.0 p.1)) v.0 v.1 (filter-wide n (λ r. not (level_at k r)) (beside rows p.0 p.1) v.2)

-- the rows without a variable and the combinations have one coefficient less
pub without-wide : (a : Arithmetic) (k m : ℕ) (rows : PlainPiece) → k < suc m → AllWide (suc m) rows → AllWide m (without a k rows (pair_at a k 0 rows).value).value
without-wide a k m rows h w =
    let o = (pair_at a k 0 rows).value in
    drop-wide k m (filter (level_at k) rows ++ (combinations a k rows o).value) h
    (append-wide (suc m) (filter (level_at k) rows) (combinations a k rows o).value (filter-wide (suc m) (level_at k) rows w) (combinations-wide a k (suc m) rows o (pair_at-is a k rows) w))

-- and so has what eliminate leaves
pub eliminate-wide : (a : Arithmetic) (k m : ℕ) (rows : PlainPiece) → IsLawful a → k < suc m → AllWide (suc m) rows → AllWide m (eliminate a k rows).value
unfolding eliminate
eliminate-wide a k m rows laws h w =
    by_bool (is_nothing rows) (λ f. rw f (drop-wide k m rows h w))
    (λ f. rw f (trim-wide a m (without a k rows (pair_at a k 0 rows).value).value laws (without-wide a k m rows h w)))

-- without a column 0 < 0 is 0 < 0
nothing-dropped : (k m : ℕ) (rows : PlainPiece) → k < suc m → AllWide (suc m) rows → is_nothing rows ≡ true → is_nothing (map (drop_column k) rows) ≡ true
nothing-dropped k m [] i w h = h
nothing-dropped k m (r ∷ []) i w h =
    ap (λ q. is_nothing (q ∷ [])) (ap (drop_column k) (is_never-is r h ∙ ap never w.0) ∙ never-dropped k m i) ∙ never-never m
nothing-dropped k m (r ∷ s ∷ rows) i w h = false_true h

-- what eliminate leaves is tidy
pub eliminate-tidy : (a : Arithmetic) (k m : ℕ) (rows : PlainPiece) → k < suc m → AllWide (suc m) rows → IsTidy (eliminate a k rows).value
unfolding eliminate
eliminate-tidy a k m rows h w =
    by_bool (is_nothing rows) (λ f. rw f (inl (nothing-dropped k m rows h w f)))
    (λ f. rw f (trim-tidy a (without a k rows (pair_at a k 0 rows).value).value))
