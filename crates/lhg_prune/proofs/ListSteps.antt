-- Steps of the loops that choose rows.
use Rattle.std.proofs.Common.{◌≡◌, ℕ, zero, suc, ◌+◌, ◌<◌, ◌≤◌, Bool, true, false, List, [], ◌∷◌, ◌++◌, length, take, drop, map, get_or, refl, sym, ap, ◌∙◌, subst, inl, inr, arith, append_assoc, append-nil}
use Rattle.std.specs.Prelude.{filter, insert, ◌⊎◌, None}
use Rattle.std.proofs.lemmas.Bool.{and_parts}
use Rattle.std.proofs.lemmas.List.{take_more, take_all, map-append}
use Rattle.std.proofs.lemmas.List.Elements.{filter-append}
use Rattle.lhg_math.specs.Number.{Number}
use Rattle.lhg_math.specs.Tests.{AllOf, by_bool}
use Rattle.lhg_num.specs.Arithmetic.{Arithmetic}
use Rattle.lhg_num.specs.Marked.{each}
use Rattle.lhg_row.specs.Row.{PlainRow, PlainPoint, Holds, holds_at, relaxed}
use Rattle.lhg_row.specs.Piece.{PlainPiece, InPiece, in_piece}
use Rattle.lhg_row.specs.Members.{SomeOf, all_some, all-append, some_left, some_right}
use Rattle.lhg_row.specs.Width.{AllWide}
use Rattle.std.proofs.lemmas.List.Edits.{length-remove}
use Rattle.lhg_row.specs.WidthLaws.{append-wide, comb-wide}
use Rattle.lhg_row.specs.WithoutLaws.{filter-wide}
use Rattle.lhg_row.specs.Combine.{comb}
use Rattle.lhg_row.specs.Column.{upper_at, lower_at, level_at, drop_column}
use Rattle.lhg_row.specs.Eliminate.{each_joined, with_lowers, without}
use Rattle.lhg_math.specs.ListFacts.{drop_cons}
use Rattle.lhg_elim.proofs.Additive.{joined-additive}
use Rattle.lhg_prune.specs.Grown.{IsGrown}
use Rattle.lhg_prune.specs.Chosen.{IsSeated}
use Rattle.lhg_prune.specs.Seat.{IsIn, IsSeat}
use Rattle.lhg_prune.specs.SeatLaws.{length-first}
use Rattle.lhg_prune.specs.Touch.{strictly}
use Rattle.lhg_row.specs.HasValue.{HasValue, Completes}

-- a filter over the first member and then over the others
filter-cons : {A : Type 0} (p : A → Bool) (x : A) (xs : List A) → filter p (x ∷ xs) ≡ filter p (x ∷ []) ++ filter p xs
filter-cons p x xs = by_bool (p x) (λ e. rw e refl) (λ e. rw e refl)

-- a list that has grown has its old width
pub grown-wide : (n : ℕ) (Reason : Type 0) (old new : PlainPiece) (r : PlainRow) → IsGrown Reason old r new → length r.coefs ≡ n → AllWide n old → AllWide n new
grown-wide n Reason old new r (inl h) e w = subst (AllWide n) (sym h.same) w
grown-wide n Reason old new r (inr h) e w = subst (AllWide n) (sym h) (append-wide n old (r ∷ []) w (e, tt))

-- what holds of all members holds of the one at a place
pub all-item : {A : Type 0} (P : A → Type 0) (xs : List A) (i : ℕ) (x : A) → x ≡ get_or xs i x → i < length xs → AllOf P xs → P x
all-item P [] i x e l h = absurd (omega arith)
all-item P (y ∷ xs) zero x e l h = subst P (sym e) h.0
all-item P (y ∷ xs) (suc i) x e l h = all-item P xs i x e (omega arith) h.1

-- one member more of those that were looked at
pub all-taken : {A : Type 0} (P : A → Type 0) (xs : List A) (i : ℕ) (x : A) → x ≡ get_or xs i x → i < length xs → AllOf P (take i xs) → P x → AllOf P (take (i + 1) xs)
all-taken P xs i x e l h p = subst (AllOf P) (sym (take_more xs i x l ∙ ap (λ z. take i xs ++ z ∷ []) (sym e))) (all-append P (take i xs) (x ∷ []) h (p, tt))

-- all were looked at
pub all-done : {A : Type 0} (P : A → Type 0) (xs : List A) (i : ℕ) → length xs ≤ i → AllOf P (take i xs) → AllOf P xs
all-done P xs i l h = subst (AllOf P) (take_all i xs l) h

-- rows that hold, made weak
pub relaxed-hold : (rows : PlainPiece) (z : PlainPoint) → in_piece (map relaxed rows) z ≡ true → AllOf (λ r. Holds (relaxed r) z) rows
relaxed-hold [] z h = tt
relaxed-hold (r ∷ rows) z h = let j = and_parts (holds_at (relaxed r) z) (in_piece (map relaxed rows) z) h in (j.0, relaxed-hold rows z j.1)

-- ---- points
-- rows fit the first coordinates of points over one variable more
firsts-fit : (m k : ℕ) (points : List PlainPoint) → m ≡ k → AllOf (λ (z : PlainPoint). length z ≡ k + 1) points → AllOf (λ (c : PlainPoint). m ≡ length c) (map (take k) points)
firsts-fit m k [] e h = tt
firsts-fit m k (z ∷ points) e h = (e ∙ sym (length-first z k h.0), firsts-fit m k points e h.1)

pub strict-fit : (k : ℕ) (rows : PlainPiece) (points : List PlainPoint) → AllWide k rows → AllOf (λ (z : PlainPoint). length z ≡ k + 1) points
    → AllOf (λ (r : PlainRow). AllOf (λ (c : PlainPoint). length r.coefs ≡ length c) (map (take k) points)) (map strictly rows)
strict-fit k [] points w h = tt
strict-fit k (r ∷ rows) points w h = (firsts-fit (length r.coefs) k points w.0 h, strict-fit k rows points w.1 h)

-- what fails at the first coordinates of some point
first-back : (k : ℕ) (r : PlainRow) (points : List PlainPoint) → SomeOf (λ (c : PlainPoint). holds_at r c ≡ false) (map (take k) points) → SomeOf (λ (z : PlainPoint). holds_at r (take k z) ≡ false) points
first-back k r [] h = absurd h
first-back k r (z ∷ points) (inl h) = inl h
first-back k r (z ∷ points) (inr h) = inr (first-back k r points h)

pub tight-back : (k : ℕ) (rows : PlainPiece) (points : List PlainPoint)
    → AllOf (λ (r : PlainRow). SomeOf (λ (c : PlainPoint). holds_at r c ≡ false) (map (take k) points)) (map strictly rows) → AllOf (λ (r : PlainRow). SomeOf (λ (z : PlainPoint). holds_at (strictly r) (take k z) ≡ false) points) rows
tight-back k [] points h = tt
tight-back k (r ∷ rows) points h = (first-back k (strictly r) points h.0, tight-back k rows points h.1)

-- rows without room at points that tell which rows are wanted are seated
pub all-seated : (a : Arithmetic) (k : ℕ) (before chosen : PlainPiece) (keeps : PlainRow → Bool) (points : List PlainPoint) → AllOf (IsSeat a k before keeps) points
    → AllOf (λ (r : PlainRow). SomeOf (λ (z : PlainPoint). holds_at (strictly r) (take k z) ≡ false) points) chosen → AllOf (IsSeated a k before keeps) chosen
all-seated a k before [] keeps points s h = tt
all-seated a k before (r ∷ chosen) keeps points s h = (
  all_some (IsSeat a k before keeps) (λ (z : PlainPoint). holds_at (strictly r) (take k z) ≡ false) (IsSeated a k before keeps r) (λ z t f. record { point = z; seat = t; tight = f }) points s h.0,
  all-seated a k before chosen keeps points s h.1,
)

-- a point that one coordinate completes has a value
pub last-value : (k : ℕ) (rows : PlainPiece) (x : PlainPoint) → length x ≡ k → Completes 1 rows x → HasValue k rows x
last-value k rows x l h = on h.later h.many h.inside
  where
    behind : (k : ℕ) (x : PlainPoint) (v : Number) → length x ≡ k → x ++ v ∷ [] ≡ insert x k v
    behind zero [] v e = refl
    behind zero (y ∷ x) v e = absurd (omega arith)
    behind (suc k) [] v e = absurd (omega arith)
    behind (suc k) (y ∷ x) v e = ap (λ w. y ∷ w) (behind k x v (omega arith))

    on : (later : PlainPoint) → length later ≡ 1 → InPiece rows (x ++ later) → HasValue k rows x
    on [] e i = absurd (omega arith)
    on (v ∷ []) e i = record { value = v; holds = subst (InPiece rows) (behind k x v l) i }
    on (v ∷ w ∷ later) e i = absurd (omega arith)

-- ---- widths
-- rows without one column are one narrower
pub drop-wide : (k m : ℕ) (rows : PlainPiece) → k < m + 1 → AllWide (m + 1) rows → AllWide m (map (drop_column k) rows)
drop-wide k m [] h w = tt
drop-wide k m (r ∷ rows) h w = (omega (arith, length-remove r.coefs k (omega (arith, h, w.0)), w.0), drop-wide k m rows h w.1)

-- rows that do not speak of a variable
pub levels-wide : (k m : ℕ) (rows : PlainPiece) → k < m + 1 → AllWide (m + 1) rows → AllWide m (map (drop_column k) (filter (level_at k) rows))
levels-wide k m rows h w = drop-wide k m (filter (level_at k) rows) h (filter-wide (m + 1) (level_at k) rows w)

module _ (a : Arithmetic) (k n : ℕ) where
  lows-wide : (u : PlainRow) (lows : PlainPiece) → length u.coefs ≡ n → AllWide n lows → AllWide n (each (λ l. comb a u l k) lows).value
  lows-wide u [] h w = tt
  lows-wide u (l ∷ lows) h w = (comb-wide a k n u l h w.0, lows-wide u lows h w.1)

  pairs-wide : (rows ups : PlainPiece) → AllWide n rows → AllWide n ups → AllWide n (each_joined (with_lowers a k rows) ups).value
  pairs-wide rows [] w v = tt
  pairs-wide rows (u ∷ ups) w v =
      append-wide n (with_lowers a k rows u).value _ (lows-wide u (filter (lower_at k) rows) v.0 (filter-wide n (lower_at k) rows w)) (pairs-wide rows ups w v.1)

-- combinations of some rows with all
pub sides-wide : (a : Arithmetic) (k m : ℕ) (rows ups : PlainPiece) → k < m + 1 → AllWide (m + 1) rows → AllWide (m + 1) ups → AllWide m (map (drop_column k) (each_joined (with_lowers a k rows) (filter (upper_at k) ups)).value)
sides-wide a k m rows ups h w v =
    drop-wide k m (each_joined (with_lowers a k rows) (filter (upper_at k) ups)).value h (pairs-wide a k (m + 1) rows (filter (upper_at k) ups) w (filter-wide (m + 1) (upper_at k) ups v))

-- all that elimination forms by sides
pub without_none-wide : (a : Arithmetic) (k m : ℕ) (rows : PlainPiece) → k < m + 1 → AllWide (m + 1) rows → AllWide m (without a k rows None).value
without_none-wide a k m rows h w =
    let combs = (each_joined (with_lowers a k rows) (filter (upper_at k) rows)).value in
    drop-wide k m (filter (level_at k) rows ++ combs) h
    (append-wide (m + 1) (filter (level_at k) rows) combs (filter-wide (m + 1) (level_at k) rows w) (pairs-wide a k (m + 1) rows (filter (upper_at k) rows) w (filter-wide (m + 1) (upper_at k) rows w)))

-- ---- wanted rows
-- what is there and what is left to choose is what was there and all that is chosen
pub record IsChoosing (n : ℕ) (test : PlainRow → Bool) (old all out rest : PlainPiece) : Type 0 where
  pub same : out ++ filter test rest ≡ old ++ filter test all
  pub wide : AllWide n rest

module _ (n : ℕ) (test : PlainRow → Bool) (old all out rows : PlainPiece) (r : PlainRow) (rest : PlainPiece) (e : rows ≡ r ∷ rest) (h : IsChoosing n test old all out rows) where
  choosing-wides : AllWide n (r ∷ rest)
  choosing-wides = subst (AllWide n) e h.wide

  pub choosing-width : length r.coefs ≡ n
  choosing-width = choosing-wides.0

  pub choosing-in : (new : PlainPiece) → test r ≡ true → new ≡ out ++ r ∷ [] → IsChoosing n test old all new rest
  choosing-in new t k =
      let one : filter test rows ≡ r ∷ filter test rest = ap (filter test) e ∙ rw t refl in
      record { same = ap (λ rs. rs ++ filter test rest) k ∙ append_assoc out (r ∷ []) (filter test rest) ∙ ap (λ rs. out ++ rs) (sym one) ∙ h.same; wide = choosing-wides.1 }

  pub choosing-out : (new : PlainPiece) → test r ≡ false → new ≡ out → IsChoosing n test old all new rest
  choosing-out new t k =
      let none : filter test rows ≡ filter test rest = ap (filter test) e ∙ rw t refl in
      record { same = ap (λ rs. rs ++ filter test rest) k ∙ ap (λ rs. out ++ rs) (sym none) ∙ h.same; wide = choosing-wides.1 }

pub choosing-end : (n : ℕ) (test : PlainRow → Bool) (old all out rest : PlainPiece) → rest ≡ [] → IsChoosing n test old all out rest → out ≡ old ++ filter test all
choosing-end n test old all out rest e h =
    let s : out ++ filter test rest ≡ out = ap (λ rs. out ++ filter test rs) e ∙ append-nil out in
    sym s ∙ h.same

-- ---- the combinations of one row after the other
-- what is chosen of the combinations of the upper rows
abbrev pub chosen_sides : Arithmetic → ℕ → (PlainRow → Bool) → PlainPiece → PlainPiece → PlainPiece
chosen_sides a k test rows ups = filter test (map (drop_column k) (each_joined (with_lowers a k rows) (filter (upper_at k) ups)).value)

pub sides-cons : (a : Arithmetic) (k : ℕ) (test : PlainRow → Bool) (rows : PlainPiece) (r : PlainRow) (ups : PlainPiece)
    → chosen_sides a k test rows (r ∷ ups) ≡ chosen_sides a k test rows (r ∷ []) ++ chosen_sides a k test rows ups
sides-cons a k test rows r ups =
    let f = with_lowers a k rows in
    let one = (each_joined f (filter (upper_at k) (r ∷ []))).value in
    let more = (each_joined f (filter (upper_at k) ups)).value in
    let e : (each_joined f (filter (upper_at k) (r ∷ ups))).value ≡ one ++ more = ap (λ m. m.value) ((joined-additive (upper_at k) f).joined r ups) in
    ap (λ cs. filter test (map (drop_column k) cs)) e ∙ ap (filter test) (map-append (drop_column k) one more) ∙ filter-append test (map (drop_column k) one) (map (drop_column k) more)

pub sides-step : (a : Arithmetic) (k : ℕ) (test : PlainRow → Bool) (rows : PlainPiece) (i : ℕ) (r : PlainRow) → r ≡ get_or rows i r → i < length rows → (old all out some new : PlainPiece)
    → out ++ chosen_sides a k test rows (drop i rows) ≡ old ++ all
    → some ≡ map (drop_column k) (each_joined (with_lowers a k rows) (filter (upper_at k) (r ∷ []))).value → new ≡ out ++ filter test some
    → new ++ chosen_sides a k test rows (drop (i + 1) rows) ≡ old ++ all
sides-step a k test rows i r e l old all out some new h s m =
    let next = chosen_sides a k test rows (drop (i + 1) rows) in
    ap (λ rs. rs ++ next) (m ∙ ap (λ rs. out ++ filter test rs) s) ∙ append_assoc out (chosen_sides a k test rows (r ∷ [])) next
    ∙ ap (λ rs. out ++ rs) (sym (ap (chosen_sides a k test rows) (drop_cons rows i r e l) ∙ sides-cons a k test rows r (drop (i + 1) rows))) ∙ h

-- ---- firm rows
all_in : (Q : PlainRow → Type 0) (out : PlainPiece) (r : PlainRow) (rows : PlainPiece) → AllOf (λ q. Q q ⊎ IsIn q out) rows → AllOf (λ q. Q q ⊎ IsIn q (out ++ r ∷ [])) rows
all_in Q out r [] h = tt
all_in Q out r (q ∷ rows) h = (on h.0, all_in Q out r rows h.1)
  where
    on : Q q ⊎ IsIn q out → Q q ⊎ IsIn q (out ++ r ∷ [])
    on (inl k) = inl k
    on (inr k) = inr (some_left (λ s. s ≡ q) out (r ∷ []) k)

pub firm-step : (Q : PlainRow → Type 0) (rows : PlainPiece) (i : ℕ) (r : PlainRow) → r ≡ get_or rows i r → i < length rows → (out new : PlainPiece)
    → AllOf (λ q. Q q ⊎ IsIn q out) (take i rows) → IsGrown (Q r) out r new → AllOf (λ q. Q q ⊎ IsIn q new) (take (i + 1) rows)
firm-step Q rows i r e l out new h g =
    let t : take (i + 1) rows ≡ take i rows ++ r ∷ [] = take_more rows i r l ∙ ap (λ z. take i rows ++ z ∷ []) (sym e) in
    subst (AllOf (λ q. Q q ⊎ IsIn q new)) (sym t) (on g)
  where
    on : IsGrown (Q r) out r new → AllOf (λ q. Q q ⊎ IsIn q new) (take i rows ++ r ∷ [])
    on (inl k) = subst (λ ws. AllOf (λ q. Q q ⊎ IsIn q ws) (take i rows ++ r ∷ [])) (sym k.same) (all-append (λ q. Q q ⊎ IsIn q out) (take i rows) (r ∷ []) h (inl k.reason, tt))
    on (inr k) = subst (λ ws. AllOf (λ q. Q q ⊎ IsIn q ws) (take i rows ++ r ∷ [])) (sym k)
        (all-append (λ q. Q q ⊎ IsIn q (out ++ r ∷ [])) (take i rows) (r ∷ []) (all_in Q out r (take i rows) h) (inr (some_right (λ s. s ≡ r) out (r ∷ []) (inl refl)), tt))

pub firm-end : (Q : PlainRow → Type 0) (rows : PlainPiece) (i : ℕ) (out : PlainPiece) → length rows ≤ i → AllOf (λ q. Q q ⊎ IsIn q out) (take i rows) → AllOf (λ q. Q q ⊎ IsIn q out) rows
firm-end Q rows i out l h = subst (AllOf (λ q. Q q ⊎ IsIn q out)) (take_all i rows l) h
