-- What holds of all rows that an elimination forms, at a point that tells which of them are wanted?
use Rattle.std.specs.Prelude.{◌≡◌, ◌⊎◌, ℕ, zero, suc, ◌+◌, ◌<◌, Bool, true, List, [], ◌∷◌, ◌++◌, map, filter, length, insert, take, get_or, None}
use Rattle.std.proofs.Common.{refl, sym, ap, ◌∙◌, subst, arith, inl, inr}
use Rattle.lhg_math.specs.Number.{Number, nought}
use Rattle.lhg_math.specs.Tests.{AllOf, by_bool}
use Rattle.lhg_num.specs.Arithmetic.{Arithmetic}
use Rattle.lhg_num.specs.Marked.{Marked, each}
use Rattle.lhg_row.specs.Row.{PlainRow, PlainPoint, Holds, relaxed}
use Rattle.lhg_row.specs.Piece.{PlainPiece}
use Rattle.lhg_row.specs.Members.{all_some, some_left, some_right, all-append}
use Rattle.lhg_row.specs.Column.{coef_at, upper_at, lower_at, level_at, drop_column}
use Rattle.lhg_row.specs.ColumnLaws.{bar_at, holds-insert, holds-drop_column}
use Rattle.lhg_row.specs.Bars.{level_meets}
use Rattle.lhg_row.specs.Combine.{comb}
use Rattle.lhg_row.specs.Combination.{AreOpposed, up_down}
use Rattle.lhg_row.specs.CombineLaws.{comb-exact}
use Rattle.lhg_row.specs.Width.{AllWide}
use Rattle.lhg_row.specs.Eliminate.{with_lowers, each_joined, without}
use Rattle.lhg_prune.specs.Touch.{strictly, IsTouchedBy}
use Rattle.lhg_prune.specs.Seat.{IsIn, IsSeat}

-- ---- members
-- what holds of all members holds of one
pub all-at : {A : Type 0} (P : A → Type 0) (xs : List A) (x : A) → AllOf P xs → IsIn x xs → P x
all-at P xs x h k = all_some P (λ y. y ≡ x) (P x) (λ y p e. subst P e p) xs h k

in-filter : {A : Type 0} (p : A → Bool) (xs : List A) (x : A) → IsIn x xs → p x ≡ true → IsIn x (filter p xs)
in-filter p [] x h e = absurd h
in-filter p (y ∷ xs) x (inl h) e = let f : p y ≡ true = ap p h ∙ e in rw f (inl h)
in-filter p (y ∷ xs) x (inr h) e = by_bool (p y) (λ f. rw f (inr (in-filter p xs x h e))) (λ f. rw f (in-filter p xs x h e))

in-map : {A B : Type 0} (f : A → B) (xs : List A) (x : A) → IsIn x xs → IsIn (f x) (map f xs)
in-map f [] x h = absurd h
in-map f (y ∷ xs) x (inl h) = inl (ap f h)
in-map f (y ∷ xs) x (inr h) = inr (in-map f xs x h)

in-each : {A B : Type 0} (f : A → Marked B) (xs : List A) (x : A) → IsIn x xs → IsIn (f x).value (each f xs).value
in-each f [] x h = absurd h
in-each f (y ∷ xs) x (inl h) = inl (ap (λ z. (f z).value) h)
in-each f (y ∷ xs) x (inr h) = inr (in-each f xs x h)

in-joined : {A B : Type 0} (f : A → Marked (List B)) (xs : List A) (x : A) (y : B) → IsIn x xs → IsIn y (f x).value → IsIn y (each_joined f xs).value
in-joined f [] x y h k = absurd h
in-joined f (z ∷ xs) x y (inl h) k = some_left (λ w. w ≡ y) (f z).value (each_joined f xs).value (subst (λ w. IsIn y (f w).value) (sym h) k)
in-joined f (z ∷ xs) x y (inr h) k = some_right (λ w. w ≡ y) (f z).value (each_joined f xs).value (in-joined f xs x y h k)

-- ---- all members
all-map : {A B : Type 0} (P : B → Type 0) (f : A → B) (xs : List A) → AllOf (λ x. P (f x)) xs → AllOf P (map f xs)
all-map P f [] h = tt
all-map P f (x ∷ xs) h = (h.0, all-map P f xs h.1)

pub all-each : {A B : Type 0} (P : B → Type 0) (f : A → Marked B) (xs : List A) → AllOf (λ x. P (f x).value) xs → AllOf P (each f xs).value
all-each P f [] h = tt
all-each P f (x ∷ xs) h = (h.0, all-each P f xs h.1)

all-joined : {A B : Type 0} (P : B → Type 0) (f : A → Marked (List B)) (xs : List A) → AllOf (λ x. AllOf P (f x).value) xs → AllOf P (each_joined f xs).value
all-joined P f [] h = tt
all-joined P f (x ∷ xs) h = all-append P (f x).value (each_joined f xs).value h.0 (all-joined P f xs h.1)

-- what follows for the members that pass a test
all-passing : {A : Type 0} (P Q : A → Type 0) (p : A → Bool) → ((x : A) → P x → p x ≡ true → Q x) → (xs : List A) → AllOf P xs → AllOf Q (filter p xs)
all-passing P Q p f [] h = tt
all-passing P Q p f (x ∷ xs) h = by_bool (p x) (λ e. rw e (f x h.0 e, all-passing P Q p f xs h.1)) (λ e. rw e (all-passing P Q p f xs h.1))

-- ---- rows
-- a row at a point: it has the width, holds weakly, and has room or is firm
record IsSided (n : ℕ) (firm : PlainPiece) (z : PlainPoint) (r : PlainRow) : Type 0 where
  wide : length r.coefs ≡ n
  weak : Holds (relaxed r) z
  told : Holds (strictly r) z ⊎ IsIn r firm

all_sided : (n : ℕ) (firm : PlainPiece) (z : PlainPoint) (rows : PlainPiece) → AllWide n rows → AllOf (λ r. Holds (relaxed r) z) rows → AllOf (λ r. Holds (strictly r) z ⊎ IsIn r firm) rows
    → AllOf (IsSided n firm z) rows
all_sided n firm z [] w h t = tt
all_sided n firm z (r ∷ rows) w h t = (record { wide = w.0; weak = h.0; told = t.0 }, all_sided n firm z rows w.1 h.1 t.1)

module _ (a : Arithmetic) (k n : ℕ) (there : k < suc n) (firm : PlainPiece) (keeps : PlainRow → Bool) (c : PlainPoint) (v : Number) (lc : length c ≡ n)
    (made : AllOf (λ q. keeps q ≡ true) (without a k firm None).value) where
  abbrev Told : PlainRow → Type 0
  Told r = IsTouchedBy keeps c (drop_column k r)

  abbrev Sided : PlainRow → Type 0
  Sided r = IsSided (suc n) firm (insert c k v) r

  -- a row that does not speak of the variable
  level_holds : (r : PlainRow) → length r.coefs ≡ suc n → level_at k r ≡ true → Holds r (insert c k v) → Holds (drop_column k r) c
  level_holds r w e h =
      let wide : length r.coefs ≡ suc (length c) = w ∙ ap suc (sym lc) in
      holds-drop_column r k c ∙ sym (level_meets (bar_at k c r) v e) ∙ sym (holds-insert r k v c (omega (arith, w, there)) wide) ∙ h

  -- two rows on both sides of it
  comb_holds : (u l : PlainRow) → length u.coefs ≡ suc n → length l.coefs ≡ suc n → upper_at k u ≡ true → lower_at k l ≡ true → Holds u (insert c k v) → Holds l (insert c k v)
      → Holds (drop_column k (comb a u l k).value) c
  comb_holds u l wu wl up low hu hl =
      let op : AreOpposed (coef_at k u) (coef_at k l) = up_down up low in
      ((comb-exact a k u l (wu ∙ sym wl) (omega (arith, wu, there)) op).holds c (ap suc lc ∙ sym wu)).1 (record { value = v; holds = (hu, (hl, tt)) })

  -- what is made of firm rows passes the test
  firm_level : (r : PlainRow) → IsIn r firm → level_at k r ≡ true → keeps (drop_column k r) ≡ true
  firm_level r h e =
      let combs = (each_joined (with_lowers a k firm) (filter (upper_at k) firm)).value in
      all-at (λ q. keeps q ≡ true) (without a k firm None).value (drop_column k r) made
      (in-map (drop_column k) (filter (level_at k) firm ++ combs) r (some_left (λ w. w ≡ r) (filter (level_at k) firm) combs (in-filter (level_at k) firm r h e)))

  firm_comb : (u l : PlainRow) → IsIn u firm → IsIn l firm → upper_at k u ≡ true → lower_at k l ≡ true → keeps (drop_column k (comb a u l k).value) ≡ true
  firm_comb u l h g e f =
      let combs = (each_joined (with_lowers a k firm) (filter (upper_at k) firm)).value in
      let q = (comb a u l k).value in
      let here : IsIn q combs = in-joined (with_lowers a k firm) (filter (upper_at k) firm) u q (in-filter (upper_at k) firm u h e)
      (in-each (λ (s : PlainRow). comb a u s k) (filter (lower_at k) firm) l (in-filter (lower_at k) firm l g f)) in
      all-at (λ p. keeps p ≡ true) (without a k firm None).value (drop_column k q) made
      (in-map (drop_column k) (filter (level_at k) firm ++ combs) q (some_right (λ w. w ≡ q) (filter (level_at k) firm) combs here))

  level_told : (r : PlainRow) → Sided r → level_at k r ≡ true → Told r
  level_told r s e = record { weak = level_holds (relaxed r) s.wide e s.weak; room = on s.told }
    where
      on : Holds (strictly r) (insert c k v) ⊎ IsIn r firm → (keeps (drop_column k r) ≡ true) ⊎ Holds (strictly (drop_column k r)) c
      on (inl h) = inr (level_holds (strictly r) s.wide e h)
      on (inr h) = inl (firm_level r h e)

  comb_told : (u l : PlainRow) → Sided u → upper_at k u ≡ true → Sided l → lower_at k l ≡ true → Told (comb a u l k).value
  comb_told u l s e t f = record { weak = comb_holds (relaxed u) (relaxed l) s.wide t.wide e f s.weak t.weak; room = on s.told t.told }
    where
      on : Holds (strictly u) (insert c k v) ⊎ IsIn u firm → Holds (strictly l) (insert c k v) ⊎ IsIn l firm
          → (keeps (drop_column k (comb a u l k).value) ≡ true) ⊎ Holds (strictly (drop_column k (comb a u l k).value)) c
      on (inl h) g = inr (comb_holds (strictly u) (relaxed l) s.wide t.wide e f h t.weak)
      on (inr h) (inl g) = inr (comb_holds (relaxed u) (strictly l) s.wide t.wide e f s.weak g)
      on (inr h) (inr g) = inl (firm_comb u l h g e f)

  -- each row that elimination forms
  formed_told : (rows : PlainPiece) → AllOf Sided rows → AllOf (IsTouchedBy keeps c) (without a k rows None).value
  formed_told rows all =
      let combs = (each_joined (with_lowers a k rows) (filter (upper_at k) rows)).value in
      let lowers = λ (u : PlainRow) (s : Sided u) (e : upper_at k u ≡ true).
      all-each Told (λ (l : PlainRow). comb a u l k) (filter (lower_at k) rows) (all-passing Sided (λ (l : PlainRow). Told (comb a u l k).value) (lower_at k) (λ l t f. comb_told u l s e t f) rows all) in
      let sides : AllOf Told combs = all-joined Told (with_lowers a k rows) (filter (upper_at k) rows) (all-passing Sided (λ (u : PlainRow). AllOf Told (with_lowers a k rows u).value) (upper_at k) lowers rows all) in
      all-map (IsTouchedBy keeps c) (drop_column k) (filter (level_at k) rows ++ combs)
      (all-append Told (filter (level_at k) rows) combs (all-passing Sided Told (level_at k) (λ r s e. level_told r s e) rows all) sides)

-- the last coordinate behind the first ones
insert-last : (z : PlainPoint) (k : ℕ) → length z ≡ k + 1 → insert (take k z) k (get_or z k nought) ≡ z
insert-last [] k e = absurd (omega arith)
insert-last (x ∷ []) zero e = refl
insert-last (x ∷ y ∷ z) zero e = absurd (omega arith)
insert-last (x ∷ z) (suc k) e = ap (λ w. x ∷ w) (insert-last z k (omega arith))

-- there are k first coordinates of k + 1
pub length-first : (z : PlainPoint) (k : ℕ) → length z ≡ k + 1 → length (take k z) ≡ k
length-first [] k e = absurd (omega arith)
length-first (x ∷ z) zero e = refl
length-first (x ∷ z) (suc k) e = ap suc (length-first z k (omega arith))

-- at the first coordinates of such a point all rows that elimination forms hold weakly, and those that do not pass the test have room
pub seat_told : (a : Arithmetic) (k : ℕ) (rows : PlainPiece) (keeps : PlainRow → Bool) (z : PlainPoint) → AllWide (suc k) rows → IsSeat a k rows keeps z
    → (length (take k z) ≡ k) × AllOf (IsTouchedBy keeps (take k z)) (without a k rows None).value
seat_told a k rows keeps z w s =
    let l = length-first z k s.wide in
    let is = sym (insert-last z k s.wide) in
    let there : k < suc k = omega arith in
    let weak = subst (λ y. AllOf (λ r. Holds (relaxed r) y) rows) is s.weak in
    let told = subst (λ y. AllOf (λ r. Holds (strictly r) y ⊎ IsIn r s.firm) rows) is s.told in
    (l, formed_told a k k there s.firm keeps (take k z) (get_or z k nought) l s.made rows (all_sided (suc k) s.firm (insert (take k z) k (get_or z k nought)) rows w weak told))
