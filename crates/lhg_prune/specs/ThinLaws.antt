-- Is the piece of a trimmed list that of the rows that pass a test, where these are enough?
use Rattle.std.specs.Prelude.{◌≡◌, ℕ, suc, ◌+◌, Bool, true, false, cond, ◌&&◌, [], ◌∷◌, ◌++◌, length, filter, remove}
use Rattle.std.proofs.Common.{refl, sym, ap, ◌∙◌, arith, subst, append_assoc, append-nil}
use Rattle.std.proofs.Math.Bool.{and_assoc, and-true}
use Rattle.std.proofs.lemmas.Bool.{and_parts}
use Rattle.std.proofs.lemmas.List.{length-append}
use Rattle.std.proofs.lemmas.List.Elements.{filter-append}
use Rattle.lhg_math.specs.Tests.{AllOf, by_bool, false_true}
use Rattle.lhg_num.specs.Arithmetic.{Arithmetic, IsLawful}
use Rattle.lhg_row.specs.Conjunctions.{and_left_comm}
use Rattle.lhg_row.specs.Row.{PlainRow, PlainPoint, Holds, holds_at, relaxed}
use Rattle.lhg_row.specs.Piece.{PlainPiece, in_piece}
use Rattle.lhg_row.specs.PieceLemmas.{in_piece_is}
use Rattle.lhg_row.specs.Members.{all_split}
use Rattle.lhg_row.specs.Width.{AllWide}
use Rattle.lhg_row.specs.WidthLaws.{append-wide}
use Rattle.lhg_row.specs.WithoutLaws.{filter-wide}
use Rattle.lhg_row.specs.Eliminate.{row_at}
use Rattle.lhg_row.specs.EliminateLaws.{in_piece-append}
use Rattle.lhg_row.specs.Pieces.{entails, thin_at, thin}
use Rattle.lhg_row.specs.PieceFacts.{IsEntailment}
use Rattle.lhg_row.specs.EntailLaws.{entails-exact}
use Rattle.lhg_prune.specs.Touch.{IsTouchedBy, IsTouched, AreEnough}
use Rattle.lhg_prune.specs.TouchLaws.{all_nearer, rows_nearer}

-- ---- the rows kept, from the last to the first
-- what is kept of later rows behind earlier ones
abbrev pub kept_behind : Arithmetic → ℕ → PlainPiece → PlainPiece → PlainPiece
kept_behind a n front [] = []
kept_behind a n front (r ∷ rows) =
    let kept = kept_behind a n (front ++ r ∷ []) rows in
    cond (entails a n (front ++ kept) r).value kept (r ∷ kept)

-- ---- places
row_at-behind : (front rows : PlainPiece) (r : PlainRow) → row_at (front ++ r ∷ rows) (length front) ≡ r
row_at-behind [] rows r = refl
row_at-behind (s ∷ front) rows r = row_at-behind front rows r

remove-behind : (front rows : PlainPiece) (r : PlainRow) → remove (front ++ r ∷ rows) (length front) ≡ front ++ rows
remove-behind [] rows r = refl
remove-behind (s ∷ front) rows r = ap (λ rs. s ∷ rs) (remove-behind front rows r)

-- one row is asked for
thin_at-behind : (a : Arithmetic) (n : ℕ) (front kept : PlainPiece) (r : PlainRow)
    → (thin_at a n (length front) (front ++ r ∷ kept)).value ≡ front ++ cond (entails a n (front ++ kept) r).value kept (r ∷ kept)
thin_at-behind a n front kept r =
    ap (λ rest. cond (entails a n rest (row_at (front ++ r ∷ kept) (length front))).value rest (front ++ r ∷ kept)) (remove-behind front kept r)
    ∙ ap (λ s. cond (entails a n (front ++ kept) s).value (front ++ kept) (front ++ r ∷ kept)) (row_at-behind front kept r)
    ∙ by_bool (entails a n (front ++ kept) r).value (λ e. rw e refl) (λ e. rw e refl)

-- after the later rows were asked for, those kept of them are there
thin-behind : (a : Arithmetic) (n : ℕ) (front rows : PlainPiece)
    → (thin a n (length (front ++ rows)) (front ++ rows)).value ≡ (thin a n (length front) (front ++ kept_behind a n front rows)).value
thin-behind a n front [] = ap (λ rs. (thin a n (length rs) (front ++ [])).value) (append-nil front)
thin-behind a n front (r ∷ rows) =
    let kept = kept_behind a n (front ++ r ∷ []) rows in
    let e : (front ++ r ∷ []) ++ rows ≡ front ++ r ∷ rows = append_assoc front (r ∷ []) rows in
    let f : (front ++ r ∷ []) ++ kept ≡ front ++ r ∷ kept = append_assoc front (r ∷ []) kept in
    let m : length (front ++ r ∷ []) ≡ suc (length front) = length-append front (r ∷ []) ∙ omega arith in
    ap (λ rs. (thin a n (length rs) rs).value) (sym e) ∙ thin-behind a n (front ++ r ∷ []) rows
    ∙ ap (λ i. (thin a n i ((front ++ r ∷ []) ++ kept)).value) m ∙ ap (λ rs. (thin a n (suc (length front)) rs).value) f
    ∙ ap (λ rs. (thin a n (length front) rs).value) (thin_at-behind a n front kept r)

-- what thin leaves is what is kept
pub thin-kept : (a : Arithmetic) (n : ℕ) (rows : PlainPiece) → (thin a n (length rows) rows).value ≡ kept_behind a n [] rows
thin-kept a n rows = thin-behind a n [] rows

-- ---- points
first_follows : (a b : Bool) → (b ≡ true → a ≡ true) → b ≡ (a && b)
first_follows a true f = sym (ap (λ x. x && true) (f refl))
first_follows true false f = refl
first_follows false false f = refl

module _ (a : Arithmetic) (n : ℕ) (laws : IsLawful a) where
  -- a row that others entail holds where they do
  entailed_holds : (rows : PlainPiece) (r : PlainRow) → AllWide n rows → length r.coefs ≡ n → (entails a n rows r).value ≡ true
      → (x : PlainPoint) → length x ≡ n → in_piece rows x ≡ true → holds_at r x ≡ true
  entailed_holds rows r w v e x l h = (subst (IsEntailment n rows r) e (entails-exact a n rows r laws w v)) x l ((in_piece_is rows x).1 h)

  -- a row that holds where others do is entailed by them
  holds_entailed : (rows : PlainPiece) (r : PlainRow) → AllWide n rows → length r.coefs ≡ n
      → ((x : PlainPoint) → length x ≡ n → in_piece rows x ≡ true → holds_at r x ≡ true) → (entails a n rows r).value ≡ true
  holds_entailed rows r w v h =
      by_bool (entails a n rows r).value (λ e. e)
      (λ e. let c = subst (IsEntailment n rows r) e (entails-exact a n rows r laws w v) in absurd (c.fails (h c.point c.wide ((in_piece_is rows c.point).0 c.inside))))

  kept-wide : (front rows : PlainPiece) → AllWide n rows → AllWide n (kept_behind a n front rows)
  kept-wide front [] w = tt
  kept-wide front (r ∷ rows) w =
      let kept = kept_behind a n (front ++ r ∷ []) rows in
      by_bool (entails a n (front ++ kept) r).value (λ e. rw e (kept-wide (front ++ r ∷ []) rows w.1)) (λ e. rw e (w.0, kept-wide (front ++ r ∷ []) rows w.1))

  -- the rows kept have, behind the earlier ones, the points of all
  kept_points : (front rows : PlainPiece) → AllWide n front → AllWide n rows → (x : PlainPoint) → length x ≡ n
      → (in_piece front x && in_piece (kept_behind a n front rows) x) ≡ (in_piece front x && in_piece rows x)
  kept_points front [] v w x l = refl
  kept_points front (r ∷ rows) v w x l =
      let kept = kept_behind a n (front ++ r ∷ []) rows in
      let wide = append-wide n front (r ∷ []) v (w.0, tt) in
      let h = in_piece front x in
      let b = in_piece kept x in
      let moved : (c : Bool) → (in_piece (front ++ r ∷ []) x && c) ≡ (h && (holds_at r x && c)) =
      λ c. ap (λ d. d && c) (in_piece-append front (r ∷ []) x) ∙ and_assoc h (holds_at r x && true) c ∙ ap (λ d. h && (d && c)) (and-true (holds_at r x)) in
      let on : (h && (holds_at r x && b)) ≡ (h && (holds_at r x && in_piece rows x)) = sym (moved b) ∙ kept_points (front ++ r ∷ []) rows wide w.1 x l ∙ moved (in_piece rows x) in
      by_bool (entails a n (front ++ kept) r).value
      (λ e. rw e (first_follows (holds_at r x) (h && b) (λ k. entailed_holds (front ++ kept) r (append-wide n front kept v (kept-wide (front ++ r ∷ []) rows w.1)) w.0 e x l (in_piece-append front kept x ∙ k)) ∙ and_left_comm (holds_at r x) h b ∙ on))
      (λ e. rw e on)

  -- ---- a filter
  -- what holds of rows holds of those that are kept
  kept-all : (P : PlainRow → Type 0) (front rows : PlainPiece) → AllOf P rows → AllOf P (kept_behind a n front rows)
  kept-all P front [] h = tt
  kept-all P front (r ∷ rows) h =
      let kept = kept_behind a n (front ++ r ∷ []) rows in
      by_bool (entails a n (front ++ kept) r).value (λ e. rw e (kept-all P (front ++ r ∷ []) rows h.1)) (λ e. rw e (h.0, kept-all P (front ++ r ∷ []) rows h.1))

  -- some of the rows hold where all do
  fewer_hold : (keeps : PlainRow → Bool) (rows : PlainPiece) (x : PlainPoint) → in_piece rows x ≡ true → in_piece (filter keeps rows) x ≡ true
  fewer_hold keeps [] x i = refl
  fewer_hold keeps (r ∷ rows) x i =
      let q = and_parts (holds_at r x) (in_piece rows x) i in
      by_bool (keeps r) (λ e. rw (e, q.0, fewer_hold keeps rows x q.1) refl) (λ e. rw e (fewer_hold keeps rows x q.1))

  module _ (rows : PlainPiece) (keeps : PlainRow → Bool) (enough : AreEnough n rows keeps) where
    -- whether a touched row is entailed does not hang on earlier rows that do not pass
    same_entailed : (front kept : PlainPiece) (r : PlainRow) → AllWide n front → AllWide n kept → length r.coefs ≡ n → (t : IsTouched n rows keeps r)
        → AllOf (IsTouchedBy keeps t.point) front → AllOf (IsTouchedBy keeps t.point) kept → Holds (relaxed r) t.point
        → (entails a n (front ++ kept) r).value ≡ (entails a n (filter keeps front ++ kept) r).value
    same_entailed front kept r v w e t p q weak =
        let fewer = filter keeps front in
        let wide = append-wide n front kept v w in
        let vf = append-wide n fewer kept (filter-wide n keeps front v) w in
        by_bool (entails a n (front ++ kept) r).value
        (λ k. k ∙ sym (holds_entailed (fewer ++ kept) r vf e (λ x l i. by_bool (holds_at r x) (λ f. f) (λ f. absurd (outside k x l i f)))))
        (λ k. by_bool (entails a n (fewer ++ kept) r).value
        (λ m. let all = holds_entailed (front ++ kept) r wide e (λ x l i. entailed_holds (fewer ++ kept) r vf e m x l (less x i)) in false_true (sym k ∙ all))
        (λ m. k ∙ sym m))
      where
        less : (x : PlainPoint) → in_piece (front ++ kept) x ≡ true → in_piece (filter keeps front ++ kept) x ≡ true
        less x i =
            let j = and_parts (in_piece front x) (in_piece kept x) (sym (in_piece-append front kept x) ∙ i) in
            in_piece-append (filter keeps front) kept x ∙ rw (fewer_hold keeps front x j.0, j.1) refl

        -- nearer to the point where the row is tight, a point at which it fails is one of all rows
        outside : (entails a n (front ++ kept) r).value ≡ true → (x : PlainPoint) → length x ≡ n → in_piece (filter keeps front ++ kept) x ≡ true → holds_at r x ≡ false → ⊥
        outside k x l i f =
            let c = t.point in
            let lc : length c ≡ length x = t.wide ∙ sym l in
            let j = and_parts (in_piece (filter keeps front) x) (in_piece kept x) (sym (in_piece-append (filter keeps front) kept x) ∙ i) in
            let m = rows_nearer c x lc keeps front p j.0 in
            let z = m.point in
            let lz : length z ≡ n = sym m.nearer.wide ∙ t.wide in
            let all : in_piece (front ++ kept) z ≡ true = in_piece-append front kept z ∙ rw (m.has, all_nearer c x z keeps kept q m.nearer j.1) refl in
            false_true (sym (m.nearer.fails r weak t.tight f) ∙ entailed_holds (front ++ kept) r (append-wide n front kept v w) e k z lz all)

    -- what is kept is what is kept of the rows that pass the test
    kept-filter : (front later : PlainPiece) → AllWide n front → AllWide n later → front ++ later ≡ rows
        → kept_behind a n front later ≡ kept_behind a n (filter keeps front) (filter keeps later)
    kept-filter front [] v w is = refl
    kept-filter front (r ∷ later) v w is =
        let more = front ++ r ∷ [] in
        let kept = kept_behind a n more later in
        let fewer = filter keeps front in
        let on : kept ≡ kept_behind a n (filter keeps more) (filter keeps later) = kept-filter more later (append-wide n front (r ∷ []) v (w.0, tt)) w.1 (append_assoc front (r ∷ []) later ∙ is) in
        let split : filter keeps more ≡ fewer ++ filter keeps (r ∷ []) = filter-append keeps front (r ∷ []) in
        by_bool (keeps r)
        (λ e.
        let one : filter keeps (r ∷ []) ≡ r ∷ [] = rw e refl in
        let same : kept ≡ kept_behind a n (fewer ++ r ∷ []) (filter keeps later) = on ∙ ap (λ fs. kept_behind a n fs (filter keeps later)) (split ∙ ap (λ ss. fewer ++ ss) one) in
        rw e (ap (λ b. cond b kept (r ∷ kept)) (same_there kept (kept-wide more later w.1) (λ P h. kept-all P more later h) e)
        ∙ ap (λ ks. cond (entails a n (fewer ++ ks) r).value ks (r ∷ ks)) same))
        (λ e.
        let none : filter keeps (r ∷ []) ≡ [] = rw e refl in
        let same : kept ≡ kept_behind a n fewer (filter keeps later) = on ∙ ap (λ fs. kept_behind a n fs (filter keeps later)) (split ∙ ap (λ ss. fewer ++ ss) none ∙ append-nil fewer) in
        let t = holds_entailed (front ++ kept) r (append-wide n front kept v (kept-wide more later w.1)) w.0 (follows kept e same) in
        rw (e, t) same)
      where
        -- what holds of all rows holds of the earlier ones, of the row and of the later ones
        parts : (P : PlainRow → Type 0) → AllOf P rows → AllOf P front × AllOf P (r ∷ later)
        parts P h = all_split P front (r ∷ later) (subst (AllOf P) (sym is) h)

        same_there : (kept : PlainPiece) → AllWide n kept → ((P : PlainRow → Type 0) → AllOf P later → AllOf P kept) → keeps r ≡ true
            → (entails a n (front ++ kept) r).value ≡ (entails a n (filter keeps front ++ kept) r).value
        same_there kept wk some e =
            let t = (parts (λ q. keeps q ≡ true → IsTouched n rows keeps q) enough.touched).1.0 e in
            let p = parts (IsTouchedBy keeps t.point) t.touches in
            same_entailed front kept r v wk w.0 t p.0 (some (IsTouchedBy keeps t.point) p.1.1) p.1.0.weak

        -- a row that does not pass follows from those that do
        follows : (kept : PlainPiece) → keeps r ≡ false → kept ≡ kept_behind a n (filter keeps front) (filter keeps later) → (x : PlainPoint) → length x ≡ n → in_piece (front ++ kept) x ≡ true → holds_at r x ≡ true
        follows kept e same x l i =
            let fewer = filter keeps front in
            let rest = filter keeps later in
            let j = and_parts (in_piece front x) (in_piece kept x) (sym (in_piece-append front kept x) ∙ i) in
            let here : (in_piece fewer x && in_piece (kept_behind a n fewer rest) x) ≡ true = rw (fewer_hold keeps front x j.0, sym (ap (λ ks. in_piece ks x) same) ∙ j.1) refl in
            let both = sym (kept_points fewer rest (filter-wide n keeps front v) (filter-wide n keeps later w.1) x l) ∙ here in
            let out : filter keeps (r ∷ later) ≡ rest = rw e refl in
            let all : filter keeps rows ≡ fewer ++ rest = ap (filter keeps) (sym is) ∙ filter-append keeps front (r ∷ later) ∙ ap (λ rs. fewer ++ rs) out in
            let there = enough.points x l (ap (λ rs. in_piece rs x) all ∙ in_piece-append fewer rest x ∙ both) in
            let k = and_parts (in_piece front x) (in_piece (r ∷ later) x) (sym (in_piece-append front (r ∷ later) x) ∙ ap (λ rs. in_piece rs x) is ∙ there) in
            (and_parts (holds_at r x) (in_piece later x) k.1).0

    -- so thin leaves the same of all rows and of those that pass the test
    pub thin-filter : AllWide n rows → (thin a n (length rows) rows).value ≡ (thin a n (length (filter keeps rows)) (filter keeps rows)).value
    thin-filter w = thin-kept a n rows ∙ kept-filter [] rows tt w refl ∙ sym (thin-kept a n (filter keeps rows))
