-- Lists of pieces are found again among their pieces with their places.
use Rattle.std.proofs.Common.{◌≡◌, ◌<◌, ℕ, suc, List, [], ◌∷◌, ◌++◌, length, refl, sym, ap, ◌∙◌, false, ◌==◌, if◌then◌else◌, arith, ne_eqb, append-nil}
use Rattle.lhg_row.specs.Piece.{PlainPiece}
use Rattle.lhg_ctl.specs.Draft.{all_at, placed_from}
use Rattle.lhg_read.proofs.Collecting.{same_eq}

-- the pieces at a place
abbrev pub at_place : ℕ → List (ℕ × PlainPiece) → List PlainPiece
at_place k [] = []
at_place k (p ∷ ps) = if p.0 == k then p.1 ∷ at_place k ps else at_place k ps

-- those of the list at the place stand first
at-same : (k : ℕ) (ps : List PlainPiece) (more : List (ℕ × PlainPiece)) → at_place k (all_at k ps ++ more) ≡ ps ++ at_place k more
at-same k [] more = refl
at-same k (p ∷ ps) more = let e = same_eq k in rw e (ap (λ qs. p ∷ qs) (at-same k ps more))

-- those of another list do not count
at-other : (k n : ℕ) (ps : List PlainPiece) (more : List (ℕ × PlainPiece)) → k < n → at_place k (all_at n ps ++ more) ≡ at_place k more
at-other k n [] more h = refl
at-other k n (p ∷ ps) more h = let e : (n == k) ≡ false = ne_eqb n k (λ e. omega arith) in rw e (at-other k n ps more h)

at-later : (k n : ℕ) (lists : List (List PlainPiece)) → k < n → at_place k (placed_from n lists) ≡ []
at-later k n [] h = refl
at-later k n (ps ∷ lists) h = at-other k n ps (placed_from (suc n) lists) h ∙ at-later k (suc n) lists (omega arith)

-- the first list is the pieces at its place
first_list : (k : ℕ) (ps : List PlainPiece) (lists : List (List PlainPiece)) → at_place k (placed_from k (ps ∷ lists)) ≡ ps
first_list k ps lists = at-same k ps (placed_from (suc k) lists) ∙ ap (λ qs. ps ++ qs) (at-later k (suc k) lists (omega arith)) ∙ append-nil ps

-- what stands behind equal lists is equal
behind : {A : Type 0} (xs : List A) {ys zs : List A} → xs ++ ys ≡ xs ++ zs → ys ≡ zs
behind [] h = h
behind (x ∷ xs) h = behind xs cc

-- as many lists with the same pieces at the same places are the same lists
pub same_lists : (k : ℕ) (xs ys : List (List PlainPiece)) → length xs ≡ length ys → placed_from k xs ≡ placed_from k ys → xs ≡ ys
same_lists k [] [] n h = refl
same_lists k [] (y ∷ ys) n h = absurd (omega arith)
same_lists k (x ∷ xs) [] n h = absurd (omega arith)
same_lists k (x ∷ xs) (y ∷ ys) n h =
    let first : x ≡ y = sym (first_list k x xs) ∙ ap (at_place k) h ∙ first_list k y ys in
    let rest : placed_from (suc k) xs ≡ placed_from (suc k) ys = behind (all_at k x) (h ∙ ap (λ z. all_at k z ++ placed_from (suc k) ys) (sym first)) in
    ap (λ z. z ∷ xs) first ∙ ap (λ zs. y ∷ zs) (same_lists (suc k) xs ys (omega arith) rest)
