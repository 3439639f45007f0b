-- The controller of a draft has exactly the states of the draft.
use Rattle.std.proofs.Common.{◌≡◌, ◌≢◌, ◌<◌, ◌↔◌, inl, inr, ℕ, zero, suc, List, [], ◌∷◌, ◌++◌, length, get_or, set, replicate, refl, sym, ap, ◌∙◌, subst, Bool, true, false, ◌==◌, ◌&&◌, ◌||◌, Option, Some, None, eqb-true}
use Rattle.std.specs.Prelude.{slice_get, IsSomeAnd}
use Rattle.std.proofs.lemmas.Bool.{and_parts}
use Rattle.std.proofs.lemmas.List.{get_or-set_same, get_or-set_other, length-set}
use Rattle.lhg_math.specs.Tests.{AllOf, by_bool, any_of}
use Rattle.lhg_num.specs.FracArithmetic.{frac_arithmetic, frac_is_lawful}
use Rattle.lhg_row.specs.EliminateLaws.{in_piece-append}
use Rattle.lhg_row.specs.MakeLaws.{make-exact}
use Rattle.lhg_row.specs.Members.{SomeOf}
use Rattle.lhg_row.specs.MinusLaws.{in_some-append, in_option, in_option-made}
use Rattle.lhg_row.specs.Piece.{PlainPiece, InPiece, in_piece, InSome, in_some}
use Rattle.lhg_row.specs.PieceFacts.{IsMade}
use Rattle.lhg_row.specs.PieceLemmas.{in_piece_is, in_some_is}
use Rattle.lhg_row.specs.Pieces.{make}
use Rattle.lhg_row.specs.Row.{PlainPoint}
use Rattle.lhg_row.specs.Width.{AllWide}
use Rattle.lhg_row.specs.WidthLaws.{append-wide}
use Rattle.lhg_num.specs.Marked.{walk}
use Rattle.lhg_plant.specs.Plant.{PlainLocation, PlainSwitch, PlainPlant}
use Rattle.lhg_plant.specs.Proper.{IsLocation, IsProper}
use Rattle.lhg_read.proofs.Collecting.{same_eq}
use Rattle.lhg_ctl.specs.DraftStates.{HoldsAt, IsPlaced}
use Rattle.lhg_ctl.specs.Making.{made_within, made_in, put, inv_in, inv_at, source_in, line_made, all_made}

-- ---- one line

or_false : (b : Bool) → b ≡ (b || false)
or_false true = refl
or_false false = refl

and_none : (b : Bool) → (b && false) ≡ false
and_none true = refl
and_none false = refl

-- what is put at the end of a list is in that list
put-in : (lists : List (List PlainPiece)) (k j : ℕ) (o : Option PlainPiece) (x : PlainPoint) → k < length lists → in_some (get_or (put lists k o).value j []) x ≡ (in_some (get_or lists j []) x || ((k == j) && in_option o x))
put-in lists k j None x h = or_false (in_some (get_or lists j []) x) ∙ ap (λ b. in_some (get_or lists j []) x || b) (sym (and_none (k == j)))
put-in lists k j (Some p) x h =
    let ps = get_or lists k [] ++ p ∷ [] in
    by_bool (k == j)
    (λ e. let same : k ≡ j = eqb-true k j e in
    ap (λ qs. in_some qs x) (ap (λ (i : ℕ). get_or (set lists k ps) i []) (sym same) ∙ get_or-set_same lists k ps [] h)
    ∙ in_some-append (get_or lists k []) (p ∷ []) x
    ∙ ap (λ (i : ℕ). in_some (get_or lists i []) x || in_some (p ∷ []) x) same
    ∙ ap (λ b. in_some (get_or lists j []) x || b) (sym (or_false (in_piece p x)) ∙ ap (λ b. b && in_piece p x) (sym e)))
    (λ e. let apart : j ≢ k = λ f. differ (ap (λ (i : ℕ). i == j) f ∙ e) in
    ap (λ qs. in_some qs x) (get_or-set_other lists k j ps [] apart) ∙ or_false (in_some (get_or lists j []) x) ∙ ap (λ b. in_some (get_or lists j []) x || b) (ap (λ b. b && in_piece p x) (sym e)))
  where
    differ : (j == j) ≡ false → ⊥
    differ f = absurd (no (sym (same_eq j) ∙ f))
      where
        no : true ≡ false → ⊥
        no h = absurd cc

pub put-length : (lists : List (List PlainPiece)) (k : ℕ) (o : Option PlainPiece) → length (put lists k o).value ≡ length lists
put-length lists k None = refl
put-length lists k (Some p) = length-set lists k (get_or lists k [] ++ p ∷ [])

-- what is made has the points of the invariant's rows and of the line's rows
pub made_in-exact : (n : ℕ) (inv rows : PlainPiece) → AllWide n inv → AllWide n rows → IsMade frac_arithmetic n (inv ++ rows) (made_in n inv rows).value
made_in-exact n inv rows v w = by_inv (make frac_arithmetic n inv).value (make-exact frac_arithmetic n inv frac_is_lawful v)
  where
    by_inv : (o : Option PlainPiece) → IsMade frac_arithmetic n inv o → IsMade frac_arithmetic n (inv ++ rows) (made_within n inv rows o).value
    by_inv None h = λ x fits k. h x fits ((in_piece_is inv x).1 (and_parts (in_piece inv x) (in_piece rows x) (sym (in_piece-append inv rows x) ∙ (in_piece_is (inv ++ rows) x).0 k)).0)
    by_inv (Some piece) h = make-exact frac_arithmetic n (inv ++ rows) frac_is_lawful (append-wide n inv rows v w)

-- ---- all lines

pub inv_wide : (n : ℕ) (locs : List PlainLocation) (l : ℕ) → AllOf (IsLocation n) locs → AllWide n (inv_in (slice_get locs l))
inv_wide n [] l h = tt
inv_wide n (x ∷ locs) zero h = h.0.inv.wide
inv_wide n (x ∷ locs) (suc l) h = inv_wide n locs l h.1

-- the line has the point in the list at the place
abbrev has_by : PlainPlant → (ℕ → ℕ) → ℕ → PlainPoint → ℕ × PlainPiece → Bool
has_by a loc j x p = (p.0 == j) && (in_piece (inv_at a (loc p.0)) x && in_piece p.1 x)

module _ (a : PlainPlant) (proper : IsProper a) (loc : ℕ → ℕ) (j : ℕ) (x : PlainPoint) (fits : length x ≡ length a.vars) where
  line-in : (lists : List (List PlainPiece)) (p : ℕ × PlainPiece) → IsPlaced (length a.vars) (length lists) p → in_some (get_or (line_made a loc lists p).value j []) x ≡ (in_some (get_or lists j []) x || has_by a loc j x p)
  line-in lists p h =
      let n = length a.vars in
      let rows = inv_at a (loc p.0) ++ p.1 in
      let o = (made_in n (inv_at a (loc p.0)) p.1).value in
      put-in lists p.0 j o x h.place
      ∙ ap (λ b. in_some (get_or lists j []) x || ((p.0 == j) && b))
      (in_option-made frac_arithmetic n rows o x fits (made_in-exact n (inv_at a (loc p.0)) p.1 (inv_wide n a.locs (loc p.0) proper.locs) h.wide) ∙ in_piece-append (inv_at a (loc p.0)) p.1 x)

  line-placed : (count : ℕ) (lists : List (List PlainPiece)) (p : ℕ × PlainPiece) → count ≡ length lists → count ≡ length (line_made a loc lists p).value
  line-placed count lists p e = e ∙ sym (put-length lists p.0 (made_in (length a.vars) (inv_at a (loc p.0)) p.1).value)

  all-in : (count : ℕ) (lists : List (List PlainPiece)) (ps : List (ℕ × PlainPiece)) → count ≡ length lists → AllOf (IsPlaced (length a.vars) count) ps
      → in_some (get_or (walk (line_made a loc) lists ps).value j []) x ≡ (in_some (get_or lists j []) x || any_of (has_by a loc j x) ps)
  all-in count lists [] e h = or_false (in_some (get_or lists j []) x)
  all-in count lists (p ∷ ps) e h =
      all-in count (line_made a loc lists p).value ps (line-placed count lists p e) h.1
      ∙ ap (λ b. b || any_of (has_by a loc j x) ps) (line-in lists p (subst (λ (k : ℕ). IsPlaced (length a.vars) k p) e h.0))
      ∙ or_assoc (in_some (get_or lists j []) x) (has_by a loc j x p) (any_of (has_by a loc j x) ps)
    where
      or_assoc : (b c d : Bool) → ((b || c) || d) ≡ (b || (c || d))
      or_assoc true c d = refl
      or_assoc false c d = refl

  -- ---- some line

  module _ (inside : in_piece (inv_at a (loc j)) x ≡ true) where
    some_line : (ps : List (ℕ × PlainPiece)) → any_of (has_by a loc j x) ps ≡ true → SomeOf (HoldsAt j x) ps
    some_line [] h = absurd cc
    some_line (p ∷ ps) h =
        by_bool (has_by a loc j x p)
        (λ e. let f = and_parts (p.0 == j) (in_piece (inv_at a (loc p.0)) x && in_piece p.1 x) e in
        let g = and_parts (in_piece (inv_at a (loc p.0)) x) (in_piece p.1 x) f.1 in
        inl (eqb-true p.0 j f.0, (in_piece_is p.1 x).1 g.1))
        (λ e. inr (some_line ps (sym (ap (λ b. b || any_of (has_by a loc j x) ps) e) ∙ h)))

    line_some : (ps : List (ℕ × PlainPiece)) → SomeOf (HoldsAt j x) ps → any_of (has_by a loc j x) ps ≡ true
    line_some [] h = absurd h
    line_some (p ∷ ps) (inl h) =
        let at : (p.0 == j) ≡ true = ap (λ (i : ℕ). i == j) h.0 ∙ same_eq j in
        let inv : in_piece (inv_at a (loc p.0)) x ≡ true = ap (λ (i : ℕ). in_piece (inv_at a (loc i)) x) h.0 ∙ inside in
        let rows = (in_piece_is p.1 x).0 h.1 in
        rw (at, inv, rows) refl
    line_some (p ∷ ps) (inr h) = ap (λ b. has_by a loc j x p || b) (line_some ps h) ∙ or_true (has_by a loc j x p)
      where
        or_true : (b : Bool) → (b || true) ≡ true
        or_true true = refl
        or_true false = refl

    -- in the list exactly where some line has the point
    pub made-in : (count : ℕ) (ps : List (ℕ × PlainPiece)) → AllOf (IsPlaced (length a.vars) count) ps → InSome (get_or (all_made a loc count ps).value j []) x ↔ SomeOf (HoldsAt j x) ps
    made-in count ps h =
        let i = in_some_is (get_or (all_made a loc count ps).value j []) x in
        let e = all-in count (replicate count []) ps (size count) h ∙ ap (λ b. b || any_of (has_by a loc j x) ps) (none count j) in
        ((λ s. some_line ps (sym e ∙ i.0 s)), (λ s. i.1 (e ∙ line_some ps s)))
      where
        size : (n : ℕ) → n ≡ length (replicate n (let e : List PlainPiece = [] in e))
        size zero = refl
        size (suc n) = ap (λ (k : ℕ). suc k) (size n)

        none : (n k : ℕ) → in_some (get_or (replicate n (let e : List PlainPiece = [] in e)) k []) x ≡ false
        none zero k = refl
        none (suc n) zero = refl
        none (suc n) (suc k) = none n k

-- ---- states

pub inv_holds : (o : Option PlainLocation) (x : PlainPoint) → IsSomeAnd o (λ l. InPiece l.inv x) → in_piece (inv_in o) x ≡ true
inv_holds None x h = absurd h
inv_holds (Some l) x h = (in_piece_is l.inv x).0 h

pub source_is : (o : Option PlainSwitch) (l : ℕ) → IsSomeAnd o (λ w. w.from ≡ l) → source_in o ≡ l
source_is None l h = absurd h
source_is (Some w) l h = h
