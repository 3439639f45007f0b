-- Why is a list that trim made its own trim, and so is that list without one of its rows?
use Rattle.std.specs.Prelude.{◌≡◌, ℕ, zero, suc, ◌<◌, Bool, true, false, not, ◌||◌, List, [], ◌∷◌, ◌++◌, map, length, filter, remove}
use Rattle.std.proofs.Common.{refl, sym, ap, ◌∙◌, arith, subst, inl, inr}
use Rattle.std.proofs.lemmas.Bool.{not-true}
use Rattle.std.proofs.lemmas.List.{map-append, append-nil, append_assoc}
use Rattle.std.specs.declared.cmp.Ordering.{Ordering}
use Rattle.std.specs.declared.cmp.Ordering.TheVariants.{Less, Equal, Greater}
use Rattle.lhg_math.specs.Number.{Number, mul, lt, nought}
use Rattle.lhg_math.specs.NumberRing.{mul_comm, mul_assoc}
use Rattle.lhg_math.specs.NumberOrder.{mul_cancel}
use Rattle.lhg_math.specs.Signs.{is_nought, lead, size_of}
use Rattle.lhg_math.specs.SignLaws.{same_number-self, size_above, is_nought-scaled, lead-scaled}
use Rattle.lhg_math.specs.Tests.{AllOf, Every, any_of, by_bool, false_true}
use Rattle.lhg_num.specs.Arithmetic.{Arithmetic, IsLawful, scaled, scaled-scaled, scaled_multiple}
use Rattle.lhg_num.specs.Marked.{each}
use Rattle.lhg_row.specs.Row.{PlainRow, row_with}
use Rattle.lhg_row.specs.Piece.{PlainPiece}
use Rattle.lhg_row.specs.Constant.{is_constant, varies, is_true, is_false, never}
use Rattle.lhg_row.specs.ConstantLaws.{never-never, is_never-is, filter-varies}
use Rattle.lhg_row.specs.ValueLaws.{scaled_row}
use Rattle.lhg_row.specs.Members.{all_split, all-filter, all-remove}
use Rattle.lhg_row.specs.Width.{IsTidy}
use Rattle.lhg_row.specs.Trim.{entries_of, row_of, canon, lead_size, agree, same_direction, bound_order, tighter, placed, gathered, settled, trim, IsScaled, IsAway, AreApart, IsTrimmed, IsSettled, IsSettledOrNothing}
use Rattle.lhg_row.specs.TrimLaws.{row_of-end, row_of-canon, agree-same, placed-all, gathered-all, gathered-varies, tighter-all}
use Rattle.lhg_row.specs.NothingLaws.{trim-never}
use Rattle.lhg_row.specs.WidthLaws.{trim-tidy}

-- ---- scaled rows
-- a row that was scaled is
canon-scaled : (a : Arithmetic) (r : PlainRow) → IsLawful a → IsScaled a (canon a r).value
canon-scaled a r laws =
    by_bool (is_constant r)
    (λ e. let s : (canon a r).value ≡ r = rw e refl in ap (λ q. (canon a q).value) s)
    (λ e.
    let m = scaled_multiple a (entries_of r) laws in
    let k = m.factor in
    let q = scaled_row k r in
    let is : (canon a r).value ≡ q = rw e (row_of-canon a r laws) in
    let some : is_constant q ≡ false = ap is_nought (lead-scaled k r.coefs m.positive) ∙ is_nought-scaled k (lead r.coefs) m.positive ∙ e in
    let entries : entries_of q ≡ scaled a (entries_of r) = sym (map-append (λ x. mul k x) r.coefs (r.bound ∷ [])) ∙ sym m.entries in
    let again : scaled a (entries_of q) ≡ entries_of q = ap (scaled a) entries ∙ scaled-scaled a (entries_of r) laws ∙ sym entries in
    let back : (canon a q).value ≡ q = rw some (ap (row_of q.strict) again ∙ row_of-end q.strict q.coefs q.bound) in
    ap (λ p. (canon a p).value) is ∙ back ∙ sym is)

canons-scaled : (a : Arithmetic) (rows : PlainPiece) → IsLawful a → AllOf (IsScaled a) (each (canon a) rows).value
canons-scaled a [] laws = tt
canons-scaled a (r ∷ rows) laws = (canon-scaled a r laws, canons-scaled a rows laws)

-- scaled rows stay as they are
scaled-canons : (a : Arithmetic) (rows : PlainPiece) → AllOf (IsScaled a) rows → (each (canon a) rows).value ≡ rows
scaled-canons a [] h = refl
scaled-canons a (r ∷ rows) h = ap (λ q. q ∷ (each (canon a) rows).value) h.0 ∙ ap (λ rs. r ∷ rs) (scaled-canons a rows h.1)

-- a row is scaled whatever its kind
canon-kind : (a : Arithmetic) (r : PlainRow) (t : Bool) → (canon a (row_with r.coefs t r.bound)).value ≡ row_with (canon a r).value.coefs t (canon a r).value.bound
canon-kind a r t = by_bool (is_constant r) (λ e. rw e refl) (λ e. rw e refl)

-- the tighter of two scaled rows is scaled
tighter-scaled : (a : Arithmetic) (o : Ordering) (s r : PlainRow) → IsScaled a s → IsScaled a r → IsScaled a (tighter o s r)
tighter-scaled a Less s r h k = k
tighter-scaled a Equal s r h k = canon-kind a s (s.strict || r.strict) ∙ ap (λ q. row_with q.coefs (s.strict || r.strict) q.bound) h
tighter-scaled a Greater s r h k = h

-- ---- directions
-- where the products are the same, the test passes
pub same-agree : (a : Arithmetic) (f g : Number) (cs ds : List Number) → map (λ x. mul f x) cs ≡ map (λ x. mul g x) ds → (agree a (λ y. y) f g cs ds).value ≡ true
same-agree a f g [] [] e = refl
same-agree a f g [] (d ∷ ds) e = cc
same-agree a f g (c ∷ cs) [] e = cc
same-agree a f g (c ∷ cs) (d ∷ ds) e =
    let here : mul f c ≡ mul g d = cc in
    let later : map (λ x. mul f x) cs ≡ map (λ x. mul g x) ds = cc in
    rw (here, same_number-self (mul g d), same-agree a f g cs ds later) refl

-- a factor in the middle falls away
through : (x y z : Number) (ts rs ss : List Number) → lt nought y ≡ true → map (λ c. mul y c) ts ≡ map (λ c. mul x c) rs → map (λ c. mul z c) rs ≡ map (λ c. mul y c) ss
    → map (λ c. mul z c) ts ≡ map (λ c. mul x c) ss
through x y z [] [] [] h e f = refl
through x y z [] [] (s ∷ ss) h e f = cc
through x y z [] (r ∷ rs) ss h e f = cc
through x y z (t ∷ ts) [] ss h e f = cc
through x y z (t ∷ ts) (r ∷ rs) [] h e f = cc
through x y z (t ∷ ts) (r ∷ rs) (s ∷ ss) h e f =
    let e0 : mul y t ≡ mul x r = cc in
    let f0 : mul z r ≡ mul y s = cc in
    let e1 : map (λ c. mul y c) ts ≡ map (λ c. mul x c) rs = cc in
    let f1 : map (λ c. mul z c) rs ≡ map (λ c. mul y c) ss = cc in
    let swap = λ (p q w : Number). sym (mul_assoc p q w) ∙ ap (λ v. mul v w) (mul_comm p q) ∙ mul_assoc q p w in
    let here : mul z t ≡ mul x s = mul_cancel y (mul z t) (mul x s) h
    (swap y z t ∙ ap (λ w. mul z w) e0 ∙ swap z x r ∙ ap (λ w. mul x w) f0 ∙ swap x y s) in
    ap (λ w. w ∷ map (λ c. mul z c) ts) here ∙ ap (λ ws. mul x s ∷ ws) (through x y z ts rs ss h e1 f1)

module _ (a : Arithmetic) where
  -- directions that are those of one row are the same
  pub same-through : (t r s : PlainRow) → is_constant r ≡ false → (same_direction a t r).value ≡ true → (same_direction a r s).value ≡ true → (same_direction a t s).value ≡ true
  same-through t r s v h k =
      same-agree a (lead_size s) (lead_size t) t.coefs s.coefs
      (through (lead_size t) (lead_size r) (lead_size s) t.coefs r.coefs s.coefs (size_above (lead r.coefs) v) (agree-same a (λ y. y) (lead_size r) (lead_size t) t.coefs r.coefs h)
      (agree-same a (λ y. y) (lead_size s) (lead_size r) r.coefs s.coefs k))

  -- what is away from a row is away from another of its direction
  away-same : (r s : PlainRow) (ts : PlainPiece) → is_constant r ≡ false → (same_direction a r s).value ≡ true → IsAway a s ts → IsAway a r ts
  away-same r s [] v e h = tt
  away-same r s (t ∷ ts) v e h =
      let here : not (same_direction a t r).value ≡ true =
      by_bool (same_direction a t r).value (λ f. let z : false ≡ true = rw (same-through t r s v f e) at h.0 in false_true z) (λ f. rw f refl) in
      (here, away-same r s ts v e h.1)

  -- and from the tighter of the two
  away-tighter : (o : Ordering) (r s : PlainRow) (ts : PlainPiece) → is_constant r ≡ false → (same_direction a r s).value ≡ true → IsAway a s ts → IsAway a (tighter o s r) ts
  away-tighter Less r s ts v e h = away-same r s ts v e h
  away-tighter Equal r s ts v e h = h
  away-tighter Greater r s ts v e h = h

  -- a row that is put among rows of different directions leaves them different
  placed-apart : (r : PlainRow) (ss : PlainPiece) → is_constant r ≡ false → AreApart a ss → AreApart a (placed a r ss).value
  placed-apart r [] v h = (tt, tt)
  placed-apart r (s ∷ ss) v h =
      by_bool (same_direction a r s).value
      (λ e. rw e (away-tighter (bound_order a r s).value r s ss v e h.0, h.1))
      (λ e. rw e (placed-all a (λ t. not (same_direction a t s).value ≡ true) (tighter-all (λ cs. not (agree a (λ y. y) (lead_size s) (size_of (lead cs)) cs s.coefs).value ≡ true)) r ss (rw e refl) h.0, placed-apart r ss v h.1))

  -- so gathered rows are of different directions
  gathered-apart : (ks rows : PlainPiece) → Every varies rows → AreApart a ks → AreApart a (gathered a ks rows).value
  gathered-apart ks [] v h = h
  gathered-apart ks (r ∷ rows) v h = gathered-apart (placed a r ks).value rows v.1 (placed-apart r ks (not-true _ v.0) h)

  -- a row of another direction goes to the end
  placed-new : (r : PlainRow) (ss : PlainPiece) → Every (λ s. not (same_direction a r s).value) ss → (placed a r ss).value ≡ ss ++ r ∷ []
  placed-new r [] h = refl
  placed-new r (s ∷ ss) h = rw (not-true _ h.0) (ap (λ ts. s ∷ ts) (placed-new r ss h.1))

  -- each row is away from those before it
  before : (ks : PlainPiece) (r : PlainRow) (rows : PlainPiece) → AreApart a (ks ++ r ∷ rows) → Every (λ s. not (same_direction a r s).value) ks
  before [] r rows h = tt
  before (k ∷ ks) r rows h = ((all_split (λ t. not (same_direction a t k).value ≡ true) ks (r ∷ rows) h.0).1.0, before ks r rows h.1)

  -- rows of different directions are gathered as they are
  apart-gathered : (ks rows : PlainPiece) → AreApart a (ks ++ rows) → (gathered a ks rows).value ≡ ks ++ rows
  apart-gathered ks [] h = sym (append-nil ks)
  apart-gathered ks (r ∷ rows) h =
      let q : (ks ++ r ∷ []) ++ rows ≡ ks ++ r ∷ rows = append_assoc ks (r ∷ []) rows in
      ap (λ ls. (gathered a ls rows).value) (placed-new r ks (before ks r rows h)) ∙ apart-gathered (ks ++ r ∷ []) rows (subst (AreApart a) (sym q) h) ∙ q

  apart-remove : (rows : PlainPiece) (i : ℕ) → i < length rows → AreApart a rows → AreApart a (remove rows i)
  apart-remove [] i l h = absurd (omega arith)
  apart-remove (r ∷ rows) zero l h = h.1
  apart-remove (r ∷ rows) (suc i) l h = ((all-remove (λ t. not (same_direction a t r).value ≡ true) rows i (never 0) (omega arith) h.0).1, apart-remove rows i (omega arith) h.1)

-- ---- trim
none_false : (rows : PlainPiece) → Every varies rows → any_of is_false rows ≡ false
none_false [] v = refl
none_false (r ∷ rows) v = rw (not-true _ v.0, none_false rows v.1) refl

all_stay : (rows : PlainPiece) → Every varies rows → filter (λ s. not (is_true s)) rows ≡ rows
all_stay [] v = refl
all_stay (r ∷ rows) v = rw (not-true _ v.0) (ap (λ rs. r ∷ rs) (all_stay rows v.1))

-- settled rows are settled as they are
settled-settled : (a : Arithmetic) (rows : PlainPiece) → IsSettled a rows → (settled a rows).value ≡ rows
settled-settled a [] h = refl
settled-settled a (r ∷ rows) h =
    rw (none_false (r ∷ rows) h.vary) (ap (λ rs. (gathered a [] rs).value) (all_stay (r ∷ rows) h.vary) ∙ apart-gathered a [] (r ∷ rows) h.apart)

-- what trim keeps it gives back
kept-trimmed : (a : Arithmetic) (rows : PlainPiece) → IsSettledOrNothing a rows → IsTrimmed a rows
unfolding trim
kept-trimmed a [] (inl f) = false_true f
kept-trimmed a (r ∷ []) (inl f) =
    let is : r ∷ [] ≡ never (length r.coefs) ∷ [] = ap (λ q. q ∷ []) (is_never-is r f) in
    ap (λ rs. (trim a rs).value) is ∙ ap (λ m. m.value) (trim-never a (length r.coefs)) ∙ sym is
kept-trimmed a (r ∷ s ∷ rows) (inl f) = false_true f
kept-trimmed a rows (inr h) = ap (λ rs. (settled a rs).value) (scaled-canons a rows h.scaled) ∙ settled-settled a rows h

settled-kept : (a : Arithmetic) (rows : PlainPiece) → AllOf (IsScaled a) rows → IsSettledOrNothing a (settled a rows).value
settled-kept a [] h = inr (record { vary = tt; scaled = tt; apart = tt })
settled-kept a (r ∷ rows) h =
    let rest = filter (λ s. not (is_true s)) (r ∷ rows) in
    by_bool (any_of is_false (r ∷ rows))
    (λ e. rw e (inl (never-never (length r.coefs))))
    (λ e.
    let v = filter-varies (r ∷ rows) e in
    rw e (inr (record {
      vary = gathered-varies a [] rest tt v;
      scaled = gathered-all a (IsScaled a) (tighter-scaled a) [] rest tt (all-filter (IsScaled a) (λ s. not (is_true s)) (r ∷ rows) h);
      apart = gathered-apart a [] rest v tt;
    })))

trim-kept : (a : Arithmetic) (rows : PlainPiece) → IsLawful a → IsSettledOrNothing a (trim a rows).value
unfolding trim
trim-kept a rows laws = settled-kept a (each (canon a) rows).value (canons-scaled a rows laws)

-- a list that trim made is its own trim
pub trim-trimmed : (a : Arithmetic) (rows : PlainPiece) → IsLawful a → IsTrimmed a (trim a rows).value
trim-trimmed a rows laws = kept-trimmed a (trim a rows).value (trim-kept a rows laws)

-- a trimmed list is 0 < 0 alone, or settled
pub trimmed-settled : (a : Arithmetic) (rows : PlainPiece) → IsLawful a → IsTrimmed a rows → IsSettledOrNothing a rows
trimmed-settled a rows laws h = subst (IsSettledOrNothing a) h (trim-kept a rows laws)

-- so a trimmed list is tidy
pub trimmed-tidy : (a : Arithmetic) (rows : PlainPiece) → IsTrimmed a rows → IsTidy rows
trimmed-tidy a rows h = subst IsTidy h (trim-tidy a rows)

remove-kept : (a : Arithmetic) (rows : PlainPiece) (i : ℕ) → i < length rows → IsSettledOrNothing a rows → IsSettledOrNothing a (remove rows i)
remove-kept a [] i l h = absurd (omega arith)
remove-kept a (r ∷ []) zero l (inl f) = inr (record { vary = tt; scaled = tt; apart = tt })
remove-kept a (r ∷ []) (suc i) l (inl f) = absurd (omega arith)
remove-kept a (r ∷ s ∷ rows) i l (inl f) = false_true f
remove-kept a rows i l (inr h) = inr (record {
  vary = (all-remove (λ r. varies r ≡ true) rows i (never 0) l h.vary).1;
  scaled = (all-remove (IsScaled a) rows i (never 0) l h.scaled).1;
  apart = apart-remove a rows i l h.apart;
})

-- a trimmed list stays trimmed without a row
pub remove-trimmed : (a : Arithmetic) (rows : PlainPiece) (i : ℕ) → IsLawful a → i < length rows → IsTrimmed a rows → IsTrimmed a (remove rows i)
remove-trimmed a rows i laws l h = kept-trimmed a (remove rows i) (remove-kept a rows i l (trimmed-settled a rows laws h))
