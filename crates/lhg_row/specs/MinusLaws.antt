-- Why has minus exactly the points of some piece of the first list and of none of the second?
use Rattle.std.specs.Prelude.{◌≡◌, ℕ, Bool, true, false, not, ◌||◌, ◌&&◌, List, [], ◌∷◌, ◌++◌, length, Option, Some, None}
use Rattle.std.proofs.Common.{refl, sym, ap, ◌∙◌}
use Rattle.std.proofs.Math.Bool.{and-true, and-false, or-false, or_assoc, and-or_distrib_right}
use Rattle.lhg_math.specs.Tests.{by_bool, every_from_all}
use Rattle.lhg_num.specs.Arithmetic.{Arithmetic, IsLawful}
use Rattle.lhg_num.specs.Marked.{walk}
use Rattle.lhg_row.specs.Row.{PlainPoint, holds_at}
use Rattle.lhg_row.specs.Piece.{PlainPiece, in_piece, in_some}
use Rattle.lhg_row.specs.Moves.{negated}
use Rattle.lhg_row.specs.Width.{AllWide}
use Rattle.lhg_row.specs.Eliminate.{each_joined}
use Rattle.lhg_row.specs.Pieces.{make, meet}
use Rattle.lhg_row.specs.Lists.{listed, cut_off, apart_or_cut, minus_piece, minus_one, minus}
use Rattle.lhg_row.specs.PieceFacts.{AllOver, IsMade, IsMeet, IsDifference}
use Rattle.lhg_row.specs.EntailLaws.{in_piece-more, in_piece-negated, more-wide, negated-wide}
use Rattle.lhg_row.specs.MakeLaws.{make-exact}
use Rattle.lhg_row.specs.MeetLaws.{meet-exact}
use Rattle.lhg_row.specs.Members.{all-append}

-- two lists of pieces together hold what either does
pub in_some-append : (ps qs : List PlainPiece) (x : PlainPoint) → in_some (ps ++ qs) x ≡ (in_some ps x || in_some qs x)
in_some-append [] qs x = refl
in_some-append (p ∷ ps) qs x = ap (λ b. in_piece p x || b) (in_some-append ps qs x) ∙ sym (or_assoc (in_piece p x) (in_some ps x) (in_some qs x))

-- whether the point is in the piece that is there
abbrev pub in_option : Option PlainPiece → PlainPoint → Bool
in_option None x = false
in_option (Some p) x = in_piece p x

-- a piece before a list holds what either does
pub in_some-listed : (o : Option PlainPiece) (ps : List PlainPiece) (x : PlainPoint) → in_some (listed o ps) x ≡ (in_option o x || in_some ps x)
in_some-listed None ps x = refl
in_some-listed (Some p) ps x = refl

not_in : (p : PlainPiece) (x : PlainPoint) → (in_piece p x ≡ true → ⊥) → in_piece p x ≡ false
not_in p x f = by_bool (in_piece p x) (λ e. absurd (f e)) (λ e. e)

-- what is made of rows holds what the rows do
pub in_option-made : (a : Arithmetic) (n : ℕ) (rows : PlainPiece) (o : Option PlainPiece) (x : PlainPoint) → length x ≡ n → IsMade a n rows o → in_option o x ≡ in_piece rows x
in_option-made a n rows None x e h = sym (not_in rows x (λ k. h x e (every_from_all (λ r. holds_at r x) rows k)))
in_option-made a n rows (Some p) x e h = h.points x e

-- the piece that is there is over n variables
abbrev OptionWide : ℕ → Option PlainPiece → Type 0
OptionWide n None = Unit {0}
OptionWide n (Some p) = AllWide n p

made-wide : (a : Arithmetic) (n : ℕ) (rows : PlainPiece) (o : Option PlainPiece) → IsMade a n rows o → OptionWide n o
made-wide a n rows None h = tt
made-wide a n rows (Some p) h = h.poly.wide

listed-wide : (n : ℕ) (o : Option PlainPiece) (ps : List PlainPiece) → OptionWide n o → AllOver n ps → AllOver n (listed o ps)
listed-wide n None ps h k = k
listed-wide n (Some p) ps h k = (h, k)

-- ---- minus
cut_split : (p r s : Bool) → ((p && not r) || ((p && r) && not s)) ≡ (p && not (r && s))
cut_split true true s = refl
cut_split true false s = refl
cut_split false r s = refl

shift_not : (b c d : Bool) → ((b && not c) && not d) ≡ (b && not (c || d))
shift_not true true d = refl
shift_not true false d = refl
shift_not false c d = refl

module _ (a : Arithmetic) (n : ℕ) (laws : IsLawful a) where
  -- what is cut off is over the variables of the pieces
  cut_off-wide : (p q : PlainPiece) → AllWide n p → AllWide n q → AllOver n (cut_off a n p q).value
  cut_off-wide p [] v w = tt
  cut_off-wide p (r ∷ q) v w =
      let rows = p ++ negated r ∷ [] in
      let o = (make a n rows).value in
      listed-wide n o (cut_off a n (p ++ r ∷ []) q).value (made-wide a n rows o (make-exact a n rows laws (negated-wide n p r v w.0))) (cut_off-wide (p ++ r ∷ []) q (more-wide n p r v w.0) w.1)

  -- what is cut off has the points of p and not of q
  cut_off-points : (p q : PlainPiece) (x : PlainPoint) → length x ≡ n → AllWide n p → AllWide n q → in_some (cut_off a n p q).value x ≡ (in_piece p x && not (in_piece q x))
  cut_off-points p [] x e v w = sym (and-false (in_piece p x))
  cut_off-points p (r ∷ q) x e v w =
      let rows = p ++ negated r ∷ [] in
      let o = (make a n rows).value in
      let rest = (cut_off a n (p ++ r ∷ []) q).value in
      in_some-listed o rest x
      ∙ ap (λ b. b || in_some rest x) (in_option-made a n rows o x e (make-exact a n rows laws (negated-wide n p r v w.0)) ∙ in_piece-negated p r x)
      ∙ ap (λ b. (in_piece p x && not (holds_at r x)) || b) (cut_off-points (p ++ r ∷ []) q x e (more-wide n p r v w.0) w.1 ∙ ap (λ b. b && not (in_piece q x)) (in_piece-more p r x))
      ∙ cut_split (in_piece p x) (holds_at r x) (in_piece q x)

  apart : (p q : PlainPiece) (x : PlainPoint) → (in_piece p x ≡ true → in_piece q x ≡ true → ⊥) → in_piece p x ≡ (in_piece p x && not (in_piece q x))
  apart p q x f =
      by_bool (in_piece p x)
      (λ e. by_bool (in_piece q x) (λ g. absurd (f e g)) (λ g. rw (e, g) refl))
      (λ e. rw e refl)

  apart_or_cut-points : (p q : PlainPiece) (o : Option PlainPiece) (x : PlainPoint) → length x ≡ n → AllWide n p → AllWide n q → IsMeet a n p q o
      → in_some (apart_or_cut a n p q o).value x ≡ (in_piece p x && not (in_piece q x))
  apart_or_cut-points p q (Some m) x e v w h = cut_off-points p q x e v w
  apart_or_cut-points p q None x e v w h =
      or-false (in_piece p x) ∙ apart p q x (λ i j. h x e (every_from_all (λ r. holds_at r x) p i) (every_from_all (λ r. holds_at r x) q j))

  apart_or_cut-wide : (p q : PlainPiece) (o : Option PlainPiece) → AllWide n p → AllWide n q → AllOver n (apart_or_cut a n p q o).value
  apart_or_cut-wide p q (Some m) v w = cut_off-wide p q v w
  apart_or_cut-wide p q None v w = (v, tt)

  -- one piece by one piece
  pub minus_piece-points : (p q : PlainPiece) (x : PlainPoint) → length x ≡ n → AllWide n p → AllWide n q → in_some (minus_piece a n p q).value x ≡ (in_piece p x && not (in_piece q x))
  minus_piece-points p q x e v w = apart_or_cut-points p q (meet a n p q).value x e v w (meet-exact a n p q laws v w)

  -- a list by one piece
  pub minus_one-points : (ps : List PlainPiece) (q : PlainPiece) (x : PlainPoint) → length x ≡ n → AllOver n ps → AllWide n q
      → in_some (minus_one a n ps q).value x ≡ (in_some ps x && not (in_piece q x))
  minus_one-points [] q x e v w = refl
  minus_one-points (p ∷ ps) q x e v w =
      let rest = (each_joined (λ s. minus_piece a n s q) ps).value in
      in_some-append (minus_piece a n p q).value rest x
      ∙ ap (λ b. b || in_some rest x) (minus_piece-points p q x e v.0 w)
      ∙ ap (λ b. (in_piece p x && not (in_piece q x)) || b) (minus_one-points ps q x e v.1 w)
      ∙ sym (and-or_distrib_right (in_piece p x) (in_some ps x) (not (in_piece q x)))

  -- what is left is over the variables of the pieces
  pub minus_one-wide : (ps : List PlainPiece) (q : PlainPiece) → AllOver n ps → AllWide n q → AllOver n (minus_one a n ps q).value
  minus_one-wide [] q v w = tt
  minus_one-wide (p ∷ ps) q v w =
      all-append (AllWide n) (minus_piece a n p q).value (each_joined (λ s. minus_piece a n s q) ps).value (apart_or_cut-wide p q (meet a n p q).value v.0 w) (minus_one-wide ps q v.1 w)

  walk-points : (ps qs : List PlainPiece) (x : PlainPoint) → length x ≡ n → AllOver n ps → AllOver n qs
      → in_some (walk (minus_one a n) ps qs).value x ≡ (in_some ps x && not (in_some qs x))
  walk-points ps [] x e v w = sym (and-true (in_some ps x))
  walk-points ps (q ∷ qs) x e v w =
      walk-points (minus_one a n ps q).value qs x e (minus_one-wide ps q v w.0) w.1
      ∙ ap (λ b. b && not (in_some qs x)) (minus_one-points ps q x e v w.0)
      ∙ shift_not (in_some ps x) (in_piece q x) (in_some qs x)

-- minus is exact
pub minus-exact : (a : Arithmetic) (n : ℕ) (ps qs : List PlainPiece) → IsLawful a → AllOver n ps → AllOver n qs → IsDifference n ps qs (minus a n ps qs).value
unfolding minus
minus-exact a n ps qs laws v w = λ x e. walk-points a n laws ps qs x e v w
