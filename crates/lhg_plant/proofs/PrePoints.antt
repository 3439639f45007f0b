-- The points from which a jump leads into pieces.
use Rattle.std.proofs.Common.{Bool, true, ◌≡◌, ◌↔◌, ◌+◌, ◌-◌, ◌&&◌, ◌⊎◌, inl, inr, ℕ, List, [], ◌∷◌, ◌++◌, map, length, Option, Some, None, refl, sym, ap, ◌∙◌, subst, arith, append-nil}
use Rattle.std.proofs.lemmas.Bool.{and_parts}
use Rattle.lhg_math.specs.Tests.{AllOf, every_from_all, all_from_every}
use Rattle.lhg_num.specs.FracArithmetic.{frac_arithmetic, frac_is_lawful}
use Rattle.lhg_row.specs.Row.{PlainPoint, holds_at}
use Rattle.lhg_row.specs.Piece.{PlainPiece, InPiece, in_piece, InSome}
use Rattle.lhg_row.specs.PieceLemmas.{in_piece_is}
use Rattle.lhg_row.specs.Width.{AllWide}
use Rattle.lhg_row.specs.HasValue.{Completes}
use Rattle.lhg_row.specs.Trim.{trim}
use Rattle.lhg_row.specs.TrimLaws.{trim-holds}
use Rattle.lhg_row.specs.WidthLaws.{append-wide, trim-wide}
use Rattle.lhg_row.specs.Eliminate.{each_joined}
use Rattle.lhg_row.specs.EliminateLaws.{in_piece-append}
use Rattle.lhg_row.specs.Pieces.{project}
use Rattle.lhg_row.specs.PieceFacts.{IsPoly, AllOver, AllPolys, IsProjection}
use Rattle.lhg_row.specs.ProjectLaws.{project-exact}
use Rattle.lhg_row.specs.Lists.{listed}
use Rattle.lhg_row.specs.Members.{SomeOf, all-append}
use Rattle.lhg_row.specs.Widened.{widened}
use Rattle.lhg_row.specs.WidenedLaws.{widened-piece, widened-wide}
use Rattle.lhg_row.specs.SomeLists.{some_each, joined-some}
use Rattle.lhg_plant.specs.Pre.{pre_rows, pre_piece, pre_each, pre_list}

-- a point of inv from which the jump leads into q
pub record LeadsInto (n : ℕ) (jump q inv : PlainPiece) (x : PlainPoint) : Type 0 where
  pub start : InPiece inv x
  pub to : PlainPoint
  pub fits : length to ≡ n
  pub inside : InPiece q to
  pub jumps : InPiece jump (x ++ to)

-- a piece with these points
pub record IsPrePiece (n : ℕ) (jump q inv piece : PlainPiece) : Type 0 where
  pub points : (x : PlainPoint) → length x ≡ n → InPiece piece x ↔ LeadsInto n jump q inv x
  pub poly : IsPoly frac_arithmetic n piece

-- none says that there is no such point, and a piece that it has these points
abbrev pub IsPrePieceOr : ℕ → PlainPiece → PlainPiece → PlainPiece → Option PlainPiece → Type 0
IsPrePieceOr n jump q inv None = (x : PlainPoint) → length x ≡ n → ¬ LeadsInto n jump q inv x
IsPrePieceOr n jump q inv (Some piece) = IsPrePiece n jump q inv piece

-- both tests
both_true : (b c : Bool) → b ≡ true → c ≡ true → (b && c) ≡ true
both_true b c e f = rw (e, f) refl

-- ---- one piece of the target
module _ (n : ℕ) (jump q inv : PlainPiece) (wj : AllWide (n + n) jump) (wi : AllWide n inv) (wq : AllWide n q) where
  abbrev rows : PlainPiece
  rows = pre_rows n jump q inv

  rows-in : (x y : PlainPoint) → length x ≡ n → length y ≡ n → in_piece rows (x ++ y) ≡ (in_piece inv x && in_piece jump (x ++ y)) && in_piece q y
  rows-in x y lx ly =
      in_piece-append (map (widened 0 n) inv ++ jump) (map (widened n 0) q) (x ++ y)
      ∙ ap (λ b. b && in_piece (map (widened n 0) q) (x ++ y)) (in_piece-append (map (widened 0 n) inv) jump (x ++ y) ∙ ap (λ b. b && in_piece jump (x ++ y)) (widened-piece 0 n n inv [] x y refl lx wi))
      ∙ ap (λ b. (in_piece inv x && in_piece jump (x ++ y)) && b) (ap (λ z. in_piece (map (widened n 0) q) z) (sym (append-nil (x ++ y))) ∙ widened-piece n 0 n q x y [] lx ly wq)

  -- the rows are over the old and the new variables
  pub rows-wide : AllWide (n + n) rows
  rows-wide =
      append-wide (n + n) (map (widened 0 n) inv ++ jump) (map (widened n 0) q)
      (append-wide (n + n) (map (widened 0 n) inv) jump (widened-wide 0 n n (n + n) inv (omega arith) wi) wj) (widened-wide n 0 n (n + n) q (omega arith) wq)

  completes_leads : (x : PlainPoint) → length x ≡ n → Completes (n + n - n) (trim frac_arithmetic rows).value x → LeadsInto n jump q inv x
  completes_leads x lx c =
      let y = c.later in
      let ly : length y ≡ n = c.many ∙ omega arith in
      let whole : in_piece rows (x ++ y) ≡ true = sym (trim-holds frac_arithmetic rows (x ++ y) frac_is_lawful) ∙ (in_piece_is (trim frac_arithmetic rows).value (x ++ y)).0 c.inside in
      let p2 = and_parts (in_piece inv x && in_piece jump (x ++ y)) (in_piece q y) (sym (rows-in x y lx ly) ∙ whole) in
      let p1 = and_parts (in_piece inv x) (in_piece jump (x ++ y)) p2.0 in
      record {
        start = (in_piece_is inv x).1 p1.0;
        to = y;
        fits = ly;
        inside = (in_piece_is q y).1 p2.1;
        jumps = (in_piece_is jump (x ++ y)).1 p1.1;
      }

  leads_completes : (x : PlainPoint) → length x ≡ n → LeadsInto n jump q inv x → Completes (n + n - n) (trim frac_arithmetic rows).value x
  leads_completes x lx c =
      let y = c.to in
      let start : in_piece inv x ≡ true = (in_piece_is inv x).0 c.start in
      let jumps : in_piece jump (x ++ y) ≡ true = (in_piece_is jump (x ++ y)).0 c.jumps in
      let inside : in_piece q y ≡ true = (in_piece_is q y).0 c.inside in
      let whole : in_piece rows (x ++ y) ≡ true = rows-in x y lx c.fits ∙ both_true _ _ (both_true _ _ start jumps) inside in
      record {
        later = y;
        many = c.fits ∙ omega arith;
        inside = (in_piece_is (trim frac_arithmetic rows).value (x ++ y)).1 (trim-holds frac_arithmetic rows (x ++ y) frac_is_lawful ∙ whole);
      }

  is_pre : (o : Option PlainPiece) → IsProjection frac_arithmetic n (n + n - n) (trim frac_arithmetic rows).value o → IsPrePieceOr n jump q inv o
  is_pre None h = λ x l c. h x l (leads_completes x l c)
  is_pre (Some piece) h = record {
    points = λ x l. (λ i. completes_leads x l ((h.points x l).0 i), λ c. (h.points x l).1 (leads_completes x l c));
    poly = h.poly;
  }

  -- the piece has exactly the points that lead into q
  pub pre_piece-exact : IsPrePieceOr n jump q inv (pre_piece n jump q inv).value
  unfolding pre_piece
  pre_piece-exact =
      is_pre (project frac_arithmetic (n + n) n (trim frac_arithmetic rows).value).value
      (project-exact frac_arithmetic (n + n) n (trim frac_arithmetic rows).value frac_is_lawful (omega arith) (trim-wide frac_arithmetic (n + n) rows frac_is_lawful rows-wide))

-- ---- all pieces of the source
module _ (n : ℕ) (jump q : PlainPiece) (wj : AllWide (n + n) jump) (wq : AllWide n q) where
  listed-points : (inv : PlainPiece) (o : Option PlainPiece) (ps : List PlainPiece) (x : PlainPoint) → length x ≡ n → IsPrePieceOr n jump q inv o
      → InSome (listed o ps) x ↔ (LeadsInto n jump q inv x ⊎ InSome ps x)
  listed-points inv None ps x l h = (λ k. inr k, λ k. elim k [ inl c ↦ absurd (h x l c) | inr m ↦ m ])
  listed-points inv (Some piece) ps x l h = (
    λ k. elim k [ inl i ↦ inl ((h.points x l).0 i) | inr m ↦ inr m ],
    λ k. elim k [ inl c ↦ inl ((h.points x l).1 c) | inr m ↦ inr m ],
  )

  listed-polys : (inv : PlainPiece) (o : Option PlainPiece) (ps : List PlainPiece) → IsPrePieceOr n jump q inv o → AllPolys frac_arithmetic n ps → AllPolys frac_arithmetic n (listed o ps)
  listed-polys inv None ps h k = k
  listed-polys inv (Some piece) ps h k = (h.poly, k)

  -- the points of some piece of the source that lead into q
  pub pre_each-points : (invs : List PlainPiece) (x : PlainPoint) → AllOver n invs → length x ≡ n → InSome (pre_each n jump q invs).value x ↔ SomeOf (λ inv. LeadsInto n jump q inv x) invs
  pre_each-points [] x w l = (λ h. h, λ h. h)
  pre_each-points (inv ∷ invs) x w l =
      let here = listed-points inv (pre_piece n jump q inv).value (pre_each n jump q invs).value x l (pre_piece-exact n jump q inv wj w.0 wq) in
      let rest = pre_each-points invs x w.1 l in (
        λ h. elim (here.0 h) [ inl c ↦ inl c | inr m ↦ inr (rest.0 m) ],
        λ h. here.1 (elim h [ inl c ↦ inl c | inr m ↦ inr (rest.1 m) ]),
      )

  -- they are pieces
  pub pre_each-polys : (invs : List PlainPiece) → AllOver n invs → AllPolys frac_arithmetic n (pre_each n jump q invs).value
  pre_each-polys [] w = tt
  pre_each-polys (inv ∷ invs) w = listed-polys inv (pre_piece n jump q inv).value (pre_each n jump q invs).value (pre_piece-exact n jump q inv wj w.0 wq) (pre_each-polys invs w.1)

-- ---- all pieces of the target

module _ (n : ℕ) (jump : PlainPiece) (invs : List PlainPiece) (wj : AllWide (n + n) jump) (wi : AllOver n invs) where
  -- the points of some piece of the source that lead into some piece of the target
  pub pre_list-points : (target : List PlainPiece) (x : PlainPoint) → AllOver n target → length x ≡ n
      → InSome (pre_list n invs jump target).value x ↔ SomeOf (λ q. SomeOf (λ inv. LeadsInto n jump q inv x) invs) target
  unfolding pre_list
  pre_list-points target x w l =
      let both = joined-some (λ q. pre_each n jump q invs) target x in (
        λ h. some_each (AllWide n) (λ q. InSome (pre_each n jump q invs).value x) (λ q. SomeOf (λ inv. LeadsInto n jump q inv x) invs) target w (λ q wq k. (pre_each-points n jump q wj wq invs x wi l).0 k) (both.0 h),
        λ h. both.1 (some_each (AllWide n) (λ q. SomeOf (λ inv. LeadsInto n jump q inv x) invs) (λ q. InSome (pre_each n jump q invs).value x) target w (λ q wq k. (pre_each-points n jump q wj wq invs x wi l).1 k) h),
      )

  joined-polys : (target : List PlainPiece) → AllOver n target → AllPolys frac_arithmetic n (each_joined (λ q. pre_each n jump q invs) target).value
  joined-polys [] w = tt
  joined-polys (q ∷ target) w =
      all-append (IsPoly frac_arithmetic n) (pre_each n jump q invs).value (each_joined (λ q. pre_each n jump q invs) target).value (pre_each-polys n jump q wj w.0 invs wi) (joined-polys target w.1)

  -- they are pieces
  pub pre_list-polys : (target : List PlainPiece) → AllOver n target → AllPolys frac_arithmetic n (pre_list n invs jump target).value
  unfolding pre_list
  pre_list-polys target w = joined-polys target w
