-- Why does the table of pairs say what its entries mean, and how do counts of pairs grow?
use Rattle.std.proofs.Common.{◌≡◌, ℕ, zero, suc, ◌+◌, ◌<◌, ◌≤◌, Bool, true, false, not, ◌||◌, cond, List, [], ◌∷◌, ◌++◌, length, take, drop, get_or, Option, Some, None, Err, refl, sym, ap, ◌∙◌, subst, inl, inr, arith, add-one, ◌*◌}
use Rattle.std.proofs.Math.Nat.{suc-mul}
use Rattle.std.specs.Prelude.{IfSome}
use Rattle.std.proofs.lemmas.Bool.{or_left, or_right, or_cases}
use Rattle.std.proofs.lemmas.List.{take_more, take_all}
use Rattle.lhg_math.specs.Tests.{AllOf, false_true}
use Rattle.lhg_num.specs.Arithmetic.{Arithmetic, IsLawful}
use Rattle.lhg_num.specs.Marked.{Marked, and_then}
use Rattle.lhg_num.specs.MarkedLaws.{IsPart, and_then-part}
use Rattle.lhg_num.specs.Halting.{IsHaltedByRows}
use Rattle.lhg_num.specs.declared.refusals.Halt.{Halt}
use Rattle.lhg_num.specs.declared.refusals.Halt.TheVariants.{Wide, Rows, Pieces, Memory}
use Rattle.lhg_row.specs.Row.{PlainPoint}
use Rattle.lhg_row.specs.Piece.{PlainPiece, InPiece}
use Rattle.lhg_row.specs.System.{PlainSystem}
use Rattle.lhg_row.specs.Width.{AllWide}
use Rattle.lhg_row.specs.HasValue.{IsEmptiness}
use Rattle.lhg_row.specs.Trim.{trim}
use Rattle.lhg_row.specs.Eliminate.{is_empty}
use Rattle.lhg_row.specs.Pieces.{are_empty, made, make, meet, closure}
use Rattle.lhg_row.specs.PieceFacts.{IsPoly, IsClosure}
use Rattle.lhg_row.specs.MakeLaws.{make-thin}
use Rattle.lhg_row.specs.MeetLaws.{in_piece-both, closure-exact}
use Rattle.lhg_math.specs.ListFacts.{drop_cons}
use Rattle.lhg_motion.specs.CrossCalculus.{cross}
use Rattle.lhg_motion.specs.CrossFact.{IsCross}
use Rattle.lhg_motion.specs.CrossLaws.{to_middle, cross-exact}
use Rattle.lhg_union.specs.PolyLists.{lines_of, AllVars, ArePolys}
use Rattle.lhg_reach.specs.Neighbours.{meet_edge, meet_closure, is_there, is_marked, counts, way_count, ways_count, pair_count, EachWith, IsEntry, IsFlag, IsEdge, IsTold, IsHint}
use Rattle.lhg_reach.proofs.Growing.{then-part}

-- ---- two lists, member by member
-- one member more of each
pub with_take : {A B : Type 0} (R : A → B → Type 0) (xs : List A) (i : ℕ) (x : A) → x ≡ get_or xs i x → i < length xs → (out more : List B) (y : B) → EachWith R (take i xs) out → more ≡ out ++ y ∷ [] → R x y → EachWith R (take (i + 1) xs) more
with_take {A} {B} R xs i x e h out more y w m r =
    subst (λ zs. EachWith R (take (i + 1) xs) zs) (sym m)
    (subst (λ zs. EachWith R zs (out ++ y ∷ [])) (sym (take_more xs i x h ∙ ap (λ z. take i xs ++ z ∷ []) (sym e))) (at_end (take i xs) out w))
  where
    at_end : (us : List A) (vs : List B) → EachWith R us vs → EachWith R (us ++ x ∷ []) (vs ++ y ∷ [])
    at_end [] [] k = (r, tt)
    at_end [] (v ∷ vs) k = absurd k
    at_end (u ∷ us) [] k = absurd k
    at_end (u ∷ us) (v ∷ vs) k = (k.0, at_end us vs k.1)

-- all members
pub with_taken : {A B : Type 0} (R : A → B → Type 0) (xs : List A) (i : ℕ) → length xs ≤ i → (ys : List B) → EachWith R (take i xs) ys → EachWith R xs ys
with_taken R xs i h ys w = subst (λ zs. EachWith R zs ys) (take_all i xs h) w

-- there are as many
pub with_length : {A B : Type 0} (R : A → B → Type 0) (xs : List A) (ys : List B) → EachWith R xs ys → length ys ≡ length xs
with_length R [] [] w = refl
with_length R [] (y ∷ ys) w = absurd w
with_length R (x ∷ xs) [] w = absurd w
with_length R (x ∷ xs) (y ∷ ys) w = ap suc (with_length R xs ys w.1)

-- the members at a place
pub with_at : {A B : Type 0} (R : A → B → Type 0) (xs : List A) (ys : List B) (i : ℕ) (x : A) (y : B) → x ≡ get_or xs i x → y ≡ get_or ys i y → i < length xs → EachWith R xs ys → R x y
with_at R [] ys i x y e f h w = absurd (omega arith)
with_at R (u ∷ us) [] i x y e f h w = absurd w
with_at R (u ∷ us) (v ∷ vs) zero x y e f h w = subst (λ z. R z y) (sym e) (subst (λ z. R u z) (sym f) w.0)
with_at R (u ∷ us) (v ∷ vs) (suc i) x y e f h w = with_at R us vs i x y e f (omega arith) w.1

-- the same of a value that is read
pub with_get : {A B : Type 0} (R : A → B → Type 0) (xs : List A) (ys : List B) (i : ℕ) (x : A) (d : B) → x ≡ get_or xs i x → i < length xs → EachWith R xs ys → R x (get_or ys i d)
with_get R [] ys i x d e h w = absurd (omega arith)
with_get R (u ∷ us) [] i x d e h w = absurd w
with_get R (u ∷ us) (v ∷ vs) zero x d e h w = subst (λ z. R z v) (sym e) w.0
with_get R (u ∷ us) (v ∷ vs) (suc i) x d e h w = with_get R us vs i x d e (omega arith) w.1

-- what holds of both lists with a third
pub with_both : {A B C : Type 0} (P : A → Type 0) (R : A → B → Type 0) (S : B → C → Type 0) (T : A → C → Type 0) → ((x : A) (y : B) (z : C) → P x → R x y → S y z → T x z)
    → (xs : List A) (ys : List B) (zs : List C) → AllOf P xs → EachWith R xs ys → EachWith S ys zs → EachWith T xs zs
with_both P R S T f [] [] [] p r s = tt
with_both P R S T f [] [] (z ∷ zs) p r s = absurd s
with_both P R S T f [] (y ∷ ys) zs p r s = absurd r
with_both P R S T f (x ∷ xs) [] zs p r s = absurd r
with_both P R S T f (x ∷ xs) (y ∷ ys) [] p r s = absurd s
with_both P R S T f (x ∷ xs) (y ∷ ys) (z ∷ zs) p r s = (f x y z p.0 r.0 s.0, with_both P R S T f xs ys zs p.1 r.1 s.1)

-- ---- one entry
-- the marks of the question whether rows have no point are among those of their piece
make-part : (a : Arithmetic) (n : ℕ) (rows : PlainPiece) → IsPart (make a n rows) (are_empty a n rows)
unfolding make
make-part a n rows = then-part (trim a rows) (λ rs. and_then (is_empty a n rs) (made a n rs)) (is_empty a n) (and_then-part (is_empty a n (trim a rows).value) (made a n (trim a rows).value))

-- a mark marks
marked-wide : {A : Type 0} (m : Marked A) → m.wide ≡ true → is_marked m ≡ true
marked-wide m h = or_left m.wide _ h

marked-rows : {A : Type 0} (m : Marked A) → m.rows ≡ true → is_marked m ≡ true
marked-rows m h = or_right m.wide _ (or_left m.rows _ h)

-- the marks of a part mark the whole
marked-part : {A B : Type 0} (m : Marked A) (p : Marked B) → IsPart m p → is_marked p ≡ true → is_marked m ≡ true
marked-part m p i h =
    elim (or_cases p.wide (p.rows || p.pieces) h) [
      | inl w ↦ or_left m.wide _ (i.wide w)
      | inr k ↦ elim (or_cases p.rows p.pieces k) [
        | inl r ↦ or_right m.wide _ (or_left m.rows _ (i.rows r))
        | inr q ↦ or_right m.wide _ (or_right m.rows _ (i.pieces q))
      ]
    ]

-- an answer tells the entry
pub told_answer : (a : Arithmetic) (n : ℕ) (start : PlainPiece) (edge : PlainSystem) (apart : Bool) → apart ≡ (are_empty a n (start ++ edge.lines)).value → IsEmptiness n (start ++ edge.lines) apart → IsTold a n start (Some edge) (not apart)
told_answer a n start edge true e h = λ x l i k. h x l (in_piece-both start edge.lines x i k)
told_answer a n start edge false e h = or_left _ _ (ap is_there (make-thin a n (start ++ edge.lines) (sym e)))

-- what is told is a hint
pub told-hint : (a : Arithmetic) (n : ℕ) (into : PlainPiece) (edge : Option PlainSystem) (b : Bool) → IsTold a n into edge b → IsHint a n into edge b
told-hint a n into edge true h = tt
told-hint a n into edge false h = h

-- a limit that is passed tells it too
pub told_halt : (a : Arithmetic) (n : ℕ) (start : PlainPiece) (edge : PlainSystem) (e : Halt) → ¬ (e ≡ Memory) → IsHaltedByRows {T = Bool} (Err e) (are_empty a n (start ++ edge.lines)) (λ b. b) → IsTold a n start (Some edge) true
told_halt a n start edge Wide other h = or_right _ _ (marked-wide (meet a n start edge.lines) ((make-part a n (start ++ edge.lines)).wide h))
told_halt a n start edge Rows other h = or_right _ _ (marked-rows (meet a n start edge.lines) ((make-part a n (start ++ edge.lines)).rows h))
told_halt a n start edge Pieces other h = absurd h
told_halt a n start edge Memory other h = absurd (other refl)

-- a closure that passes a limit
pub edge_halt : (a : Arithmetic) (way : PlainSystem) (f : PlainSystem → Option PlainPiece) (e : Halt) → ¬ (e ≡ Memory) → IsHaltedByRows {T = PlainSystem} (Err e) (closure a way.width way.lines) f → IsEdge a way None
edge_halt a way f Wide other h = marked-wide (closure a way.width way.lines) h
edge_halt a way f Rows other h = marked-rows (closure a way.width way.lines) h
edge_halt a way f Pieces other h = absurd h
edge_halt a way f Memory other h = absurd (other refl)

-- what is told of the closure of a way makes the entry
module _ (a : Arithmetic) (n : ℕ) (laws : IsLawful a) (start : PlainPiece) (start_wide : AllWide n start) where
  -- from a piece that is apart from the closure of the way there is no crossing
  apart-none : (way edge : PlainPiece) → IsPoly a n way → Some edge ≡ (closure a n way).value → ((x : PlainPoint) → length x ≡ n → InPiece start x → ¬ InPiece edge x)
      → (into flow : PlainPiece) → AllWide n into → AllWide n flow → (cross a n start way into flow).value ≡ None
  apart-none way edge p e h into flow wi wf = none (cross a n start way into flow).value (cross-exact a n laws start way into flow start_wide p.wide wi wf)
    where
      closed : IsClosure a n way (Some edge)
      closed = subst (λ o. IsClosure a n way o) (sym e) (closure-exact a n way laws p.wide p.point)

      none : (o : Option PlainPiece) → IsCross a n start way into flow o → o ≡ None
      none None c = refl
      none (Some piece) c =
          let x = c.poly.point.point in
          let l = c.poly.point.wide in
          let m = to_middle start way into flow x ((c.points x l).0 c.poly.point.holds) in
          absurd (h x l m.from_in ((closed.points x l).1 m.start_edge))

  -- the value and the marks of the meet with the closure
  edge-counts : (way edge : PlainPiece) → Some edge ≡ (closure a n way).value → (is_there (meet a n start edge).value || is_marked (meet a n start edge)) ≡ true → counts a n start way ≡ true
  edge-counts way edge e h =
      elim (or_cases (is_there (meet a n start edge).value) (is_marked (meet a n start edge)) h) [
        | inl t ↦ or_left _ _ (ap (λ o. is_there (meet_edge a n start o).value) (sym e) ∙ t)
        | inr k ↦ or_right _ _ (marked-part (meet_closure a n start way) (meet a n start edge) (later (closure a n way) e) k)
      ]
    where
      later : (c : Marked (Option PlainPiece)) → Some edge ≡ c.value → IsPart (and_then c (meet_edge a n start)) (meet a n start edge)
      later c f = record {
        wide = λ m. or_right c.wide _ (ap (λ o. (meet_edge a n start o).wide) (sym f) ∙ m);
        rows = λ m. or_right c.rows _ (ap (λ o. (meet_edge a n start o).rows) (sym f) ∙ m);
        pieces = λ m. or_right c.pieces _ (ap (λ o. (meet_edge a n start o).pieces) (sym f) ∙ m);
      }

  -- into a piece that is apart from the closure of the way there is no crossing
  apart-into : (way edge : PlainPiece) → IsPoly a n way → Some edge ≡ (closure a n way).value → ((x : PlainPoint) → length x ≡ n → InPiece start x → ¬ InPiece edge x)
      → (from flow : PlainPiece) → AllWide n from → AllWide n flow → (cross a n from way start flow).value ≡ None
  apart-into way edge p e h from flow wf wr = none (cross a n from way start flow).value (cross-exact a n laws from way start flow wf p.wide start_wide wr)
    where
      closed : IsClosure a n way (Some edge)
      closed = subst (λ o. IsClosure a n way o) (sym e) (closure-exact a n way laws p.wide p.point)

      none : (o : Option PlainPiece) → IsCross a n from way start flow o → o ≡ None
      none None c = refl
      none (Some piece) c =
          let x = c.poly.point.point in
          let l = c.poly.point.wide in
          let m = to_middle from way start flow x ((c.points x l).0 c.poly.point.holds) in
          let k : length m.to ≡ n = omega (arith, l, m.legal.same_length) in
          absurd (h m.to k m.into_in ((closed.points m.to k).1 m.end_edge))

  -- and makes the flag of a piece that crossings lead into
  pub told-flag : (way : PlainSystem) (edge : Option PlainSystem) (b : Bool) → way.width ≡ n → IsPoly a way.width way.lines → IsEdge a way edge → IsHint a n start edge b → IsFlag a n start way.lines b
  told-flag way None true w p e t = tt
  told-flag way None false w p e t = false_true t
  told-flag way (Some edge) true w p e t = tt
  told-flag way (Some edge) false w p e t = apart-into way.lines edge.lines (subst (λ m. IsPoly a m way.lines) w p) (subst (λ m. Some edge.lines ≡ (closure a m way.lines).value) w e.1) t

  pub told-entry : (way : PlainSystem) (edge : Option PlainSystem) (b : Bool) → way.width ≡ n → IsPoly a way.width way.lines → IsEdge a way edge → IsTold a n start edge b → IsEntry a n start way.lines b
  told-entry way None true w p e t =
      or_right _ _ (marked-part (meet_closure a n start way.lines) (closure a n way.lines) (and_then-part (closure a n way.lines) (meet_edge a n start)) (subst (λ m. is_marked (closure a m way.lines) ≡ true) w e))
  told-entry way None false w p e t = false_true t
  told-entry way (Some edge) true w p e t = edge-counts way.lines edge.lines (subst (λ m. Some edge.lines ≡ (closure a m way.lines).value) w e.1) t
  told-entry way (Some edge) false w p e t = apart-none way.lines edge.lines (subst (λ m. IsPoly a m way.lines) w p) (subst (λ m. Some edge.lines ≡ (closure a m way.lines).value) w e.1) t

-- a way that is over n variables and a piece
abbrev pub IsWay : Arithmetic → ℕ → PlainSystem → Type 0
IsWay a n way = (way.width ≡ n) × IsPoly a way.width way.lines

-- the ways of a list are such ones
pub are_ways : (a : Arithmetic) (n : ℕ) (ways : List PlainSystem) → AllVars n ways → ArePolys a ways → AllOf (IsWay a n) ways
are_ways a n [] v p = tt
are_ways a n (w ∷ ws) v p = ((v.0, p.0), are_ways a n ws v.1 p.1)

-- the entries of one near piece
pub told-entries : (a : Arithmetic) (start : PlainSystem) → IsLawful a → AllWide start.width start.lines → (ways : List PlainSystem) (edges : List (Option PlainSystem)) (row : List Bool) → AllVars start.width ways → ArePolys a ways
    → EachWith (IsEdge a) ways edges → EachWith (IsTold a start.width start.lines) edges row → EachWith (λ (way : PlainSystem) b. IsEntry a start.width start.lines way.lines b) ways row
told-entries a start laws wide ways edges row v p e t =
    with_both (IsWay a start.width) (IsEdge a) (IsTold a start.width start.lines) (λ (way : PlainSystem) b. IsEntry a start.width start.lines way.lines b)
    (λ way edge b w i k. told-entry a start.width laws start.lines wide way edge b w.0 w.1 i k) ways edges row (are_ways a start.width ways v p) e t

-- the flags of one piece that crossings lead into
pub told-flags : (a : Arithmetic) (into : PlainSystem) → IsLawful a → AllWide into.width into.lines → (ways : List PlainSystem) (edges : List (Option PlainSystem)) (row : List Bool) → AllVars into.width ways → ArePolys a ways
    → EachWith (IsEdge a) ways edges → EachWith (IsHint a into.width into.lines) edges row → EachWith (λ (way : PlainSystem) b. IsFlag a into.width into.lines way.lines b) ways row
told-flags a into laws wide ways edges row v p e t =
    with_both (IsWay a into.width) (IsEdge a) (IsHint a into.width into.lines) (λ (way : PlainSystem) b. IsFlag a into.width into.lines way.lines b)
    (λ way edge b w i k. told-flag a into.width laws into.lines wide way edge b w.0 w.1 i k) ways edges row (are_ways a into.width ways v p) e t

-- the edges are over as many variables
pub edges_over : (a : Arithmetic) (n : ℕ) (ways : List PlainSystem) (edges : List (Option PlainSystem)) → AllVars n ways → EachWith (IsEdge a) ways edges → AllOf (λ o. IfSome o (λ (e : PlainSystem). e.width ≡ n)) edges
edges_over a n [] [] v e = tt
edges_over a n [] (x ∷ xs) v e = absurd e
edges_over a n (w ∷ ws) [] v e = absurd e
edges_over a n (w ∷ ws) (None ∷ xs) v e = (tt, edges_over a n ws xs v.1 e.1)
edges_over a n (w ∷ ws) (Some x ∷ xs) v e = (e.0.0 ∙ v.0, edges_over a n ws xs v.1 e.1)

-- ---- counts
-- the crossing of one pair more, where the pair counts
pub count-way : (a : Arithmetic) (n : ℕ) (start : PlainPiece) (ways : List PlainSystem) (i : ℕ) (way : PlainSystem) → way ≡ get_or ways i way → i < length ways
    → (old now next : ℕ) → now + ways_count a n start (lines_of (drop i ways)) ≤ old + ways_count a n start (lines_of ways) → next ≤ now + way_count a n start way.lines → next + ways_count a n start (lines_of (drop (i + 1) ways)) ≤ old + ways_count a n start (lines_of ways)
count-way a n start ways i way e h old now next k l =
    let d : ways_count a n start (lines_of (drop i ways)) ≡ way_count a n start way.lines + ways_count a n start (lines_of (drop (i + 1) ways)) = ap (λ ps. ways_count a n start (lines_of ps)) (drop_cons ways i way e h) in
    omega arith

-- an entry that says so makes the pair count
pub count-entry : (a : Arithmetic) (n : ℕ) (start way : PlainPiece) (b : Bool) → IsEntry a n start way b → b ≡ true → (old next : ℕ) → next ≤ old + 1 → next ≤ old + way_count a n start way
count-entry a n start way b h e old next k =
    let one : way_count a n start way ≡ 1 = ap (λ (c : Bool). cond c 1 0) (subst (λ c. IsEntry a n start way c) e h) in
    omega arith

-- the pairs of one near piece more
pub count-near : (a : Arithmetic) (n : ℕ) (near : List PlainSystem) (ways : List PlainPiece) (j : ℕ) (start : PlainSystem) → start ≡ get_or near j start → j < length near → start.width ≡ n
    → (old now next : ℕ) → now + pair_count a n (lines_of (drop j near)) ways ≤ old + pair_count a n (lines_of near) ways → next ≤ now + ways_count a start.width start.lines ways → next + pair_count a n (lines_of (drop (j + 1) near)) ways ≤ old + pair_count a n (lines_of near) ways
count-near a n near ways j start e h w old now next k l =
    let d = ap (λ ps. pair_count a n (lines_of ps) ways) (drop_cons near j start e h) in
    let s = ap (λ m. ways_count a m start.lines ways) w in
    omega arith

-- the pairs of one piece more that crossings lead into
pub count-into : (q first place old now next : ℕ) → now + first * q ≤ old + place * q → next ≤ now + q → next + first * q ≤ old + (place + 1) * q
count-into q first place old now next k l = let m : (place + 1) * q ≡ place * q + q = ap (λ i. i * q) (add-one place) ∙ suc-mul place q in omega arith

-- after some layers: at most the pairs that count for each piece that crossings led into
pub count-layer : (q first known old now next : ℕ) → now ≤ old + first * q → next + first * q ≤ now + known * q → next ≤ old + known * q
count-layer q first known old now next k l = omega arith
