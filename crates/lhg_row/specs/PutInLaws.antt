-- At which points does a row with a point put in hold?
use Rattle.std.specs.Prelude.{◌≡◌, ◌+◌, ◌&&◌, ℕ, not, cond, List, [], ◌∷◌, ◌++◌, map, take, drop, length}
use Rattle.std.proofs.Common.{refl, sym, ap, ◌∙◌, arith}
use Rattle.std.proofs.lemmas.List.{length-drop}
use Rattle.lhg_math.specs.Number.{Number, add, sub, mul, neg, lt, nought}
use Rattle.lhg_math.specs.NumberRing.{add_comm, nought-add}
use Rattle.lhg_num.specs.Arithmetic.{Arithmetic}
use Rattle.lhg_num.specs.Marked.{Marked, and_then}
use Rattle.lhg_row.specs.Row.{PlainRow, PlainPoint, row_value, value_at, holds_at}
use Rattle.lhg_row.specs.Piece.{PlainPiece, InPiece, in_piece}
use Rattle.lhg_row.specs.Width.{AllWide}
use Rattle.lhg_math.specs.NumberRing.{sub_is}
use Rattle.lhg_row.specs.Values.{plus_product, marked_value}
use Rattle.lhg_row.specs.ValueLaws.{marked_value-value, value_onto}
use Rattle.lhg_row.specs.MoveLaws.{lt_move, move_lt}
use Rattle.lhg_row.specs.PutIn.{put_in, put_in_each}

-- the value at two points, one after the other, starts from that at the first one
pub value-joined : (s : Number) (cs : List Number) (x y : PlainPoint) → row_value s cs (x ++ y) ≡ row_value (row_value s cs x) (drop (length x) cs) y
value-joined s [] [] y = refl
value-joined s [] (d ∷ x) y = refl
value-joined s (c ∷ cs) [] y = refl
value-joined s (c ∷ cs) (d ∷ x) y = value-joined (add s (mul c d)) cs x y

-- the row with the point x put in holds at y exactly where the row holds at x and y together
pub put_in-holds : (a : Arithmetic) (x : PlainPoint) (r : PlainRow) (y : PlainPoint) → holds_at (put_in a x r).value y ≡ holds_at r (x ++ y)
put_in-holds a x r y =
    let v = value_at r x in
    let w = row_value nought (drop (length x) r.coefs) y in
    let b : (put_in a x r).value.bound ≡ add r.bound (neg v) = ap (λ u. sub r.bound u) (marked_value-value a nought r.coefs x) ∙ sub_is r.bound v in
    let both : value_at r (x ++ y) ≡ add v w =
    value-joined nought r.coefs x y ∙ ap (λ u. row_value u (drop (length x) r.coefs) y) (sym (nought-add v))
    ∙ value_onto nought v (drop (length x) r.coefs) y ∙ add_comm w v in
    ap (λ u. cond r.strict (lt w u) (not (lt u w))) b
    ∙ sym (ap (λ u. cond r.strict (lt u r.bound) (not (lt r.bound u))) both ∙ rw (lt_move v w r.bound, move_lt v w r.bound) refl)

-- the same of each row of a list
pub put_in-to : (a : Arithmetic) (x : PlainPoint) (rows : PlainPiece) (y : PlainPoint) → InPiece rows (x ++ y) → InPiece (put_in_each a x rows).value y
put_in-to a x [] y h = h
put_in-to a x (r ∷ rows) y h = (put_in-holds a x r y ∙ h.0, put_in-to a x rows y h.1)

pub put_in-from : (a : Arithmetic) (x : PlainPoint) (rows : PlainPiece) (y : PlainPoint) → InPiece (put_in_each a x rows).value y → InPiece rows (x ++ y)
put_in-from a x [] y h = h
put_in-from a x (r ∷ rows) y h = (sym (put_in-holds a x r y) ∙ h.0, put_in-from a x rows y h.1)

-- the same as a test
pub put_in_each-points : (a : Arithmetic) (x : PlainPoint) (rows : PlainPiece) (y : PlainPoint) → in_piece (put_in_each a x rows).value y ≡ in_piece rows (x ++ y)
put_in_each-points a x [] y = refl
put_in_each-points a x (r ∷ rows) y =
    ap (λ b. b && in_piece (put_in_each a x rows).value y) (put_in-holds a x r y) ∙ ap (λ b. holds_at r (x ++ y) && b) (put_in_each-points a x rows y)

-- it has a coefficient for each further variable
pub put_in-wide : (a : Arithmetic) (x : PlainPoint) (m n : ℕ) (rows : PlainPiece) → length x ≡ m → AllWide (m + n) rows → AllWide n (put_in_each a x rows).value
put_in-wide a x m n [] e w = tt
put_in-wide a x m n (r ∷ rows) e w =
    (let l = length-drop (length x) r.coefs in let k = w.0 in omega (arith, l, k, e), put_in-wide a x m n rows e w.1)

-- the coefficients behind those of the point have no part in the value
pub value-first : {N : Type 0} (m : N → Number) (a : Arithmetic) (s : Number) (cs xs : List N)
    → marked_value a s (map m (take (length xs) cs)) (map m xs) ≡ marked_value a s (map m cs) (map m xs)
value-first m a s [] [] = refl
value-first m a s [] (x ∷ xs) = refl
value-first m a s (c ∷ cs) [] = refl
value-first m a s (c ∷ cs) (x ∷ xs) =
    let p = plus_product a s (m c) (m x) in ap (λ (n : Marked Number). and_then p (λ t. n)) (value-first m a p.value cs xs)
