-- At which points does a row over more variables hold?
use Rattle.std.specs.Prelude.{◌≡◌, ℕ, zero, suc, ◌+◌, not, cond, ◌&&◌, List, [], ◌∷◌, ◌++◌, map, length, replicate}
use Rattle.std.proofs.Common.{refl, sym, ap, ◌∙◌, arith}
use Rattle.std.proofs.lemmas.List.{length-append, length-replicate}
use Rattle.lhg_math.specs.Number.{Number, add, mul, lt, nought}
use Rattle.lhg_math.specs.NumberRing.{add-nought, nought-mul}
use Rattle.lhg_row.specs.Row.{PlainRow, PlainPoint, row_value, holds_at}
use Rattle.lhg_row.specs.Piece.{PlainPiece, in_piece}
use Rattle.lhg_row.specs.Width.{AllWide}
use Rattle.lhg_row.specs.Widened.{widened}

-- ---- values
-- the value of joined coefficients is that of the first ones, and on from there that of the others
pub value-append : (s : Number) (cs ds : List Number) (xs ws : PlainPoint) → length cs ≡ length xs → row_value s (cs ++ ds) (xs ++ ws) ≡ row_value (row_value s cs xs) ds ws
value-append s [] ds [] ws e = refl
value-append s [] ds (x ∷ xs) ws e = absurd (omega arith)
value-append s (c ∷ cs) ds [] ws e = absurd (omega arith)
value-append s (c ∷ cs) ds (x ∷ xs) ws e = value-append (add s (mul c x)) cs ds xs ws (omega arith)

-- where all coefficients are 0 the value stays as it is
pub value-noughts : (m : ℕ) (s : Number) (ws : PlainPoint) → row_value s (replicate m nought) ws ≡ s
value-noughts zero s ws = refl
value-noughts (suc m) s [] = refl
value-noughts (suc m) s (w ∷ ws) = ap (λ v. row_value v (replicate m nought) ws) (ap (λ v. add s v) (nought-mul w) ∙ add-nought s) ∙ value-noughts m s ws

-- ---- truths
-- the widened row holds exactly where the row holds at its own variables
pub widened-holds : (before after : ℕ) (r : PlainRow) (x y w : PlainPoint) → length x ≡ before → length r.coefs ≡ length y → holds_at (widened before after r) (x ++ y ++ w) ≡ holds_at r y
widened-holds before after r x y w lx ly =
    let zs : List Number = replicate before nought in
    let ends : List Number = replicate after nought in
    let lz : length zs ≡ length x = length-replicate before nought ∙ sym lx in
    let long : length (zs ++ r.coefs) ≡ length (x ++ y) = length-append zs r.coefs ∙ ap (λ m. m + length r.coefs) lz ∙ ap (λ m. length x + m) ly ∙ sym (length-append x y) in
    let e : row_value nought (zs ++ r.coefs ++ ends) (x ++ y ++ w) ≡ row_value nought r.coefs y =
    value-append nought (zs ++ r.coefs) ends (x ++ y) w long
    ∙ value-noughts after (row_value nought (zs ++ r.coefs) (x ++ y)) w
    ∙ value-append nought zs r.coefs x y lz
    ∙ ap (λ v. row_value v r.coefs y) (value-noughts before nought x) in
    ap (λ v. cond r.strict (lt v r.bound) (not (lt r.bound v))) e

-- so do the widened rows of a list
pub widened-piece : (before after n : ℕ) (rows : PlainPiece) (x y w : PlainPoint) → length x ≡ before → length y ≡ n → AllWide n rows
    → in_piece (map (widened before after) rows) (x ++ y ++ w) ≡ in_piece rows y
widened-piece before after n [] x y w lx ly wide = refl
widened-piece before after n (r ∷ rows) x y w lx ly wide =
    ap (λ b. b && in_piece (map (widened before after) rows) (x ++ y ++ w)) (widened-holds before after r x y w lx (wide.0 ∙ sym ly))
    ∙ ap (λ b. holds_at r y && b) (widened-piece before after n rows x y w lx ly wide.1)

-- ---- widths
-- the widened row has all coefficients
pub widened-length : (before after : ℕ) (r : PlainRow) → length (widened before after r).coefs ≡ before + length r.coefs + after
widened-length before after r =
    let zs : List Number = replicate before nought in
    let ends : List Number = replicate after nought in
    length-append (zs ++ r.coefs) ends ∙ ap (λ k. k + length ends) (length-append zs r.coefs) ∙ ap (λ k. k + length r.coefs + length ends) (length-replicate before nought)
    ∙ ap (λ k. before + length r.coefs + k) (length-replicate after nought)

-- so have those of a list
pub widened-wide : (before after n m : ℕ) (rows : PlainPiece) → m ≡ before + n + after → AllWide n rows → AllWide m (map (widened before after) rows)
widened-wide before after n m [] e w = tt
widened-wide before after n m (r ∷ rows) e w = (widened-length before after r ∙ ap (λ k. before + k + after) w.0 ∙ sym e, widened-wide before after n m rows e w.1)

-- ---- as a law
-- a widened row holds exactly where the row holds at its own variables, and has so many coefficients more
pub record WidenedLaws : Type 0 where
  pub holds : (before after : ℕ) (r : PlainRow) (x y w : PlainPoint) → length x ≡ before → length r.coefs ≡ length y → holds_at (widened before after r) (x ++ y ++ w) ≡ holds_at r y
  pub wide : (before after : ℕ) (r : PlainRow) → length (widened before after r).coefs ≡ before + length r.coefs + after

-- what was shown above
pub widened_laws : WidenedLaws
widened_laws = record { holds = widened-holds; wide = widened-length }
