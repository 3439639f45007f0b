-- Where do rows without a variable hold, and what does 0 < 0 look like?
use Rattle.std.specs.Prelude.{◌≡◌, ℕ, zero, suc, Bool, true, false, not, cond, ◌&&◌, List, [], ◌∷◌, length, replicate, filter, remove, ◌<◌}
use Rattle.std.proofs.Common.{refl, sym, ap, ◌∙◌, arith}
use Rattle.std.proofs.Math.Bool.{and-false}
use Rattle.std.proofs.lemmas.Bool.{and_parts, or_parts, not-true}
use Rattle.lhg_math.specs.Number.{Number, lt, nought}
use Rattle.lhg_math.specs.NumberOrder.{lt_irrefl}
use Rattle.lhg_math.specs.Signs.{is_nought, lead}
use Rattle.lhg_math.specs.SignLaws.{nought_is, is_nought-nought}
use Rattle.lhg_math.specs.Tests.{Every, any_of, by_bool, false_true}
use Rattle.lhg_row.specs.Row.{PlainRow, PlainPoint, holds_at}
use Rattle.lhg_row.specs.Piece.{PlainPiece, in_piece}
use Rattle.lhg_row.specs.Column.{drop_column}
use Rattle.lhg_row.specs.Constant.{is_constant, varies, stands_alone, is_true, is_false, never, is_never, is_nothing}
use Rattle.lhg_row.specs.ValueLaws.{no_value}

-- ---- rows
-- a row without a variable holds at a point exactly where it stands alone
pub constant-holds : (r : PlainRow) (x : PlainPoint) → is_constant r ≡ true → holds_at r x ≡ stands_alone r
constant-holds r x h = ap (λ w. cond r.strict (lt w r.bound) (not (lt r.bound w))) (no_value nought r.coefs x h)

-- a true row holds everywhere
pub true-holds : (r : PlainRow) (x : PlainPoint) → is_true r ≡ true → holds_at r x ≡ true
true-holds r x h = let s = and_parts (is_constant r) (stands_alone r) h in constant-holds r x s.0 ∙ s.1

-- a false row holds nowhere
pub false-holds : (r : PlainRow) (x : PlainPoint) → is_false r ≡ true → holds_at r x ≡ false
false-holds r x h = let s = and_parts (is_constant r) (not (stands_alone r)) h in constant-holds r x s.0 ∙ not-true (stands_alone r) s.1

-- a row that is neither true nor false has a variable
pub other-varies : (r : PlainRow) → is_true r ≡ false → is_false r ≡ false → varies r ≡ true
other-varies r h k =
    by_bool (is_constant r)
    (λ e. by_bool (stands_alone r) (λ f. false_true (sym (sym (rw (e, f) refl) ∙ h))) (λ f. false_true (sym (sym (rw (e, f) refl) ∙ k))))
    (λ e. rw e refl)

-- ---- 0 < 0
-- numbers that are all 0 have no other one
pub noughts-lead : (n : ℕ) → is_nought (lead (replicate n nought)) ≡ true
noughts-lead zero = is_nought-nought
noughts-lead (suc n) = rw is_nought-nought (noughts-lead n)

-- numbers without one that is not 0 are all 0
pub lead-noughts : (cs : List Number) → is_nought (lead cs) ≡ true → cs ≡ replicate (length cs) nought
lead-noughts [] h = refl
lead-noughts (c ∷ cs) h =
    by_bool (is_nought c)
    (λ e. let t : is_nought (lead cs) ≡ true = rw e at h in ap (λ y. y ∷ cs) (nought_is c e) ∙ ap (λ ys. nought ∷ ys) (lead-noughts cs t))
    (λ e. let t : is_nought c ≡ true = rw e at h in false_true (sym e ∙ t))

-- 0 < 0 is false
pub never-false : (n : ℕ) → is_false (never n) ≡ true
never-false n = rw (noughts-lead n, lt_irrefl nought) refl

-- 0 < 0 holds nowhere
pub never-holds : (n : ℕ) (x : PlainPoint) → holds_at (never n) x ≡ false
never-holds n x = false-holds (never n) x (never-false n)

-- 0 < 0 is found by its test
pub never-never : (n : ℕ) → is_never (never n) ≡ true
never-never n = rw (noughts-lead n, is_nought-nought) refl

-- the row that the test finds is 0 < 0
pub is_never-is : (r : PlainRow) → is_never r ≡ true → r ≡ never (length r.coefs)
is_never-is r h =
    let s = and_parts (is_constant r) (r.strict && is_nought r.bound) h in
    let t = and_parts r.strict (is_nought r.bound) s.1 in
    let row = λ (cs : List Number) (k : Bool) (b : Number). let q : PlainRow = record { coefs = cs; strict = k; bound = b } in q in
    ap (λ cs. row cs r.strict r.bound) (lead-noughts r.coefs s.0) ∙ ap (λ k. row (replicate (length r.coefs) nought) k r.bound) t.0
    ∙ ap (λ b. row (replicate (length r.coefs) nought) true b) (nought_is r.bound t.1)

-- one 0 less among zeros
remove-replicate : (k m : ℕ) → k < suc m → remove (replicate (suc m) nought) k ≡ replicate m nought
remove-replicate zero m h = refl
remove-replicate (suc k) zero h = absurd (omega arith)
remove-replicate (suc k) (suc m) h = ap (λ ys. nought ∷ ys) (remove-replicate k m (omega arith))

-- 0 < 0 stays 0 < 0 over one variable less
pub never-dropped : (k m : ℕ) → k < suc m → drop_column k (never (suc m)) ≡ never m
never-dropped k m h = ap (λ cs. built cs) (remove-replicate k m h)
  where
    built : List Number → PlainRow
    built cs = record { coefs = cs; strict = true; bound = nought }

-- ---- lists
-- the one row 0 < 0 holds nowhere
pub nothing-fails : (rows : PlainPiece) (x : PlainPoint) → is_nothing rows ≡ true → in_piece rows x ≡ false
nothing-fails [] x h = false_true h
nothing-fails (r ∷ []) x h = let e = is_never-is r h in ap (λ q. holds_at q x && true) e ∙ ap (λ b. b && true) (never-holds (length r.coefs) x)
nothing-fails (r ∷ s ∷ rows) x h = false_true h

-- a list with a false row holds nowhere
pub false-fails : (rows : PlainPiece) (x : PlainPoint) → any_of is_false rows ≡ true → in_piece rows x ≡ false
false-fails [] x h = false_true h
false-fails (r ∷ rows) x h =
    by_bool (is_false r)
    (λ e. rw (false-holds r x e) refl)
    (λ e. let t : any_of is_false rows ≡ true = rw e at h in rw (false-fails rows x t) (and-false (holds_at r x)))

-- a list keeps its points without its true rows
pub filter-holds : (rows : PlainPiece) (x : PlainPoint) → in_piece (filter (λ s. not (is_true s)) rows) x ≡ in_piece rows x
filter-holds [] x = refl
filter-holds (r ∷ rows) x =
    by_bool (is_true r) (λ e. rw (e, true-holds r x e) (filter-holds rows x)) (λ e. rw e (ap (λ b. holds_at r x && b) (filter-holds rows x)))

-- without a false row and without its true rows, each row of a list has a variable
pub filter-varies : (rows : PlainPiece) → any_of is_false rows ≡ false → Every varies (filter (λ s. not (is_true s)) rows)
filter-varies [] h = tt
filter-varies (r ∷ rows) h =
    let s = or_parts (is_false r) (any_of is_false rows) h in
    by_bool (is_true r) (λ e. rw e (filter-varies rows s.1)) (λ e. rw e (other-varies r e s.0, filter-varies rows s.1))
