-- Runs of digits with a mark between them.
use Rattle.std.proofs.Common.{◌≡◌, ◌<◌, ℕ, List, [], ◌∷◌, ◌++◌, length, take, refl, sym, ap, ◌∙◌, Bool, true, false, arith, ◌&&◌, ◌||◌, ◌==◌, not, add-one, append-nil}
use Rattle.lhg_math.specs.Tests.{by_bool}
use Rattle.std.proofs.lemmas.Bool.{and_parts, true≢false}
use Rattle.std.proofs.lemmas.Bool.Decides.{nat_tests}
use Rattle.std.specs.List.{prefix_len, position_or_len}
use Rattle.std.proofs.Math.Bool.{and-false}
use Rattle.lhg_lex.specs.Word.{is_digit}
use Rattle.lhg_lex.specs.Digits.{all_digits, is_run}
use Rattle.lhg_lex.specs.Literal.{before, behind, is_parted, is_number, is_mark}
use Rattle.lhg_lex.proofs.Fronts.{suc_is}
use Rattle.std.proofs.lemmas.List.Folds.{list_all-append}

-- some digits are a run
pub run_from_digits : (w : List ℕ) → 0 < length w → all_digits w ≡ true → is_run w ≡ true
run_from_digits [] some h = absurd (omega arith)
run_from_digits (b ∷ w) some h = h

-- a run is of digits
pub digits_from_run : (w : List ℕ) → is_run w ≡ true → all_digits w ≡ true
digits_from_run [] h = refl
digits_from_run (b ∷ w) h = h

-- no run goes over a byte that is no digit
pub run_stops : (a : List ℕ) (c : ℕ) (r : List ℕ) → is_digit c ≡ false → is_run (a ++ (c ∷ r)) ≡ false
run_stops [] c r h = rw h refl
run_stops (b ∷ a) c r h = list_all-append is_digit (b ∷ a) (c ∷ r) ∙ rw h (and-false (all_digits (b ∷ a)))

-- a digit is no other byte
digit_apart : (d mark : ℕ) → is_digit d ≡ true → is_digit mark ≡ false → (d == mark) ≡ false
digit_apart d mark h k = by_bool (d == mark) (λ e. let s : d ≡ mark = grind (arith, nat_tests, e) in absurd (true≢false (sym h ∙ ap is_digit s ∙ k))) (λ e. e)

-- the mark stands behind the digits
before-run : (mark : ℕ) (a xs : List ℕ) → is_digit mark ≡ false → all_digits a ≡ true → before mark (a ++ xs) ≡ a ++ before mark xs
before-run mark [] xs h k = refl
before-run mark (d ∷ a) xs h k =
    let p = and_parts (is_digit d) (all_digits a) k in
    let e = digit_apart d mark p.0 h in
    rw (e, suc_is) (ap (λ z. d ∷ z) (before-run mark a xs h p.1))

-- and what is behind the mark
behind-run : (mark : ℕ) (a xs : List ℕ) → is_digit mark ≡ false → all_digits a ≡ true → behind mark (a ++ xs) ≡ behind mark xs
behind-run mark [] xs h k = refl
behind-run mark (d ∷ a) xs h k =
    let p = and_parts (is_digit d) (all_digits a) k in
    let e = digit_apart d mark p.0 h in
    rw (e, suc_is, add-one) (rw (add-one (position_or_len (λ b. b == mark) (a ++ xs))) at (behind-run mark a xs h p.1))

-- the parts where the mark follows the digits
pub parts_at : (mark : ℕ) (a : List ℕ) (c : ℕ) (r : List ℕ) → is_digit mark ≡ false → is_run a ≡ true → (c == mark) ≡ true → (before mark (a ++ (c ∷ r)) ≡ a) × (behind mark (a ++ (c ∷ r)) ≡ r)
parts_at mark a c r h k e =
    let d = digits_from_run a k in
    let p : before mark (c ∷ r) ≡ [] = rw e refl in
    let q : behind mark (c ∷ r) ≡ r = rw e refl in
    (before-run mark a (c ∷ r) h d ∙ ap (λ z. a ++ z) p ∙ append-nil a, behind-run mark a (c ∷ r) h d ∙ q)

-- no part where another byte follows them
off_mark : (mark : ℕ) (a : List ℕ) (c : ℕ) (r : List ℕ) → is_digit mark ≡ false → is_digit c ≡ false → is_run a ≡ true → (c == mark) ≡ false → is_run (before mark (a ++ (c ∷ r))) ≡ false
off_mark mark a c r h n k e =
    let d = digits_from_run a k in
    let p : before mark (c ∷ r) ≡ c ∷ take (prefix_len (λ x. not (x == mark)) r) r = rw (e, suc_is) refl in
    ap is_run (before-run mark a (c ∷ r) h d ∙ ap (λ z. a ++ z) p) ∙ run_stops a c _ n

-- digits, a byte that is no digit, and more: the parts are runs where that byte is the mark and a run follows
pub is_parted-at : (mark : ℕ) (a : List ℕ) (c : ℕ) (r : List ℕ) → is_digit mark ≡ false → is_digit c ≡ false → is_run a ≡ true → is_parted mark (a ++ (c ∷ r)) ≡ ((c == mark) && is_run r)
is_parted-at mark a c r h n k =
    by_bool (c == mark)
    (λ e. let p = parts_at mark a c r h k e in rw (e, p.0, p.1, k) refl)
    (λ e. let p = off_mark mark a c r h n k e in rw (e, p) refl)

-- either of two tests, with a third
spread : (x y z : Bool) → ((x && z) || (y && z)) ≡ ((x || y) && z)
spread true y true = refl
spread true true false = refl
spread true false false = refl
spread false y z = refl

-- so they are a number where a mark and a run follow
pub is_number-at : (a : List ℕ) (c : ℕ) (r : List ℕ) → is_digit c ≡ false → is_run a ≡ true → is_number (a ++ (c ∷ r)) ≡ (is_mark c && is_run r)
is_number-at a c r n k =
    let s = run_stops a c r n in
    let f = is_parted-at 47 a c r refl n k in
    let d = is_parted-at 46 a c r refl n k in
    rw (s, f, d) (spread (c == 47) (c == 46) (is_run r))

-- a run is a number
pub is_number-run : (a : List ℕ) → is_run a ≡ true → is_number a ≡ true
is_number-run a h = rw h refl
