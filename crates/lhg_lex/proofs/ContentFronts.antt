-- The bytes of a line that count are a front of the line.
use Rattle.std.proofs.Common.{◌≡◌, ◌<◌, ◌≤◌, ◌-◌, ℕ, suc, List, [], ◌∷◌, ◌++◌, length, take, drop, refl, sym, ap, ◌∙◌, Bool, true, false, arith, get_or, ◌==◌, append_assoc, eq-eqb, ne_eqb}
use Rattle.lhg_math.specs.Tests.{by_bool}
use Rattle.std.specs.List.{before_first, position_or_len}
use Rattle.std.proofs.lemmas.List.{take-append-drop}
use Rattle.lhg_lex.specs.LineTokens.{content_of, without_return}

-- one less than two more
back_one : (n : ℕ) → suc (suc n) - 1 ≡ suc n
back_one n = omega arith

-- a carriage return at the end is dropped
pub return_dropped : (line : List ℕ) → 0 < length line → get_or line (length line - 1) 0 ≡ 13 → take (length line - 1) line ≡ without_return line
return_dropped [] some h = absurd (omega arith)
return_dropped (b ∷ []) some h = let t : (b == 13) ≡ true = eq-eqb b 13 h in rw t refl
return_dropped (b ∷ c ∷ line) some h =
    let e = back_one (length line) in
    let p : length (c ∷ line) - 1 ≡ length line = omega arith in
    let k : get_or (c ∷ line) (length (c ∷ line) - 1) 0 ≡ 13 = rw p (rw e at h) in
    let ih : take (length (c ∷ line) - 1) (c ∷ line) ≡ without_return (c ∷ line) = return_dropped (c ∷ line) (omega arith) k in
    rw e (ap (λ w. b ∷ w) (rw p at ih))

-- where another byte stands at the end, the line stays
pub no_return : (line : List ℕ) → (get_or line (length line - 1) 0 ≡ 13 → ⊥) → line ≡ without_return line
no_return [] h = refl
no_return (b ∷ []) h = let t : (b == 13) ≡ false = ne_eqb b 13 h in rw t refl
no_return (b ∷ c ∷ line) h =
    let e = back_one (length line) in
    let p : length (c ∷ line) - 1 ≡ length line = omega arith in
    ap (λ w. b ∷ w) (no_return (c ∷ line) (λ k. h (rw e (rw p at k))))

-- a line of no bytes stays
pub empty_kept : (line : List ℕ) → length line ≤ 0 → line ≡ without_return line
empty_kept [] h = refl
empty_kept (b ∷ line) h = absurd (omega arith)

-- a line without the return is a front of it
without_front : (line : List ℕ) → (more : List ℕ) × (line ≡ without_return line ++ more)
without_front [] = ([], refl)
without_front (b ∷ []) = by_bool (b == 13) (λ e. (b ∷ [], rw e refl)) (λ e. ([], rw e refl))
without_front (b ∷ c ∷ line) = let p = without_front (c ∷ line) in (p.0, ap (λ w. b ∷ w) p.1)

-- what stands before the first byte that passes is a front
pub before_front : (p : ℕ → Bool) (line : List ℕ) → line ≡ before_first p line ++ drop (position_or_len p line) line
before_front p line = sym (take-append-drop (position_or_len p line) line)

-- what counts stands first in the line
pub content_front : (line : List ℕ) → (more : List ℕ) × (line ≡ content_of line ++ more)
content_front line =
    let p = without_front line in
    let w = without_return line in
    let q = before_front (λ b. b == 35) w in
    (drop (position_or_len (λ b. b == 35) w) w ++ p.0, p.1 ∙ ap (λ z. z ++ p.0) q ∙ append_assoc (content_of line) (drop (position_or_len (λ b. b == 35) w) w) p.0)
