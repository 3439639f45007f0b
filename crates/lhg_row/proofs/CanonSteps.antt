-- The entries of a row after its type's rule was applied to them as a slice.
use Rattle.std.proofs.Common.{◌≡◌, ℕ, List, [], ◌∷◌, ◌++◌, length, map, take, drop, true, sym, ap, ◌∙◌, arith}
use Rattle.std.proofs.lemmas.Grind.{common_steps}
use Rattle.std.proofs.lemmas.List.{map_push}
use Rattle.lhg_math.specs.Number.{Number}
use Rattle.lhg_num.specs.Arithmetic.{Arithmetic, scaled, scaled-held, held_row}
use Rattle.lhg_math.specs.ListFacts.{written_over}

-- the entries are then those of the calculus
pub scaled_entries : {N : Type 0} (a : Arithmetic) (m : N → Number) → ((x : N) → a.holds (m x) ≡ true) → (n : ℕ) (coefs before now after : List N) (bound : N)
    → before ≡ coefs ++ bound ∷ [] → now ≡ before → n ≡ length before → length after ≡ length now → map m after ≡ a.canon_of (map m now)
    → map m (take n (after ++ drop (length after) before)) ≡ scaled a (map m coefs ++ m bound ∷ [])
scaled_entries a m held n coefs before now after bound p s l k e =
    let es = map m coefs ++ m bound ∷ [] in
    let same : map m now ≡ es = ap (map m) (s ∙ p) ∙ map_push m coefs bound in
    ap (map m) (written_over n after before l (k ∙ ap length s)) ∙ e ∙ sym (scaled-held a (map m now) (held_row a m held now)) ∙ ap (scaled a) same
