-- A text has no more lines than bytes.
use Rattle.std.proofs.Common.{◌≤◌, ◌+◌, ℕ, List, [], ◌∷◌, length, Bool, true, false, cond, arith}
use Rattle.std.specs.Prelude.{count_by}
use Rattle.std.proofs.lemmas.List.Sums.{sum_by-cons}
use Rattle.lhg_lex.specs.Lines.{lines_of}
use Rattle.lhg_lex.specs.Laws.{open_end}
use Rattle.lhg_lex.proofs.TextLines.{is_feed}
use Rattle.lhg_lex.proofs.TextLawProofs.{text_laws}

at_most : (b : Bool) → cond b 1 0 ≤ 1
at_most true = omega arith
at_most false = omega arith

one : (b : Bool) → cond b 1 0 + 0 + cond b 0 1 ≤ 1
one true = omega arith
one false = omega arith

-- each line feed is a byte, and so is an end without one
feeds : (bytes : List ℕ) → count_by is_feed bytes + open_end bytes ≤ length bytes
feeds [] = omega arith
feeds (b ∷ []) = let k = sum_by-cons (λ c. cond (is_feed c) 1 0) b [] in let o = one (is_feed b) in omega (arith, k, o)
feeds (b ∷ c ∷ bytes) =
    let k = sum_by-cons (λ c. cond (is_feed c) 1 0) b (c ∷ bytes) in
    let h = feeds (c ∷ bytes) in
    let o = at_most (is_feed b) in
    omega (arith, k, h, o)

-- so there are no more lines than bytes
pub lines_count : (bytes : List ℕ) → length (lines_of bytes) ≤ length bytes
lines_count bytes = let c = text_laws.count bytes in let f = feeds bytes in omega (arith, c, f)
