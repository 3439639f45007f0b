-- Behind the last part of a text the next line that is not blank is the first that cannot stand.
use Rattle.std.proofs.Common.{◌≡◌, ◌+◌, ◌-◌, inl, ℕ, List, [], ◌∷◌, ◌++◌, length, take, refl, sym, ap, ◌∙◌, subst, Result, Ok, Err, arith, append_assoc, append-nil, length-append, take_at}
use Rattle.lhg_lex.specs.FirstBad.{IsFirstBad}
use Rattle.lhg_lex.specs.LineTokens.{Spot, Fault, tokens_of, IsBlankLine}
use Rattle.lhg_lex.specs.Reading.{Reading, left_of, IsNext, IsTokenLine, IsStop}
use Rattle.lhg_lex.specs.declared.stops.What.{What}
use Rattle.lhg_lex.specs.declared.stops.What.TheVariants.{NotHere}
use Rattle.lhg_lex.specs.declared.stops.ReadStop.{ReadStop}
use Rattle.lhg_lex.specs.declared.stops.ReadStop.TheVariants.{Bad, Memory}
use Rattle.lhg_lex.specs.declared.tokens.Line.{Line}
use Rattle.lhg_read.specs.Rest.{AreBlank, IsSurplus, HasSurplus}
use Rattle.lhg_read.specs.TokenText.{fault_in}
use Rattle.lhg_read.specs.TokenLineLaws.{has_tokens}

-- a line among blank lines is blank
blank_at : (before : List (List ℕ)) (line : List ℕ) (behind : List (List ℕ)) → AreBlank (before ++ line ∷ behind) → IsBlankLine line
blank_at [] line behind h = h.0
blank_at (x ∷ before) line behind h = blank_at before line behind h.1

-- the next line that is not blank
first_surplus : (s : Reading) (n : ℕ) (line : List ℕ) (h : IsNext s n line) → ¬ IsBlankLine line → IsFirstBad AreBlank (left_of s) (n + 1 - s.read)
first_surplus s n line h some =
    let rest = left_of (record s { read = n + 1 }) in
    let count = h.count in
    let place : n + 1 - s.read - 1 ≡ length h.blanks = omega (arith, count) in
    let past : length (h.blanks ++ line ∷ []) ≡ n + 1 - s.read = let k = length-append h.blanks (line ∷ []) in omega (arith, count, k) in
    let long : length (left_of s) ≡ length h.blanks + length (line ∷ rest) = ap length h.left ∙ length-append h.blanks (line ∷ rest) in
    record {
      counted = omega (arith, count);
      before = (
        [],
        subst (λ ls. AreBlank ls) (sym (append-nil (take (n + 1 - s.read - 1) (left_of s)) ∙ ap (λ k. take k (left_of s)) place ∙ ap (take (length h.blanks)) h.left ∙ take_at h.blanks (line ∷ rest) (length h.blanks) refl)) h.blank,
      );
      bad = inl (
        omega (arith, count, long),
        λ c.
            let cut : take (n + 1 - s.read) (left_of s) ≡ h.blanks ++ line ∷ [] =
            ap (take (n + 1 - s.read)) (h.left ∙ sym (append_assoc h.blanks (line ∷ []) rest)) ∙ take_at (h.blanks ++ line ∷ []) rest (n + 1 - s.read) past in
            some (blank_at h.blanks line c.0 (subst (λ ls. AreBlank ls) (ap (λ ls. ls ++ c.0) cut ∙ append_assoc h.blanks (line ∷ []) c.0) c.1)),
      );
    }

surplus : (s : Reading) (n : ℕ) (bytes : List ℕ) → IsNext s n bytes → ¬ IsBlankLine bytes → (line column : ℕ) (what : What) → line ≡ n + 1 → fault_in (tokens_of bytes) ≡ record { column = column; what = what } → IsSurplus s line column what
surplus s n bytes h some line column what counted fault = record {
  before = n;
  bytes = bytes;
  next = h;
  counted = counted;
  not_blank = some;
  first = subst (λ k. IsFirstBad AreBlank (left_of s) (k - s.read)) (sym counted) (first_surplus s n bytes h some);
  fault = fault;
}

-- a line with tokens
pub line_left : (s : Reading) (line : Line) → IsTokenLine s line → IsSurplus s line.number 0 NotHere
line_left s line h = surplus s h.before h.bytes h.next (has_tokens h.bytes h.spots h.reads h.some) line.number 0 NotHere h.counted (ap fault_in h.reads)

-- a line with a token error is not blank
no_fault : (line : List ℕ) (fault : Fault) → tokens_of line ≡ Err fault → ¬ IsBlankLine line
no_fault line fault e b = clash (sym e ∙ b.none)
  where
    clash : (let a : Result (List Spot) Fault = Err fault in a ≡ Ok []) → ⊥
    clash e = absurd cc

-- a line with a token error, or want of memory
pub stop_left : (s : Reading) (stop : ReadStop) → IsStop s stop → HasSurplus s stop
stop_left s Memory h = tt
stop_left s (Bad line column what) h = surplus s h.before h.bytes h.next (no_fault h.bytes _ h.faulty) line column what h.counted (ap fault_in h.faulty)
