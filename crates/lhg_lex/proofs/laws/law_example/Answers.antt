use Rattle.std.proofs.Common.{◌≡◌, ◌<◌, ℕ, refl, arith, sym, ◌∙◌}
use Rattle.std.specs.Prelude.{pos, ◌*ℤ◌}
use Rattle.lhg_math.specs.Number.{quot, whole}
use Rattle.lhg_math.specs.Represents.{rep_eq, rep_ratio}
use Rattle.lhg_math.specs.Inverses.{quot-whole}
use Rattle.lhg_lex.specs.Longest.{longest}
use Rattle.lhg_lex.specs.LineTokens.{tokens_of}
use Rattle.lhg_lex.proofs.laws.law_example.Goals as goal

pub returns-clause-lines : goal.returns-clause-lines
returns-clause-lines c = record { empty = refl; ended = refl; unended = refl; blank = refl }

pub returns-clause-tokens : goal.returns-clause-tokens
unfolding longest tokens_of
returns-clause-tokens c = record {
  row = refl;
  signs = refl;
  adjacent = refl;
  returned = refl;
  twice = refl;
  inside = refl;
  comment = refl;
  mark = refl;
}

-- quotients that are equal by cross multiplication are equal
same_quotient : (n d m e : ℕ) → 0 < d → 0 < e → pos n *ℤ pos e ≡ pos m *ℤ pos d → quot (whole (pos n)) (whole (pos d)) ≡ quot (whole (pos m)) (whole (pos e))
same_quotient n d m e h k c = quot-whole (pos n) (pos d) h ∙ rep_eq (rep_ratio (pos n) d h) (rep_ratio (pos m) e k) c ∙ sym (quot-whole (pos m) (pos e) k)

pub returns-clause-numbers : goal.returns-clause-numbers
unfolding longest tokens_of
returns-clause-numbers c = record {
  bare = refl;
  none = refl;
  point = refl;
  slash = refl;
  points = refl;
  long = refl;
  below = refl;
  digits = refl;
  zero = refl;
  long_zero = refl;
  leading = refl;
  largest = refl;
  fraction = refl;
  decimal = refl;
  lowest = (same_quotient 2 8 1 4 (omega arith) (omega arith) refl, same_quotient 25 100 1 4 (omega arith) (omega arith) refl);
}
