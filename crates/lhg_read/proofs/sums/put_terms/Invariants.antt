use Rattle.std.proofs.Common.{◌≡◌, ◌≤◌, ◌-◌, length, map, drop}
use Rattle.lhg_lex.specs.TextTokens.{plain_of}
use Rattle.lhg_read.specs.Cut.{cut}
use Rattle.lhg_read.specs.Signs.{is_plus_or_minus}
use Rattle.lhg_read.specs.Term.{width}
use Rattle.lhg_read.specs.Sum.{sum_of, terms_from}
use Rattle.lhg_read.specs.Collect.{with_turned, collected}
use Rattle.lhg_read.proofs.sums.put_terms.Given as goal

abbrev pub invariant-loop-term : goal.invariant-loop-term
invariant-loop-term l = record {
  within : l.at ≤ length l.tokens;
  wide : length l.sum.coefs.items ≡ width l.form l.vars;
  left : with_turned l.turned (collected l.initial.sum) (sum_of l.form l.vars (map (plain_of l.lines.bytes) l.tokens))
      ≡ with_turned l.turned (collected l.sum) (terms_from l.form l.vars l.minus (cut is_plus_or_minus (map (plain_of l.lines.bytes) (drop l.at l.tokens))));
}

abbrev pub decreases-loop-term : goal.decreases-loop-term
decreases-loop-term l = length l.tokens - l.at
