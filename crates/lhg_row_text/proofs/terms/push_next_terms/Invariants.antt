use Rattle.std.proofs.Common.{◌≡◌, ◌++◌, drop, map}
use Rattle.lhg_math.specs.Tests.{AllOf}
use Rattle.lhg_row_text.specs.RowText.{jump_names, next_terms, turned}
use Rattle.lhg_row_text.specs.Short.{IsShort}
use Rattle.lhg_row_text.proofs.terms.push_next_terms.Given as goal

abbrev pub invariant-loop-i : goal.invariant-loop-i
invariant-loop-i l = record {
  text : l.text.items ++ next_terms (drop l.i (jump_names l.vars)) (map (turned l.flip) (drop l.i l.coefs)) ≡ l.fn.text.items ++ next_terms (drop l.from (jump_names l.vars)) (map (turned l.flip) (drop l.from l.coefs));
  short : AllOf IsShort (drop l.i l.coefs) → AllOf IsShort (drop l.from l.coefs);
}
