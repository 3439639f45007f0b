use Rattle.std.proofs.Common.{◌≡◌, ◌++◌, drop}
use Rattle.lhg_row_text.specs.RowText.{jump_names, next_rows}
use Rattle.lhg_row_text.specs.Short.{AllShort}
use Rattle.lhg_row_text.proofs.rows.push_next_rows.Given as goal

abbrev pub invariant-loop-i : goal.invariant-loop-i
invariant-loop-i l = record {
  text : l.text.items ++ next_rows (jump_names l.vars) (drop l.i l.rows) ≡ l.fn.text.items ++ next_rows (jump_names l.vars) l.rows;
  short : AllShort (drop l.i l.rows) → AllShort l.rows;
}
