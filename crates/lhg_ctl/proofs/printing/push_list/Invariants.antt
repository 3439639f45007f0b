use Rattle.std.proofs.Common.{◌≡◌, ◌++◌, drop, map, length}
use Rattle.std.specs.List.{flat_map}
use Rattle.lhg_math.specs.Tests.{AllOf}
use Rattle.lhg_union.specs.PolyLists.{lines_of}
use Rattle.lhg_row_text.specs.PrintedLine.{line}
use Rattle.lhg_ctl.specs.NamedLines.{named_line}
use Rattle.lhg_ctl.specs.Written.{IsWritten}
use Rattle.lhg_ctl.proofs.printing.push_list.Given as goal

abbrev pub invariant-loop-i : goal.invariant-loop-i
invariant-loop-i l = record {
  text : l.text.items ++ flat_map line (map (named_line l.word l.name l.vars) (lines_of (drop l.i l.pieces))) ≡ l.fn.text.items ++ flat_map line (map (named_line l.word l.name l.vars) (lines_of l.pieces));
  written : AllOf (IsWritten (length l.vars)) (lines_of (drop l.i l.pieces)) → AllOf (IsWritten (length l.vars)) (lines_of l.pieces);
}
