use Rattle.lhg_row.specs.TrimmedLaws.{trimmed-settled}
use Rattle.lhg_row.specs.Eliminate.{eliminate_last}
use Rattle.lhg_elim.specs.AlikeTrim.{trim-alike}
use Rattle.lhg_elim.specs.AlikeEliminate.{nothing-alike, eliminate-alike, eliminate_last-alike}
use Rattle.lhg_elim.specs.RowCounts.{eliminate-counts, eliminate_last-counts}
use Rattle.lhg_elim.specs.SystemLaws.{eliminate-system, eliminate_last-system}
use Rattle.lhg_elim.specs.TurnedLaws.{turned-back}
use Rattle.lhg_elim.proofs.laws.law_whole_rows.Goals as goal

pub returns : goal.returns
returns c = record {
  trimmed = trim-alike;
  eliminated = eliminate-alike;
  last_eliminated = eliminate_last-alike;
  emptiness = λ a w n laws lawful rs ss h. nothing-alike a w (eliminate_last a 0 n rs).value (eliminate_last w 0 n ss).value (eliminate_last-alike a w 0 n laws lawful rs ss h);
  long = eliminate-counts;
  last_long = eliminate_last-counts;
  system = eliminate-system;
  last_system = eliminate_last-system;
  back = λ a qs ss rs laws i h t. turned-back a laws qs ss rs (trimmed-settled a qs laws i) h t;
}
