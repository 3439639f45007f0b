use Rattle.std.proofs.Common.{sym}
use Rattle.lhg_row.specs.EliminateLaws.{eliminate-exact}
use Rattle.lhg_row.specs.WidthLaws.{eliminate-wide, eliminate-tidy}
use Rattle.lhg_row.specs.NothingLaws.{eliminate-eliminated}
use Rattle.lhg_row.specs.EmptyLaws.{is_empty-exact}
use Rattle.lhg_row.proofs.calculus_laws.law_eliminate.Goals as goal
use Rattle.lhg_row.specs.LastLaws.{eliminate_last-exact}

pub returns-clause-eliminate : goal.returns-clause-eliminate
returns-clause-eliminate c = record {
  exact = λ a k n rows laws h w x e. eliminate-exact a k n rows x laws h (sym e) w;
  wide = eliminate-wide;
  tidy = eliminate-tidy;
  last = λ a kept count n rows laws e w x l. eliminate_last-exact a kept count n rows x laws e w l;
  nothing = eliminate-eliminated;
}

pub returns-clause-is_empty : goal.returns-clause-is_empty
returns-clause-is_empty c = is_empty-exact
