use Rattle.lhg_num.specs.MarkedLaws.{and_then-rest, and_then-part, each-value, each-start, each-step, each-part, built-end, walk-append, walk-step, walk-part}
use Rattle.lhg_num.proofs.laws.law_marked.Goals as goal

pub returns : goal.returns
returns c = record {
  rest = and_then-rest;
  part = and_then-part;
  each_value = each-value;
  each_start = each-start;
  each_step = each-step;
  each_part = each-part;
  each_end = built-end;
  walk_append = walk-append;
  walk_step = walk-step;
  walk_part = walk-part;
}
