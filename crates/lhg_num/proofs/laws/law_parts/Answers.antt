use Rattle.lhg_num.specs.PartLaws.{rest_is_part, done-part, rest_step, then-then, then-part, valued_part, length-each, walk-append_part, walk-stays}
use Rattle.lhg_num.proofs.laws.law_parts.Goals as goal

pub returns : goal.returns
returns c = record {
  rest = rest_is_part;
  nothing = done-part;
  step = rest_step;
  steps = then-then;
  beside = then-part;
  with_values = valued_part;
  many = length-each;
  walked = walk-append_part;
  stays = walk-stays;
}
