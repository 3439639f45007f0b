use Rattle.lhg_row_text.specs.TextExamples.{row_examples}
use Rattle.lhg_row_text.proofs.laws.law_texts.Goals as goal

pub returns : goal.returns
returns c = row_examples
