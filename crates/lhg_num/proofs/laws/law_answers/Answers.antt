use Rattle.std.specs.Prelude.{◌≡◌}
use Rattle.lhg_num.specs.AnswerLaws.{halts_for_more, rest_halts_for, exact_for, memory_halts_for, rest_answers}
use Rattle.lhg_num.proofs.laws.law_answers.Goals as goal

pub returns : goal.returns
returns c = record {
  more = λ may more r m f. halts_for_more may more r m f;
  rest = λ may r whole rest f. rest_halts_for may r whole rest f;
  exact = λ may r m f q. exact_for may r m f (λ y. y ≡ q);
  memory = λ may r part f whole h. memory_halts_for may r part f whole h;
  refused = λ r whole rest f. rest_answers r whole rest f;
}
