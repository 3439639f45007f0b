use Rattle.std.specs.Prelude.{◌≡◌, true}
use Rattle.lhg_math.specs.ListFacts.{drop_cons, written_over, all-map, all_there}
use Rattle.lhg_math.proofs.law_lists.Goals as goal

pub returns : goal.returns
returns c = record {
  from_place = drop_cons;
  written = written_over;
  weaker = λ f g. all-map (λ x. f x ≡ true) (λ x. g x ≡ true);
  there = λ f. all_there (λ x. f x ≡ true);
}
