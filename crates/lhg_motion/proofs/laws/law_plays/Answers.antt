use Rattle.lhg_motion.specs.PlayLemmas.{earlier_none, earlier_one, one_earlier, earlier_more, more_first, more_rest, play_ends}
use Rattle.lhg_motion.specs.Laws.{Passes}
use Rattle.lhg_motion.proofs.laws.law_plays.Goals as goal

pub returns : goal.returns
returns c = record {
  none = λ f. earlier_none (Passes f);
  one = λ f x m. (one_earlier (Passes f) x m, earlier_one (Passes f) x m);
  more = λ f x m n ms. (λ h. (more_first (Passes f) x m n ms h, more_rest (Passes f) x m n ms h), λ h. earlier_more (Passes f) x m n ms h.0 h.1);
  ends = play_ends;
}
