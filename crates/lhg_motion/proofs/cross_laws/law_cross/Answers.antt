use Rattle.lhg_motion.specs.CrossLaws.{to_middle, from_middle, cross-exact}
use Rattle.lhg_motion.specs.SegmentLemmas.{along_same}
use Rattle.lhg_motion.proofs.cross_laws.law_cross.Goals as goal

pub returns : goal.returns
returns c = record {
  exact = cross-exact;
  middle = λ s t i f x. (to_middle s t i f x, from_middle s t i f x);
  rest = along_same;
}
