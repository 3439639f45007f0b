use Rattle.lhg_motion.specs.CheckLemmas.{neighbours_truth}
use Rattle.lhg_motion.specs.Enclose.{enclose}
use Rattle.lhg_motion.specs.CheckPlaces.{check_is_place, check_places}
use Rattle.lhg_motion.proofs.laws.law_check_points.Goals as goal

pub returns-clause-between : goal.returns-clause-between
returns-clause-between c = record { enclosed = enclose; truth = neighbours_truth; place = check_is_place }

pub returns-clause-finite : goal.returns-clause-finite
returns-clause-finite c = check_places
