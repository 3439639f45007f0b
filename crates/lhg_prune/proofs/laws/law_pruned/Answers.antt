use Rattle.lhg_prune.specs.ThinLaws.{thin-filter}
use Rattle.lhg_prune.specs.Pruned.{chosen-pruning}
use Rattle.lhg_prune.specs.PrunedAlike.{left_alike}
use Rattle.lhg_prune.proofs.laws.law_pruned.Goals as goal

pub returns : goal.returns
returns c = record { enough = λ a n rows keeps laws w e. thin-filter a n laws rows keeps e w; pruning = chosen-pruning; piece = left_alike }
