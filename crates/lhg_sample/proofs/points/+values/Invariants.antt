use Rattle.lhg_sample.proofs.points.+values.Given as goal

abbrev pub decreases-values : goal.decreases-values
decreases-values l = l.sys.now.width
