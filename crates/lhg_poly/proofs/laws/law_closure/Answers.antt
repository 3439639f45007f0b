use Rattle.lhg_motion.specs.Convex.{piece_between, piece_towards, piece_ends}
use Rattle.lhg_poly.proofs.laws.law_closure.Goals as goal

pub returns-clause-relaxed : goal.returns-clause-relaxed
returns-clause-relaxed c = λ p x y e h. (λ k u i. piece_towards p x y u e h k i, λ k. (piece_ends p x y e k).1)

pub returns-clause-between : goal.returns-clause-between
returns-clause-between c = piece_between
