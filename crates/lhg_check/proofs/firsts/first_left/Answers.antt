use Rattle.lhg_check.proofs.firsts.first_left.Goals as goal

pub returns-clause-vars : goal.returns-clause-vars
returns-clause-vars c = λ n u v. c.first_of.ensures.vars n (c.in_ok-left.ensures.vars n u v)
