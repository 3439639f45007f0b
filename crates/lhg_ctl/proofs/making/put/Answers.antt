use Rattle.std.proofs.Common.{◌≡◌, subst}
use Rattle.std.specs.Prelude.{IfSome}
use Rattle.lhg_ctl.proofs.MakingSteps.{put_as, over_added}
use Rattle.lhg_ctl.proofs.making.put.Goals as goal

pub returns-in-Some-clause-calculus : goal.returns-in-Some-clause-calculus
returns-in-Some-clause-calculus c =
    rw c.in-Some.is (put_as c.add.result c.args.lists.now.pieces.items c.add.new.self.pieces.items c.args.place c.in-Some.piece c.add.ensures.calculus c.add.ensures.ok)

pub returns-in-Some-clause-vars : goal.returns-in-Some-clause-vars
returns-in-Some-clause-vars c = λ n all w.
    over_added c.add.result c.args.lists.now.pieces.items c.add.new.self.pieces.items c.args.place c.in-Some.piece c.add.ensures.ok n all (subst (λ o. IfSome o (λ p. p.width ≡ n)) c.in-Some.is w)
