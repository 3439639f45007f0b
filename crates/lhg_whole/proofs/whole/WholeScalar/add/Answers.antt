use Rattle.lhg_math.specs.Number.{add, whole}
use Rattle.lhg_whole.proofs.Formed.{IsResult, formed_some, formed_none}
use Rattle.lhg_whole.proofs.Steps.{sum_is}
use Rattle.lhg_whole.proofs.whole.WholeScalar.add.Goals as goal

pub returns-in-Some : goal.returns-in-Some
returns-in-Some c =
    let r : IsResult (add (whole c.args.self.now) (whole c.args.other.now)) c.in-Some.value = formed_some _ c.in-Some.value _ (sum_is c.self.inside c.other.inside c.self.invariant c.other.invariant c.args.self.now c.args.other.now c.self.view_is c.other.view_is) c.in-Some.ensures in
    (r.kept, r.same)

pub returns-in-None : goal.returns-in-None
returns-in-None c = formed_none _ _ (sum_is c.self.inside c.other.inside c.self.invariant c.other.invariant c.args.self.now c.args.other.now c.self.view_is c.other.view_is) c.in-None.ensures
