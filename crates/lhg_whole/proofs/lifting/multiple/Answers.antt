use Rattle.lhg_whole.proofs.Formed.{formed_none}
use Rattle.lhg_whole.proofs.LiftSteps.{formed_product, kept_whole}
use Rattle.lhg_whole.proofs.lifting.multiple.Goals as goal

pub returns-in-Some : goal.returns-in-Some
returns-in-Some c =
    kept_whole _ c.in-Some.n _ c.new.result
    (formed_product c.args.entry.now c.args.factor c.unsigned_abs.result c.numer.result c.denom.result c.requires.common c.requires.small (record { sfits = c.numer.type_inv }) c.numer.ensures.value (record { sfits = c.denom.type_inv }) c.denom.ensures.value c.unsigned_abs.ensures.value)
    c.in-Some.ensures c.new.ensures

pub returns-in-None : goal.returns-in-None
returns-in-None c =
    formed_none _ _
    (formed_product c.args.entry.now c.args.factor c.unsigned_abs.result c.numer.result c.denom.result c.requires.common c.requires.small (record { sfits = c.numer.type_inv }) c.numer.ensures.value (record { sfits = c.denom.type_inv }) c.denom.ensures.value c.unsigned_abs.ensures.value)
    c.in-None.ensures
