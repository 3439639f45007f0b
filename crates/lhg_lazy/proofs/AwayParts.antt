-- What is left of the calculus of the states outside a region after its first step, and which marks are its own.
use Rattle.std.proofs.Common.{◌≡◌, length, sym, subst}
use Rattle.lhg_num.specs.Marked.{IsRest}
use Rattle.lhg_num.specs.MarkedLaws.{IsPart, and_then-part, and_then-rest}
use Rattle.lhg_plant.specs.Plant.{PlainPlant}
use Rattle.lhg_plant.specs.Region.{PlainRegion}
use Rattle.lhg_plant.specs.Invariants.{invariants}
use Rattle.lhg_plant.specs.OutCalculus as outs
use Rattle.lhg_lazy.specs.RimCalculus.{away}

module _ (a : PlainPlant) (region : PlainRegion) where
  -- the marks of the invariants
  pub invariants-part : IsPart (away a region) (invariants a)
  unfolding away
  invariants-part = and_then-part (invariants a) (λ invs. outs.away (length a.vars) invs region)

  -- after them what they leave without the region
  pub outside-rest : (invs : PlainRegion) → invs ≡ (invariants a).value → IsRest (away a region) (outs.away (length a.vars) invs region)
  unfolding away
  outside-rest invs e =
      subst (λ (is : PlainRegion). IsRest (away a region) (outs.away (length a.vars) is region)) (sym e) (and_then-rest (invariants a) (λ is. outs.away (length a.vars) is region))
