use Rattle.std.proofs.Common.{length, refl, sym, subst}
use Rattle.lhg_num.specs.MarkedLaws.{IsPart}
use Rattle.lhg_num.proofs.Halted.{part_halts}
use Rattle.lhg_plant.specs.Invariants.{invariants}
use Rattle.lhg_plant.specs.OutCalculus.{away}
use Rattle.lhg_plant.specs.BackCalculus.{guards}
use Rattle.lhg_plant.specs.Views.{plain_plant}
use Rattle.lhg_union.specs.Regions.{plain_region}
use Rattle.lhg_jump.specs.PlantLists.{AreListsOf, AreInvariantsOf}
use Rattle.lhg_jump.proofs.CallCode.{guards-away}
use Rattle.lhg_quiet.specs.Outside.{AreStillOutside}
use Rattle.lhg_iterate.proofs.solving.guards_of.Goals as goal

pub renew_away-requires-clause-invs : goal.renew_away-requires-clause-invs
renew_away-requires-clause-invs c = subst (AreInvariantsOf c.args.plant.now) (sym c.deref.ensures.value) c.requires.carried.invs

pub renew_away-requires-clause-region : goal.renew_away-requires-clause-region
renew_away-requires-clause-region c = subst (AreListsOf c.args.plant.now) (sym c.deref-2.ensures.value) c.requires.region.has_lists

pub renew_away-requires-clause-away : goal.renew_away-requires-clause-away
renew_away-requires-clause-away c = λ some.
    let p = c.args.plant.now in
    let outside = c.args.carried.now.outs.away.pieces.items in
    subst (λ ms. AreStillOutside p c.deref-2.result.now ms outside) (sym c.deref-3.ensures.value)
    (subst (λ rs. AreStillOutside p rs c.args.carried.now.changed.items outside) (sym c.deref-2.ensures.value) (c.requires.carried.away some))

pub returns-in_err-renew_away-clause-calculus : goal.returns-in_err-renew_away-clause-calculus
returns-in_err-renew_away-clause-calculus c =
    let p = c.args.plant.now in
    let a = plain_plant p in
    let n = length p.vars.items in
    let region = plain_region c.args.region.now.pieces.items in
    let inv = (invariants a).value in
    part_halts c.from_residual.result c.in_err-renew_away.field-0.0 (guards a region) (λ v. plain_region v.items) (away n inv (plain_region c.deref-2.result.now)) (λ _. plain_region c.renew_away.new.away.items)
    c.from_residual.ensures.1 c.in_err-renew_away.ensures.calculus
    (subst (λ rs. IsPart (guards a region) (away n inv (plain_region rs))) (sym c.deref-2.ensures.value) (guards-away a region inv refl))
