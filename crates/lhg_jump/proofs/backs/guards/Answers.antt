use Rattle.std.proofs.Common.{length, refl, sym, ap, ◌∙◌, subst}
use Rattle.lhg_num.specs.MarkedLaws.{IsPart}
use Rattle.lhg_num.proofs.Halted.{part_halts}
use Rattle.lhg_plant.specs.Invariants.{invariants}
use Rattle.lhg_plant.specs.OutCalculus.{away}
use Rattle.lhg_plant.specs.BackCalculus.{guards}
use Rattle.lhg_plant.specs.Views.{plain_plant}
use Rattle.lhg_union.specs.Regions.{plain_region}
use Rattle.lhg_union.proofs.Halts.{all_on_rows}
use Rattle.lhg_jump.specs.PlantLists.{AreInvariantsOf, AreAwayOf}
use Rattle.lhg_jump.proofs.CallCode.{guards-first, guards-away}
use Rattle.lhg_jump.proofs.backs.guards.Goals as goal

pub returns-in_err-invs-clause-calculus : goal.returns-in_err-invs-clause-calculus
returns-in_err-invs-clause-calculus c =
    let p = c.args.plant.now in
    let a = plain_plant p in
    let n = length p.vars.items in
    let region = plain_region c.args.region.now.pieces.items in
    all_on_rows c.from_residual.result c.in_err-invs.field-0.0 _ (λ v. plain_region v.items) _ (λ v. plain_region v.items) c.from_residual.ensures.1 c.in_err-invs.ensures.calculus (guards-first a region (invariants a).value refl)

pub returns-in_err-away-clause-calculus : goal.returns-in_err-away-clause-calculus
returns-in_err-away-clause-calculus c =
    let p = c.args.plant.now in
    let a = plain_plant p in
    let n = length p.vars.items in
    let region = plain_region c.args.region.now.pieces.items in
    let invs = plain_region c.in_ok-invs.invs.items in
    let same = ap (λ is. away n (plain_region is) (plain_region c.deref-2.result.now)) c.deref.ensures.value
    ∙ ap (λ rs. away n invs (plain_region rs)) c.deref-2.ensures.value in
    part_halts c.from_residual-in_err-away.result c.in_err-away.field-0.0 _ (λ v. plain_region v.items) _ (λ v. plain_region v.items) c.from_residual-in_err-away.ensures.1 c.in_err-away.ensures.calculus
    (subst (IsPart (guards a region)) (sym same) (guards-away a region invs c.in_ok-invs.ensures.calculus))

pub guards_with-requires-clause-invs : goal.guards_with-requires-clause-invs
guards_with-requires-clause-invs c =
    subst (AreInvariantsOf c.args.plant.now) (sym c.deref-3.ensures.value) (record { has_lists = c.in_ok-invs.ensures.lists; same = c.in_ok-invs.ensures.calculus })

pub guards_with-requires-clause-away : goal.guards_with-requires-clause-away
guards_with-requires-clause-away c =
    let p = c.args.plant.now in
    let n = length p.vars.items in
    let region = c.args.region.now.pieces.items in
    let same = ap (λ is. (away n (plain_region is) (plain_region c.deref-2.result.now)).value) c.deref.ensures.value
    ∙ ap (λ rs. (away n (plain_region c.in_ok-invs.invs.items) (plain_region rs)).value) c.deref-2.ensures.value
    ∙ ap (λ is. (away n is (plain_region region)).value) c.in_ok-invs.ensures.calculus in
    subst (AreAwayOf p region) (sym c.deref-4.ensures.value) (record { has_lists = c.in_ok-away.ensures.lists; same = c.in_ok-away.ensures.calculus ∙ same })
