use Rattle.std.proofs.Common.{◌≡◌, ◌+◌, suc, refl, arith, sym, subst}
use Rattle.lhg_plant.specs.BackCalculus.{guards}
use Rattle.lhg_plant.specs.Views.{plain_plant}
use Rattle.lhg_union.specs.Regions.{plain_region}
use Rattle.lhg_iterate.specs.Outcomes.{IsStoppedBy, stop_of}
use Rattle.lhg_iterate.proofs.CarriedSteps.{handed-on}
use Rattle.lhg_iterate.proofs.Halting.{stop_in}
use Rattle.lhg_iterate.proofs.Settling.{settled-value, settled-solves, guards-part}
use Rattle.lhg_iterate.proofs.solving.settled.Goals as goal

pub guards_of-requires-clause-region : goal.guards_of-requires-clause-region
guards_of-requires-clause-region c = record { has_lists = record { many = c.requires.passed.round.many; vars = c.requires.passed.round.vars }; inside = c.requires.passed.round.exact.next_is.inside }

pub guards_of-requires-clause-carried : goal.guards_of-requires-clause-carried
guards_of-requires-clause-carried c =
    let p = c.args.plant.now in
    let s = c.args.stage in
    let d = c.args.passed in
    handed-on p s.region.pieces.items d.round.next.pieces.items d.changed.items s.carried _ (c.law_changes.ensures (plain_plant p) (plain_region s.region.pieces.items)) c.requires.passed.changes c.requires.passed.marks c.requires.renewed refl refl refl

pub returns-in-Ok-clause-solution : goal.returns-in-Ok-clause-solution
returns-in-Ok-clause-solution c =
    let p = c.args.plant.now in
    let i = c.args.rounds in
    let number_is : i + 1 ≡ suc i = omega arith in
    settled-value p c.args.budget i c.args.stage c.args.passed.round c.requires.stage c.requires.passed.round c.requires.none c.requires.within (i + 1) number_is (c.law_work.ensures.steps (plain_plant p)) (plain_region c.in-Ok.guards.items) c.in-Ok.ensures.calculus

pub returns-in-Ok-clause-solved : goal.returns-in-Ok-clause-solved
returns-in-Ok-clause-solved c =
    let p = c.args.plant.now in
    let i = c.args.rounds in
    let number_is : i + 1 ≡ suc i = omega arith in
    settled-solves p c.args.budget i c.args.stage c.args.passed.round c.requires.stage c.requires.passed.round c.requires.none c.requires.within (i + 1) number_is (c.law_stages.ensures (plain_plant p)) (plain_region c.in-Ok.guards.items) c.in-Ok.ensures.points

pub returns-in-Err-clause-stop : goal.returns-in-Err-clause-stop
returns-in-Err-clause-stop c =
    let p = c.args.plant.now in
    let a = plain_plant p in
    let i = c.args.rounds in
    let budget = c.args.budget in
    let number_is : i + 1 ≡ suc i = omega arith in
    let part = guards-part p budget i c.args.stage c.args.passed.round c.requires.stage c.requires.passed.round c.requires.none c.requires.within (i + 1) number_is (c.law_work.ensures.steps a) (c.law_work.ensures.marks a budget i) in
    let at : IsStoppedBy a budget (stop_of c.in-Err.halt (suc i)) = stop_in a budget (suc i) c.in-Err.halt (guards a (plain_region c.args.passed.round.next.pieces.items)) (λ v. plain_region v.items) (omega arith) c.requires.stage.computed part c.in-Err.ensures.calculus in
    subst (IsStoppedBy a budget) (sym c.halted.ensures) (subst (λ k. IsStoppedBy a budget (stop_of c.in-Err.halt k)) (sym number_is) at)
