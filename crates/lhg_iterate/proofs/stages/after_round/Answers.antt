use Rattle.std.proofs.Common.{◌≡◌, ◌+◌, suc, length, refl, arith, sym, ap, ◌∙◌, subst, rules}
use Rattle.lhg_plant.specs.Views.{plain_plant}
use Rattle.lhg_union.specs.Regions.{plain_region}
use Rattle.lhg_quiet.specs.Quiet.{AreChanges}
use Rattle.lhg_iterate.proofs.CarriedSteps.{handed-on}
use Rattle.lhg_iterate.proofs.StageSteps.{after-next, totals-stop, left-rows, past-rows}
use Rattle.lhg_iterate.proofs.stages.after_round.Goals as goal

pub quiet_after-requires : goal.quiet_after-requires
quiet_after-requires c = ap length c.deref.ensures.value ∙ c.requires.passed.marks

pub returns-clause-ok : goal.returns-clause-ok
returns-clause-ok c =
    let p = c.args.plant.now in
    let a = plain_plant p in
    let s = c.args.stage in
    let d = c.args.passed in
    let before : c.len-before.result ≡ length s.losses.items = search rules in
    let left = left-rows c.rows_left.result c.in-Some.left s.rows_left c.deref-2.result.now d.round.losses.items c.deref-2.ensures.value c.in-Some.is c.rows_left.ensures in
    after-next p c.args.budget c.args.rounds s d.round c.requires.stage c.requires.passed.round _ (c.law_stages.ensures a) (c.law_work.ensures.steps a) c.requires.some refl c.in_ok-append.ensures.items before left
    (c.in_ok-quiet.ensures (plain_region s.region.pieces.items) (plain_region d.round.next.pieces.items)
    (subst (AreChanges a (plain_region s.region.pieces.items) (plain_region d.round.next.pieces.items)) (sym c.deref.ensures.value) c.requires.passed.changes))
    (handed-on p s.region.pieces.items d.round.next.pieces.items d.changed.items s.carried _ (c.law_changes.ensures a (plain_region s.region.pieces.items)) c.requires.passed.changes c.requires.passed.marks c.requires.renewed refl refl refl)

pub returns-in-None-clause-stop : goal.returns-in-None-clause-stop
returns-in-None-clause-stop c =
    let i = c.args.rounds in
    let s = c.args.stage in
    let r = c.args.passed.round in
    let number_is : i + 1 ≡ suc i = omega arith in
    let past = past-rows c.rows_left.result s.rows_left c.deref-2.result.now r.losses.items c.deref-2.ensures.value c.in-None.is c.rows_left.ensures in
    totals-stop c.args.plant.now c.args.budget i s r c.requires.stage c.requires.passed.round c.requires.within past (i + 1) number_is
