use Rattle.std.proofs.Common.{◌<◌, length, ap, sym, ◌∙◌, subst, arith}
use Rattle.std.proofs.lemmas.List.{length-map}
use Rattle.lhg_math.specs.Tests.{AllOf}
use Rattle.lhg_row.specs.Width.{AllWide}
use Rattle.lhg_motion.specs.CheckPoint.{rows_of}
use Rattle.lhg_plant.specs.Run.{guard_rows}
use Rattle.lhg_plant.specs.Views.{plain_plant, plain_location}
use Rattle.lhg_union.specs.PolyLists.{lines_of, AllVars}
use Rattle.lhg_union.specs.Regions.{plain_region}
use Rattle.lhg_run.proofs.RowSteps.{joined-rows, vars-at}
use Rattle.lhg_run.proofs.SightSteps.{lines-at}
use Rattle.lhg_run.proofs.rows.run_rows.Goals as goal

pub returns-clause-rows : goal.returns-clause-rows
returns-clause-rows c =
    let p = c.args.plant.now in
    let a = plain_plant p in
    let l = c.args.loc in
    let ps = c.args.controller.now.region.pieces.items in
    let gs = c.args.controller.now.guards.items in
    let size = length-map p.locs.items plain_location in
    let there : l < length ps = omega (arith, c.requires.there, c.requires.controller.locs, size) in
    joined-rows (plain_region ps) (plain_region gs) a.switches l c.new-rows.result.items c.append_pieces.new.rows.items c.append_guards.new.rows.items (rows_of (lines_of c.deref.result.now)) (guard_rows a.switches (plain_region c.deref-2.result.now) l)
    c.new-rows.ensures.items c.in_ok-append_pieces.ensures.rows (ap rows_of (ap lines_of c.deref.ensures.value ∙ lines-at ps l c.index.result.now c.index.ensures there))
    c.in_ok-append_guards.ensures.rows (ap (λ us. guard_rows a.switches (plain_region us) l) c.deref-2.ensures.value)

pub returns-clause-wide : goal.returns-clause-wide
returns-clause-wide c =
    let p = c.args.plant.now in
    let n = length p.vars.items in
    let l = c.args.loc in
    let ps = c.args.controller.now.region.pieces.items in
    let size = length-map p.locs.items plain_location in
    let there : l < length ps = omega (arith, c.requires.there, c.requires.controller.locs, size) in
    let none : AllWide n c.new-rows.result.items = subst (AllWide n) (sym c.new-rows.ensures.items) tt in
    let first = c.in_ok-append_pieces.ensures.wide n (subst (AllVars n) (sym c.deref.ensures.value) (vars-at n ps l c.index.result.now c.index.ensures there c.requires.controller.region)) none in
    c.in_ok-append_guards.ensures.wide n (subst (AllOf (λ us. AllVars n us.items)) (sym c.deref-2.ensures.value) c.requires.controller.guards) first
