use Rattle.std.proofs.Common.{◌≡◌, ◌<◌, length, sym, ap, ◌∙◌, subst, true, arith, Some, None}
use Rattle.lhg_num.specs.FracArithmetic.{frac_arithmetic}
use Rattle.lhg_row.specs.Truths.{piece_truth, some_truth}
use Rattle.lhg_plant.specs.Plant.{PlainLocation}
use Rattle.lhg_plant.specs.Run.{guard_rows}
use Rattle.lhg_plant.specs.Views.{plain_plant, plain_state}
use Rattle.lhg_plant.proofs.RunInside.{along_state}
use Rattle.lhg_union.specs.PolyLists.{AllVars, lines_of}
use Rattle.lhg_union.specs.Regions.{polys_at, plain_region}
use Rattle.lhg_ctl.specs.Views.{plain_controller}
use Rattle.lhg_run.specs.Seen.{IsGuardAt}
use Rattle.lhg_run.proofs.Answering.{answered-number}
use Rattle.lhg_run.proofs.SightSteps.{list-at, polys-at, there_short, sight-region, sight-guards, seen-outside, seen-inside, seen-state, seen-guards}
use Rattle.lhg_run.proofs.sights.look.Goals as goal

pub contains-requires-clause-same : goal.contains-requires-clause-same
contains-requires-clause-same c =
    let p = c.args.plant.now in
    let a = plain_plant p in
    let s = plain_state c.args.from.now in
    let y = c.args.to.now in
    let q = c.args.place.now in
    let t = c.requires.flow.0 in
    let flow = c.requires.flow.1 in
    let ps = c.args.controller.now.region.pieces.items in
    let on = along_state a s t y q flow c.requires.place in
    let fits : length c.in_ok-at.at ≡ length p.vars.items = ap length c.in_ok-at.ensures.exact ∙ on.fits in
    let in_locs = there_short a.locs s.loc (λ (l : PlainLocation). _) flow.start.inside in
    let there : s.loc < length ps = omega (arith, in_locs, c.requires.controller.locs) in
    subst (λ n. AllVars n (polys_at ps s.loc)) (sym fits) (list-at (AllVars (length p.vars.items)) ps s.loc there c.requires.controller.region)

pub returns-in_err-inside : goal.returns-in_err-inside
returns-in_err-inside c =
    let p = c.args.plant.now in
    let a = plain_plant p in
    let k = plain_controller c.args.controller.now in
    let s = plain_state c.args.from.now in
    let y = c.args.to.now in
    let q = c.args.place.now in
    let flow = c.requires.flow.1 in
    let ps = c.args.controller.now.region.pieces.items in
    let in_locs = there_short a.locs s.loc (λ (l : PlainLocation). _) flow.start.inside in
    let there : s.loc < length ps = omega (arith, in_locs, c.requires.controller.locs) in
    let wide : (some_truth frac_arithmetic (lines_of (polys_at ps s.loc)) c.in_ok-at.at).wide ≡ true = c.in_err-inside.ensures.calculus in
    answered-number c.from_residual-in_err-inside.result _ _ _ c.from_residual-in_err-inside.ensures.1
    (sight-region a k s y q c.in_ok-at.at c.in_ok-at.ensures.calculus (ap (λ us. (some_truth frac_arithmetic us c.in_ok-at.at).wide) (sym (polys-at ps s.loc there)) ∙ wide))

pub returns-then-not-inside : goal.returns-then-not-inside
returns-then-not-inside c =
    let p = c.args.plant.now in
    let a = plain_plant p in
    let k = plain_controller c.args.controller.now in
    let s = plain_state c.args.from.now in
    let y = c.args.to.now in
    let q = c.args.place.now in
    let t = c.requires.flow.0 in
    let flow = c.requires.flow.1 in
    let ps = c.args.controller.now.region.pieces.items in
    let on = along_state a s t y q flow c.requires.place in
    let in_locs = there_short a.locs s.loc (λ (l : PlainLocation). _) flow.start.inside in
    let there : s.loc < length ps = omega (arith, in_locs, c.requires.controller.locs) in
    seen-outside a k s y q c.in_ok-at.at c.in_ok-at.ensures.exact c.requires.inside on.fits (lines_of (polys_at ps s.loc)) (polys-at ps s.loc there) c.in_ok-inside.inside c.in_ok-inside.ensures.exact c.if-not-inside.true

pub guard_at-requires-clause-state : goal.guard_at-requires-clause-state
guard_at-requires-clause-state c =
    let a = plain_plant c.args.plant.now in
    let k = plain_controller c.args.controller.now in
    let s = plain_state c.args.from.now in
    let y = c.args.to.now in
    let q = c.args.place.now in
    let t = c.requires.flow.0 in
    let flow = c.requires.flow.1 in
    let on = along_state a s t y q flow c.requires.place in
    seen-state a k s y q c.in_ok-at.at c.in_ok-at.ensures.exact on

pub returns-in_err-found : goal.returns-in_err-found
returns-in_err-found c =
    let p = c.args.plant.now in
    let a = plain_plant p in
    let k = plain_controller c.args.controller.now in
    let s = plain_state c.args.from.now in
    let y = c.args.to.now in
    let q = c.args.place.now in
    let z = c.in_ok-at.at in
    answered-number c.from_residual-in_err-found.result _ _ _ c.from_residual-in_err-found.ensures.1
    (sight-guards a k s y q z c.in_ok-at.ensures.calculus (ap (λ gs. (piece_truth frac_arithmetic (guard_rows a.switches (plain_region gs) s.loc) z).wide) (sym c.deref.ensures.value) ∙ c.in_err-found.ensures.wide))

pub returns-in-Some : goal.returns-in-Some
returns-in-Some c =
    let p = c.args.plant.now in
    let a = plain_plant p in
    let k = plain_controller c.args.controller.now in
    let s = plain_state c.args.from.now in
    let y = c.args.to.now in
    let q = c.args.place.now in
    let z = c.in_ok-at.at in
    let t = c.requires.flow.0 in
    let flow = c.requires.flow.1 in
    let ps = c.args.controller.now.region.pieces.items in
    let on = along_state a s t y q flow c.requires.place in
    let in_locs = there_short a.locs s.loc (λ (l : PlainLocation). _) flow.start.inside in
    let there : s.loc < length ps = omega (arith, in_locs, c.requires.controller.locs) in
    let inside = seen-inside a k s y q z c.in_ok-at.ensures.exact c.requires.inside on.fits (lines_of (polys_at ps s.loc)) (polys-at ps s.loc there) c.in_ok-inside.inside c.in_ok-inside.ensures.exact c.if-not-inside.false in
    let first = subst (λ gs. IsGuardAt a (plain_region gs) (record { loc = s.loc; at = z }) c.in_ok-found.found) c.deref.ensures.value c.in_ok-found.ensures.first in
    (inside, seen-guards a k s y q z c.in_ok-at.ensures.exact (Some c.in-Some.switch) (subst (IsGuardAt a k.guards (record { loc = s.loc; at = z })) c.in-Some.is first), c.in_ok-at.ensures.exact)

pub returns-in-None : goal.returns-in-None
returns-in-None c =
    let p = c.args.plant.now in
    let a = plain_plant p in
    let k = plain_controller c.args.controller.now in
    let s = plain_state c.args.from.now in
    let y = c.args.to.now in
    let q = c.args.place.now in
    let z = c.in_ok-at.at in
    let t = c.requires.flow.0 in
    let flow = c.requires.flow.1 in
    let ps = c.args.controller.now.region.pieces.items in
    let on = along_state a s t y q flow c.requires.place in
    let in_locs = there_short a.locs s.loc (λ (l : PlainLocation). _) flow.start.inside in
    let there : s.loc < length ps = omega (arith, in_locs, c.requires.controller.locs) in
    let inside = seen-inside a k s y q z c.in_ok-at.ensures.exact c.requires.inside on.fits (lines_of (polys_at ps s.loc)) (polys-at ps s.loc there) c.in_ok-inside.inside c.in_ok-inside.ensures.exact c.if-not-inside.false in
    let first = subst (λ gs. IsGuardAt a (plain_region gs) (record { loc = s.loc; at = z }) c.in_ok-found.found) c.deref.ensures.value c.in_ok-found.ensures.first in
    (inside, seen-guards a k s y q z c.in_ok-at.ensures.exact None (subst (IsGuardAt a k.guards (record { loc = s.loc; at = z })) c.in-None.is first))
