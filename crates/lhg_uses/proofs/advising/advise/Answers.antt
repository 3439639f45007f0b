use Rattle.std.proofs.Common.{◌≡◌, ◌<◌, length, [], get_or, sym, ap, ◌∙◌, subst, arith}
use Rattle.std.proofs.lemmas.List.{length-map}
use Rattle.lhg_math.specs.Tests.{AllOf}
use Rattle.lhg_row.specs.Piece.{in_some}
use Rattle.lhg_plant.specs.Views.{plain_plant, plain_state, plain_location, plain_switch}
use Rattle.lhg_union.specs.PolyLists.{AllVars}
use Rattle.lhg_union.specs.Regions.{polys_at, plain_region}
use Rattle.lhg_ctl.specs.Views.{plain_controller}
use Rattle.lhg_run.proofs.SightSteps.{list-at, polys-at}
use Rattle.lhg_uses.specs.Allowed.{AreAllowed}
use Rattle.lhg_uses.specs.declared.advising.Advice.{Advice}
use Rattle.lhg_uses.proofs.AdviceSteps.{advice-told, advice-keeps}
use Rattle.lhg_uses.proofs.advising.advise.Goals as goal

pub contains-requires-clause-same : goal.contains-requires-clause-same
contains-requires-clause-same c =
    let p = c.args.plant.now in
    let s = c.args.state.now in
    let ps = c.args.controller.now.region.pieces.items in
    let there : s.loc < length ps = omega (arith, c.requires.there, c.requires.controller.locs, length-map p.locs.items plain_location) in
    subst (λ n. AllVars n (polys_at ps s.loc)) (sym c.requires.lengths) (list-at (AllVars (length p.vars.items)) ps s.loc there c.requires.controller.region)

pub allowed_at-requires-clause-vars : goal.allowed_at-requires-clause-vars
allowed_at-requires-clause-vars c = subst (λ gs. AllOf (λ ps. AllVars (length c.args.plant.now.vars.items) ps.items) gs) (sym c.deref.ensures.value) c.requires.controller.guards

pub returns-clause-advice : goal.returns-clause-advice
returns-clause-advice c =
    let p = c.args.plant.now in
    let a = plain_plant p in
    let k = plain_controller c.args.controller.now in
    let s = plain_state c.args.state.now in
    let ps = c.args.controller.now.region.pieces.items in
    let there : s.loc < length ps = omega (arith, c.requires.there, c.requires.controller.locs, length-map p.locs.items plain_location) in
    let state = c.in_ok-is_state.ensures.exact.0 c.if-not-is_state.false in
    let told : c.in_ok-inside.inside ≡ in_some (get_or k.region s.loc []) s.at = c.in_ok-inside.ensures.exact ∙ ap (λ qs. in_some qs s.at) (polys-at ps s.loc there) in
    let listed = subst (λ gs. AreAllowed a (plain_region gs) s (length p.switches.items) c.in_ok-allowed.allowed.items) c.deref.ensures.value c.in_ok-allowed.ensures in
    advice-told a k s (record { inside = c.in_ok-inside.inside; allowed = c.in_ok-allowed.allowed }) c.requires.controller.ctl state told
    (subst (λ n. AreAllowed a k.guards s n c.in_ok-allowed.allowed.items) (sym (length-map p.switches.items plain_switch)) listed)

pub returns-clause-keeps : goal.returns-clause-keeps
returns-clause-keeps c valid =
    let p = c.args.plant.now in
    let a = plain_plant p in
    let k = plain_controller c.args.controller.now in
    let s = plain_state c.args.state.now in
    let ps = c.args.controller.now.region.pieces.items in
    let there : s.loc < length ps = omega (arith, c.requires.there, c.requires.controller.locs, length-map p.locs.items plain_location) in
    let state = c.in_ok-is_state.ensures.exact.0 c.if-not-is_state.false in
    let told : c.in_ok-inside.inside ≡ in_some (get_or k.region s.loc []) s.at = c.in_ok-inside.ensures.exact ∙ ap (λ qs. in_some qs s.at) (polys-at ps s.loc there) in
    let listed = subst (λ gs. AreAllowed a (plain_region gs) s (length p.switches.items) c.in_ok-allowed.allowed.items) c.deref.ensures.value c.in_ok-allowed.ensures in
    let d : Advice = record { inside = c.in_ok-inside.inside; allowed = c.in_ok-allowed.allowed } in
    advice-keeps a k s d (advice-told a k s d c.requires.controller.ctl state told
    (subst (λ n. AreAllowed a k.guards s n d.allowed.items) (sym (length-map p.switches.items plain_switch)) listed)) valid
