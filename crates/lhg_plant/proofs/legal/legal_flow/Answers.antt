use Rattle.std.proofs.Common.{◌≡◌, ◌<◌, length, map, subst, arith}
use Rattle.lhg_num.specs.FracArithmetic.{frac_arithmetic}
use Rattle.lhg_plant.specs.LegalTruths.{flow_truth}
use Rattle.lhg_plant.specs.Proper.{IsLocation}
use Rattle.lhg_plant.specs.Views.{plain_location, plain_plant, plain_state}
use Rattle.lhg_plant.proofs.LegalExact.{exact_by, flow_exact}
use Rattle.lhg_plant.proofs.LegalSteps.{image_at, all_at, told_there}
use Rattle.lhg_plant.proofs.legal.legal_flow.Goals as goal

pub flows-requires-clause-location : goal.flows-requires-clause-location
flows-requires-clause-location c =
    let p = c.args.plant.now in
    let below : c.args.from.now.loc < length p.locs.items = omega (arith, c.requires.there, p.locs.ok.0) in
    let same : length p.vars.items ≡ length c.args.from.now.at = omega (arith, c.requires.start, p.vars.ok.0) in
    subst (λ n. IsLocation n (plain_location c.index-location.result.now)) same
    (all_at (IsLocation (length p.vars.items)) (map plain_location p.locs.items) c.args.from.now.loc _ p.proper.locs (image_at plain_location p.locs.items c.args.from.now.loc c.index-location.result.now below c.index-location.ensures))

pub returns-clause-calculus : goal.returns-clause-calculus
returns-clause-calculus c =
    let p = c.args.plant.now in
    let below : c.args.from.now.loc < length p.locs.items = omega (arith, c.requires.there, p.locs.ok.0) in
    told_there c.flows.result (λ l. flow_truth frac_arithmetic l c.args.from.now.at c.args.time.now c.args.to.now) _ _ (image_at plain_location p.locs.items c.args.from.now.loc c.index-location.result.now below c.index-location.ensures) c.flows.ensures

pub returns-clause-exact : goal.returns-clause-exact
returns-clause-exact c =
    let p = c.args.plant.now in
    let fits : length c.args.from.now.at ≡ length p.vars.items = omega (arith, c.requires.start, p.vars.ok.0) in
    let ends : length c.args.to.now ≡ length p.vars.items = omega (arith, c.requires.end, p.vars.ok.0) in
    exact_by c.flows.result _ (returns-clause-calculus c) (flow_exact frac_arithmetic (plain_plant p) (plain_state c.args.from.now) c.args.time.now c.args.to.now fits ends)
