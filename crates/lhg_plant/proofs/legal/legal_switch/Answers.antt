use Rattle.std.proofs.Common.{◌≡◌, ◌<◌, length, map, subst, arith, vec_len}
use Rattle.lhg_num.specs.FracArithmetic.{frac_arithmetic}
use Rattle.lhg_plant.specs.LegalTruths.{switch_truth}
use Rattle.lhg_plant.specs.Proper.{IsSwitch}
use Rattle.lhg_plant.specs.Views.{plain_location, plain_switch, plain_plant, plain_state}
use Rattle.std.proofs.lemmas.List.{length-map}
use Rattle.lhg_plant.proofs.LegalExact.{exact_by, switch_exact}
use Rattle.lhg_plant.proofs.LegalSteps.{image_at, all_at, told_there}
use Rattle.lhg_plant.proofs.legal.legal_switch.Goals as goal

pub leads-requires-clause-switch : goal.leads-requires-clause-switch
leads-requires-clause-switch c =
    let p = c.args.plant.now in
    let below : c.args.switch < length p.switches.items = omega (arith, c.requires.switch, p.switches.ok.0) in
    let vars : length p.vars.items ≡ vec_len p.vars = omega (arith, p.vars.ok.0) in
    let locs : length (map plain_location p.locs.items) ≡ vec_len p.locs = omega (arith, length-map p.locs.items plain_location, p.locs.ok.0) in
    subst (λ n. IsSwitch n (vec_len p.locs) (plain_switch c.index-taken.result.now)) vars
    (subst (λ m. IsSwitch (length p.vars.items) m (plain_switch c.index-taken.result.now)) locs
    (all_at (IsSwitch (length p.vars.items) (length (map plain_location p.locs.items))) (map plain_switch p.switches.items) c.args.switch _ p.proper.switches (image_at plain_switch p.switches.items c.args.switch c.index-taken.result.now below c.index-taken.ensures)))

pub returns-clause-calculus : goal.returns-clause-calculus
returns-clause-calculus c =
    let p = c.args.plant.now in
    let below : c.args.switch < length p.switches.items = omega (arith, c.requires.switch, p.switches.ok.0) in
    told_there c.leads.result (λ w. switch_truth frac_arithmetic (plain_plant p) w (plain_state c.args.from.now) c.args.to.now) _ _ (image_at plain_switch p.switches.items c.args.switch c.index-taken.result.now below c.index-taken.ensures) c.leads.ensures

pub returns-clause-exact : goal.returns-clause-exact
returns-clause-exact c =
    let p = c.args.plant.now in
    let fits : length c.args.from.now.at ≡ length p.vars.items = omega (arith, c.requires.start, p.vars.ok.0) in
    let ends : length c.args.to.now ≡ length p.vars.items = omega (arith, c.requires.end, p.vars.ok.0) in
    exact_by c.leads.result _ (returns-clause-calculus c) (switch_exact frac_arithmetic (plain_plant p) c.args.switch (plain_state c.args.from.now) c.args.to.now fits ends)
