use Rattle.std.proofs.Common.{◌≡◌, ◌<◌, ◌+◌, length, sym, ap, ◌∙◌, subst, arith, rules}
use Rattle.std.specs.Prelude.{is_some}
use Rattle.std.proofs.lemmas.List.{length-map}
use Rattle.lhg_num.specs.Halting.{IsHaltedByRows}
use Rattle.lhg_num.specs.Marked.{valued}
use Rattle.lhg_num.specs.MarkedLaws.{IsPart}
use Rattle.lhg_num.specs.PartLaws.{valued_part, valued_rest}
use Rattle.lhg_num.proofs.Halted.{part_halts_rows, rest_halts_rows}
use Rattle.lhg_row.specs.Width.{AllWide}
use Rattle.lhg_plant.specs.Invariants.{invariant_list}
use Rattle.lhg_plant.specs.Views.{plain_plant, plain_state}
use Rattle.lhg_union.specs.PolyLists.{lines_of}
use Rattle.lhg_jump.proofs.Answering.{switch-there, switch-is, place-below, location-there, location-is}
use Rattle.lhg_plant.specs.Parts.{plain_location, plain_switch}
use Rattle.lhg_spoil.specs.Work.{results_of, legal_results}
use Rattle.lhg_spoil.proofs.FibreCode.{legal-part, legal-rest}
use Rattle.lhg_spoil.proofs.fibres.has_result.Goals as goal

pub index-target-requires : goal.index-target-requires
index-target-requires c =
    let p = c.args.plant.now in
    let w = c.index-taken.result.now in
    let there : c.args.switch < length p.switches.items = omega (arith, c.requires.there, p.switches.ok.0) in
    let low = (switch-is p c.args.switch w (switch-there p c.args.switch w there c.index-taken.ensures)).to in
    let size = length-map p.locs.items plain_location in
    omega (arith, low, size, p.locs.ok.0)

pub invariant_list-requires : goal.invariant_list-requires
invariant_list-requires c =
    let p = c.args.plant.now in
    let w = c.index-taken.result.now in
    let l = c.index-target.result.now in
    let there : c.args.switch < length p.switches.items = omega (arith, c.requires.there, p.switches.ok.0) in
    let is = switch-there p c.args.switch w there c.index-taken.ensures in
    let l_is = location-there p w.to l (place-below p w.to (switch-is p c.args.switch w is).to) c.index-target.ensures in
    let many : c.len.result ≡ length p.vars.items = search rules in
    subst (λ n. AllWide n l.inv.items) (sym many) (location-is p w.to l l_is).inv.wide

pub returns-in_err-inv : goal.returns-in_err-inv
returns-in_err-inv c =
    let p = c.args.plant.now in
    let a = plain_plant p in
    let e = c.args.switch in
    let s = plain_state c.args.state.now in
    let w = c.index-taken.result.now in
    let l = c.index-target.result.now in
    let there : e < length p.switches.items = omega (arith, c.requires.there, p.switches.ok.0) in
    let is = switch-there p e w there c.index-taken.ensures in
    let l_is = location-there p w.to l (place-below p w.to (switch-is p e w is).to) c.index-target.ensures in
    let many : c.len.result ≡ length p.vars.items = search rules in
    part_halts_rows c.from_residual.result c.in_err-inv.field-0.0 (valued is_some (legal_results a e s)) (λ b. b) _ (λ v. lines_of v.items) c.from_residual.ensures.1 c.in_err-inv.ensures.calculus
    (subst (λ n. IsPart (valued is_some (legal_results a e s)) (invariant_list n (plain_location l))) (sym many)
    (valued_part is_some (λ ps. ps) (legal_results a e s) (invariant_list (length p.vars.items) (plain_location l)) (legal-part a e s (plain_switch w) is (plain_location l) l_is)))

pub some_results-requires-clause-wide : goal.some_results-requires-clause-wide
some_results-requires-clause-wide c =
    let p = c.args.plant.now in
    let w = c.index-taken.result.now in
    let there : c.args.switch < length p.switches.items = omega (arith, c.requires.there, p.switches.ok.0) in
    let is = switch-there p c.args.switch w there c.index-taken.ensures in
    let many : c.len-2.result ≡ length p.vars.items = search rules in
    let jump : c.deref.result.now ≡ w.jump.items = search rules in
    subst (λ n. AllWide (n + n) c.deref.result.now) (sym many) (subst (AllWide (length p.vars.items + length p.vars.items)) (sym jump) (switch-is p c.args.switch w is).jump.wide)

pub returns : goal.returns
returns c =
    let p = c.args.plant.now in
    let a = plain_plant p in
    let e = c.args.switch in
    let s = plain_state c.args.state.now in
    let n = length p.vars.items in
    let w = c.index-taken.result.now in
    let l = c.index-target.result.now in
    let there : e < length p.switches.items = omega (arith, c.requires.there, p.switches.ok.0) in
    let is = switch-there p e w there c.index-taken.ensures in
    let l_is = location-there p w.to l (place-below p w.to (switch-is p e w is).to) c.index-target.ensures in
    let many : c.len.result ≡ n = search rules in
    let again : c.len-2.result ≡ n = search rules in
    let jump : c.deref.result.now ≡ w.jump.items = search rules in
    let inv : lines_of c.deref-2.result.now ≡ (invariant_list n (plain_location l)).value = ap lines_of c.deref-2.ensures.value ∙ c.in_ok-inv.ensures.calculus ∙ ap (λ k. (invariant_list k (plain_location l)).value) many in
    let same = ap (λ k. results_of k s.at c.deref.result.now (lines_of c.deref-2.result.now)) again ∙ ap (λ js. results_of n s.at js (lines_of c.deref-2.result.now)) jump ∙ ap (λ ps. results_of n s.at w.jump.items ps) inv in
    rest_halts_rows c.some_results.result (valued is_some (legal_results a e s)) (valued is_some (results_of n s.at w.jump.items (invariant_list n (plain_location l)).value)) (λ b. b)
    (valued_rest is_some (legal_results a e s) (results_of n s.at w.jump.items (invariant_list n (plain_location l)).value) (legal-rest a e s (plain_switch w) is (plain_location l) l_is))
    (subst (λ m. IsHaltedByRows c.some_results.result (valued is_some m) (λ b. b)) same c.some_results.ensures)
