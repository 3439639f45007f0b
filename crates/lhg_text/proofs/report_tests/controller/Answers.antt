use Rattle.std.proofs.Common.{◌≡◌, ◌∙◌, length, sym, subst, rules}
use Rattle.std.specs.Global.{Vec}
use Rattle.std.proofs.lemmas.List.{length-map}
use Rattle.lhg_math.specs.Tests.{AllOf}
use Rattle.lhg_row.specs.System.{PlainSystem}
use Rattle.lhg_plant.specs.Views.{plain_location, plain_switch}
use Rattle.lhg_union.specs.PolyLists.{AllVars}
use Rattle.lhg_text.proofs.report_tests.controller.Goals as goal

pub returns : goal.returns
returns c =
    let p = c.args.plant.now in
    let many : c.len.result ≡ length p.locs.items = search rules in
    record {
      locs = c.in_ok-pieces.ensures.count ∙ many ∙ sym (length-map p.locs.items plain_location);
      switches = c.in_ok-guards.ensures.count ∙ sym (length-map p.switches.items plain_switch);
      region = subst (λ n. AllOf (λ (ps : Vec PlainSystem). AllVars n ps.items) c.in_ok-pieces.pieces.items) (sym c.requires) c.in_ok-pieces.ensures.vars;
      guards = subst (λ n. AllOf (λ (ps : Vec PlainSystem). AllVars n ps.items) c.in_ok-guards.guards.items) (sym c.requires) c.in_ok-guards.ensures.vars;
      ctl = c.in_ok-guards.ensures.ctl;
    }
