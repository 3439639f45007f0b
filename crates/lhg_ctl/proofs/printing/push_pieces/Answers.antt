use Rattle.std.proofs.Common.{◌≡◌, ◌≤◌, ℕ, List, ◌++◌, map, drop, ap, sym, ◌∙◌, subst, append-nil, codes}
use Rattle.std.specs.List.{flat_map}
use Rattle.std.proofs.lemmas.List.{drop_all}
use Rattle.lhg_plant.specs.declared.plants.Location.{Location}
use Rattle.lhg_row_text.specs.PrintedLine.{line}
use Rattle.lhg_union.specs.Regions.{plain_region}
use Rattle.lhg_ctl.specs.NamedLines.{named_lines}
use Rattle.lhg_ctl.proofs.NamedSteps.{pieces_held}
use Rattle.lhg_ctl.proofs.printing.push_pieces.Goals as goal

pub returns-clause-text : goal.returns-clause-text
returns-clause-text c =
    let vars = c.args.plant.now.vars.items in
    let locs = c.args.plant.now.locs.items in
    let region = c.args.region.now in
    let text = c.loop-i.text.items in
    let past = subst (λ (k : ℕ). k ≤ c.loop-i.i) c.requires.same_length c.loop-i-test.false in
    sym (append-nil text)
    ∙ sym (ap (λ (ls : List Location). text ++ flat_map line (named_lines (codes "piece") (map (λ (l : Location). l.name) ls) vars (plain_region (drop c.loop-i.i region)))) (drop_all c.loop-i.i locs past))
    ∙ c.loop-i.invariant.text
    ∙ ap (λ ls. c.args.text.now.items ++ flat_map line ls) (sym (pieces_held vars locs c.args.plant.now.switches.items region c.requires.same_length))
