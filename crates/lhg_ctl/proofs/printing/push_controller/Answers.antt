use Rattle.std.proofs.Common.{List, ◌++◌, map, ap, ◌∙◌, codes}
use Rattle.std.specs.Global.{Vec}
use Rattle.std.specs.List.{flat_map}
use Rattle.std.proofs.lemmas.List.{length-map}
use Rattle.lhg_row.specs.System.{PlainSystem}
use Rattle.lhg_plant.specs.declared.plants.Location.{Location}
use Rattle.lhg_plant.specs.declared.plants.Switch.{Switch}
use Rattle.lhg_plant.specs.Parts.{plain_location}
use Rattle.lhg_plant.specs.Views.{plain_plant}
use Rattle.lhg_union.specs.Regions.{plain_region}
use Rattle.lhg_row_text.specs.PrintedLine.{line}
use Rattle.lhg_ctl.specs.ControllerText.{piece_line}
use Rattle.lhg_ctl.specs.Draft.{placed_from}
use Rattle.lhg_ctl.specs.NamedLines.{named_lines}
use Rattle.lhg_ctl.proofs.NamedSteps.{appended_if, grown, ended, pieces_held, text_held}
use Rattle.lhg_ctl.proofs.printing.push_controller.Goals as goal

pub returns-clause-text : goal.returns-clause-text
returns-clause-text c =
    let vars = c.args.plant.now.vars.items in
    let locs = c.args.plant.now.locs.items in
    let switches = c.args.plant.now.switches.items in
    let region = c.args.controller.now.region.pieces.items in
    let guards = c.args.controller.now.guards.items in
    let pieces = λ (lists : List (Vec PlainSystem)). flat_map line (named_lines (codes "piece") (map (λ (l : Location). l.name) locs) vars (plain_region lists)) in
    let guard_lines = λ (lists : List (Vec PlainSystem)). flat_map line (named_lines (codes "guard") (map (λ (s : Switch). s.name) switches) vars (plain_region lists)) in
    let head = line (codes "controller 1") in
    appended_if c.extend_from_slice-2.result c.extend_from_slice-2.new.self.items c.push_guards.new.text.items c.args.text.now.items (head ++ (pieces region ++ guard_lines guards)) (line (codes "end")) _ c.extend_from_slice-2.ensures.items
    (grown c.args.text.now.items c.extend_from_slice.new.self.items c.push_pieces.new.text.items c.push_guards.new.text.items head (pieces region) (guard_lines guards)
    c.in_ok-extend_from_slice.ensures.items (c.in_ok-push_pieces.ensures.text ∙ ap (λ ls. c.extend_from_slice.new.self.items ++ flat_map line (map (piece_line (plain_plant c.args.plant.now)) (placed_from 0 (plain_region ls)))) c.deref.ensures.value
    ∙ ap (λ ls. c.extend_from_slice.new.self.items ++ flat_map line ls) (pieces_held vars locs switches region (c.requires.locs ∙ length-map locs plain_location)))
    (c.in_ok-push_guards.ensures.text ∙ ap (λ ls. c.push_pieces.new.text.items ++ guard_lines ls) c.deref-2.ensures.value))
    (text_held vars locs switches region guards c.requires.locs c.requires.switches ∙ ended head (pieces region) (guard_lines guards) (line (codes "end")))
