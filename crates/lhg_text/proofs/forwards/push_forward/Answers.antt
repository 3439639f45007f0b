use Rattle.std.proofs.Common.{List, [], ◌∷◌, ◌++◌, length, map, append_assoc, sym, ap, ◌∙◌, subst, codes, decimal}
use Rattle.std.specs.Global.{Vec}
use Rattle.std.specs.List.{flat_map}
use Rattle.std.proofs.lemmas.List.{length-map}
use Rattle.lhg_math.specs.Tests.{AllOf}
use Rattle.lhg_row.specs.System.{PlainSystem}
use Rattle.lhg_plant.specs.Parts.{plain_location}
use Rattle.lhg_plant.specs.Views.{plain_plant}
use Rattle.lhg_union.specs.Regions.{plain_region}
use Rattle.lhg_row_text.specs.PrintedLine.{line}
use Rattle.lhg_ctl.specs.ControllerText.{piece_line}
use Rattle.lhg_ctl.specs.Draft.{placed_from}
use Rattle.lhg_ctl.specs.Written.{IsWritten}
use Rattle.lhg_ctl.proofs.NamedSteps.{appended_if, grown, same_count}
use Rattle.lhg_text.proofs.ForwardReading.{forward_parts}
use Rattle.lhg_text.proofs.ReportTexts.{on_ok_always}
use Rattle.lhg_text.proofs.forwards.push_forward.Goals as goal

pub returns-clause-text : goal.returns-clause-text
returns-clause-text c =
    let a = plain_plant c.args.plant.now in
    let region = c.args.region.now.pieces.items in
    let before = c.args.text.now.items in
    let head = codes "reach 1" ++ 10 ∷ codes "rounds" in
    let number = 32 ∷ decimal c.args.rounds in
    let first = head ++ (number ++ 10 ∷ []) in
    let pieces = λ (lists : List (Vec PlainSystem)). flat_map line (map (piece_line a) (placed_from 0 (plain_region lists))) in
    let begun = grown before c.extend_from_slice.new.self.items c.push_whole.new.text.items c.extend_from_slice-2.new.self.items head number (10 ∷ []) c.in_ok-extend_from_slice.ensures.items c.in_ok-push_whole.ensures.text c.in_ok-extend_from_slice-2.ensures.items in
    appended_if c.extend_from_slice-3.result c.extend_from_slice-3.new.self.items c.push_pieces.new.text.items before (first ++ pieces region) (line (codes "end")) _ c.extend_from_slice-3.ensures.items
    (c.in_ok-push_pieces.ensures.text ∙ ap (λ ls. c.extend_from_slice-2.new.self.items ++ pieces ls) c.deref.ensures.value ∙ ap (λ w. w ++ pieces region) begun ∙ append_assoc before first (pieces region))
    (forward_parts a (plain_region region) c.args.rounds ∙ sym (append_assoc first (pieces region) (line (codes "end"))))

pub returns-clause-written : goal.returns-clause-written
returns-clause-written c =
    on_ok_always c.extend_from_slice-3.result (record {
      few_rounds = c.in_ok-push_whole.ensures.short;
      locs = same_count c.args.region.now.pieces.items ∙ c.requires.same_length ∙ sym (length-map c.args.plant.now.locs.items plain_location);
      pieces = subst (λ (lists : List (Vec PlainSystem)). AllOf (AllOf (IsWritten (length c.args.plant.now.vars.items))) (plain_region lists)) c.deref.ensures.value c.in_ok-push_pieces.ensures.written;
    })
