use Rattle.std.proofs.Common.{◌∷◌, ◌++◌, ap, ◌∙◌, append_assoc, codes, decimal}
use Rattle.std.specs.List.{flat_map}
use Rattle.lhg_row_text.specs.PrintedLine.{line}
use Rattle.lhg_row_text.proofs.Appended.{appended}
use Rattle.lhg_gen.specs.GeneratedText.{location_lines}
use Rattle.lhg_gen.proofs.MoreLines.{appended_or, behind, location_parts}
use Rattle.lhg_gen.proofs.plants.push_location.Goals as goal

pub returns : goal.returns
returns c =
    let number = c.args.number in
    let name = 32 ∷ 97 ∷ decimal number in
    appended c.extend_from_slice-2.result c.extend_from_slice-2.new.self.items c.push_name.new.text.items c.args.text.now.items (codes "loc" ++ name) (10 ∷ flat_map line behind) (flat_map line (location_lines number))
    (appended_or c.extend_from_slice-2.result c.extend_from_slice-2.new.self.items c.push_name.new.text.items (10 ∷ flat_map line behind) c.extend_from_slice-2.ensures.items) (c.in_ok-push_name.ensures ∙ ap (λ t. t ++ name) c.in_ok-extend_from_slice.ensures.items ∙ append_assoc c.args.text.now.items (codes "loc") name)
    (location_parts number)
