use Rattle.std.proofs.Common.{◌≡◌, ◌++◌, drop, map}
use Rattle.std.specs.List.{flat_map}
use Rattle.lhg_math.specs.Tests.{AllOf}
use Rattle.lhg_plant.specs.Views.{plain_plant}
use Rattle.lhg_row_text.specs.PrintedLine.{line}
use Rattle.lhg_row_text.specs.Short.{AllShort}
use Rattle.lhg_ctl.specs.ControllerText.{piece_line}
use Rattle.lhg_ctl.specs.Views.{plain_placed}
use Rattle.lhg_ctl.proofs.draft_printing.push_pieces.Given as goal

abbrev pub invariant-loop-i : goal.invariant-loop-i
invariant-loop-i l = record {
  text : l.text.items ++ flat_map line (map (piece_line (plain_plant l.plant)) (map plain_placed (drop l.i l.pieces))) ≡ l.fn.text.items ++ flat_map line (map (piece_line (plain_plant l.plant)) (map plain_placed l.pieces));
  short : AllOf (λ p. AllShort p.1) (map plain_placed (drop l.i l.pieces)) → AllOf (λ p. AllShort p.1) (map plain_placed l.pieces);
}
