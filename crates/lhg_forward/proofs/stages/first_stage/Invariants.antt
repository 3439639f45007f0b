use Rattle.std.proofs.Common.{◌≡◌, ℕ, map, take}
use Rattle.std.specs.Global.{Vec}
use Rattle.lhg_row.specs.System.{PlainSystem}
use Rattle.lhg_union.specs.Regions.{polys_of}
use Rattle.lhg_forward.proofs.stages.first_stage.Given as goal

-- no piece is older
abbrev pub none_older : Vec PlainSystem → ℕ
none_older v = 0

abbrev pub invariant-loop-list : goal.invariant-loop-list
invariant-loop-list l = record {
  copied : polys_of l.pieces.items ≡ polys_of (take l.list-index l.init.pieces.items);
  none : l.older.items ≡ map none_older (take l.list-index l.init.pieces.items);
}
