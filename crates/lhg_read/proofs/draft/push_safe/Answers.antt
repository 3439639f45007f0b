use Rattle.std.proofs.Common.{◌<◌, ◌+◌, ◌-◌, ◌≡◌, ◌∷◌, [], ◌∙◌, ap, length, map, arith}
use Rattle.lhg_row.specs.Piece.{PlainPiece}
use Rattle.std.proofs.Common.{List}
use Rattle.std.proofs.lemmas.List.{map-append}
use Rattle.lhg_plant.specs.Plant.{PlainLocation}
use Rattle.lhg_plant.specs.Views.{plain_location}
use Rattle.lhg_read.specs.PlantSteps.{with_safe}
use Rattle.lhg_read.proofs.DraftSteps.{set_last}
use Rattle.lhg_read.proofs.draft.push_safe.Goals as goal

with_safe_rows : PlainLocation → List PlainPiece → PlainLocation
with_safe_rows l safe = record l { safe = safe }

pub returns : goal.returns
unfolding with_safe_rows
returns c =
    let some : 0 < length c.args.locs.now.items = omega (arith, c.requires, c.args.locs.now.ok.0) in
    let last : c.len-last.result - 1 + 1 ≡ length c.args.locs.now.items = omega (arith, c.requires, c.len-last.ensures, c.args.locs.now.ok.0) in
    set_last (with_safe c.args.rows.items) c.args.locs.now.items (c.len-last.result - 1) c.index_mut-l.result.now _ c.index_mut-l.result.now some last c.index_mut-l.ensures.value
    (ap (with_safe_rows (plain_location c.index_mut-l.result.now)) (ap (map (λ rows. rows.items)) c.in_ok-push.ensures.items ∙ map-append (λ rows. rows.items) c.index_mut-l.result.now.safe.items (c.args.rows ∷ [])))
