-- When do counts say how many pieces stand at each place?
use Rattle.std.specs.Prelude.{◌≡◌, ◌<◌, ℕ, List, length, get_or, map}
use Rattle.lhg_row.specs.Piece.{PlainPiece}
use Rattle.lhg_plant.specs.declared.plants.Plant.{Plant}
use Rattle.lhg_ctl.specs.ControllerGrammar.{count_at}
use Rattle.lhg_ctl.specs.NameLists.{lists_in, AreListed}
use Rattle.lhg_ctl.specs.Views.{plain_placed}
use Rattle.lhg_ctl.specs.declared.open_drafts.OpenDraft.{OpenDraft}

-- for each of so many places the count of the pieces that stand there
pub record AreCounts (places : ℕ) (counts : List ℕ) (ps : List (ℕ × PlainPiece)) : Type 0 where
  pub many : length counts ≡ places
  pub each : (k : ℕ) → k < places → get_or counts k 0 ≡ count_at k ps

-- the counts of a controller of the plant that is being read: of its pieces by location, and of its guards by switch; and the names of
-- the guards are found in their lists
pub record IsCounted (plant : Plant) (o : OpenDraft) : Type 0 where
  pub pieces : AreCounts (length plant.locs.items) o.piece_counts.items (map plain_placed o.draft.pieces.items)
  pub guards : AreCounts (length plant.switches.items) o.guard_counts.items (map plain_placed o.draft.guards.items)
  pub names : AreListed (lists_in o.name_lists.items) o.draft.names.items
