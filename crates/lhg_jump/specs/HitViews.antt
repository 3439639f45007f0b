-- What do contracts see of the hits that the code holds?
use Rattle.std.specs.Prelude.{◌≡◌, ℕ, List, length, map}
use Rattle.std.specs.Global.{Vec}
use Rattle.lhg_math.specs.Tests.{AllOf}
use Rattle.lhg_row.specs.System.{PlainSystem}
use Rattle.lhg_union.specs.PolyLists.{lines_of, AllVars}
use Rattle.lhg_plant.specs.declared.plants.Plant.{Plant}
use Rattle.lhg_plant.specs.OutCalculus.{PlainHit, hit_pieces}
use Rattle.lhg_jump.specs.declared.hits.Hit.{Hit}

-- a hit as plain data
abbrev pub plain_hit : Hit → PlainHit
plain_hit h = record { switch = h.switch; into = h.into.lines; piece = h.piece.lines }

-- a list of hits
abbrev pub plain_hits : List Hit → List PlainHit
plain_hits hits = map plain_hit hits

-- both pieces of a hit are over n variables
abbrev pub HasVars : ℕ → Hit → Type 0
HasVars n h = (h.into.width ≡ n) × (h.piece.width ≡ n)

-- the hits that are kept, with copies of their pieces beside them; all are over n variables
pub record AreKept (n : ℕ) (hits : List Hit) (pieces : List PlainSystem) : Type 0 where
  pub same : lines_of pieces ≡ hit_pieces (plain_hits hits)
  pub piece_vars : AllVars n pieces
  pub hit_vars : AllOf (HasVars n) hits

-- a list of hits for each location, whose pieces are over the plant's variables
pub record AreHitsOf (plant : Plant) (lists : List (Vec Hit)) : Type 0 where
  pub many : length lists ≡ length plant.locs.items
  pub vars : AllOf (λ hs. AllOf (HasVars (length plant.vars.items)) hs.items) lists
