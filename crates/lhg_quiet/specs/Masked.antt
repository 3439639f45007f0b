-- Which sets of switches does a round form that passes over the locations that are marked?
use Rattle.std.specs.Prelude.{◌≡◌, ℕ, Bool, false, cond, List, [], length, get_or}
use Rattle.std.specs.List.{range_with_len}
use Rattle.lhg_num.specs.Marked.{Marked, done, each}
use Rattle.lhg_num.specs.MarkedLaws.{IsPart}
use Rattle.lhg_row.specs.Piece.{PlainPiece}
use Rattle.lhg_plant.specs.Plant.{PlainPlant, PlainSwitch}
use Rattle.lhg_plant.specs.Region.{PlainRegion, PlainGuards}
use Rattle.lhg_plant.specs.Invariants.{invariants}
use Rattle.lhg_plant.specs.OutCalculus.{PlainHit, away, hits_at, out}
use Rattle.lhg_plant.specs.BackCalculus.{back_by, back}
use Rattle.lhg_quiet.specs.Quiet.{outs_from, HasSetsAt}

-- ---- hits
-- those of location l, and none where it is marked
abbrev pub busy_hits_at : PlainPlant → List Bool → PlainRegion → PlainRegion → PlainRegion → ℕ → Marked (List PlainHit)
busy_hits_at a quiet invs outside region l = cond (get_or quiet l false) (done []) (hits_at a invs outside region l)

-- those of each location
abbrev pub busy_hits : PlainPlant → List Bool → PlainRegion → PlainRegion → PlainRegion → Marked (List (List PlainHit))
busy_hits a quiet invs outside region = each (busy_hits_at a quiet invs outside region) (range_with_len 0 (length a.locs))

-- ---- back
-- the states that a switch keeps in the region, and none where the location that it leaves is marked
abbrev pub busy_back_by : ℕ → List Bool → PlainRegion → PlainRegion → PlainRegion → PlainSwitch → Marked (List PlainPiece)
busy_back_by n quiet invs region outside w = cond (get_or quiet w.from false) (done []) (back_by n invs region outside w)

-- those of each switch
abbrev pub busy_back : PlainPlant → List Bool → PlainRegion → PlainRegion → PlainRegion → Marked PlainGuards
busy_back a quiet invs region outside = each (busy_back_by (length a.vars) quiet invs region outside) a.switches

-- ---- laws
-- where the invariants and the states outside the region are its own: hits, back: no mark is new. sets: in a location that is not marked, the sets
-- are those of the region
pub record MaskedLaws (a : PlainPlant) (region : PlainRegion) (quiet : List Bool) (invs outside : PlainRegion) : Type 0 where
  pub hits : IsPart (out a region) (busy_hits a quiet invs outside region)
  pub back : IsPart (back a region (outs_from a region).away) (busy_back a quiet invs region outside)
  pub sets : (l : ℕ) → get_or quiet l false ≡ false
      → HasSetsAt a region l (record { away = outside; hits = (busy_hits a quiet invs outside region).value }) (busy_back a quiet invs region outside).value

-- the laws for each plant, each of its regions, and all marks
abbrev pub MaskedLaw : PlainPlant → Type 0
MaskedLaw a = (region : PlainRegion) (quiet : List Bool) (invs outside : PlainRegion) → invs ≡ (invariants a).value
    → outside ≡ (away (length a.vars) (invariants a).value region).value → MaskedLaws a region quiet invs outside
