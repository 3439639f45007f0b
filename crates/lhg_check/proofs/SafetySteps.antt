-- Steps of the first part.
use Rattle.std.proofs.Common.{◌≡◌, length, sym, subst}
use Rattle.lhg_num.specs.Marked.{each, IsRest}
use Rattle.lhg_num.specs.MarkedLaws.{IsPart, and_then-part, and_then-rest}
use Rattle.lhg_plant.specs.Plant.{PlainPlant}
use Rattle.lhg_plant.specs.Region.{PlainRegion}
use Rattle.lhg_plant.specs.SafeRegion.{safe_region}
use Rattle.lhg_plant.specs.OutCalculus.{numbered}
use Rattle.lhg_check.specs.Check.{unsafe_at, unsafe_pieces}

module _ (a : PlainPlant) (region : PlainRegion) where
  -- the marks of the safe states are among those of the part
  pub unsafe-safe : IsPart (unsafe_pieces a region) (safe_region a)
  unfolding unsafe_pieces
  unsafe-safe = and_then-part (safe_region a) (λ safe. each (unsafe_at (length a.vars) safe region) (numbered 0 a.locs))

  -- after them the locations are left
  pub unsafe-rest : IsRest (unsafe_pieces a region) (each (unsafe_at (length a.vars) (safe_region a).value region) (numbered 0 a.locs))
  unfolding unsafe_pieces
  unsafe-rest = and_then-rest (safe_region a) (λ safe. each (unsafe_at (length a.vars) safe region) (numbered 0 a.locs))

  -- the same where the code holds the safe states
  pub unsafe-all : (safe : PlainRegion) → safe ≡ (safe_region a).value → IsRest (unsafe_pieces a region) (each (unsafe_at (length a.vars) safe region) (numbered 0 a.locs))
  unsafe-all safe same = subst (λ (s : PlainRegion). IsRest (unsafe_pieces a region) (each (unsafe_at (length a.vars) s region) (numbered 0 a.locs))) (sym same) unsafe-rest
