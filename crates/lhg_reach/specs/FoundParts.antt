-- What do contracts see of the found pieces that the code holds?
use Rattle.std.specs.Prelude.{◌≡◌, ℕ, List, map}
use Rattle.lhg_math.specs.Tests.{AllOf}
use Rattle.lhg_reach.specs.declared.found.Found.{Found}
use Rattle.lhg_reach.specs.declared.found.Reached.{Reached}
use Rattle.lhg_motion.specs.Found.{PlainFound, PlainReached}

-- a found piece as plain data
abbrev pub plain_found : {N : Type 0} → Found N → PlainFound
plain_found f = record { piece = f.piece.lines; through = f.through; to = f.to; layer = f.layer }

-- found pieces as plain data
abbrev pub plain_founds : {N : Type 0} → List (Found N) → List PlainFound
plain_founds fs = map plain_found fs

-- all that was found as plain data
abbrev pub plain_reached : {N : Type 0} → Reached N → PlainReached
plain_reached r = record { found = plain_founds r.found.items; layers = r.layers }

-- each found piece is over n variables
abbrev pub AllFoundVars : {N : Type 0} → ℕ → List (Found N) → Type 0
AllFoundVars n fs = AllOf (λ f. f.piece.width ≡ n) fs
