-- Are all pieces of lists over one number of variables?
use Rattle.std.specs.Prelude.{ℕ, List}
use Rattle.std.specs.Global.{Vec}
use Rattle.lhg_math.specs.Tests.{AllOf}
use Rattle.lhg_row.specs.System.{PlainSystem}
use Rattle.lhg_union.specs.PolyLists.{AllVars}

-- each piece of each list is over n variables
abbrev pub AreAllOver : ℕ → List (Vec PlainSystem) → Type 0
AreAllOver n lists = AllOf (λ ps. AllVars n ps.items) lists
