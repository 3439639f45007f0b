-- What does a list become where a new place stands in it, or where it is there already?
use Rattle.std.specs.Prelude.{ℕ, List, Option, Some, None}
use Rattle.std.specs.List.{insert}
use Rattle.lhg_math.specs.Number.{Number}

-- the list with the place put in, or as it was
abbrev pub put_in : Number → List Number → Option ℕ → List Number
put_in p ps None = ps
put_in p ps (Some i) = insert ps i p
