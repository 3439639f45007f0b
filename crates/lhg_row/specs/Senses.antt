-- With what is a number compared?
use Rattle.lhg_math.specs.Number.{Number, neg}
use Rattle.lhg_row.specs.declared.scaling.Sense.{Sense}
use Rattle.lhg_row.specs.declared.scaling.Sense.TheVariants.{Same, Opposite}

-- the number itself, or its negative
abbrev pub seen_as : Sense → Number → Number
seen_as Same = λ y. y
seen_as Opposite = neg
