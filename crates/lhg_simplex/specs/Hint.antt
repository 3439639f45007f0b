-- A call that may halt for want of memory alone, whatever it answers.
use Rattle.std.specs.Prelude.{Result, Ok, Err}
use Rattle.lhg_num.specs.declared.refusals.Halt.{Halt}
use Rattle.lhg_num.specs.declared.refusals.Halt.TheVariants.{Wide, Rows, Pieces, Memory}

-- no halt but want of memory
abbrev pub HaltsForMemory : {T : Type 0} → Result T Halt → Type 0
HaltsForMemory (Ok x) = Unit {0}
HaltsForMemory (Err Wide) = ⊥
HaltsForMemory (Err Rows) = ⊥
HaltsForMemory (Err Pieces) = ⊥
HaltsForMemory (Err Memory) = Unit {0}
