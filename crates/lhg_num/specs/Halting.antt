-- When a call may halt.
use Rattle.std.specs.Prelude.{◌≡◌, Bool, true, false, cond, Result, Ok, Err}
use Rattle.lhg_num.specs.Marked.{Marked}
use Rattle.lhg_num.specs.declared.refusals.Halt.{Halt}
use Rattle.lhg_num.specs.declared.refusals.Halt.TheVariants.{Wide, Rows, Pieces, Memory}

-- which halts a call may answer, beside want of memory
pub record Halts : Type 0 where
  pub wide : Bool
  pub rows : Bool
  pub pieces : Bool

-- an answer is the value that the calculus gives, and each halt but want of memory is one that may come, tied to its own mark
abbrev pub IsHalted : {T A : Type 0} → Halts → Result T Halt → Marked A → (T → A) → Type 0
IsHalted may (Ok x) m f = f x ≡ m.value
IsHalted may (Err Wide) m f = cond may.wide (m.wide ≡ true) ⊥
IsHalted may (Err Rows) m f = cond may.rows (m.rows ≡ true) ⊥
IsHalted may (Err Pieces) m f = cond may.pieces (m.pieces ≡ true) ⊥
IsHalted may (Err Memory) m f = Unit {0}

-- numbers, rows and pieces
abbrev pub of_all : Halts
of_all = record { wide = true; rows = true; pieces = true }

-- a call that may halt for numbers, rows and pieces
abbrev pub IsHaltedBy : {T A : Type 0} → Result T Halt → Marked A → (T → A) → Type 0
IsHaltedBy = IsHalted of_all

-- numbers and rows
abbrev pub of_rows : Halts
of_rows = record { wide = true; rows = true; pieces = false }

-- a call that may halt for numbers and rows
abbrev pub IsHaltedByRows : {T A : Type 0} → Result T Halt → Marked A → (T → A) → Type 0
IsHaltedByRows = IsHalted of_rows

-- numbers
abbrev pub of_numbers : Halts
of_numbers = record { wide = true; rows = false; pieces = false }

-- a call that may halt for numbers
abbrev pub IsHaltedByWide : {T A : Type 0} → Result T Halt → Marked A → (T → A) → Type 0
IsHaltedByWide = IsHalted of_numbers

-- pieces
abbrev pub of_pieces : Halts
of_pieces = record { wide = false; rows = false; pieces = true }

-- a call that may halt for pieces
abbrev pub IsHaltedByPieces : {T A : Type 0} → Result T Halt → Marked A → (T → A) → Type 0
IsHaltedByPieces = IsHalted of_pieces

-- want of memory alone
abbrev pub of_memory : Halts
of_memory = record { wide = false; rows = false; pieces = false }

-- a call that may halt for want of memory alone
abbrev pub IsHaltedByMemory : {T A : Type 0} → Result T Halt → Marked A → (T → A) → Type 0
IsHaltedByMemory = IsHalted of_memory

-- a call that may answer Wide alone
abbrev pub IsWideBy : {T E A : Type 0} → Result T E → Marked A → (T → A) → Type 0
IsWideBy (Ok x) m f = f x ≡ m.value
IsWideBy (Err e) m f = m.wide ≡ true
