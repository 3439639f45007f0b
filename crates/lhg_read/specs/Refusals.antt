-- When is a part of a line refused?
use Rattle.std.specs.Prelude.{◌≡◌, ℕ, List, Option, Some, None, Result, Ok, Err}
use Rattle.lhg_lex.specs.declared.stops.What.TheVariants as what
use Rattle.lhg_lex.specs.declared.stops.ReadStop.{ReadStop}
use Rattle.lhg_lex.specs.declared.stops.ReadStop.TheVariants as stop
use Rattle.lhg_read.specs.Options.{joined}
use Rattle.lhg_read.specs.declared.refusal.Refusal.{Refusal}
use Rattle.lhg_read.specs.declared.refusal.Refusal.TheVariants.{NotHere, Memory}

-- there is no value; want of memory is free
abbrev pub IsRefused : {A : Type 0} → Refusal → Option A → Type 0
IsRefused NotHere o = o ≡ None
IsRefused Memory o = Unit {0}

-- the answer is the value, or a refusal
abbrev pub IsRead : {T A : Type 0} → Result T Refusal → Option A → (T → A) → Type 0
IsRead (Ok x) o view = o ≡ Some (view x)
IsRead (Err refusal) o view = IsRefused refusal o

-- what is read is appended to the old list, or it is refused
abbrev pub IsAppended : {T A : Type 0} → Result T Refusal → (old new : List A) → Option (List A) → Type 0
IsAppended (Ok x) old new o = joined (Some old) o ≡ Some new
IsAppended (Err refusal) old new o = IsRefused refusal o

-- the refusal of the line with this number
abbrev pub stop_at : Refusal → ℕ → ReadStop
stop_at NotHere line = stop.Bad line 0 what.NotHere
stop_at Memory line = stop.Memory

-- there is no value, and the line with this number cannot stand where it does; want of memory is free
abbrev pub IsStopped : {A : Type 0} → ℕ → ReadStop → Option A → Type 0
IsStopped n (stop.Bad line column error) o = (line ≡ n) × (column ≡ 0) × (error ≡ what.NotHere) × (o ≡ None)
IsStopped n stop.Memory o = Unit {0}

-- the answer for the line with this number is the value, or a refusal of the line
abbrev pub IsReadAt : {T A : Type 0} → Result T ReadStop → ℕ → Option A → (T → A) → Type 0
IsReadAt (Ok x) n o view = o ≡ Some (view x)
IsReadAt (Err refusal) n o view = IsStopped n refusal o
