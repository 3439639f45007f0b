-- What does a count of faults say of an answer?
use Rattle.std.specs.Prelude.{◌≡◌, ◌<◌, ◌≤◌, ◌-◌, ◌^◌, ◌⊎◌, ℕ, min, OnErr, OnOk, Result}

-- a count of n, which stands still at 2^64 - 1
abbrev pub count_of : ℕ → ℕ
count_of n = min n (2 ^ 64 - 1)

-- the count is greater after than before, or stands at 2^64 - 1
abbrev pub Rose : ℕ → ℕ → Type 0
Rose before now = (before < now) ⊎ (now ≡ 2 ^ 64 - 1)

-- the count never falls, a failure has raised it, and a success leaves it as it was
pub record HasCause {T E : Type 0} (before now : ℕ) (result : Result T E) : Type 0 where
  pub never_falls : before ≤ now
  pub failed : OnErr result (Rose before now)
  pub kept : OnOk result (now ≡ before)
