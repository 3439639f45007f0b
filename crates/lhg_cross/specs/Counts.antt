-- What is a count after one more?
use Rattle.std.specs.Prelude.{ℕ, ◌+◌, ◌-◌, ◌^◌, min}

-- the most that a count says
abbrev pub count_limit : ℕ
count_limit = 2 ^ 64 - 1

-- one more, or the most
abbrev pub raised : ℕ → ℕ
raised count = min (count + 1) count_limit
