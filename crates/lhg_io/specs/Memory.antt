-- What does a contract see of a source and a sink in memory?
use Rattle.std.specs.Prelude.{ℕ, List}

-- the bytes not yet read, the most that a call gives, the numbers of the calls that fail, and how many calls and faults there were
pub record SourceState : Type 0 where
  pub left : List ℕ
  pub step : ℕ
  pub fails : List ℕ
  pub calls : ℕ
  pub faults : ℕ

-- the bytes taken so far, the most in all, the most that a call takes, the numbers of the calls that fail, and how many calls and faults there were
pub record SinkState : Type 0 where
  pub held : List ℕ
  pub room : ℕ
  pub step : ℕ
  pub fails : List ℕ
  pub calls : ℕ
  pub faults : ℕ
