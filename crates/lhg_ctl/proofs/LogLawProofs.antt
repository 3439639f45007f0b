-- A text has one log at most.
use Rattle.std.proofs.Common.{◌≡◌, List, [], ◌++◌, ap}
use Rattle.lhg_lex.specs.LineTokens.{Spot}
use Rattle.lhg_plant.specs.Plant.{PlainPlant}
use Rattle.lhg_read.specs.MachineLaws.{one_begun, none_behind}
use Rattle.lhg_read.specs.TextLaws.{HasOneReading, HasBlankEnd}
use Rattle.lhg_read.proofs.TextEnds.{one_reading, blank_end}
use Rattle.lhg_ctl.specs.LogText.{PlainLog, IsLog, IsLogText, IsSomeLogText, PlainOpenLog}
use Rattle.lhg_ctl.proofs.LogMachine.{is_ended, begin_at, taken_at, ended_of, begun_of, whole_of}

module _ (p : PlainPlant) where
  -- tokens are one log at most
  one_log : (lines : List (List Spot)) (x y : PlainLog) → IsLog p lines x → IsLog p lines y → x ≡ y
  one_log lines x y h k =
      ap (λ (o : PlainOpenLog). o.log)
      (one_begun PlainOpenLog (begin_at p) (taken_at p) is_ended lines (ended_of x.start x.entries) (ended_of y.start y.entries) (begun_of p lines x h) (begun_of p lines y k))

  -- no further tokens follow those of a log
  no_more : (tokens more : List (List Spot)) (x y : PlainLog) → IsLog p tokens x → IsLog p (tokens ++ more) y → more ≡ []
  no_more tokens more x y h k = none_behind PlainOpenLog (begin_at p) (taken_at p) is_ended tokens more (whole_of p tokens x h) (whole_of p (tokens ++ more) y k)

  pub log_reading : HasOneReading (IsLogText p) (IsSomeLogText p)
  log_reading = one_reading (IsLog p) one_log

  pub log_end : HasBlankEnd (IsLogText p)
  log_end = blank_end (IsLog p) no_more
