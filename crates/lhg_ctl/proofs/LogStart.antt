-- Some line is the start of a log.
use Rattle.std.proofs.Common.{[], ◌∷◌, refl, ap, codes}
use Rattle.std.specs.Option.{option_map}
use Rattle.lhg_plant.specs.Plant.{PlainPlant}
use Rattle.lhg_plant.specs.Proper.{IsProper}
use Rattle.lhg_read.specs.Machine.{IsMachine}
use Rattle.lhg_read.specs.MachineLaws.{begun_first}
use Rattle.lhg_read.specs.Reads.{CanGoOn}
use Rattle.lhg_read.specs.ReadsLaws.{on_by}
use Rattle.lhg_read.proofs.StateLines.{state_written}
use Rattle.lhg_ctl.specs.LogText.{PlainOpenLog, begun_at, IsSomeLog}
use Rattle.lhg_ctl.proofs.LogMachine.{is_ended, begin_at, taken_at, whole_of, by_end}

module _ (p : PlainPlant) (proper : IsProper p) where
  can_start : CanGoOn (IsSomeLog p) []
  can_start =
      let l = state_written (codes "start") refl p proper in
      let begun = begun_at l.state in
      on_by (IsSomeLog p) [] l.text l.spots l.tokens_are l.line_is
      (by_end p (l.spots ∷ []) begun (begun_first PlainOpenLog (begin_at p) (taken_at p) is_ended l.spots begun (ap (option_map begun_at) l.says)) refl)

  -- logs of a proper plant are read line by line
  pub logs : IsMachine PlainOpenLog (begin_at p) (taken_at p) is_ended (IsSomeLog p)
  logs = record { whole = λ lines h. whole_of p lines h.0 h.1; can_begin = can_start; can_end = by_end p }
