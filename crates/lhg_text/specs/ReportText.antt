-- How is a report printed?
use Rattle.std.specs.Prelude.{ℕ, List, [], ◌∷◌, ◌++◌, codes, decimal, map, slice_get}
use Rattle.std.specs.List.{flat_map}
use Rattle.lhg_plant.specs.Controller.{PlainController}
use Rattle.lhg_plant.specs.Loss.{PlainLoss, PlainCause, by_env, by_leave, by_flow}
use Rattle.lhg_plant.specs.Plant.{PlainPlant}
use Rattle.lhg_row_text.specs.PrintedLine.{line, spaced, location_name, switch_name}
use Rattle.lhg_row_text.specs.RowText.{rows_text}
use Rattle.lhg_ctl.specs.ControllerText.{controller_lines}

-- the words of a cause: `env SWITCH`, `leave` or `flow M`
abbrev pub cause_words : PlainPlant → PlainCause → List (List ℕ)
cause_words a (by_env e into) = codes "env" ∷ switch_name (slice_get a.switches e) ∷ []
cause_words a (by_leave through into) = codes "leave" ∷ []
cause_words a (by_flow m through) = codes "flow" ∷ decimal m ∷ []

-- the line of a record: `loss N round I LOCATION CAUSE ROWS`
abbrev pub loss_line : PlainPlant → PlainLoss → List ℕ
loss_line a loss =
    spaced ((codes "loss" ∷ decimal loss.number ∷ codes "round" ∷ decimal loss.round ∷ location_name (slice_get a.locs loss.loc) ∷ cause_words a loss.cause) ++ rows_text a.vars loss.piece ∷ [])

-- the lines of a report: the head, the number of rounds, the controller, the records in order, and the end
abbrev pub report_lines : PlainPlant → ℕ → PlainController → List PlainLoss → List (List ℕ)
report_lines a rounds c losses =
    codes "report 1" ∷ spaced (codes "rounds" ∷ decimal rounds ∷ []) ∷ (controller_lines a c ++ (map (loss_line a) losses ++ codes "end" ∷ []))

-- each line ends with a line feed
abbrev pub report_text : PlainPlant → ℕ → PlainController → List PlainLoss → List ℕ
report_text a rounds c losses = flat_map line (report_lines a rounds c losses)
