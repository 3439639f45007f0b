-- A log is read: its start, the lines behind it, and its end.
use Rattle.std.proofs.Common.{◌≡◌, List, map, sym, ap, ◌∙◌, true, false, Some}
use Rattle.std.specs.Option.{option_map}
use Rattle.lhg_lex.specs.TextTokens.{plain_of}
use Rattle.lhg_lex.specs.Reading.{Reading, IsTokenLine}
use Rattle.lhg_lex.specs.declared.stops.ReadStop.{ReadStop}
use Rattle.lhg_lex.specs.declared.tokens.Line.{Line}
use Rattle.lhg_lex.specs.declared.tokens.Token.{Token}
use Rattle.lhg_plant.specs.Plant.{PlainPlant}
use Rattle.lhg_plant.specs.Proper.{IsProper}
use Rattle.lhg_plant.specs.State.{PlainState}
use Rattle.lhg_read.specs.PlantText.{said_in}
use Rattle.lhg_read.specs.Refusals.{stop_at, IsRefused}
use Rattle.lhg_read.specs.TokenText.{ReadsText, HasCause, IsNoLine}
use Rattle.lhg_read.specs.declared.refusal.Refusal.{Refusal}
use Rattle.lhg_read.specs.ReadsLaws.{said_after}
use Rattle.lhg_ctl.specs.LogText.{PlainOpenLog, begun_at, start_line, IsLog, IsSomeLog, IsSomeLogText, log_taken}
use Rattle.lhg_ctl.proofs.LogMachine.{is_ended, begin_at, taken_at, log_of_begun}
use Rattle.lhg_ctl.proofs.LogStart.{logs}
use Rattle.lhg_read.specs.Machine.{Between}
use Rattle.lhg_read.specs.MachineLaws.{nothing_comes, first_refused, first_taken, no_end_comes, not_taken, one_taken, whole_read}

-- between two lines of a log
abbrev pub LogSoFar : PlainPlant → Reading → Reading → PlainOpenLog → Type 0
LogSoFar p old s o = Between PlainOpenLog (begin_at p) (taken_at p) is_ended old s o

module _ (p : PlainPlant) (proper : IsProper p) where
  -- no line at the beginning
  pub nothing : (old : Reading) (stop : ReadStop) → IsNoLine old stop → HasCause (IsSomeLogText p) old stop
  nothing old stop h = nothing_comes PlainOpenLog (begin_at p) (taken_at p) is_ended (IsSomeLog p) (logs p proper) old stop h

  module _ (old : Reading) (line : Line) (new : Reading) (h : IsTokenLine old line) (e : new ≡ record old { read = line.number }) (tokens : List Token) (f : tokens ≡ line.tokens.items) where
    said : start_line p (map (plain_of new.bytes) tokens) ≡ start_line p (said_in h.spots)
    said = ap (start_line p) (said_after old line new h e tokens f)

    -- another first line
    pub no_start : (r : Refusal) → IsRefused r (start_line p (map (plain_of new.bytes) tokens)) → HasCause (IsSomeLogText p) old (stop_at r line.number)
    no_start r k =
        first_refused PlainOpenLog (begin_at p) (taken_at p) is_ended (IsSomeLog p) (logs p proper) old line new h e r (start_line p (map (plain_of new.bytes) tokens))
        (λ none. ap (option_map begun_at) (sym said ∙ none)) k

    -- the start
    pub start_read : (s : PlainState) (o : PlainOpenLog) → start_line p (map (plain_of new.bytes) tokens) ≡ Some s → o ≡ begun_at s → LogSoFar p old new o
    start_read s o k g =
        first_taken PlainOpenLog (begin_at p) (taken_at p) is_ended (IsSomeLog p) (logs p proper) old line new h e o (ap (option_map begun_at) (sym said ∙ k) ∙ ap (λ x. Some x) (sym g))

  module _ (old s : Reading) (o : PlainOpenLog) (b : LogSoFar p old s o) (going : o.ended ≡ false) where
    -- no line before the end
    pub no_end : (stop : ReadStop) → IsNoLine s stop → HasCause (IsSomeLogText p) old stop
    no_end stop h = no_end_comes PlainOpenLog (begin_at p) (taken_at p) is_ended (IsSomeLog p) (logs p proper) old s o b going stop h

    module _ (line : Line) (new : Reading) (h : IsTokenLine s line) (e : new ≡ record s { read = line.number }) (tokens : List Token) (f : tokens ≡ line.tokens.items) where
      -- a line that is not taken
      pub line_refused : (r : Refusal) → IsRefused r (log_taken p o (map (plain_of new.bytes) tokens)) → HasCause (IsSomeLogText p) old (stop_at r line.number)
      line_refused r k =
          not_taken PlainOpenLog (begin_at p) (taken_at p) is_ended (IsSomeLog p) (logs p proper) old s o b going line new h e r (log_taken p o (map (plain_of new.bytes) tokens))
          (ap (log_taken p o) (sym (said_after s line new h e tokens f))) k

      -- a line that is taken
      pub line_taken : (x : PlainOpenLog) → log_taken p o (map (plain_of new.bytes) tokens) ≡ Some x → LogSoFar p old new x
      line_taken x k =
          one_taken PlainOpenLog (begin_at p) (taken_at p) is_ended (IsSomeLog p) (logs p proper) old s o b going line new h e x (ap (log_taken p o) (sym (said_after s line new h e tokens f)) ∙ k)

  -- the end
  pub log_read : (old s : Reading) (o : PlainOpenLog) → LogSoFar p old s o → o.ended ≡ true → ReadsText (λ tokens. IsLog p tokens o.log) old s
  log_read old s o b t = whole_read PlainOpenLog (begin_at p) (taken_at p) is_ended (IsSomeLog p) (logs p proper) old s o b (λ tokens. IsLog p tokens o.log) (log_of_begun p b.0 o b.2 t)
