-- Logs are read line by line.
use Rattle.std.proofs.Common.{◌≡◌, List, [], ◌∷◌, ◌++◌, map, refl, sym, ap, ◌∙◌, subst, Bool, true, false, Option, Some, None, append_assoc, append-nil, codes}
use Rattle.std.specs.Option.{option_and_then, option_map}
use Rattle.std.proofs.lemmas.Option.{none-some, same_Some}
use Rattle.lhg_math.specs.Tests.{false_true}
use Rattle.lhg_lex.specs.LineTokens.{Spot}
use Rattle.lhg_plant.specs.Plant.{PlainPlant}
use Rattle.lhg_plant.specs.Run.{PlainEntry}
use Rattle.lhg_plant.specs.State.{PlainState}
use Rattle.lhg_read.specs.PlantText.{said_in}
use Rattle.lhg_read.specs.ReadsLaws.{on_by}
use Rattle.lhg_read.specs.Reads.{CanGoOn}
use Rattle.lhg_read.proofs.EndLine.{end_line, end_tokens}
use Rattle.lhg_ctl.specs.LogText.{PlainLog, LogLine, entry, end, log_line, start_line, said_entries, IsLog, IsSomeLog, PlainOpenLog, begun_at, with_line, log_taken}
use Rattle.lhg_read.specs.Machine.{all_taken, IsBegun, IsWhole}
use Rattle.lhg_read.specs.MachineLaws.{begun_more}

-- whether a log has ended
abbrev pub is_ended : PlainOpenLog → Bool
is_ended o = o.ended

-- the start begins a log
abbrev pub begin_at : PlainPlant → List Spot → Option PlainOpenLog
begin_at p first = option_map begun_at (start_line p (said_in first))

-- what a line changes
abbrev pub taken_at : PlainPlant → PlainOpenLog → List Spot → Option PlainOpenLog
taken_at p o line = log_taken p o (said_in line)

-- a log that has not ended
abbrev open_of : PlainState → List PlainEntry → PlainOpenLog
open_of s es = record { log = record { start = s; entries = es }; ended = false }

abbrev pub ended_of : PlainState → List PlainEntry → PlainOpenLog
ended_of s es = record { log = record { start = s; entries = es }; ended = true }

module _ (p : PlainPlant) where
  -- all lines of a log are taken
  run : (s : PlainState) (es done : List PlainEntry) (lines : List (List Spot)) → map (λ l. log_line p (said_in l)) lines ≡ map (λ v. Some v) (said_entries es) → all_taken (taken_at p) is_ended (open_of s done) lines ≡ Some (ended_of s (done ++ es))
  run s [] done [] h = absurd cc
  run s [] done (l ∷ []) h =
      let here : log_line p (said_in l) ≡ Some end = cc in
      ap (λ o. option_and_then (λ x. all_taken (taken_at p) is_ended x []) (option_map (with_line (open_of s done)) o)) here ∙ ap (λ xs. Some (ended_of s xs)) (sym (append-nil done))
  run s [] done (l ∷ k ∷ lines) h = absurd cc
  run s (e ∷ es) done [] h = absurd cc
  run s (e ∷ es) done (l ∷ lines) h =
      let here : log_line p (said_in l) ≡ Some (entry e) = cc in
      let later : map (λ k. log_line p (said_in k)) lines ≡ map (λ v. Some v) (said_entries es) = cc in
      ap (λ o. option_and_then (λ x. all_taken (taken_at p) is_ended x lines) (option_map (with_line (open_of s done)) o)) here ∙ run s es (done ++ e ∷ []) lines later ∙ ap (λ xs. Some (ended_of s xs)) (append_assoc done (e ∷ []) es)

  -- what lines that end a log say: further entries and the end
  record IsShape (s : PlainState) (done : List PlainEntry) (lines : List (List Spot)) (new : PlainOpenLog) : Type 0 where
    entries : List PlainEntry
    said : map (λ l. log_line p (said_in l)) lines ≡ map (λ v. Some v) (said_entries entries)
    log_is : new.log ≡ record { start = s; entries = done ++ entries }

  -- the end
  end_shape : (s : PlainState) (done : List PlainEntry) (l : List Spot) (new : PlainOpenLog) (lines : List (List Spot)) → log_line p (said_in l) ≡ Some end → all_taken (taken_at p) is_ended (ended_of s done) lines ≡ Some new → IsShape s done (l ∷ lines) new
  end_shape s done l new [] e k = record {
    entries = [];
    said = ap (λ o. o ∷ []) e;
    log_is = ap (λ (o : PlainOpenLog). o.log) (sym (same_Some (ended_of s done) new k)) ∙ ap (λ xs. record { start = s; entries = xs }) (sym (append-nil done));
  }
  end_shape s done l new (x ∷ rest) e k = absurd (none-some new k)

  -- a line more
  line_shape : (s : PlainState) (done : List PlainEntry) (l : List Spot) (lines : List (List Spot)) (new : PlainOpenLog)
      → ((x : PlainEntry) → all_taken (taken_at p) is_ended (open_of s (done ++ x ∷ [])) lines ≡ Some new → IsShape s (done ++ x ∷ []) lines new)
      → (o : Option LogLine) → log_line p (said_in l) ≡ o → option_and_then (λ x. all_taken (taken_at p) is_ended x lines) (option_map (with_line (open_of s done)) o) ≡ Some new → IsShape s done (l ∷ lines) new
  line_shape s done l lines new rest None e k = absurd (none-some new k)
  line_shape s done l lines new rest (Some (entry x)) e k =
      let r = rest x k in
      record {
        entries = x ∷ r.entries;
        said = ap (λ o. o ∷ map (λ y. log_line p (said_in y)) lines) e ∙ ap (λ xs. Some (entry x) ∷ xs) r.said;
        log_is = r.log_is ∙ ap (λ xs. record { start = s; entries = xs }) (append_assoc done (x ∷ []) r.entries);
      }
  line_shape s done l lines new rest (Some end) e k = end_shape s done l new lines e k

  shape_of : (s : PlainState) (done : List PlainEntry) (lines : List (List Spot)) (new : PlainOpenLog) → all_taken (taken_at p) is_ended (open_of s done) lines ≡ Some new → new.ended ≡ true → IsShape s done lines new
  shape_of s done [] new h t = false_true (ap is_ended (same_Some (open_of s done) new h) ∙ t)
  shape_of s done (l ∷ lines) new h t = line_shape s done l lines new (λ x k. shape_of s (done ++ x ∷ []) lines new k t) (log_line p (said_in l)) refl h

  -- a log is such a text
  pub begun_of : (lines : List (List Spot)) (log : PlainLog) → IsLog p lines log → IsBegun PlainOpenLog (begin_at p) (taken_at p) is_ended lines (ended_of log.start log.entries)
  begun_of lines log h = record { head = h.first; rest = h.rest; start = begun_at log.start; lines_are = h.lines_are; begins = ap (option_map begun_at) h.start_is; taken = run log.start log.entries [] h.rest h.rest_are }

  pub whole_of : (lines : List (List Spot)) (log : PlainLog) → IsLog p lines log → IsWhole PlainOpenLog (begin_at p) (taken_at p) is_ended lines
  whole_of lines log h = (ended_of log.start log.entries, begun_of lines log h, refl)

  -- what begins a log is a start
  started : (o : Option PlainState) (b : PlainOpenLog) → option_map begun_at o ≡ Some b → (s : PlainState) × (o ≡ Some s) × (b ≡ begun_at s)
  started None b h = absurd (none-some b h)
  started (Some s) b h = (s, refl, sym (same_Some (begun_at s) b h))

  -- and such a text is a log
  pub log_of_begun : (lines : List (List Spot)) (o : PlainOpenLog) → IsBegun PlainOpenLog (begin_at p) (taken_at p) is_ended lines o → o.ended ≡ true → IsLog p lines o.log
  log_of_begun lines o b t =
      let a = started (start_line p (said_in b.head)) b.start b.begins in
      let f = shape_of a.0 [] b.rest o (ap (λ x. all_taken (taken_at p) is_ended x b.rest) (sym a.2) ∙ b.taken) t in
      record {
        first = b.head;
        rest = b.rest;
        lines_are = b.lines_are;
        start_is = a.1 ∙ ap (λ (x : PlainLog). Some x.start) (sym f.log_is);
        rest_are = f.said ∙ ap (λ (x : PlainLog). map (λ v. Some v) (said_entries x.entries)) (sym f.log_is);
      }

  -- it goes on with nothing where it has ended
  done : (lines : List (List Spot)) (o : PlainOpenLog) → IsBegun PlainOpenLog (begin_at p) (taken_at p) is_ended lines o → o.ended ≡ true → CanGoOn (IsSomeLog p) lines
  done lines o b t = record { more = []; further = []; are = refl; is = (o.log, subst (λ ls. IsLog p ls o.log) (sym (append-nil lines)) (log_of_begun lines o b t)) }

  -- and else with the end
  pub by_end : (lines : List (List Spot)) (o : PlainOpenLog) → IsBegun PlainOpenLog (begin_at p) (taken_at p) is_ended lines o → o.ended ≡ false → CanGoOn (IsSomeLog p) lines
  unfolding end_line
  by_end lines o b going =
      let last : PlainOpenLog = record o { ended = true } in
      on_by (IsSomeLog p) lines (codes "end") end_line end_tokens refl
      (done (lines ++ end_line ∷ []) last (begun_more PlainOpenLog (begin_at p) (taken_at p) is_ended lines o last end_line b going refl) refl)
