-- The points of a log that is read have a value for each variable, its start is placed, and its entries are not too many.
use Rattle.std.proofs.Common.{◌≡◌, ◌<◌, ◌≤◌, ◌^◌, ℕ, suc, Bool, true, false, List, [], ◌∷◌, length, map, Option, Some, None, Result, Ok, Err, refl, sym, ap, subst, arith, length-append}
use Rattle.std.specs.Prelude.{if◌then◌else◌, codes}
use Rattle.std.specs.Option.{option_map}
use Rattle.std.proofs.lemmas.List.{length-map}
use Rattle.std.proofs.lemmas.Option.{option_and_then_some}
use Rattle.lhg_math.specs.Tests.{AllOf}
use Rattle.lhg_lex.specs.LineTokens.{Spot, Fault, tokens_of}
use Rattle.lhg_lex.specs.Lines.{lines_of, most_bytes}
use Rattle.lhg_lex.specs.PlainToken.{PlainToken}
use Rattle.lhg_lex.proofs.LineCounts.{lines_count}
use Rattle.lhg_plant.specs.Plant.{PlainPlant}
use Rattle.lhg_plant.specs.Run.{PlainEntry, flow_entry, env_entry, land_entry}
use Rattle.lhg_read.specs.Listed.{alone}
use Rattle.lhg_read.specs.Options.{joined}
use Rattle.lhg_read.specs.PlantText.{said_in}
use Rattle.lhg_read.specs.PointText.{number_in, point_of}
use Rattle.lhg_read.specs.Signs.{is_word, is_minus}
use Rattle.lhg_read.specs.TokenText.{token_line, token_lines}
use Rattle.lhg_read.proofs.Answered.{was_there}
use Rattle.lhg_read.specs.SwitchName.{is_uncontrollable, switch_in}
use Rattle.lhg_ctl.specs.Draft.{PlainDraft}
use Rattle.lhg_ctl.specs.LogText.{PlainLog, LogLine, entry, end, signed_by, timed, flow_of, env_of, log_line, said_entries}
use Rattle.lhg_run.specs.Views.{IsOver}
use Rattle.lhg_text.specs.TraceText.{IsPlacedState}
use Rattle.lhg_input.specs.Inputs.{IsLogInput}
use Rattle.lhg_cli.proofs.StatePlaces.{point_fits, of_line}

-- ---- entries
-- one of two values
either : {A : Type 0} (P : A → Type 0) (b : Bool) (x y : Option A) (l : A) → (x ≡ Some l → P l) → (y ≡ Some l → P l) → (if b then x else y) ≡ Some l → P l
either P true x y l f g e = f e
either P false x y l f g e = g e

module _ (a : PlainPlant) where
  abbrev n : ℕ
  n = length a.vars

  timed_over : (minus : Bool) (tokens : List PlainToken) (l : PlainEntry) → timed a.vars minus tokens ≡ Some l → IsOver n l
  timed_over minus [] l e = absurd cc
  timed_over minus (first ∷ point) l e =
      option_and_then_some _ (number_in first) l e
      (λ t is f.
      let at = was_there (λ x. flow_entry (signed_by minus t) x) (point_of a.vars point) l f in
      subst (IsOver n) at.2 (point_fits a.vars point at.0 at.1))

  flow_over : (tokens : List PlainToken) (l : PlainEntry) → flow_of a.vars tokens ≡ Some l → IsOver n l
  flow_over [] l e = absurd cc
  flow_over (first ∷ tokens) l e =
      either (IsOver n) (is_minus first) (timed a.vars true tokens) (timed a.vars false (first ∷ tokens)) l (timed_over true tokens l) (timed_over false (first ∷ tokens) l) e

  env_over : (tokens : List PlainToken) (l : PlainEntry) → env_of a tokens ≡ Some l → IsOver n l
  env_over [] l e = absurd cc
  env_over (name ∷ point) l e =
      option_and_then_some _ (switch_in is_uncontrollable a name) l e
      (λ s is f.
      let at = was_there (λ x. env_entry s x) (point_of a.vars point) l f in
      subst (IsOver n) at.2 (point_fits a.vars point at.0 at.1))

  -- the entry of a line, where it is no end
  abbrev IsLineOver : LogLine → Type 0
  IsLineOver (entry e) = IsOver n e
  IsLineOver end = Unit {0}

  entry_over : (o : Option PlainEntry) → ((l : PlainEntry) → o ≡ Some l → IsOver n l) → (l : LogLine) → option_map (λ e. entry e) o ≡ Some l → IsLineOver l
  entry_over o h l e = let at = was_there (λ x. entry x) o l e in subst IsLineOver at.2 (h at.0 at.1)

  land_over : (tokens : List PlainToken) (l : LogLine) → option_map (λ at. entry (land_entry at)) (point_of a.vars tokens) ≡ Some l → IsLineOver l
  land_over tokens l e = let at = was_there (λ x. entry (land_entry x)) (point_of a.vars tokens) l e in subst IsLineOver at.2 (point_fits a.vars tokens at.0 at.1)

  end_over : (tokens : List PlainToken) (l : LogLine) → alone end tokens ≡ Some l → IsLineOver l
  end_over [] l e = let same : end ≡ l = cc in subst IsLineOver same tt
  end_over (token ∷ tokens) l e = absurd cc

  line_over : (tokens : List PlainToken) (l : LogLine) → log_line a tokens ≡ Some l → IsLineOver l
  line_over [] l e = absurd cc
  line_over (first ∷ tokens) l e =
      either IsLineOver (is_word (codes "flow") first) _ _ l (entry_over (flow_of a.vars tokens) (flow_over tokens) l)
      (either IsLineOver (is_word (codes "env") first) _ _ l (entry_over (env_of a tokens) (env_over tokens) l)
      (either IsLineOver (is_word (codes "land") first) _ _ l (land_over tokens l) (either IsLineOver (is_word (codes "end") first) _ None l (end_over tokens l) (λ f. absurd cc)))) e

  entries_over : (rest : List (List Spot)) (entries : List PlainEntry) → map (λ line. log_line a (said_in line)) rest ≡ map (λ line. Some line) (said_entries entries) → AllOf (IsOver n) entries
  entries_over rest [] e = tt
  entries_over [] (x ∷ entries) e = absurd cc
  entries_over (line ∷ rest) (x ∷ entries) e =
      let here : log_line a (said_in line) ≡ Some (entry x) = cc in
      let more : map (λ line. log_line a (said_in line)) rest ≡ map (λ line. Some line) (said_entries entries) = cc in
      (line_over (said_in line) (entry x) here, entries_over rest entries more)

-- ---- their number
-- there are no more lines with tokens than lines
few_in : (r : Result (List Spot) Fault) (o : Option (List (List Spot))) (n : ℕ) (tokens : List (List Spot)) → ((more : List (List Spot)) → o ≡ Some more → length more ≤ n) → joined (token_line r) o ≡ Some tokens → length tokens ≤ suc n
few_in (Ok []) (Some more) n tokens h e = let same : more ≡ tokens = cc in let k = h more refl in let size = ap length (sym same) in omega (arith, k, size)
few_in (Ok []) None n tokens h e = absurd cc
few_in (Ok (spot ∷ spots)) (Some more) n tokens h e = let same : (spot ∷ spots) ∷ more ≡ tokens = cc in let k = h more refl in let size = ap length (sym same) in omega (arith, k, size)
few_in (Ok (spot ∷ spots)) None n tokens h e = absurd cc
few_in (Err fault) o n tokens h e = absurd cc

pub few_lines : (lines : List (List ℕ)) (tokens : List (List Spot)) → token_lines lines ≡ Some tokens → length tokens ≤ length lines
few_lines [] tokens e = let same : [] ≡ tokens = cc in let size = ap length (sym same) in omega (arith, size)
few_lines (line ∷ lines) tokens e = few_in (tokens_of line) (token_lines lines) (length lines) tokens (few_lines lines) e

entries_count : (a : PlainPlant) (rest : List (List Spot)) (entries : List PlainEntry) → map (λ line. log_line a (said_in line)) rest ≡ map (λ line. Some line) (said_entries entries) → length entries ≤ length rest
entries_count a rest entries e =
    let left = length-map rest (λ line. log_line a (said_in line)) in
    let right = length-map (said_entries entries) (λ (line : LogLine). Some line) in
    let many = length-append (map (λ (x : PlainEntry). entry x) entries) (end ∷ []) in
    let each = length-map entries (λ (x : PlainEntry). entry x) in
    let same = ap length e in
    omega (arith, left, right, many, each, same)

-- ---- a log that is read
module _ (bytes : List ℕ) (a : PlainPlant) (d : PlainDraft) (log : PlainLog) (h : IsLogInput (lines_of bytes) ((a, d), log)) where
  pub log_start : IsPlacedState a log.start
  log_start = of_line (codes "start") a (said_in h.second.is.first) log.start h.second.is.start_is

  pub log_over : AllOf (IsOver (length a.vars)) log.entries
  log_over = entries_over a h.second.is.rest log.entries h.second.is.rest_are

  pub log_few : length bytes ≤ most_bytes → length log.entries < 2 ^ 32
  log_few short =
      let few = entries_count a h.second.is.rest log.entries h.second.is.rest_are in
      let size = ap length h.second.is.lines_are in
      let text = few_lines h.rest h.second.tokens h.second.are in
      let whole = ap length h.lines_are in
      let both = length-append h.front h.rest in
      let count = lines_count bytes in
      omega (arith, few, size, text, whole, both, count, short)
