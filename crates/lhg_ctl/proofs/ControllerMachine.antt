-- Controllers are read line by line.
use Rattle.std.proofs.Common.{◌≡◌, List, [], ◌∷◌, ◌++◌, map, refl, sym, ap, ◌∙◌, subst, true, false, cond, Option, Some, None, Ok, append-nil, codes}
use Rattle.std.specs.Fmt.{digits}
use Rattle.std.specs.Option.{option_map}
use Rattle.std.proofs.lemmas.Option.{none-some, same_Some}
use Rattle.lhg_math.specs.Gcd.{gcd}
use Rattle.lhg_math.specs.Number.{whole, ratio, ratio_suc, lt, nought}
use Rattle.lhg_math.specs.Tests.{by_bool}
use Rattle.lhg_lex.specs.PlainToken.{word, number}
use Rattle.lhg_lex.specs.Longest.{longest}
use Rattle.lhg_lex.specs.LineTokens.{Spot, tokens_of}
use Rattle.lhg_plant.specs.Plant.{PlainPlant}
use Rattle.lhg_read.specs.Machine.{all_taken, IsBegun, IsWhole, IsMachine}
use Rattle.lhg_read.specs.MachineLaws.{begun_first, begun_more}
use Rattle.lhg_read.specs.Reads.{CanGoOn}
use Rattle.lhg_read.specs.ReadsLaws.{on_by}
use Rattle.lhg_read.proofs.EndLine.{end_line, end_tokens}
use Rattle.lhg_ctl.specs.ControllerGrammar.{version_in, said_lines, IsController, IsSomeController}
use Rattle.lhg_ctl.specs.ControllerLine.{controller_line}
use Rattle.lhg_ctl.specs.ControllerSteps.{PlainOpen, open_with, taken}
use Rattle.lhg_ctl.specs.Draft.{PlainDraft}
use Rattle.lhg_ctl.specs.declared.versions.Version.{Version}
use Rattle.lhg_ctl.specs.declared.versions.Version.TheVariants.{First}
use Rattle.lhg_ctl.proofs.ControllerRuns.{is_ended, taken_at, closed_of, taken_as, say_all, draft_run, run_of}
use Rattle.lhg_ctl.proofs.HeadLine.{head_line, head_tokens, head_some, head_is}

-- the head begins a controller
abbrev pub begin_at : List Spot → Option PlainOpen
begin_at head = option_map open_with (version_in head)

-- a beginning has a head
begins_head : (v : Option Version) (o : PlainOpen) → option_map open_with v ≡ Some o → (w : Version) × (v ≡ Some w) × (o ≡ open_with w)
begins_head None o h = absurd (none-some o h)
begins_head (Some v) o h = (v, refl, sym (same_Some (open_with v) o h))

-- ---- a line

unfoldable pub no_rounds : List Spot
no_rounds = record { says = word (codes "rounds"); from = 0; to = 6 } ∷ record { says = number nought; from = 7; to = 8 } ∷ []

rounds_tokens : tokens_of (codes "rounds 0") ≡ Ok no_rounds
unfolding longest tokens_of nought no_rounds
rounds_tokens = refl

module _ (p : PlainPlant) where
  -- the lines of a controller are taken up to its end
  draft_taken : (lines : List (List Spot)) (d : PlainDraft) (h : IsController p lines d) → all_taken (taken_at p) is_ended (open_with h.version) h.rest ≡ Some (closed_of h.version d)
  draft_taken lines d h = taken_as p h.version (open_with h.version) h.rest (said_lines h.version d) refl h.rest_are ∙ draft_run h.version d h.few_pieces h.few_guards h.names

  -- a controller is such a text
  pub begun_of : (lines : List (List Spot)) (d : PlainDraft) (h : IsController p lines d) → IsBegun PlainOpen begin_at (taken_at p) is_ended lines (closed_of h.version d)
  begun_of lines d h = record { head = h.head; rest = h.rest; start = open_with h.version; lines_are = h.lines_are; begins = ap (option_map open_with) h.head_is; taken = draft_taken lines d h }

  pub whole_of : (lines : List (List Spot)) (d : PlainDraft) → IsController p lines d → IsWhole PlainOpen begin_at (taken_at p) is_ended lines
  whole_of lines d h = (closed_of h.version d, begun_of lines d h, refl)

  -- and such a text is a controller
  pub controller_of_begun : (lines : List (List Spot)) (o : PlainOpen) → IsBegun PlainOpen begin_at (taken_at p) is_ended lines o → o.ended ≡ true → IsController p lines o.draft
  controller_of_begun lines o b t =
      let a = begins_head (version_in b.head) b.start b.begins in
      let s = say_all p a.0 (open_with a.0) o b.rest refl (ap (λ x. all_taken (taken_at p) is_ended x b.rest) (sym a.2) ∙ b.taken) in
      let f = run_of a.0 s.values o s.stepped t in
      record {
        version = a.0;
        head = b.head;
        rest = b.rest;
        lines_are = b.lines_are;
        head_is = a.1;
        rest_are = s.said ∙ ap (map (λ v. Some v)) f.values_are;
        few_pieces = f.few_pieces;
        few_guards = f.few_guards;
        names = f.right;
      }

  -- it goes on with nothing where it has ended
  done : (lines : List (List Spot)) (o : PlainOpen) → IsBegun PlainOpen begin_at (taken_at p) is_ended lines o → o.ended ≡ true → CanGoOn (IsSomeController p) lines
  done lines o b t = record {
    more = [];
    further = [];
    are = refl;
    is = (o.draft, subst (λ ls. IsController p ls o.draft) (sym (append-nil lines)) (controller_of_begun lines o b t));
  }

  -- with the end where its number of rounds is known
  by_end : (lines : List (List Spot)) (o : PlainOpen) → IsBegun PlainOpen begin_at (taken_at p) is_ended lines o → o.ended ≡ false → o.begun ≡ true → CanGoOn (IsSomeController p) lines
  unfolding end_line controller_line
  by_end lines o b going begun =
      let last : PlainOpen = record o { ended = true } in
      let step : taken p o (word (codes "end") ∷ []) (3 ∷ []) ≡ Some last = ap (λ t. cond t (Some last) None) begun in
      on_by (IsSomeController p) lines (codes "end") end_line end_tokens refl
      (done (lines ++ end_line ∷ []) last (begun_more PlainOpen begin_at (taken_at p) is_ended lines o last end_line b going step) refl)

  -- and else with that number, and the end
  by_rounds : (lines : List (List Spot)) (o : PlainOpen) → IsBegun PlainOpen begin_at (taken_at p) is_ended lines o → o.ended ≡ false → o.begun ≡ false → CanGoOn (IsSomeController p) lines
  unfolding no_rounds controller_line digits nought lt whole ratio ratio_suc gcd
  by_rounds lines o b going begun =
      let next : PlainOpen = record o { begun = true; draft = record { pieces = o.draft.pieces; guards = o.draft.guards; rounds = 0; names = o.draft.names } } in
      let step : taken p o (word (codes "rounds") ∷ number nought ∷ []) (6 ∷ 1 ∷ []) ≡ Some next = ap (λ t. cond t None (Some next)) begun in
      on_by (IsSomeController p) lines (codes "rounds 0") no_rounds rounds_tokens refl
      (by_end (lines ++ no_rounds ∷ []) next (begun_more PlainOpen begin_at (taken_at p) is_ended lines o next no_rounds b going step) going refl)

  goes_on : (lines : List (List Spot)) (o : PlainOpen) → IsBegun PlainOpen begin_at (taken_at p) is_ended lines o → o.ended ≡ false → CanGoOn (IsSomeController p) lines
  goes_on lines o b going = by_bool o.begun (by_end lines o b going) (by_rounds lines o b going)

  at_head : CanGoOn (IsSomeController p) []
  at_head =
      on_by (IsSomeController p) [] (codes "controller 1") head_line head_tokens head_some
      (goes_on (head_line ∷ []) (open_with First) (begun_first PlainOpen begin_at (taken_at p) is_ended head_line (open_with First) (ap (option_map open_with) head_is)) refl)

  -- controllers are read line by line
  pub controllers : IsMachine PlainOpen begin_at (taken_at p) is_ended (IsSomeController p)
  controllers = record { whole = λ lines h. whole_of lines h.0 h.1; can_begin = at_head; can_end = goes_on }
