-- A plant is read line by line: what holds between two lines, and at each end.
use Rattle.std.proofs.Common.{◌≡◌, ◌≤◌, ℕ, List, [], ◌∷◌, ◌++◌, length, map, refl, sym, ap, ◌∙◌, true, false, Some, codes}
use Rattle.lhg_lex.specs.LineTokens.{Spot}
use Rattle.lhg_lex.specs.TextTokens.{plain_of}
use Rattle.lhg_lex.specs.Reading.{Reading, IsTokenLine}
use Rattle.lhg_lex.specs.declared.stops.ReadStop.{ReadStop}
use Rattle.lhg_lex.specs.declared.tokens.Line.{Line}
use Rattle.lhg_lex.specs.declared.tokens.Token.{Token}
use Rattle.lhg_plant.specs.Printable.{IsPrintable}
use Rattle.lhg_plant.specs.Proper.{IsProper}
use Rattle.lhg_read.specs.Names.{vars_of}
use Rattle.lhg_read.specs.PlantText.{IsHead, IsPlant, IsSomePlant, IsSomePlantText}
use Rattle.lhg_read.specs.PlantSteps.{PlainDraft, empty_draft, taken, plant_with}
use Rattle.lhg_read.specs.Begun.{IsBegun}
use Rattle.lhg_read.specs.FaultLaws.{no_line_cause, refused_cause, refused_line}
use Rattle.lhg_read.specs.HeadTest.{head_test}
use Rattle.lhg_read.specs.Reads.{Reads}
use Rattle.lhg_read.specs.ReadsLaws.{reads_nothing, reads_more, reads_text, said_after, same_bytes}
use Rattle.lhg_read.specs.Refusals.{stop_at, IsRefused}
use Rattle.lhg_read.specs.TokenText.{ReadsText, HasCause, IsNoLine}
use Rattle.lhg_read.specs.declared.refusal.Refusal.{Refusal}
use Rattle.lhg_read.specs.declared.refusal.Refusal.TheVariants as refusal
use Rattle.lhg_read.proofs.HeadLines.{head_true, head_false}
use Rattle.lhg_read.proofs.LexedLines.{lines_lexed}
use Rattle.lhg_read.proofs.PlantTexts.{plant_of_begun}
use Rattle.lhg_read.proofs.PlantProper.{plant_proper, plant_printable}
use Rattle.lhg_read.proofs.PlantRefusals.{no_head, no_vars, no_line, none_at_start, none_at_head, none_yet}
use Rattle.lhg_read.proofs.PlantContinues.{from_nothing, from_head, from_begun, begun_more, begun_few}

-- ---- between two lines

-- the head is read
pub record AfterHead (old s : Reading) : Type 0 where
  pub spots : List Spot
  pub reads : Reads old s (spots ∷ [])
  pub head : IsHead spots

-- the beginning of a plant is read
abbrev pub Between : Reading → Reading → List (List ℕ) → PlainDraft → Type 0
Between old s vars d = (tokens : List (List Spot)) × Reads old s tokens × IsBegun tokens vars d

-- no line at the beginning
pub nothing_comes : (s : Reading) (stop : ReadStop) → IsNoLine s stop → HasCause IsSomePlantText s stop
nothing_comes s stop h = no_line_cause IsSomePlant s s [] (reads_nothing s) from_nothing none_at_start stop h

-- another first line
pub not_head : (s : Reading) (line : Line) (new : Reading) (h : IsTokenLine s line) → new ≡ record s { read = line.number } → (tokens : List Token) → tokens ≡ line.tokens.items → head_test (codes "lhg") new.bytes tokens ≡ false
    → HasCause IsSomePlantText s (stop_at refusal.NotHere line.number)
not_head s line new h e tokens f k =
    let test : head_test (codes "lhg") s.bytes line.tokens.items ≡ false = ap (λ b. head_test (codes "lhg") b line.tokens.items) (sym (same_bytes s new line.number e)) ∙ ap (head_test (codes "lhg") new.bytes) (sym f) ∙ k in
    refused_line IsSomePlant s s [] (reads_nothing s) from_nothing none_at_start line h (λ more p. no_head h.spots more p.0 (head_false (codes "lhg") s line h test) p.1)

-- the head
pub after_head : (s : Reading) (line : Line) (new : Reading) (h : IsTokenLine s line) → new ≡ record s { read = line.number } → (tokens : List Token) → tokens ≡ line.tokens.items → head_test (codes "lhg") new.bytes tokens ≡ true → AfterHead s new
after_head s line new h e tokens f k =
    let test : head_test (codes "lhg") s.bytes line.tokens.items ≡ true = ap (λ b. head_test (codes "lhg") b line.tokens.items) (sym (same_bytes s new line.number e)) ∙ ap (head_test (codes "lhg") new.bytes) (sym f) ∙ k in
    record { spots = h.spots; reads = reads_more s s [] line new (reads_nothing s) h e; head = head_true (codes "lhg") s line h test }

module _ (old s : Reading) (a : AfterHead old s) where
  -- no line behind the head
  pub head_alone : (stop : ReadStop) → IsNoLine s stop → HasCause IsSomePlantText old stop
  head_alone stop h = no_line_cause IsSomePlant old s (a.spots ∷ []) a.reads (from_head a.spots a.head) (none_at_head a.spots) stop h

  module _ (line : Line) (new : Reading) (h : IsTokenLine s line) (e : new ≡ record s { read = line.number }) (tokens : List Token) (f : tokens ≡ line.tokens.items) where
    -- another second line
    pub not_vars : (r : Refusal) → IsRefused r (vars_of (map (plain_of new.bytes) tokens)) → HasCause IsSomePlantText old (stop_at r line.number)
    not_vars r k =
        refused_cause IsSomePlant old s (a.spots ∷ []) a.reads (from_head a.spots a.head) (none_at_head a.spots) line h r (vars_of (map (plain_of new.bytes) tokens))
        (λ bad more p. no_vars a.spots h.spots more p.0 (ap vars_of (sym (said_after s line new h e tokens f)) ∙ bad) p.1) k

    -- the variables
    pub after_vars : (vars : List (List ℕ)) (d : PlainDraft) → vars_of (map (plain_of new.bytes) tokens) ≡ Some vars → d ≡ empty_draft → Between old new vars d
    after_vars vars d k g = (
      a.spots ∷ h.spots ∷ [],
      reads_more old s (a.spots ∷ []) line new a.reads h e,
      record {
        head = a.spots;
        names = h.spots;
        rest = [];
        lines_are = refl;
        head_is = a.head;
        vars_are = ap vars_of (sym (said_after s line new h e tokens f)) ∙ k;
        taken = ap (λ x. Some x) (sym g);
      },
    )

module _ (old s : Reading) (vars : List (List ℕ)) (d : PlainDraft) (b : Between old s vars d) where
  -- not too many locations are read
  pub few_locs : length d.locs ≤ 64
  few_locs = begun_few b.0 vars d b.2

  -- no line before the end
  pub no_end_comes : d.ended ≡ false → (stop : ReadStop) → IsNoLine s stop → HasCause IsSomePlantText old stop
  no_end_comes going stop h = no_line_cause IsSomePlant old s b.0 b.1 (from_begun b.0 vars d b.2 going) (none_yet b.0 vars d b.2 going) stop h

  module _ (going : d.ended ≡ false) (line : Line) (new : Reading) (h : IsTokenLine s line) (e : new ≡ record s { read = line.number }) (tokens : List Token) (f : tokens ≡ line.tokens.items) where
    -- a line that is not taken
    pub not_taken : (r : Refusal) → IsRefused r (taken vars d (map (plain_of new.bytes) tokens)) → HasCause IsSomePlantText old (stop_at r line.number)
    not_taken r k =
        refused_cause IsSomePlant old s b.0 b.1 (from_begun b.0 vars d b.2 going) (none_yet b.0 vars d b.2 going) line h r (taken vars d (map (plain_of new.bytes) tokens))
        (λ bad more p. no_line b.0 vars d b.2 h.spots more p.0 (ap (taken vars d) (sym (said_after s line new h e tokens f)) ∙ bad) p.1) k

    -- a line that is taken
    pub one_taken : (x : PlainDraft) → taken vars d (map (plain_of new.bytes) tokens) ≡ Some x → Between old new vars x
    one_taken x k = (
      b.0 ++ h.spots ∷ [],
      reads_more old s b.0 line new b.1 h e,
      begun_more b.0 vars d x h.spots b.2 going (ap (taken vars d) (sym (said_after s line new h e tokens f)) ∙ k),
    )

  -- at the end the plant is proper, and it can be printed
  pub read_proper : d.ended ≡ true → IsProper (plant_with vars d)
  read_proper ended = plant_proper b.0 (plant_with vars d) (lines_lexed b.1.front b.0 b.1.are) (plant_of_begun b.0 vars d b.2 ended)

  pub read_printable : d.ended ≡ true → IsPrintable (plant_with vars d)
  read_printable ended = plant_printable b.0 (plant_with vars d) (lines_lexed b.1.front b.0 b.1.are) (plant_of_begun b.0 vars d b.2 ended)

  -- the end
  pub plant_read : d.ended ≡ true → ReadsText (λ tokens. IsPlant tokens (plant_with vars d)) old s
  plant_read ended =
      let plant = plant_of_begun b.0 vars d b.2 ended in
      reads_text (λ tokens. IsPlant tokens (plant_with vars d)) old s b.0 b.1 plant (λ e. let k = sym e ∙ plant.lines_are in absurd cc)
