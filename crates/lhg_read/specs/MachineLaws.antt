-- What holds of a text that is read line by line, between two lines and at each end?
use Rattle.std.proofs.Common.{◌≡◌, List, [], ◌∷◌, ◌++◌, refl, sym, ap, ◌∙◌, Bool, true, false, cond, Option, Some, None}
use Rattle.std.specs.Option.{option_and_then}
use Rattle.std.proofs.lemmas.Option.{none-some, same_Some}
use Rattle.lhg_math.specs.Tests.{false_true}
use Rattle.lhg_lex.specs.LineTokens.{Spot}
use Rattle.lhg_lex.specs.Reading.{Reading, IsTokenLine}
use Rattle.lhg_lex.specs.declared.stops.ReadStop.{ReadStop}
use Rattle.lhg_lex.specs.declared.tokens.Line.{Line}
use Rattle.lhg_read.specs.FaultLaws.{no_line_cause, refused_cause}
use Rattle.lhg_read.specs.Machine.{all_taken, IsBegun, IsWhole, Between, IsMachine}
use Rattle.lhg_read.specs.Reads.{NoneYet}
use Rattle.lhg_read.specs.ReadsLaws.{reads_nothing, reads_more, reads_text}
use Rattle.lhg_read.specs.Refusals.{stop_at, IsRefused}
use Rattle.lhg_read.specs.TokenText.{IsTextBy, ReadsText, HasCause, IsNoLine}
use Rattle.lhg_read.specs.declared.refusal.Refusal.{Refusal}

-- nothing is taken behind the end
pub ended_none : {D : Type 0} (b : Bool) (o : Option D) → b ≡ true → cond b None o ≡ None
ended_none b o t = ap (λ x. cond x None o) t

-- and before it what is taken
pub going_on : {D : Type 0} (b : Bool) (o : Option D) → b ≡ false → cond b None o ≡ o
going_on b o t = ap (λ x. cond x None o) t

-- lines of which the first and the others agree
pub same_lines : (a b : List Spot) (xs ys : List (List Spot)) → a ∷ xs ≡ b ∷ ys → (a ≡ b) × (xs ≡ ys)
same_lines a b xs ys e = (cc, cc)

module _ (D : Type 0) (take : D → List Spot → Option D) (ended : D → Bool) where
  -- lines behind other lines
  pub taken-append : (d : D) (xs ys : List (List Spot)) → all_taken take ended d (xs ++ ys) ≡ option_and_then (λ e. all_taken take ended e ys) (all_taken take ended d xs)
  taken-append d [] ys = refl
  taken-append d (x ∷ xs) ys = by_end (ended d) (take d x) (λ e. taken-append e xs ys)
    where
      by_end : (b : Bool) (o : Option D) → ((e : D) → all_taken take ended e (xs ++ ys) ≡ option_and_then (λ f. all_taken take ended f ys) (all_taken take ended e xs))
          → cond b None (option_and_then (λ e. all_taken take ended e (xs ++ ys)) o) ≡ option_and_then (λ e. all_taken take ended e ys) (cond b None (option_and_then (λ e. all_taken take ended e xs) o))
      by_end true o f = refl
      by_end false None f = refl
      by_end false (Some e) f = f e

  -- nothing is taken behind the end
  pub after_end : (d e : D) (more : List (List Spot)) → ended d ≡ true → all_taken take ended d more ≡ Some e → more ≡ []
  after_end d e [] t h = refl
  after_end d e (l ∷ more) t h = absurd (none-some e (sym (ended_none (ended d) _ t) ∙ h))

  -- what has ended does not go on
  pub stays_ended : (x d : D) (more : List (List Spot)) → ended x ≡ true → ended d ≡ false → all_taken take ended x more ≡ Some d → ⊥
  stays_ended x d [] t going k = false_true (sym going ∙ ap ended (sym (same_Some x d k)) ∙ t)
  stays_ended x d (l ∷ more) t going k = absurd (none-some d (sym (ended_none (ended x) _ t) ∙ k))

  -- nothing goes on where a line is not taken
  pub none_taken : (d : D) (line : List Spot) (more : List (List Spot)) → take d line ≡ None → all_taken take ended d (line ∷ more) ≡ None
  none_taken d line more bad = ap (λ o. cond (ended d) None (option_and_then (λ x. all_taken take ended x more) o)) bad ∙ by_end (ended d)
    where
      by_end : (b : Bool) → cond b None (let x : Option D = None in x) ≡ None
      by_end true = refl
      by_end false = refl

module _ (D : Type 0) (begin : List Spot → Option D) (take : D → List Spot → Option D) (ended : D → Bool) where
  -- a line more is taken
  pub begun_more : (lines : List (List Spot)) (d e : D) (line : List Spot) → IsBegun D begin take ended lines d → ended d ≡ false → take d line ≡ Some e → IsBegun D begin take ended (lines ++ line ∷ []) e
  begun_more lines d e line b going h = record {
    head = b.head;
    rest = b.rest ++ line ∷ [];
    start = b.start;
    lines_are = ap (λ ls. ls ++ line ∷ []) b.lines_are;
    begins = b.begins;
    taken =
        taken-append D take ended b.start b.rest (line ∷ []) ∙ ap (option_and_then (λ x. all_taken take ended x (line ∷ []))) b.taken
        ∙ going_on (ended d) _ going ∙ ap (option_and_then (λ x. all_taken take ended x [])) h;
  }

  -- a first line alone
  pub begun_first : (line : List Spot) (d : D) → begin line ≡ Some d → IsBegun D begin take ended (line ∷ []) d
  begun_first line d h = record { head = line; rest = []; start = d; lines_are = refl; begins = h; taken = refl }

  -- lines have taken one value at most
  pub one_begun : (lines : List (List Spot)) (d e : D) → IsBegun D begin take ended lines d → IsBegun D begin take ended lines e → d ≡ e
  one_begun lines d e b f =
      let t = same_lines b.head f.head b.rest f.rest (sym b.lines_are ∙ f.lines_are) in
      let s : b.start ≡ f.start = same_Some b.start f.start (sym b.begins ∙ ap begin t.0 ∙ f.begins) in
      same_Some d e (sym b.taken ∙ ap (λ x. all_taken take ended x b.rest) s ∙ ap (all_taken take ended f.start) t.1 ∙ f.taken)

  -- ---- where the lines so far cannot go on

  -- no line at all
  pub not_empty : ¬ IsWhole D begin take ended []
  not_empty h = let e = h.1.lines_are in absurd cc

  -- another first line
  pub no_first : (line : List Spot) (more : List (List Spot)) → begin line ≡ None → ¬ IsWhole D begin take ended (line ∷ more)
  no_first line more bad h = let t = same_lines line h.1.head more h.1.rest h.1.lines_are in absurd (none-some h.1.start (sym bad ∙ ap begin t.0 ∙ h.1.begins))

  module _ (lines : List (List Spot)) (d : D) (b : IsBegun D begin take ended lines d) where
    -- what a text that begins so has taken
    goes_on : (more : List (List Spot)) → IsWhole D begin take ended (lines ++ more) → (e : D) × (all_taken take ended d more ≡ Some e) × (ended e ≡ true)
    goes_on more h =
        let f = h.1 in
        let t = same_lines b.head f.head (b.rest ++ more) f.rest (ap (λ ls. ls ++ more) (sym b.lines_are) ∙ f.lines_are) in
        let s : b.start ≡ f.start = same_Some b.start f.start (sym b.begins ∙ ap begin t.0 ∙ f.begins) in (
          h.0,
          ap (option_and_then (λ e. all_taken take ended e more)) (sym b.taken) ∙ sym (taken-append D take ended b.start b.rest more) ∙ ap (λ x. all_taken take ended x (b.rest ++ more)) s ∙ ap (all_taken take ended f.start) t.1 ∙ f.taken,
          h.2,
        )

    -- a line that is not taken
    pub no_line : (line : List Spot) (more : List (List Spot)) → take d line ≡ None → ¬ IsWhole D begin take ended (lines ++ line ∷ more)
    no_line line more bad h = let g = goes_on (line ∷ more) h in absurd (none-some g.0 (sym (none_taken D take ended d line more bad) ∙ g.1))

    -- no beginning of lines that have not ended is a text
    pub none_yet : ended d ≡ false → (xs ys : List (List Spot)) → lines ≡ xs ++ ys → ¬ IsWhole D begin take ended xs
    none_yet going xs ys e h =
        let f = h.1 in
        let t = same_lines b.head f.head b.rest (f.rest ++ ys) (sym b.lines_are ∙ e ∙ ap (λ ls. ls ++ ys) f.lines_are) in
        let s : b.start ≡ f.start = same_Some b.start f.start (sym b.begins ∙ ap begin t.0 ∙ f.begins) in
        let all : all_taken take ended h.0 ys ≡ Some d =
        ap (option_and_then (λ x. all_taken take ended x ys)) (sym f.taken) ∙ sym (taken-append D take ended f.start f.rest ys) ∙ ap (all_taken take ended f.start) (sym t.1) ∙ ap (λ x. all_taken take ended x b.rest) (sym s) ∙ b.taken in
        stays_ended D take ended h.0 d ys h.2 going all

  -- no lines follow those of a text
  pub none_behind : (lines more : List (List Spot)) → IsWhole D begin take ended lines → IsWhole D begin take ended (lines ++ more) → more ≡ []
  none_behind lines more h k = let g = goes_on lines h.0 h.1 more k in after_end D take ended h.0 g.0 more h.2 g.1

-- ---- reading

module _ (D : Type 0) (begin : List Spot → Option D) (take : D → List Spot → Option D) (ended : D → Bool) (Is : List (List Spot) → Type 0) (m : IsMachine D begin take ended Is) where
  none_at_start : NoneYet Is []
  none_at_start [] b e h = not_empty D begin take ended (m.whole [] h)
  none_at_start (x ∷ a) b e h = absurd cc

  -- no line at the beginning
  pub nothing_comes : (old : Reading) (stop : ReadStop) → IsNoLine old stop → HasCause (IsTextBy Is) old stop
  nothing_comes old stop h = no_line_cause Is old old [] (reads_nothing old) m.can_begin none_at_start stop h

  module _ (old : Reading) (line : Line) (new : Reading) (h : IsTokenLine old line) (e : new ≡ record old { read = line.number }) where
    -- another first line
    pub first_refused : {A : Type 0} (r : Refusal) (o : Option A) → (o ≡ None → begin h.spots ≡ None) → IsRefused r o → HasCause (IsTextBy Is) old (stop_at r line.number)
    first_refused r o bad k = refused_cause Is old old [] (reads_nothing old) m.can_begin none_at_start line h r o (λ n more is. no_first D begin take ended h.spots more (bad n) (m.whole (h.spots ∷ more) is)) k

    -- the first line
    pub first_taken : (d : D) → begin h.spots ≡ Some d → Between D begin take ended old new d
    first_taken d k = (h.spots ∷ [], reads_more old old [] line new (reads_nothing old) h e, begun_first D begin take ended h.spots d k)

  module _ (old s : Reading) (d : D) (b : Between D begin take ended old s d) (going : ended d ≡ false) where
    still_none : NoneYet Is b.0
    still_none xs ys e h = none_yet D begin take ended b.0 d b.2 going xs ys e (m.whole xs h)

    -- no line before the end
    pub no_end_comes : (stop : ReadStop) → IsNoLine s stop → HasCause (IsTextBy Is) old stop
    no_end_comes stop h = no_line_cause Is old s b.0 b.1 (m.can_end b.0 d b.2 going) still_none stop h

    module _ (line : Line) (new : Reading) (h : IsTokenLine s line) (e : new ≡ record s { read = line.number }) where
      -- a line that is not taken
      pub not_taken : (r : Refusal) (o : Option D) → take d h.spots ≡ o → IsRefused r o → HasCause (IsTextBy Is) old (stop_at r line.number)
      not_taken r o same k =
          refused_cause Is old s b.0 b.1 (m.can_end b.0 d b.2 going) still_none line h r o (λ bad more is. no_line D begin take ended b.0 d b.2 h.spots more (same ∙ bad) (m.whole (b.0 ++ h.spots ∷ more) is)) k

      -- a line that is taken
      pub one_taken : (x : D) → take d h.spots ≡ Some x → Between D begin take ended old new x
      one_taken x k = (b.0 ++ h.spots ∷ [], reads_more old s b.0 line new b.1 h e, begun_more D begin take ended b.0 d x h.spots b.2 going k)

  -- the end
  pub whole_read : (old s : Reading) (d : D) (b : Between D begin take ended old s d) → (Value : List (List Spot) → Type 0) → Value b.0 → ReadsText Value old s
  whole_read old s d b Value v = reads_text Value old s b.0 b.1 v (λ e. let k = sym e ∙ b.2.lines_are in absurd cc)
