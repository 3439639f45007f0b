-- How far is a whole input read, and what is said when it ends or is refused?
use Rattle.std.proofs.Common.{◌≡◌, ◌+◌, ◌-◌, ℕ, List, [], ◌∷◌, ◌++◌, length, take, inl, inr, refl, sym, ap, ◌∙◌, subst, arith, append_assoc, append-nil, length-append, take_at}
use Rattle.std.specs.Prelude.{slice_get}
use Rattle.lhg_lex.specs.FirstBad.{CanStand, IsFirstBad}
use Rattle.lhg_lex.specs.LineTokens.{Spot, IsBlankLine}
use Rattle.lhg_lex.specs.Lines.{lines_of}
use Rattle.lhg_lex.specs.Reading.{Reading, left_of, IsAtEnd}
use Rattle.lhg_lex.specs.declared.stops.ReadStop.{ReadStop}
use Rattle.lhg_lex.specs.declared.stops.ReadStop.TheVariants.{Bad, Memory}
use Rattle.lhg_read.specs.FaultLaws.{get_at}
use Rattle.lhg_read.specs.Rest.{AreBlank, HasSurplus}
use Rattle.lhg_read.specs.TokenText.{IsTextBy, ReadsText, HasCause, fault_at}
use Rattle.lhg_input.specs.BadLine.{IsBadAt, HasBadLine}
use Rattle.lhg_input.specs.Then.{IsThen, IsSome}
use Rattle.lhg_input.proofs.Parts.{IsPart}

-- the whole input is to be read
abbrev pub start : List ℕ → Reading
start bytes = record { bytes = bytes; read = 0 }

-- the lines that are read are a text of the grammar
pub record Stands {V : Type 0} (Is : List (List ℕ) → V → Type 0) (bytes : List ℕ) (s : Reading) (v : V) : Type 0 where
  pub front : List (List ℕ)
  pub left : lines_of bytes ≡ front ++ left_of s
  pub count : s.read ≡ length front
  pub text : Is front v

-- the first part is read
pub first_read : {V : Type 0} (Tokens : List (List Spot) → V → Type 0) (bytes : List ℕ) (s : Reading) (v : V) → ReadsText (λ tokens. Tokens tokens v) (start bytes) s → Stands (λ lines v. IsTextBy (λ tokens. Tokens tokens v) lines) bytes s v
first_read Tokens bytes s v r = record { front = r.before ++ r.last ∷ []; left = r.read.left; count = let k = r.read.count in omega (arith, k); text = r.text }

-- a further part is read
pub next_read : {V W : Type 0} (First : List (List ℕ) → V → Type 0) (Tokens : V → List (List Spot) → W → Type 0) (bytes : List ℕ) (s t : Reading) (v : V) (w : W) → Stands First bytes s v → ReadsText (λ tokens. Tokens v tokens w) s t
    → Stands (IsThen First (λ v lines w. IsTextBy (λ tokens. Tokens v tokens w) lines)) bytes t (v, w)
next_read First Tokens bytes s t v w h r =
    let more = r.before ++ r.last ∷ [] in
    record {
      front = h.front ++ more;
      left = h.left ∙ ap (λ ls. h.front ++ ls) r.read.left ∙ sym (append_assoc h.front more (left_of t));
      count = let a = h.count in let b = r.read.count in let c = length-append h.front more in omega (arith, a, b, c);
      text = record { front = h.front; rest = more; lines_are = refl; first = h.text; second = r.text };
    }

-- ---- the same grammar in other words

module _ (A B : List (List ℕ) → Type 0) (to : (lines : List (List ℕ)) → A lines → B lines) (back : (lines : List (List ℕ)) → B lines → A lines) where
  stands_too : (lines : List (List ℕ)) → CanStand A lines → CanStand B lines
  stands_too lines c = (c.0, to (lines ++ c.0) c.1)

  stood_before : (lines : List (List ℕ)) → CanStand B lines → CanStand A lines
  stood_before lines c = (c.0, back (lines ++ c.0) c.1)

  same_first : (lines : List (List ℕ)) (n : ℕ) → IsFirstBad A lines n → IsFirstBad B lines n
  same_first lines n h = record {
    counted = h.counted;
    before = stands_too (take (n - 1) lines) h.before;
    bad = elim h.bad [ inl e ↦ inl (e.0, λ c. e.1 (stood_before (take n lines) c)) | inr e ↦ inr (e.0, λ t. e.1 (back lines t)) ];
  }

  pub same_cause : (s : Reading) (stop : ReadStop) → HasCause A s stop → HasCause B s stop
  same_cause s Memory h = tt
  same_cause s (Bad line column what) h = record {
    n = h.n;
    none = λ k t. h.none k (back (take k (left_of s)) t);
    counted = h.counted;
    first = same_first (left_of s) h.n h.first;
    fault = h.fault;
  }

-- tokens with some value, and lines with some value
pub some_lines : {V : Type 0} (Tokens : List (List Spot) → V → Type 0) (lines : List (List ℕ)) → IsTextBy (λ tokens. (v : V) × Tokens tokens v) lines → IsSome (λ lines v. IsTextBy (λ tokens. Tokens tokens v) lines) lines
some_lines Tokens lines t = record { value = t.is.0; text = record { tokens = t.tokens; are = t.are; is = t.is.1 } }

pub some_tokens : {V : Type 0} (Tokens : List (List Spot) → V → Type 0) (lines : List (List ℕ)) → IsSome (λ lines v. IsTextBy (λ tokens. Tokens tokens v) lines) lines → IsTextBy (λ tokens. (v : V) × Tokens tokens v) lines
some_tokens Tokens lines t = record { tokens = t.text.tokens; are = t.text.are; is = (t.value, t.text.is) }

-- ---- the end

-- a refusal names the first line that cannot stand
pub whole_refused : (IsText : List (List ℕ) → Type 0) (bytes : List ℕ) (stop : ReadStop) → HasCause IsText (start bytes) stop → HasBadLine IsText bytes stop
whole_refused IsText bytes Memory h = tt
whole_refused IsText bytes (Bad line column what) h =
    let n : h.n ≡ line = let k = h.counted in omega (arith, k) in
    subst (λ m. IsBadAt IsText bytes m column what) n (record { first = h.first; fault = h.fault })

-- a line among blank lines is blank
blank_behind : (blanks : List (List ℕ)) (line : List ℕ) (more : List (List ℕ)) → AreBlank (blanks ++ line ∷ more) → IsBlankLine line
blank_behind [] line more h = h.0
blank_behind (x ∷ blanks) line more h = blank_behind blanks line more h.1

module _ {V : Type 0} (Is : List (List ℕ) → V → Type 0) (a : IsPart Is) (bytes : List ℕ) (s : Reading) (v : V) (r : Stands Is bytes s v) where
  -- nothing is left but blank lines
  pub input_ends : IsAtEnd s → Is (lines_of bytes) v
  input_ends h = subst (λ ls. Is ls v) (sym r.left) (a.end.goes_on r.front (left_of s) v r.text h.blank)

  -- a further line is one too many
  pub surplus_refused : (stop : ReadStop) → HasSurplus s stop → HasBadLine (IsSome Is) bytes stop
  surplus_refused Memory h = tt
  surplus_refused (Bad line column what) h =
      let blanks = h.next.blanks in
      let here = h.bytes in
      let rest = left_of (record s { read = h.before + 1 }) in
      let lines : lines_of bytes ≡ (r.front ++ blanks) ++ here ∷ rest = r.left ∙ ap (λ ls. r.front ++ ls) h.next.left ∙ sym (append_assoc r.front blanks (here ∷ rest)) in
      let size = length-append r.front blanks in
      let counted = h.counted in
      let count = h.next.count in
      let read = r.count in
      let place : line - 1 ≡ length (r.front ++ blanks) = omega (arith, size, counted, count, read) in
      let long : length (lines_of bytes) ≡ length (r.front ++ blanks) + length (here ∷ rest) = ap length lines ∙ length-append (r.front ++ blanks) (here ∷ rest) in
      let before : take (line - 1) (lines_of bytes) ≡ r.front ++ blanks = ap (λ ls. take (line - 1) ls) lines ∙ take_at (r.front ++ blanks) (here ∷ rest) (line - 1) (sym place) in
      let up_to : take line (lines_of bytes) ≡ (r.front ++ blanks) ++ here ∷ [] =
      ap (λ ls. take line ls) (lines ∙ sym (append_assoc (r.front ++ blanks) (here ∷ []) rest))
      ∙ take_at ((r.front ++ blanks) ++ here ∷ []) rest line (let k = length-append (r.front ++ blanks) (here ∷ []) in omega (arith, size, counted, count, read, k)) in
      record {
        first = record {
          counted = omega (arith, counted);
          before = ([], record { value = v; text = subst (λ ls. Is ls v) (sym (append-nil (take (line - 1) (lines_of bytes)) ∙ before)) (a.end.goes_on r.front blanks v r.text h.next.blank) });
          bad = inl (
            omega (arith, place, long, counted),
            λ c.
                let text = subst (λ ls. Is ls c.1.value) (ap (λ ls. ls ++ c.0) up_to ∙ append_assoc (r.front ++ blanks) (here ∷ []) c.0 ∙ append_assoc r.front blanks (here ∷ c.0)) c.1.text in
                h.not_blank (blank_behind blanks here c.0 (a.end.ends r.front (blanks ++ here ∷ c.0) v c.1.value r.text text)),
          );
        };
        fault = ap fault_at (ap (λ k. slice_get (lines_of bytes) k) place ∙ ap (λ ls. slice_get ls (length (r.front ++ blanks))) lines ∙ get_at (r.front ++ blanks) here rest) ∙ h.fault;
      }
