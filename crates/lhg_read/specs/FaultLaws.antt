-- Which line is the first that cannot stand where it does?
use Rattle.std.proofs.Common.{◌≡◌, ◌≤◌, ◌+◌, ◌-◌, inl, inr, ℕ, zero, suc, List, [], ◌∷◌, ◌++◌, length, take, drop, refl, sym, ap, ◌∙◌, subst, Option, Some, None, arith, append_assoc, append-nil, length-append, take_at, take_all}
use Rattle.std.specs.Prelude.{slice_get}
use Rattle.std.proofs.lemmas.List.{length-drop, take-append-le, take-append-drop}
use Rattle.std.proofs.lemmas.Option.{none-some, same_Some}
use Rattle.std.proofs.lemmas.Bool.{cases_lt}
use Rattle.lhg_lex.specs.Lines.{lines_of}
use Rattle.lhg_lex.specs.LineTokens.{Spot, tokens_of}
use Rattle.lhg_lex.specs.FirstBad.{CanStand}
use Rattle.lhg_lex.specs.Reading.{Reading, left_of, IsNext, IsAtEnd, IsTokenLine, IsBadLine}
use Rattle.lhg_lex.specs.declared.tokens.Line.{Line}
use Rattle.lhg_lex.specs.declared.stops.What.{What}
use Rattle.lhg_lex.specs.declared.stops.What.TheVariants.{NotHere}
use Rattle.lhg_lex.specs.declared.stops.ReadStop.{ReadStop}
use Rattle.lhg_lex.specs.declared.stops.ReadStop.TheVariants.{Bad, Memory}
use Rattle.lhg_read.specs.Options.{joined}
use Rattle.lhg_read.specs.OptionLaws.{joined_none}
use Rattle.lhg_read.specs.Reads.{Reads, CanGoOn, NoneYet}
use Rattle.lhg_read.specs.ReadsLaws.{front_more, front_tokens}
use Rattle.lhg_read.specs.Refusals.{stop_at, IsRefused}
use Rattle.lhg_read.specs.TokenLineLaws.{token_lines-append, token_line_of, parts_of}
use Rattle.lhg_read.specs.TokenText.{token_line, token_lines, IsTextBy, HasCause, fault_in, fault_at, IsFirstFault, IsNoLine}
use Rattle.lhg_read.specs.declared.refusal.Refusal.{Refusal}
use Rattle.lhg_read.specs.declared.refusal.Refusal.TheVariants as refusal

-- the lines can stand
can_stand : (Is : List (List Spot) → Type 0) (lines : List (List ℕ)) (tokens : List (List Spot)) → token_lines lines ≡ Some tokens → CanGoOn Is tokens → CanStand (IsTextBy Is) lines
can_stand Is lines tokens e c = (
  c.more,
  record {
    tokens = tokens ++ c.further;
    are = token_lines-append lines c.more ∙ ap (λ o. joined o (token_lines c.more)) e ∙ ap (joined (Some tokens)) c.are;
    is = c.is;
  },
)

-- the line at a place behind a front
pub get_at : (xs : List (List ℕ)) (y : List ℕ) (ys : List (List ℕ)) → slice_get (xs ++ y ∷ ys) (length xs) ≡ Some y
get_at [] y ys = refl
get_at (x ∷ xs) y ys = get_at xs y ys

-- the lines up to a place behind a front and a line
take_past : (k : ℕ) (xs : List (List ℕ)) (y : List ℕ) (ys : List (List ℕ)) → length xs + 1 ≤ k → take k (xs ++ y ∷ ys) ≡ xs ++ y ∷ take (k - (length xs + 1)) ys
take_past zero xs y ys h = absurd (omega arith)
take_past (suc k) [] y ys h = ap (λ n. y ∷ take n ys) (less k)
  where
    less : (k : ℕ) → k ≡ suc k - (0 + 1)
    less k = omega arith
take_past (suc k) (x ∷ xs) y ys h = ap (λ zs. x ∷ zs) (take_past k xs y ys (omega arith) ∙ ap (λ n. xs ++ y ∷ take n ys) (less k (length xs)))
  where
    less : (k n : ℕ) → k - (n + 1) ≡ suc k - (suc n + 1)
    less k n = omega arith

-- so no beginning of lines with these tokens is a text
none_of_lines : (Is : List (List Spot) → Type 0) (lines : List (List ℕ)) (tokens : List (List Spot)) → token_lines lines ≡ Some tokens → NoneYet Is tokens → (k : ℕ) → ¬ IsTextBy Is (take k lines)
none_of_lines Is lines tokens e none k t =
    let p = parts_of (take k lines) (drop k lines) tokens (ap token_lines (take-append-drop k lines) ∙ e) in
    none p.first p.second p.whole (subst (λ ts. Is ts) (same_Some t.tokens p.first (sym t.are ∙ p.first_are)) t.is)

module _ (Is : List (List Spot) → Type 0) (old s : Reading) (tokens : List (List Spot)) (r : Reads old s tokens) (can : CanGoOn Is tokens) (none : NoneYet Is tokens) where
  -- a line that no text goes on with
  fault_line : (n : ℕ) (line : List ℕ) (h : IsNext s n line) (column : ℕ) (what : What) → fault_in (tokens_of line) ≡ record { column = column; what = what }
      → ((more : List (List ℕ)) → ¬ IsTextBy Is ((r.front ++ h.blanks) ++ line ∷ more)) → IsFirstFault (IsTextBy Is) old (n + 1) column what
  fault_line n line h column what fault bad =
      let front = r.front ++ h.blanks in
      let rest = left_of (record s { read = n + 1 }) in
      let all = front_more old s tokens r n line h in
      let size = length-append r.front h.blanks in
      let total = ap length all in
      let parts = length-append front (line ∷ rest) in
      let place : length front + 1 - 1 ≡ length front = omega arith in
      record {
        n = length front + 1;
        none = λ k t. elim (cases_lt (length front) k) [
          | inl gt ↦
              let past : length front + 1 ≤ k = omega arith in
              let cut : take k (left_of old) ≡ front ++ line ∷ take (k - (length front + 1)) rest = ap (take k) all ∙ take_past k front line rest past in
              bad (take (k - (length front + 1)) rest) (subst (λ ls. IsTextBy Is ls) cut t)
          | inr le ↦
              none_of_lines Is front tokens (front_tokens old s tokens r h.blanks h.blank) none k
              (subst (λ ls. IsTextBy Is ls) (ap (take k) all ∙ take-append-le k front (line ∷ rest) le) t)
        ];
        counted = let a = r.read.count in let b = h.count in omega (arith, a, b, size);
        first = record {
          counted = omega arith;
          before = subst (λ ls. CanStand (IsTextBy Is) ls) (sym (ap (λ k. take k (left_of old)) place ∙ ap (take (length front)) all ∙ take_at front (line ∷ rest) (length front) refl)) (can_stand Is front tokens (front_tokens old s tokens r h.blanks h.blank) can);
          bad = inl (
            omega (arith, total, parts),
            λ c.
                let cut : take (length front + 1) (left_of old) ≡ front ++ line ∷ [] =
                ap (take (length front + 1)) (all ∙ sym (append_assoc front (line ∷ []) rest)) ∙ take_at (front ++ line ∷ []) rest (length front + 1) (length-append front (line ∷ [])) in
                let text : IsTextBy Is ((front ++ line ∷ []) ++ c.0) = subst (λ ls. IsTextBy Is (ls ++ c.0)) cut c.1 in
                bad c.0 (subst (λ ls. IsTextBy Is ls) (append_assoc front (line ∷ []) c.0) text),
          );
        };
        fault = ap (λ k. fault_at (slice_get (left_of old) k)) place ∙ ap (λ ls. fault_at (slice_get ls (length front))) all ∙ ap fault_at (get_at front line rest) ∙ fault;
      }

  -- the next line has tokens, and no text goes on with them
  pub refused_line : (line : Line) (h : IsTokenLine s line) → ((more : List (List Spot)) → ¬ Is (tokens ++ h.spots ∷ more)) → IsFirstFault (IsTextBy Is) old line.number 0 NotHere
  refused_line line h bad = subst (λ k. IsFirstFault (IsTextBy Is) old k 0 NotHere) (sym h.counted) (fault_line h.before h.bytes h.next 0 NotHere (ap fault_in h.reads) no_text)
    where
      no_text : (more : List (List ℕ)) → ¬ IsTextBy Is ((r.front ++ h.next.blanks) ++ h.bytes ∷ more)
      no_text more t = by_more (token_lines more) refl
        where
          by_more : (o : Option (List (List Spot))) → token_lines more ≡ o → ⊥
          by_more o p =
              let e : joined (Some tokens) (joined (Some (h.spots ∷ [])) o) ≡ Some t.tokens =
              sym (
              token_lines-append (r.front ++ h.next.blanks) (h.bytes ∷ more)
              ∙ ap (λ x. joined x (token_lines (h.bytes ∷ more))) (front_tokens old s tokens r h.next.blanks h.next.blank)
              ∙ ap (λ x. joined (Some tokens) (joined (token_line x) (token_lines more))) h.reads
              ∙ ap (λ x. joined (Some tokens) (joined x (token_lines more))) (token_line_of h.spots h.some)
              ∙ ap (λ x. joined (Some tokens) (joined (Some (h.spots ∷ [])) x)) p
              ) ∙ t.are in
              by_rest o e
            where
              by_rest : (o : Option (List (List Spot))) → joined (Some tokens) (joined (Some (h.spots ∷ [])) o) ≡ Some t.tokens → ⊥
              by_rest None e = absurd (none-some t.tokens e)
              by_rest (Some ts) e = bad ts (subst (λ x. Is x) (sym (same_Some (tokens ++ h.spots ∷ ts) t.tokens e)) t.is)

  -- the next line has a token error
  pub faulty_line : (line column : ℕ) (what : What) → IsBadLine s line column what → IsFirstFault (IsTextBy Is) old line column what
  faulty_line line column what h = subst (λ k. IsFirstFault (IsTextBy Is) old k column what) (sym h.counted) (fault_line h.before h.bytes h.next column what (ap fault_in h.faulty) no_text)
    where
      no_text : (more : List (List ℕ)) → ¬ IsTextBy Is ((r.front ++ h.next.blanks) ++ h.bytes ∷ more)
      no_text more t =
          absurd (none-some t.tokens (sym (
          token_lines-append (r.front ++ h.next.blanks) (h.bytes ∷ more)
          ∙ ap (λ x. joined (token_lines (r.front ++ h.next.blanks)) (joined (token_line x) (token_lines more))) h.faulty
          ∙ joined_none (token_lines (r.front ++ h.next.blanks))
          ) ∙ t.are))

  -- the text ends too early
  pub missing_line : (lines : ℕ) → IsAtEnd s → lines ≡ length (lines_of s.bytes) → s.read ≤ length (lines_of s.bytes) → IsFirstFault (IsTextBy Is) old (lines + 1) 0 NotHere
  missing_line lines h e within =
      let left = left_of old in
      let are : token_lines left ≡ Some tokens = ap token_lines r.read.left ∙ front_tokens old s tokens r (left_of s) h.blank in
      let size = length-drop old.read (lines_of old.bytes) in
      let text = ap (λ b. length (lines_of b)) r.read.bytes in
      let place : length left + 1 - 1 ≡ length left = omega arith in
      record {
        n = length left + 1;
        none = none_of_lines Is left tokens are none;
        counted = let a = r.read.count in omega (arith, e, within, size, text, a);
        first = record {
          counted = omega arith;
          before = subst (λ ls. CanStand (IsTextBy Is) ls) (sym (ap (λ k. take k left) place ∙ take_all (length left) left (omega arith))) (can_stand Is left tokens are can);
          bad = inr (refl, λ t. none tokens [] (sym (append-nil tokens)) (subst (λ ts. Is ts) (same_Some t.tokens tokens (sym t.are ∙ are)) t.is));
        };
        fault = ap (λ k. fault_at (slice_get left k)) place ∙ ap fault_at (past left);
      }
    where
      past : (xs : List (List ℕ)) → slice_get xs (length xs) ≡ None
      past [] = refl
      past (x ∷ xs) = past xs

-- where no line comes, that is the first fault
pub no_line_cause : (Is : List (List Spot) → Type 0) (old s : Reading) (tokens : List (List Spot)) → Reads old s tokens → CanGoOn Is tokens → NoneYet Is tokens → (stop : ReadStop) → IsNoLine s stop → HasCause (IsTextBy Is) old stop
no_line_cause Is old s tokens r can none Memory h = tt
no_line_cause Is old s tokens r can none (Bad line column what) (inl h) = faulty_line Is old s tokens r can none line column what h
no_line_cause Is old s tokens r can none (Bad line column what) (inr h) =
    subst (λ k. IsFirstFault (IsTextBy Is) old k column what) (sym h.2)
    (subst (λ w. IsFirstFault (IsTextBy Is) old (length (lines_of s.bytes) + 1) column w) (sym h.4)
    (subst (λ c. IsFirstFault (IsTextBy Is) old (length (lines_of s.bytes) + 1) c NotHere) (sym h.3)
    (missing_line Is old s tokens r can none (length (lines_of s.bytes)) h.0 refl h.1)))

-- a line that is refused
pub refused_cause : (Is : List (List Spot) → Type 0) (old s : Reading) (tokens : List (List Spot)) → Reads old s tokens → CanGoOn Is tokens → NoneYet Is tokens → (line : Line) (h : IsTokenLine s line) → {A : Type 0} (r : Refusal) (o : Option A)
    → (o ≡ None → (more : List (List Spot)) → ¬ Is (tokens ++ h.spots ∷ more)) → IsRefused r o → HasCause (IsTextBy Is) old (stop_at r line.number)
refused_cause Is old s tokens r can none line h refusal.NotHere o bad k = refused_line Is old s tokens r can none line h (bad k)
refused_cause Is old s tokens r can none line h refusal.Memory o bad k = tt
