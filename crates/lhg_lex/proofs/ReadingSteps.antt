-- Reading a text line by line: the steps from one line to the next.
use Rattle.std.proofs.Common.{◌≡◌, ◌<◌, ◌≤◌, ◌+◌, ◌-◌, ℕ, List, [], ◌∷◌, ◌++◌, length, take, drop, refl, sym, ap, ◌∙◌, subst, arith, Result, Ok, Err, map, length-append, length-drop, append_assoc, append-nil}
use Rattle.std.specs.List.{AllByRecursion, before_first, position_or_len}
use Rattle.std.proofs.lemmas.List.{length-map, take_rest}
use Rattle.lhg_lex.specs.Lines.{lines_of}
use Rattle.lhg_lex.specs.LineTokens.{Spot, Fault, tokens_of, tokens_from, content_of, IsBlankLine}
use Rattle.lhg_lex.specs.TextTokens.{all_placed, placed, plain_of, InOrder, IsStopAt}
use Rattle.lhg_lex.specs.Reading.{Reading, left_of, IsAt, IsNext, IsAtEnd, IsTokenLine, IsStop}
use Rattle.lhg_lex.specs.declared.stops.ReadStop.{ReadStop}
use Rattle.lhg_lex.specs.declared.stops.ReadStop.TheVariants.{Bad, Memory}
use Rattle.lhg_lex.specs.declared.tokens.Token.{Token}
use Rattle.lhg_lex.specs.declared.tokens.Line.{Line}
use Rattle.lhg_lex.proofs.Results.{ok_same, ok_not_err}
use Rattle.lhg_lex.proofs.ContentFronts.{content_front, before_front}
use Rattle.lhg_lex.proofs.TextLines.{is_feed, line_here, next_within, next_place, none_left}
use Rattle.lhg_lex.proofs.ReadingAnswers.{slices_of}
use Rattle.lhg_lex.proofs.TextSlices.{says_in, spans_in, order_in}

-- a text of which n lines are read
abbrev pub reading : List ℕ → ℕ → Reading
reading bytes n = record { bytes = bytes; read = n }

-- from n lines on up to m lines all lines are blank
pub record IsPassed (bytes : List ℕ) (n m : ℕ) : Type 0 where
  pub blanks : List (List ℕ)
  pub left : left_of (reading bytes n) ≡ blanks ++ left_of (reading bytes m)
  pub blank : AllByRecursion IsBlankLine blanks
  pub count : m ≡ n + length blanks

-- the line at a place
abbrev pub line_at : List ℕ → ℕ → List ℕ
line_at bytes place = before_first is_feed (drop place bytes)

-- the line at the place is the next
next_by : (bytes : List ℕ) (n m place : ℕ) → IsPassed bytes n m → IsAt bytes place m → place < length bytes → IsNext (reading bytes n) m (line_at bytes place)
next_by bytes n m place p at lt = record {
  blanks = p.blanks;
  left = p.left ∙ ap (λ ls. p.blanks ++ ls) (line_here bytes place m at lt);
  blank = p.blank;
  count = p.count;
  within = let w = next_within m (lines_of bytes) (line_at bytes place) (drop (m + 1) (lines_of bytes)) (line_here bytes place m at lt) in omega (arith, w);
}

-- one more blank line
all_more : (lines : List (List ℕ)) (line : List ℕ) → AllByRecursion IsBlankLine lines → IsBlankLine line → AllByRecursion IsBlankLine (lines ++ (line ∷ []))
all_more [] line h b = (b, tt)
all_more (l ∷ lines) line h b = (h.0, all_more lines line h.1 b)

-- a blank line more
pub passed_more : (bytes : List ℕ) (n m place : ℕ) → IsPassed bytes n m → IsAt bytes place m → place < length bytes → IsBlankLine (line_at bytes place) → IsPassed bytes n (m + 1)
passed_more bytes n m place p at lt b = record {
  blanks = p.blanks ++ (line_at bytes place ∷ []);
  left = p.left ∙ ap (λ ls. p.blanks ++ ls) (line_here bytes place m at lt) ∙ sym (append_assoc p.blanks (line_at bytes place ∷ []) (left_of (reading bytes (m + 1))));
  blank = all_more p.blanks (line_at bytes place) p.blank b;
  count = omega (arith, p.count, length-append p.blanks (line_at bytes place ∷ []));
}

-- the tokens of a line are those of what counts
tokens_are : (line : List ℕ) → tokens_from 0 0 (content_of line) ≡ tokens_of line
unfolding tokens_of
tokens_are line = refl

-- the tokens as the text has them, and as the line has them
record AreSpots (start : ℕ) (answer : Result (List Spot) Fault) (tokens : List Token) : Type 0 where
  spots : List Spot
  reads : answer ≡ Ok spots
  placed_at : tokens ≡ map (placed start) spots

-- tokens of a text are tokens of a line
spots_of : (start : ℕ) (answer : Result (List Spot) Fault) (tokens : List Token) → all_placed start answer ≡ Ok tokens → AreSpots start answer tokens
spots_of start (Ok spots) tokens e = record { spots = spots; reads = refl; placed_at = ok_same (sym e) }
spots_of start (Err fault) tokens e = absurd (ok_not_err (sym e))

-- no tokens in the text are none in the line
no_spots : (start : ℕ) (spots : List Spot) → length (map (placed start) spots) ≡ 0 → spots ≡ []
no_spots start [] e = refl
no_spots start (spot ∷ spots) e = absurd (omega (arith, e))

-- a line whose tokens are none is blank
pub blank_line : (start : ℕ) (line : List ℕ) (tokens : List Token) → all_placed start (tokens_from 0 0 (content_of line)) ≡ Ok tokens → length tokens ≡ 0 → IsBlankLine line
blank_line start line tokens e none =
    let s = spots_of start (tokens_from 0 0 (content_of line)) tokens e in
    let z : s.spots ≡ [] = no_spots start s.spots (sym (ap length s.placed_at) ∙ none) in
    record { none = sym (tokens_are line) ∙ s.reads ∙ ap (λ ss. Ok ss) z }

-- what counts of the line at a place stands there in the text
content_here : (bytes : List ℕ) (place : ℕ) → (more : List ℕ) × (drop place bytes ≡ content_of (line_at bytes place) ++ more)
content_here bytes place =
    let a = before_front is_feed (drop place bytes) in
    let c = content_front (line_at bytes place) in
    let rest = drop (position_or_len is_feed (drop place bytes)) (drop place bytes) in
    (c.0 ++ rest, a ∙ ap (λ w. w ++ rest) c.1 ∙ append_assoc (content_of (line_at bytes place)) c.0 rest)

-- a line with tokens is the next
pub token_line : (bytes : List ℕ) (n m place : ℕ) (found : Line) → found.number ≡ m + 1 → IsPassed bytes n m → IsAt bytes place m → place < length bytes
    → all_placed place (tokens_from 0 0 (content_of (line_at bytes place))) ≡ Ok found.tokens.items → 0 < length found.tokens.items → IsTokenLine (reading bytes n) found
token_line bytes n m place found number p at lt e some =
    let line = line_at bytes place in
    let s = spots_of place (tokens_from 0 0 (content_of line)) found.tokens.items e in
    let h = slices_of (content_of line) s.spots s.reads in
    let here = content_here bytes place in
    let size : place + length (content_of line) ≤ length bytes = let a = ap length here.1 in let b = length-append (content_of line) here.0 in let d = length-drop place bytes in omega (arith, a, b, d) in
    let order : InOrder 0 found.tokens.items (length bytes) = subst (λ ts. InOrder 0 ts (length bytes)) (sym s.placed_at) (order_in bytes (content_of line) place 0 0 s.spots size (omega arith) h) in
    record {
      before = m;
      bytes = line;
      spots = s.spots;
      next = next_by bytes n m place p at lt;
      counted = number;
      reads = sym (tokens_are line) ∙ s.reads;
      some = let a = ap length s.placed_at in let b = length-map s.spots (placed place) in omega (arith, a, b, some);
      placed_at = s.placed_at ∙ ap (λ k. map (placed k) s.spots) at.begins;
      says = ap (λ said. record { number = found.number; tokens = said }) (ap (λ ts. map (plain_of bytes) ts) s.placed_at ∙ says_in bytes (content_of line) here.0 place 0 s.spots here.1 h);
      spans = spans_in bytes 0 found.tokens.items order;
      order = order;
    }

-- a line with a token error is the next
pub stop_line : (bytes : List ℕ) (n m place : ℕ) (stop : ReadStop) → IsPassed bytes n m → IsAt bytes place m → place < length bytes
    → IsStopAt (m + 1) (tokens_from 0 0 (content_of (line_at bytes place))) stop → IsStop (reading bytes n) stop
stop_line bytes n m place (Bad line column what) p at lt e = record {
  before = m;
  bytes = line_at bytes place;
  next = next_by bytes n m place p at lt;
  counted = e.0;
  faulty = sym (tokens_are (line_at bytes place)) ∙ e.1;
}
stop_line bytes n m place Memory p at lt e = tt

-- at the end of the text all lines that were left are blank
pub end_lines : (bytes : List ℕ) (n m place : ℕ) → IsPassed bytes n m → IsAt bytes place m → length bytes ≤ place → IsAtEnd (reading bytes n) × (m ≡ length (lines_of bytes))
end_lines bytes n m place p at past =
    let e = none_left bytes place m at past in
    (record { blank = subst (λ ls. AllByRecursion IsBlankLine ls) (sym (p.left ∙ ap (λ ls. p.blanks ++ ls) e.0 ∙ append-nil p.blanks)) p.blank }, e.1)

-- ---- the turns of the reading of a text

-- a line that was cut off at a place, what of it counts, and its answer
pub record IsCut (bytes : List ℕ) (place : ℕ) (line content : List ℕ) : Type 0 where
  pub line_is : line ≡ before_first is_feed (take (length bytes - place) (drop place bytes))
  pub content_is : content ≡ content_of line

-- it is the line at the place
cut_here : (bytes : List ℕ) (place : ℕ) (line content : List ℕ) → IsCut bytes place line content → (line ≡ line_at bytes place) × (content ≡ content_of (line_at bytes place))
cut_here bytes place line content c =
    let e : line ≡ line_at bytes place = c.line_is ∙ ap (before_first is_feed) (take_rest bytes place) in
    (e, c.content_is ∙ ap content_of e)

-- what counts of it lies in the text
pub cut_short : (bytes : List ℕ) (place : ℕ) (line content : List ℕ) → IsCut bytes place line content → place < length bytes → place + length content ≤ length bytes
cut_short bytes place line content c lt =
    let h = cut_here bytes place line content c in
    let here = content_here bytes place in
    let a = ap length here.1 in
    let b = length-append (content_of (line_at bytes place)) here.0 in
    let d = length-drop place bytes in
    let s = ap length h.1 in
    omega (arith, a, b, d, s)

-- the place behind it
pub cut_place : (bytes : List ℕ) (n place : ℕ) (line content : List ℕ) → IsCut bytes place line content → IsAt bytes place n → place < length bytes → IsAt bytes (place + (length line + 1)) (n + 1)
cut_place bytes n place line content c at lt =
    let s = ap length (cut_here bytes place line content c).0 in
    let e : place + length (line_at bytes place) + 1 ≡ place + (length line + 1) = omega (arith, s) in
    subst (λ p. IsAt bytes p (n + 1)) e (next_place bytes place n at lt)

-- its tokens, where it has some
pub cut_tokens : (bytes : List ℕ) (n m place : ℕ) (line content : List ℕ) (found : Line) → found.number ≡ m + 1 → IsCut bytes place line content → IsPassed bytes n m → IsAt bytes place m → place < length bytes
    → all_placed place (tokens_from 0 0 content) ≡ Ok found.tokens.items → 0 < length found.tokens.items → IsTokenLine (reading bytes n) found
cut_tokens bytes n m place line content found number c p at lt e some =
    token_line bytes n m place found number p at lt (subst (λ w. all_placed place (tokens_from 0 0 w) ≡ Ok found.tokens.items) (cut_here bytes place line content c).1 e) some

-- it is passed where it has none
pub cut_blank : (bytes : List ℕ) (n m place : ℕ) (line content : List ℕ) (tokens : List Token) → IsCut bytes place line content → IsPassed bytes n m → IsAt bytes place m → place < length bytes
    → all_placed place (tokens_from 0 0 content) ≡ Ok tokens → length tokens ≡ 0 → IsPassed bytes n (m + 1)
cut_blank bytes n m place line content tokens c p at lt e none =
    passed_more bytes n m place p at lt (blank_line place (line_at bytes place) tokens (subst (λ w. all_placed place (tokens_from 0 0 w) ≡ Ok tokens) (cut_here bytes place line content c).1 e) none)

-- its token error
pub cut_stop : (bytes : List ℕ) (n m place : ℕ) (line content : List ℕ) (stop : ReadStop) → IsCut bytes place line content → IsPassed bytes n m → IsAt bytes place m → place < length bytes
    → IsStopAt (m + 1) (tokens_from 0 0 content) stop → IsStop (reading bytes n) stop
cut_stop bytes n m place line content stop c p at lt e =
    stop_line bytes n m place stop p at lt (subst (λ w. IsStopAt (m + 1) (tokens_from 0 0 w) stop) (cut_here bytes place line content c).1 e)
