-- What a line says as a word is a word.
use Rattle.std.proofs.Common.{◌≡◌, ℕ, List, [], ◌∷◌, map, refl, sym, ap, ◌∙◌, subst, true, Some, Result, Ok, Err}
use Rattle.std.specs.Prelude.{slice_range}
use Rattle.std.specs.List.{All}
use Rattle.std.proofs.lemmas.List.Elements.{All-nil, All-cons, All-head, All-tail}
use Rattle.std.proofs.lemmas.Option.{none-some, same_Some}
use Rattle.lhg_math.specs.Number.{Number}
use Rattle.lhg_math.specs.Tests.{AllOf, by_bool}
use Rattle.lhg_lex.specs.PlainToken.{PlainToken, word, number, sign, two_signs}
use Rattle.lhg_lex.specs.Word.{is_word}
use Rattle.lhg_lex.specs.Literal.{is_number, number_of}
use Rattle.lhg_lex.specs.Token.{said, number_said, signs_said, is_sign_byte, is_pair}
use Rattle.lhg_lex.specs.LineTokens.{Spot, Fault, tokens_of, content_of}
use Rattle.lhg_lex.specs.LineReading.{AreSlices}
use Rattle.lhg_lex.specs.TextTokens.{plain_of}
use Rattle.lhg_lex.specs.Reading.{Reading, IsTokenLine}
use Rattle.lhg_lex.specs.declared.stops.What.{What}
use Rattle.lhg_lex.specs.declared.tokens.Token.{Token}
use Rattle.lhg_lex.specs.declared.tokens.Line.{Line}
use Rattle.lhg_lex.proofs.ReadingAnswers.{slices_of}
use Rattle.lhg_read.specs.Lexed.{IsLexed}
use Rattle.lhg_read.specs.PlantText.{said_in}
use Rattle.lhg_read.specs.ReadsLaws.{same_bytes}
use Rattle.lhg_read.specs.TokenText.{token_line, token_lines}
use Rattle.lhg_read.proofs.Answered.{both_joined}
use Rattle.lhg_row.specs.Members.{all-append}

-- a token says a word where its bytes are one
no_word : (r : Result Number What) (w : List ℕ) → number_said r ≡ Ok (word w) → ⊥
no_word (Ok q) w e = absurd cc
no_word (Err what) w e = absurd cc

no_signs : (bytes w : List ℕ) → signs_said bytes ≡ Ok (word w) → ⊥
no_signs [] w e = absurd cc
no_signs (b ∷ []) w e = by_bool (is_sign_byte b) (λ t. let k = rw t at e in absurd cc) (λ t. let k = rw t at e in absurd cc)
no_signs (b ∷ c ∷ []) w e = by_bool (is_pair b c) (λ t. let k = rw t at e in absurd cc) (λ t. let k = rw t at e in absurd cc)
no_signs (b ∷ c ∷ d ∷ bytes) w e = absurd cc

word_eq : (v w : List ℕ) → (let a : Result PlainToken What = Ok (word v) in a ≡ Ok (word w)) → v ≡ w
word_eq v w e = cc

said_word : (bytes w : List ℕ) → said bytes ≡ Ok (word w) → is_word w ≡ true
said_word bytes w e =
    by_bool (is_word bytes)
    (λ t. let k = rw t at e in ap is_word (sym (word_eq bytes w k)) ∙ t)
    (λ t. let k = rw t at e in by_bool (is_number bytes) (λ n. let m = rw n at k in absurd (no_word (number_of bytes) w m)) (λ n. let m = rw n at k in absurd (no_signs bytes w m)))

token_lexed : (bytes : List ℕ) (token : PlainToken) → said bytes ≡ Ok token → IsLexed token
token_lexed bytes (word w) e = said_word bytes w e
token_lexed bytes (number q) e = tt
token_lexed bytes (sign b) e = tt
token_lexed bytes (two_signs b c) e = tt

spots_lexed : (line : List ℕ) (low : ℕ) (spots : List Spot) → AreSlices line low spots → All IsLexed (said_in spots)
spots_lexed line low [] h = All-nil IsLexed
spots_lexed line low (s ∷ spots) h = All-cons IsLexed s.says (said_in spots) (token_lexed (slice_range line s.from s.to) s.says h.2) (spots_lexed line s.to spots h.3)

of_tokens : (text : List ℕ) (tokens : List Token) → All IsLexed (map (plain_of text) tokens) → All (λ token. IsLexed (plain_of text token)) tokens
of_tokens text [] h = All-nil (λ token. IsLexed (plain_of text token))
of_tokens text (t ∷ tokens) h =
    All-cons (λ token. IsLexed (plain_of text token)) t tokens (All-head IsLexed (plain_of text t) (map (plain_of text) tokens) h) (of_tokens text tokens (All-tail IsLexed (plain_of text t) (map (plain_of text) tokens) h))

-- the words of a line are words
pub line_lexed : (s : Reading) (line : Line) → IsTokenLine s line → All (λ token. IsLexed (plain_of s.bytes token)) line.tokens.items
unfolding tokens_of
line_lexed s line h =
    of_tokens s.bytes line.tokens.items (subst (λ ts. All IsLexed ts) (sym (ap (λ l. l.tokens) h.says)) (spots_lexed (content_of h.bytes) 0 h.spots (slices_of (content_of h.bytes) h.spots h.reads)))

-- and so they are in the text behind it
pub lexed_after : (s : Reading) (line : Line) (new : Reading) (h : IsTokenLine s line) → new ≡ record s { read = line.number } → (tokens : List Token) → tokens ≡ line.tokens.items → All (λ token. IsLexed (plain_of new.bytes token)) tokens
lexed_after s line new h e tokens f =
    subst (λ b. All (λ token. IsLexed (plain_of b token)) tokens) (sym (same_bytes s new line.number e))
    (subst (λ ts. All (λ token. IsLexed (plain_of s.bytes token)) ts) (sym f) (line_lexed s line h))

-- ---- all lines

each_lexed : (tokens : List PlainToken) → All IsLexed tokens → AllOf IsLexed tokens
each_lexed [] h = tt
each_lexed (t ∷ tokens) h = (All-head IsLexed t tokens h, each_lexed tokens (All-tail IsLexed t tokens h))

-- a line whose words are words
abbrev pub AreLexed : List Spot → Type 0
AreLexed line = AllOf IsLexed (said_in line)

one_lexed : (line : List ℕ) (r : Result (List Spot) Fault) (tokens : List (List Spot)) → tokens_of line ≡ r → token_line r ≡ Some tokens → AllOf AreLexed tokens
unfolding tokens_of
one_lexed line (Ok []) tokens e f = subst (λ ts. AllOf AreLexed ts) (same_Some [] tokens f) tt
one_lexed line (Ok (spot ∷ spots)) tokens e f =
    subst (λ ts. AllOf AreLexed ts) (same_Some ((spot ∷ spots) ∷ []) tokens f)
    (each_lexed (said_in (spot ∷ spots)) (spots_lexed (content_of line) 0 (spot ∷ spots) (slices_of (content_of line) (spot ∷ spots) e)), tt)
one_lexed line (Err fault) tokens e f = absurd (none-some tokens f)

-- the words of lines are words
pub lines_lexed : (lines : List (List ℕ)) (tokens : List (List Spot)) → token_lines lines ≡ Some tokens → AllOf AreLexed tokens
lines_lexed [] tokens e = subst (λ ts. AllOf AreLexed ts) (same_Some [] tokens e) tt
lines_lexed (line ∷ lines) tokens e =
    let p = both_joined (token_line (tokens_of line)) (token_lines lines) tokens e in
    subst (λ ts. AllOf AreLexed ts) p.4 (all-append AreLexed p.0 p.1 (one_lexed line (tokens_of line) p.0 refl p.2) (lines_lexed lines p.1 p.3))
