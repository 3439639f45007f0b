-- Which tokens are a row and a list of rows as they are printed?
use Rattle.std.proofs.Common.{◌≡◌, ◌≤◌, ℕ, List, [], ◌∷◌, ◌++◌, map, refl, sym, ap, ◌∙◌, subst, Bool, true, false, ◌==◌, ◌&&◌, if◌then◌else◌, codes, append_assoc}
use Rattle.std.specs.Int.RustNames.{unsigned_abs}
use Rattle.lhg_math.specs.Number.{Number, neg, lt, nought}
use Rattle.lhg_math.specs.Reduce.{abs-neg}
use Rattle.lhg_math.specs.Signs.{is_nought}
use Rattle.lhg_math.specs.Tests.{AllOf, by_bool}
use Rattle.lhg_lex.specs.PlainToken.{PlainToken, word, number, sign, two_signs}
use Rattle.lhg_lex.specs.Token.{is_sign_byte, is_pair}
use Rattle.lhg_lex.specs.Word.{is_word}
use Rattle.lhg_lex.specs.Literal.{limit}
use Rattle.lhg_row.specs.Piece.{PlainPiece}
use Rattle.lhg_row.specs.Row.{PlainRow}
use Rattle.lhg_row_text.specs.RowText.{size_text, number_text, term_text, next_terms, terms_text, operator_text, turned, leads_negative, row_text, row_text_by, next_rows, rows_text}
use Rattle.lhg_row_text.specs.Short.{IsShort, IsShortRow}
use Rattle.lhg_row_text.proofs.LineText.{Says, says_end, says_space, says_token}
use Rattle.lhg_row_text.proofs.NumberTokens.{magnitude, size_token}
use Rattle.lhg_row_text.proofs.TokenKinds.{breaks, word_token, sign_token, pair_token}

-- what may stand behind a word or a number, and what it says
pub record Follows (bytes : List ℕ) (tokens : List PlainToken) : Type 0 where
  pub says : Says bytes tokens
  pub stops : breaks bytes ≡ true

-- equal bytes say the same
says_as : {xs ys : List ℕ} {tokens : List PlainToken} → ys ≡ xs → Says xs tokens → Says ys tokens
says_as {xs} {ys} {tokens} e s = subst (λ bytes. Says bytes tokens) (sym e) s

-- ---- variables

-- a variable of a row: its name, and whether it is the new one of a switch
pub record Axis : Type 0 where
  pub name : List ℕ
  pub primed : Bool

-- the variable as it is printed
abbrev pub axis_text : Axis → List ℕ
axis_text a = if a.primed then a.name ++ codes "'" else a.name

-- the same as tokens
abbrev pub axis_tokens : Axis → List PlainToken
axis_tokens a = if a.primed then word a.name ∷ sign 39 ∷ [] else word a.name ∷ []

-- the name is a word
pub record IsNamed (a : Axis) : Type 0 where
  pub name : is_word a.name ≡ true

axis_by : (w : List ℕ) (primed : Bool) (rest : List ℕ) (tokens : List PlainToken) → is_word w ≡ true → Follows rest tokens
    → Says (axis_text (record { name = w; primed = primed }) ++ rest) (axis_tokens (record { name = w; primed = primed }) ++ tokens)
axis_by w true rest tokens h f = says_as (append_assoc w (codes "'") rest) (says_token w (39 ∷ rest) (word w) (word_token w (39 ∷ rest) h refl) (says_token (39 ∷ []) rest (sign 39) (sign_token 39 rest refl refl) f.says))
axis_by w false rest tokens h f = says_token w rest (word w) (word_token w rest h f.stops) f.says

axis_says : (a : Axis) (rest : List ℕ) (tokens : List PlainToken) → IsNamed a → Follows rest tokens → Says (axis_text a ++ rest) (axis_tokens a ++ tokens)
axis_says a rest tokens h f = axis_by a.name a.primed rest tokens h.name f

-- ---- terms

-- the tokens of a term without its sign
abbrev pub term_tokens : Number → Axis → List PlainToken
term_tokens c a = if (unsigned_abs c.top == 1) && (c.bottom == 1) then axis_tokens a else number (magnitude c) ∷ sign 42 ∷ axis_tokens a

-- the tokens of the terms behind the first, each with its sign in front
abbrev pub next_tokens : List Axis → List Number → List PlainToken
next_tokens [] cs = []
next_tokens (a ∷ axes) [] = []
next_tokens (a ∷ axes) (c ∷ cs) = if is_nought c then next_tokens axes cs else sign (if lt c nought then 45 else 43) ∷ (term_tokens c a ++ next_tokens axes cs)

-- the tokens of the terms
abbrev pub terms_tokens : List Axis → List Number → List PlainToken
terms_tokens [] cs = []
terms_tokens (a ∷ axes) [] = []
terms_tokens (a ∷ axes) (c ∷ cs) = if is_nought c then terms_tokens axes cs else term_tokens c a ++ next_tokens axes cs

factor_text : (size v rest : List ℕ) → (size ++ codes "*" ++ v) ++ rest ≡ size ++ (42 ∷ (v ++ rest))
factor_text size v rest = append_assoc (size ++ codes "*") v rest ∙ append_assoc size (codes "*") (v ++ rest)

term_says : (c : Number) (a : Axis) (rest : List ℕ) (tokens : List PlainToken) → IsShort c → IsNamed a → Follows rest tokens → Says (term_text c (axis_text a) ++ rest) (term_tokens c a ++ tokens)
term_says c a rest tokens short named f =
    by_bool ((unsigned_abs c.top == 1) && (c.bottom == 1))
    (λ e. rw e (axis_says a rest tokens named f))
    (λ e. rw e (says_as (factor_text (size_text c) (axis_text a) rest)
    (says_token (size_text c) (42 ∷ (axis_text a ++ rest)) (number (magnitude c)) (size_token c (42 ∷ (axis_text a ++ rest)) short refl)
    (says_token (42 ∷ []) (axis_text a ++ rest) (sign 42) (sign_token 42 (axis_text a ++ rest) refl refl) (axis_says a rest tokens named f)))))

-- a sign and a term behind it
signed_says : (s : ℕ) (c : Number) (a : Axis) (rest : List ℕ) (tokens : List PlainToken) → is_sign_byte s ≡ true → is_pair s 32 ≡ false → IsShort c → IsNamed a → Follows rest tokens
    → Follows (32 ∷ s ∷ 32 ∷ (term_text c (axis_text a) ++ rest)) (sign s ∷ (term_tokens c a ++ tokens))
signed_says s c a rest tokens one alone short named f =
    let behind = 32 ∷ (term_text c (axis_text a) ++ rest) in
    record { says = says_space (says_token (s ∷ []) behind (sign s) (sign_token s behind one alone) (says_space (term_says c a rest tokens short named f))); stops = refl }

next_by : (negative : Bool) (c : Number) (a : Axis) (rest : List ℕ) (tokens : List PlainToken) → IsShort c → IsNamed a → Follows rest tokens
    → Follows ((if negative then codes " - " else codes " + ") ++ (term_text c (axis_text a) ++ rest)) (sign (if negative then 45 else 43) ∷ (term_tokens c a ++ tokens))
next_by true c a rest tokens short named f = signed_says 45 c a rest tokens refl refl short named f
next_by false c a rest tokens short named f = signed_says 43 c a rest tokens refl refl short named f

next_grouped : (s t more rest : List ℕ) → ((s ++ t) ++ more) ++ rest ≡ s ++ (t ++ (more ++ rest))
next_grouped s t more rest = simp append_assoc

tokens_grouped : (s : PlainToken) (t more tokens : List PlainToken) → (s ∷ (t ++ more)) ++ tokens ≡ s ∷ (t ++ (more ++ tokens))
tokens_grouped s t more tokens = ap (λ ts. s ∷ ts) (append_assoc t more tokens)

follows_as : {xs ys : List ℕ} {ts us : List PlainToken} → ys ≡ xs → us ≡ ts → Follows xs ts → Follows ys us
follows_as {xs} {ys} {ts} {us} e g f = subst (λ bytes. Follows bytes us) (sym e) (subst (λ tokens. Follows xs tokens) (sym g) f)

-- the terms behind the first
next_says : (axes : List Axis) (cs : List Number) (rest : List ℕ) (tokens : List PlainToken) → AllOf IsNamed axes → AllOf IsShort cs → Follows rest tokens
    → Follows (next_terms (map axis_text axes) cs ++ rest) (next_tokens axes cs ++ tokens)
next_says [] cs rest tokens named short f = f
next_says (a ∷ axes) [] rest tokens named short f = f
next_says (a ∷ axes) (c ∷ cs) rest tokens named short f =
    let more = next_says axes cs rest tokens named.1 short.1 f in
    by_bool (is_nought c)
    (λ e. rw e more)
    (λ e. rw e (follows_as (next_grouped (if lt c nought then codes " - " else codes " + ") (term_text c (axis_text a)) (next_terms (map axis_text axes) cs) rest) (tokens_grouped (sign (if lt c nought then 45 else 43)) (term_tokens c a) (next_tokens axes cs) tokens)
    (next_by (lt c nought) c a (next_terms (map axis_text axes) cs ++ rest) (next_tokens axes cs ++ tokens) short.0 named.0 more)))

-- the terms
terms_say : (axes : List Axis) (cs : List Number) (rest : List ℕ) (tokens : List PlainToken) → AllOf IsNamed axes → AllOf IsShort cs → Follows rest tokens
    → Says (terms_text (map axis_text axes) cs ++ rest) (terms_tokens axes cs ++ tokens)
terms_say [] cs rest tokens named short f = f.says
terms_say (a ∷ axes) [] rest tokens named short f = f.says
terms_say (a ∷ axes) (c ∷ cs) rest tokens named short f =
    by_bool (is_nought c)
    (λ e. rw e (terms_say axes cs rest tokens named.1 short.1 f))
    (λ e. rw (e, append_assoc (term_text c (axis_text a)) (next_terms (map axis_text axes) cs) rest, append_assoc (term_tokens c a) (next_tokens axes cs) tokens)
    (term_says c a (next_terms (map axis_text axes) cs ++ rest) (next_tokens axes cs ++ tokens) short.0 named.0 (next_says axes cs rest tokens named.1 short.1 f)))

-- ---- rows

-- the tokens of a number
abbrev pub number_tokens : Number → List PlainToken
number_tokens x = if lt x nought then sign 45 ∷ number (magnitude x) ∷ [] else number (magnitude x) ∷ []

number_by : (negative : Bool) (x : Number) (rest : List ℕ) (tokens : List PlainToken) → IsShort x → Follows rest tokens
    → Says ((if negative then codes "-" else []) ++ (size_text x ++ rest)) ((if negative then sign 45 ∷ number (magnitude x) ∷ [] else number (magnitude x) ∷ []) ++ tokens)
number_by true x rest tokens short f = says_token (45 ∷ []) (size_text x ++ rest) (sign 45) (sign_token 45 (size_text x ++ rest) refl refl) (says_token (size_text x) rest (number (magnitude x)) (size_token x rest short f.stops) f.says)
number_by false x rest tokens short f = says_token (size_text x) rest (number (magnitude x)) (size_token x rest short f.stops) f.says

number_says : (x : Number) (rest : List ℕ) (tokens : List PlainToken) → IsShort x → Follows rest tokens → Says (number_text x ++ rest) (number_tokens x ++ tokens)
number_says x rest tokens short f = says_as (append_assoc (if lt x nought then codes "-" else []) (size_text x) rest) (number_by (lt x nought) x rest tokens short f)

-- the token of an operator, turned round where the row was negated
abbrev pub operator_token : Bool → Bool → PlainToken
operator_token true true = sign 62
operator_token true false = two_signs 62 61
operator_token false true = sign 60
operator_token false false = two_signs 60 61

operator_says : (flip strict : Bool) (rest : List ℕ) (tokens : List PlainToken) → Says rest tokens → Follows (operator_text flip strict ++ rest) (operator_token flip strict ∷ tokens)
operator_says true true rest tokens s = record { says = says_space (says_token (62 ∷ []) (32 ∷ rest) (sign 62) (sign_token 62 (32 ∷ rest) refl refl) (says_space s)); stops = refl }
operator_says true false rest tokens s = record { says = says_space (says_token (62 ∷ 61 ∷ []) (32 ∷ rest) (two_signs 62 61) (pair_token 62 61 (32 ∷ rest) refl) (says_space s)); stops = refl }
operator_says false true rest tokens s = record { says = says_space (says_token (60 ∷ []) (32 ∷ rest) (sign 60) (sign_token 60 (32 ∷ rest) refl refl) (says_space s)); stops = refl }
operator_says false false rest tokens s = record { says = says_space (says_token (60 ∷ 61 ∷ []) (32 ∷ rest) (two_signs 60 61) (pair_token 60 61 (32 ∷ rest) refl) (says_space s)); stops = refl }

short_turned : (flip : Bool) (x : Number) → IsShort x → IsShort (turned flip x)
unfolding neg
short_turned true x h = record { top = let e = abs-neg x.top in subst (λ n. n ≤ limit) (sym e) h.top; bottom = h.bottom }
short_turned false x h = h

all_turned : (flip : Bool) (xs : List Number) → AllOf IsShort xs → AllOf IsShort (map (turned flip) xs)
all_turned flip [] h = tt
all_turned flip (x ∷ xs) h = (short_turned flip x h.0, all_turned flip xs h.1)

-- the tokens of a row, negated where the flag says so
abbrev pub row_tokens_by : Bool → List Axis → PlainRow → List PlainToken
row_tokens_by flip axes r = terms_tokens axes (map (turned flip) r.coefs) ++ (operator_token flip r.strict ∷ number_tokens (turned flip r.bound))

-- the tokens of a row
abbrev pub row_tokens : List Axis → PlainRow → List PlainToken
row_tokens axes r = row_tokens_by (leads_negative r) axes r

row_grouped : (t o n rest : List ℕ) → (t ++ (o ++ n)) ++ rest ≡ t ++ (o ++ (n ++ rest))
row_grouped t o n rest = simp append_assoc

row_tokens_grouped : (t : List PlainToken) (o : PlainToken) (n tokens : List PlainToken) → (t ++ (o ∷ n)) ++ tokens ≡ t ++ (o ∷ (n ++ tokens))
row_tokens_grouped t o n tokens = append_assoc t (o ∷ n) tokens

row_by : (flip : Bool) (axes : List Axis) (r : PlainRow) (rest : List ℕ) (tokens : List PlainToken) → AllOf IsNamed axes → IsShortRow r → Follows rest tokens
    → Says (row_text_by flip (map axis_text axes) r ++ rest) (row_tokens_by flip axes r ++ tokens)
row_by flip axes r rest tokens named short f =
    rw (
      row_grouped (terms_text (map axis_text axes) (map (turned flip) r.coefs)) (operator_text flip r.strict) (number_text (turned flip r.bound)) rest,
      row_tokens_grouped (terms_tokens axes (map (turned flip) r.coefs)) (operator_token flip r.strict) (number_tokens (turned flip r.bound)) tokens,
    )
    (terms_say axes (map (turned flip) r.coefs) _ _ named (all_turned flip r.coefs short.coefs)
    (operator_says flip r.strict _ _ (number_says (turned flip r.bound) rest tokens (short_turned flip r.bound short.bound) f)))

row_says : (axes : List Axis) (r : PlainRow) (rest : List ℕ) (tokens : List PlainToken) → AllOf IsNamed axes → IsShortRow r → Follows rest tokens → Says (row_text (map axis_text axes) r ++ rest) (row_tokens axes r ++ tokens)
row_says axes r rest tokens named short f = row_by (leads_negative r) axes r rest tokens named short f

-- ---- lists of rows

-- the tokens of the rows behind the first, each with its comma in front
abbrev pub next_rows_tokens : List Axis → PlainPiece → List PlainToken
next_rows_tokens axes [] = []
next_rows_tokens axes (r ∷ rs) = sign 44 ∷ (row_tokens axes r ++ next_rows_tokens axes rs)

-- the tokens of a list of rows
abbrev pub rows_tokens : List Axis → PlainPiece → List PlainToken
rows_tokens axes [] = word (codes "all") ∷ []
rows_tokens axes (r ∷ rs) = row_tokens axes r ++ next_rows_tokens axes rs

-- the rows behind the first
next_rows_say : (axes : List Axis) (rows : PlainPiece) → AllOf IsNamed axes → AllOf IsShortRow rows → Follows (next_rows (map axis_text axes) rows) (next_rows_tokens axes rows)
next_rows_say axes [] named short = record { says = says_end; stops = refl }
next_rows_say axes (r ∷ rs) named short =
    let more = next_rows_say axes rs named short.1 in
    let row = row_says axes r _ _ named short.0 more in
    let behind = row_text (map axis_text axes) r ++ next_rows (map axis_text axes) rs in
    record { says = says_token (44 ∷ []) (32 ∷ behind) (sign 44) (sign_token 44 (32 ∷ behind) refl refl) (says_space row); stops = refl }

-- a list of rows says these tokens
pub rows_say : (axes : List Axis) (rows : PlainPiece) → AllOf IsNamed axes → AllOf IsShortRow rows → Says (rows_text (map axis_text axes) rows) (rows_tokens axes rows)
rows_say axes [] named short = says_token (codes "all") [] (word (codes "all")) (word_token (codes "all") [] refl refl) says_end
rows_say axes (r ∷ rs) named short = row_says axes r _ _ named short.0 (next_rows_say axes rs named short.1)
