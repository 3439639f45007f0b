-- What a reading of a line tells of its answer.
use Rattle.std.proofs.Common.{◌≡◌, ◌<◌, ◌≤◌, ◌+◌, ◌-◌, ℕ, suc, List, [], ◌∷◌, ◌++◌, length, take, drop, refl, sym, ap, ◌∙◌, subst, true, false, arith, get_or, Result, Ok, Err, add-zero, take_at, drop_at, append-nil, length-append, length-drop}
use Rattle.lhg_math.specs.Tests.{by_bool}
use Rattle.std.proofs.lemmas.Bool.{and_parts}
use Rattle.std.specs.Prelude.{slice_range}
use Rattle.std.proofs.lemmas.List.{drop-drop}
use Rattle.lhg_lex.specs.PlainToken.{PlainToken}
use Rattle.lhg_lex.specs.Token.{said, signs_said}
use Rattle.lhg_lex.specs.Longest.{longest, IsLongest}
use Rattle.lhg_lex.specs.LineTokens.{tokens_from, taken, is_separator, Spot, Fault}
use Rattle.lhg_lex.specs.LineReading.{are_separators, IsTokenThen, Reads, EndsWell, EndsIn, IsReadAs, AreSlices}
use Rattle.lhg_lex.specs.declared.stops.What.{What}
use Rattle.lhg_lex.specs.declared.stops.What.TheVariants.{BadByte}
use Rattle.lhg_lex.proofs.Bytes.{separator_not_word, separator_not_digit, separator_not_sign, pair_needs_sign}
use Rattle.lhg_lex.proofs.TokenStarts.{signs_here, nothing_said}
use Rattle.lhg_lex.proofs.LongestLemmas.{longest_is, longest_holds}
use Rattle.lhg_lex.proofs.LineReadings.{reading_of}
use Rattle.lhg_lex.proofs.Scanning.{step_over, none_taken, one_taken}

-- a separator is no sign and begins none
no_signs : (b : ℕ) (w : List ℕ) → is_separator b ≡ true → signs_said (b ∷ w) ≡ Err BadByte
no_signs b [] h = let s = separator_not_sign b h in rw s refl
no_signs b (c ∷ []) h = let s = pair_needs_sign b c (separator_not_sign b h) in rw s refl
no_signs b (c ∷ d ∷ w) h = refl

-- no token begins with a separator
pub token_begins : (b : ℕ) (w : List ℕ) (token : PlainToken) → said (b ∷ w) ≡ Ok token → is_separator b ≡ false
token_begins b w token e = by_bool (is_separator b) (λ s. absurd (clash token (sym e ∙ signs_here b w (separator_not_word b s) (separator_not_digit b s) ∙ no_signs b w s))) (λ s. s)
  where
    clash : (token : PlainToken) → (let a : Result PlainToken What = Ok token in a ≡ Err BadByte) → ⊥
    clash token e = cc

-- separators are passed
over_gap : (at : ℕ) (gap bytes : List ℕ) → are_separators gap ≡ true → tokens_from 0 at (gap ++ bytes) ≡ tokens_from 0 (at + length gap) bytes
over_gap at [] bytes h = rw add-zero refl
over_gap at (b ∷ gap) bytes h =
    let p = and_parts (is_separator b) (are_separators gap) h in
    step_over at b (gap ++ bytes) p.0 ∙ over_gap (at + 1) gap bytes p.1 ∙ ap (λ z. tokens_from 0 z bytes) (later at (length gap))
  where
    later : (at n : ℕ) → at + 1 + n ≡ at + suc n
    later at n = omega arith

-- a token is taken where it stands
taken_here : (at : ℕ) (w rest : List ℕ) (token : PlainToken) → said w ≡ Ok token → IsLongest (w ++ rest) (length w) → tokens_from 0 at (w ++ rest) ≡ taken at (length w) (Ok token) (tokens_from 0 (at + length w) rest)
taken_here at [] rest token e l = absurd (nothing_said token e)
taken_here at (b ∷ w) rest token e l =
    let n = length (b ∷ w) in
    let t : take n (b ∷ w ++ rest) ≡ b ∷ w = take_at (b ∷ w) rest n refl in
    let d : drop n (b ∷ w ++ rest) ≡ rest = drop_at (b ∷ w) rest n refl in
    one_taken at n b (w ++ rest) token (token_begins b w token e) (longest_is (b ∷ w ++ rest) n l) (ap said t ∙ e)
    ∙ ap (λ r. taken at n (Ok token) (tokens_from 0 (at + n) r)) d

-- a token behind separators is taken
then_taken : (at : ℕ) (bytes : List ℕ) (spot : Spot) (rest : List ℕ) → IsTokenThen at bytes spot rest → (n : ℕ) × (tokens_from 0 at bytes ≡ taken spot.from n (Ok spot.says) (tokens_from 0 spot.to rest)) × (spot.to ≡ spot.from + n)
then_taken at bytes spot rest t =
    let n = length t.token in
    let f : at + length t.gap ≡ spot.from = sym t.from in (
      n,
      ap (tokens_from 0 at) t.parts ∙ over_gap at t.gap (t.token ++ rest) t.separators ∙ ap (λ z. tokens_from 0 z (t.token ++ rest)) f
          ∙ taken_here spot.from t.token rest spot.says t.says t.longest ∙ ap (λ z. taken spot.from n (Ok spot.says) (tokens_from 0 z rest)) (sym t.to),
      t.to,
    )

-- a reading of the whole line gives its tokens
pub answer_well : (at : ℕ) (bytes : List ℕ) (spots : List Spot) → Reads EndsWell at bytes spots → tokens_from 0 at bytes ≡ Ok spots
answer_well at bytes [] r = ap (tokens_from 0 at) (sym (append-nil bytes)) ∙ over_gap at bytes [] r.separators
answer_well at bytes (spot ∷ spots) r =
    let t = then_taken at bytes spot r.0 r.1 in
    let ih = answer_well spot.to r.0 spots r.2 in
    t.1 ∙ ap (taken spot.from t.0 (Ok spot.says)) ih ∙ ap (λ z. Ok (record { says = spot.says; from = spot.from; to = z } ∷ spots)) (sym t.2)

-- an error where it stands
fault_end : (fault : Fault) (at : ℕ) (rest : List ℕ) → 0 < length rest → is_separator (get_or rest 0 0) ≡ false → fault.column ≡ at + 1 → ((n : ℕ) → IsLongest rest n → said (take n rest) ≡ Err fault.what) → tokens_from 0 at rest ≡ Err fault
fault_end fault at [] some h c e = absurd (omega arith)
fault_end fault at (b ∷ rest) some h c e = none_taken at b rest fault.what h (e (longest (b ∷ rest)) (longest_holds (b ∷ rest))) ∙ ap (λ z. Err (record { column = z; what = fault.what })) (sym c)

-- a reading up to an error gives the error
pub answer_in : (fault : Fault) (at : ℕ) (bytes : List ℕ) (spots : List Spot) → Reads (EndsIn fault) at bytes spots → tokens_from 0 at bytes ≡ Err fault
answer_in fault at bytes [] r = ap (tokens_from 0 at) r.parts ∙ over_gap at r.gap r.rest r.separators ∙ fault_end fault (at + length r.gap) r.rest r.some r.byte r.column r.error
answer_in fault at bytes (spot ∷ spots) r =
    let t = then_taken at bytes spot r.0 r.1 in
    let ih = answer_in fault spot.to r.0 spots r.2 in
    t.1 ∙ ap (taken spot.from t.0 (Ok spot.says)) ih

-- ---- slices

-- a token has bytes
some_token : (w : List ℕ) (token : PlainToken) → said w ≡ Ok token → 0 < length w
some_token [] token e = absurd (nothing_said token e)
some_token (b ∷ w) token e = omega arith

-- where a token stands in its line, and what stands behind it
record IsPlaced (line : List ℕ) (at : ℕ) (spot : Spot) (rest : List ℕ) : Type 0 where
  above : at ≤ spot.from
  some : spot.from < spot.to
  says : said (slice_range line spot.from spot.to) ≡ Ok spot.says
  within : spot.to ≤ length line
  behind : rest ≡ drop spot.to line

-- a token that is read stands in its line
placed_in : (line : List ℕ) (at : ℕ) (spot : Spot) (rest : List ℕ) → at ≤ length line → IsTokenThen at (drop at line) spot rest → IsPlaced line at spot rest
placed_in line at spot rest h t =
    let n = length t.token in
    let more : 0 < n = some_token t.token spot.says t.says in
    let here : drop spot.from line ≡ t.token ++ rest =
    ap (λ k. drop k line) t.from ∙ sym (drop-drop (length t.gap) at line) ∙ ap (drop (length t.gap)) t.parts ∙ drop_at t.gap (t.token ++ rest) (length t.gap) refl in
    let size : spot.to - spot.from ≡ n = omega (arith, t.to) in
    let slice : slice_range line spot.from spot.to ≡ t.token = ap (λ k. take k (drop spot.from line)) size ∙ ap (take n) here ∙ take_at t.token rest n refl in
    let total = ap length t.parts in
    let gap_more = length-append t.gap (t.token ++ rest) in
    let token_more = length-append t.token rest in
    let left = length-drop at line in
    record {
      above = omega (arith, t.from);
      some = omega (arith, t.to, more);
      says = ap said slice ∙ t.says;
      within = omega (arith, t.from, t.to, total, gap_more, token_more, left);
      behind = sym (ap (λ k. drop k line) t.to ∙ sym (drop-drop n spot.from line) ∙ ap (drop n) here ∙ drop_at t.token rest n refl);
    }

-- tokens that are read are slices from a place on
slices_from : (line : List ℕ) (at : ℕ) (spots : List Spot) → at ≤ length line → Reads EndsWell at (drop at line) spots → AreSlices line at spots
slices_from line at [] h r = h
slices_from line at (spot ∷ spots) h r =
    let p = placed_in line at spot r.0 h r.1 in
    (p.above, p.some, p.says, slices_from line spot.to spots p.within (subst (λ w. Reads EndsWell spot.to w spots) p.behind r.2))

-- the tokens of a line are its slices in order
pub slices_of : (line : List ℕ) (spots : List Spot) → tokens_from 0 0 line ≡ Ok spots → AreSlices line 0 spots
slices_of line spots e = slices_from line 0 spots (omega arith) (subst (λ r. IsReadAs 0 line r) e (reading_of (length line) 0 line (omega arith)))
