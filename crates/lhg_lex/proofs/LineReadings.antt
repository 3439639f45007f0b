-- The two readings of a line agree, and its tokens are its slices in order.
use Rattle.std.proofs.Common.{◌≡◌, ◌<◌, ◌≤◌, ◌+◌, ℕ, zero, suc, List, [], ◌∷◌, length, take, drop, refl, sym, ap, ◌∙◌, subst, true, false, arith, Result, Ok, Err, length-drop, take-append-drop}
use Rattle.lhg_math.specs.Tests.{by_bool}
use Rattle.std.proofs.lemmas.List.{length-take-le}
use Rattle.lhg_lex.specs.PlainToken.{PlainToken}
use Rattle.lhg_lex.specs.Token.{said}
use Rattle.lhg_lex.specs.Longest.{longest, IsLongest}
use Rattle.lhg_lex.specs.LineTokens.{tokens_from, taken, is_separator, Spot, Fault}
use Rattle.lhg_lex.specs.LineReading.{IsTokenThen, Reads, EndsWell, EndsIn, IsReadAs}
use Rattle.lhg_lex.specs.declared.stops.What.{What}
use Rattle.lhg_lex.proofs.TokenStarts.{nothing_said}
use Rattle.lhg_lex.proofs.LongestLemmas.{longest_is, longest_holds}
use Rattle.lhg_lex.proofs.Scanning.{step_over, none_taken, one_taken}

-- ---- from the answer to the reading

-- a separator before is one more of the gap
wide_then : (at b : ℕ) (bytes : List ℕ) (spot : Spot) (rest : List ℕ) → is_separator b ≡ true → IsTokenThen (at + 1) bytes spot rest → IsTokenThen at (b ∷ bytes) spot rest
wide_then at b bytes spot rest h t = record {
  gap = b ∷ t.gap;
  token = t.token;
  parts = ap (λ w. b ∷ w) t.parts;
  separators = let s = t.separators in rw (h, s) refl;
  from = omega (arith, t.from);
  to = t.to;
  says = t.says;
  longest = t.longest;
}

-- the same of a whole reading
wide : (Ends : ℕ → List ℕ → Type 0) (at b : ℕ) (bytes : List ℕ) (spots : List Spot) → is_separator b ≡ true → (Ends (at + 1) bytes → Ends at (b ∷ bytes)) → Reads Ends (at + 1) bytes spots → Reads Ends at (b ∷ bytes) spots
wide Ends at b bytes [] h f r = f r
wide Ends at b bytes (spot ∷ spots) h f r = (r.0, wide_then at b bytes spot r.0 h r.1, r.2)

-- of a reading that ends in separators
wide_well : (at b : ℕ) (bytes : List ℕ) → is_separator b ≡ true → EndsWell (at + 1) bytes → EndsWell at (b ∷ bytes)
wide_well at b bytes h e = record { separators = let s = e.separators in rw (h, s) refl }

-- of a reading that ends in an error
wide_in : (fault : Fault) (at b : ℕ) (bytes : List ℕ) → is_separator b ≡ true → EndsIn fault (at + 1) bytes → EndsIn fault at (b ∷ bytes)
wide_in fault at b bytes h e = record {
  gap = b ∷ e.gap;
  rest = e.rest;
  parts = ap (λ w. b ∷ w) e.parts;
  separators = let s = e.separators in rw (h, s) refl;
  some = e.some;
  byte = e.byte;
  column = omega (arith, e.column);
  error = e.error;
}

-- and of what an answer says
wide_answer : (at b : ℕ) (bytes : List ℕ) (answer : Result (List Spot) Fault) → is_separator b ≡ true → IsReadAs (at + 1) bytes answer → IsReadAs at (b ∷ bytes) answer
wide_answer at b bytes (Ok spots) h r = wide EndsWell at b bytes spots h (wide_well at b bytes h) r
wide_answer at b bytes (Err fault) h r = (r.0, wide (EndsIn fault) at b bytes r.0 h (wide_in fault at b bytes h) r.1)

-- a token before
first_token : (at n : ℕ) (text : List ℕ) (token : PlainToken) → IsLongest text n → said (take n text) ≡ Ok token → IsTokenThen at text (record { says = token; from = at; to = at + n }) (drop n text)
first_token at n text token l e =
    let size : length (take n text) ≡ n = length-take-le n text l.within in
    let same = sym (take-append-drop n text) in
    record {
      gap = [];
      token = take n text;
      parts = same;
      separators = refl;
      from = omega arith;
      to = omega (arith, size);
      says = e;
      longest = subst (λ w. IsLongest w (length (take n text))) same (subst (λ k. IsLongest text k) (sym size) l);
    }

-- and then what an answer says of the rest
with_first : (at n : ℕ) (text : List ℕ) (token : PlainToken) (answer : Result (List Spot) Fault) → IsTokenThen at text (record { says = token; from = at; to = at + n }) (drop n text) → IsReadAs (at + n) (drop n text) answer → IsReadAs at text (taken at n (Ok token) answer)
with_first at n text token (Ok spots) t r = (drop n text, t, r)
with_first at n text token (Err fault) t r = (record { says = token; from = at; to = at + n } ∷ r.0, (drop n text, t, r.1))

-- an error at the first byte
fault_here : (at b : ℕ) (bytes : List ℕ) (what : What) → is_separator b ≡ false → said (take (longest (b ∷ bytes)) (b ∷ bytes)) ≡ Err what → IsReadAs at (b ∷ bytes) (Err (record { column = at + 1; what = what }))
fault_here at b bytes what h e = (
  [],
  record {
    gap = [];
    rest = b ∷ bytes;
    parts = refl;
    separators = refl;
    some = omega arith;
    byte = h;
    column = omega arith;
    error = λ n l. ap (λ k. said (take k (b ∷ bytes))) (sym (longest_is (b ∷ bytes) n l)) ∙ e;
  },
)

-- by cases on what some bytes say
by_said : {P : Type 0} (r : Result PlainToken What) → ((token : PlainToken) → r ≡ Ok token → P) → ((what : What) → r ≡ Err what → P) → P
by_said (Ok token) f g = f token refl
by_said (Err what) f g = g what refl

-- a token has bytes
some_said : (n : ℕ) (text : List ℕ) (token : PlainToken) → said (take n text) ≡ Ok token → 0 < n
some_said zero text token e = absurd (nothing_said token e)
some_said (suc n) text token e = omega arith

-- the answer tells the reading
pub reading_of : (fuel at : ℕ) (bytes : List ℕ) → length bytes ≤ fuel → IsReadAs at bytes (tokens_from 0 at bytes)
reading_of fuel at [] h = record { separators = refl }
reading_of zero at (b ∷ bytes) h = absurd (omega arith)
reading_of (suc fuel) at (b ∷ bytes) h =
    by_bool (is_separator b)
    (λ s. subst (λ r. IsReadAs at (b ∷ bytes) r) (sym (step_over at b bytes s)) (wide_answer at b bytes (tokens_from 0 (at + 1) bytes) s (reading_of fuel (at + 1) bytes (omega arith))))
    (λ s. by_said (said (take (longest (b ∷ bytes)) (b ∷ bytes)))
    (λ token e.
    let n = longest (b ∷ bytes) in
    let more : 0 < n = some_said n (b ∷ bytes) token e in
    let r = reading_of fuel (at + n) (drop n (b ∷ bytes)) (let d = length-drop n (b ∷ bytes) in omega (arith, d)) in
    subst (λ r. IsReadAs at (b ∷ bytes) r) (sym (one_taken at n b bytes token s refl e))
    (with_first at n (b ∷ bytes) token (tokens_from 0 (at + n) (drop n (b ∷ bytes))) (first_token at n (b ∷ bytes) token (longest_holds (b ∷ bytes)) e) r))
    (λ what e. subst (λ r. IsReadAs at (b ∷ bytes) r) (sym (none_taken at b bytes what s e)) (fault_here at b bytes what s e)))
