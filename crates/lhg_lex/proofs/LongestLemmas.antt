-- The longest token at the front is one, and is what the first byte's kind says.
use Rattle.std.proofs.Common.{◌≡◌, ◌<◌, ◌≤◌, ℕ, zero, suc, List, [], ◌∷◌, length, take, refl, sym, ◌∙◌, subst, true, false, arith, get_or, ◌⊎◌, inl, inr}
use Rattle.lhg_math.specs.Tests.{by_bool}
use Rattle.std.specs.List.{prefix_len}
use Rattle.std.proofs.lemmas.Bool.{cases_order, true≢false}
use Rattle.std.proofs.lemmas.List.Sums.{prefix_len-le-length}
use Rattle.lhg_lex.specs.Word.{is_digit, begins_word, continues_word}
use Rattle.lhg_lex.specs.Token.{is_token, is_sign_byte, is_pair}
use Rattle.lhg_lex.specs.Longest.{longest, longest_within, IsLongest}
use Rattle.lhg_lex.proofs.Bytes.{pair_needs_sign}
use Rattle.lhg_lex.proofs.Fronts.{front_passes, front_fails, suc_is}
use Rattle.lhg_lex.proofs.TokenStarts.{word_token, signs_token}

-- what the search from n down finds
record IsFound (n : ℕ) (bytes : List ℕ) (k : ℕ) : Type 0 where
  within : k ≤ n
  token : 0 < k → is_token (take k bytes) ≡ true
  greatest : (m : ℕ) → k < m → m ≤ n → is_token (take m bytes) ≡ false

-- the search finds what it looks for
found_by : (n : ℕ) (bytes : List ℕ) → IsFound n bytes (longest_within n bytes)
found_by zero bytes = record { within = omega arith; token = λ h. absurd (omega arith); greatest = λ m h k. absurd (omega arith) }
found_by (suc n) bytes =
    by_bool (is_token (take (suc n) bytes))
    (λ e. rw e (record { within = omega arith; token = λ _. e; greatest = λ m h k. absurd (omega arith) }))
    (λ e. let f = found_by n bytes in rw e (record {
      within = omega (arith, f.within);
      token = f.token;
      greatest = λ m h k. elim (cases_order m (suc n)) [
        | inl q ↦ subst (λ z. is_token (take z bytes) ≡ false) (sym q) e
        | inr q ↦ elim q [ inl lt ↦ f.greatest m h (omega arith) | inr gt ↦ absurd (omega arith) ]
      ];
    }))

-- the longest token is a token, and no longer front is
pub longest_holds : (bytes : List ℕ) → IsLongest bytes (longest bytes)
unfolding longest
longest_holds bytes = let f = found_by (length bytes) bytes in record { within = f.within; token = f.token; greatest = f.greatest }

-- it is one alone
pub longest_one : (bytes : List ℕ) (n m : ℕ) → IsLongest bytes n → IsLongest bytes m → n ≡ m
longest_one bytes n m f g =
    elim (cases_order n m) [
      | inl q ↦ q
      | inr q ↦ elim q [
        | inl lt ↦ absurd (true≢false (sym (g.token (omega arith)) ∙ f.greatest m lt g.within))
        | inr gt ↦ absurd (true≢false (sym (f.token (omega arith)) ∙ g.greatest n gt f.within))
      ]
    ]

-- so what is the longest is found
pub longest_is : (bytes : List ℕ) (n : ℕ) → IsLongest bytes n → longest bytes ≡ n
longest_is bytes n f = longest_one bytes (longest bytes) n (longest_holds bytes) f

-- ---- words

-- a word goes on as long as its bytes do
word_by : (b : ℕ) (w : List ℕ) → begins_word b ≡ true → IsLongest (b ∷ w) (prefix_len continues_word (b ∷ w))
word_by b w h =
    let n = prefix_len-le-length continues_word w in
    rw (h, suc_is) (record {
      within = omega arith;
      token = λ _. word_token b (take (prefix_len continues_word w) w) h ∙ front_passes continues_word w;
      greatest = longer;
    })
  where
    longer : (m : ℕ) → suc (prefix_len continues_word w) < m → m ≤ suc (length w) → is_token (take m (b ∷ w)) ≡ false
    longer zero k l = absurd (omega arith)
    longer (suc m) k l = word_token b (take m w) h ∙ front_fails continues_word w m (omega arith) (omega arith)

-- the same of a text that is not taken apart
pub word_longest : (text : List ℕ) (n : ℕ) → (length text ≡ 0 → ⊥) → begins_word (get_or text 0 0) ≡ true → n ≡ prefix_len continues_word text → IsLongest text n
word_longest [] n some h e = absurd (some refl)
word_longest (b ∷ w) n some h e = subst (λ z. IsLongest (b ∷ w) z) (sym e) (word_by b w h)

-- ---- signs

-- two signs
pub pair_longest : (text : List ℕ) → 1 < length text → begins_word (get_or text 0 0) ≡ false → is_digit (get_or text 0 0) ≡ false → is_pair (get_or text 0 0) (get_or text 1 0) ≡ true → IsLongest text 2
pair_longest [] some h k p = absurd (omega arith)
pair_longest (b ∷ []) some h k p = absurd (omega arith)
pair_longest (b ∷ c ∷ w) some h k p = record { within = omega arith; token = λ _. signs_token b (c ∷ []) h k ∙ p; greatest = longer w }
  where
    longer : (w : List ℕ) (m : ℕ) → 2 < m → m ≤ suc (suc (length w)) → is_token (take m (b ∷ c ∷ w)) ≡ false
    longer w zero l n = absurd (omega arith)
    longer w (suc zero) l n = absurd (omega arith)
    longer w (suc (suc zero)) l n = absurd (omega arith)
    longer [] (suc (suc (suc m))) l n = absurd (omega arith)
    longer (d ∷ w) (suc (suc (suc m))) l n = signs_token b (c ∷ d ∷ take m w) h k

-- no more than one byte is a token where no two signs stand
one_sign : (b : ℕ) (w : List ℕ) → begins_word b ≡ false → is_digit b ≡ false → (1 < suc (length w) → is_pair b (get_or w 0 0) ≡ false) → (m : ℕ) → 1 < m → m ≤ suc (length w) → is_token (take m (b ∷ w)) ≡ false
one_sign b w h k p zero l n = absurd (omega arith)
one_sign b w h k p (suc zero) l n = absurd (omega arith)
one_sign b [] h k p (suc (suc m)) l n = absurd (omega arith)
one_sign b (c ∷ w) h k p (suc (suc zero)) l n = signs_token b (c ∷ []) h k ∙ p (omega arith)
one_sign b (c ∷ []) h k p (suc (suc (suc m))) l n = absurd (omega arith)
one_sign b (c ∷ d ∷ w) h k p (suc (suc (suc m))) l n = signs_token b (c ∷ d ∷ take m w) h k

-- one sign
pub sign_longest : (text : List ℕ) → 0 < length text → begins_word (get_or text 0 0) ≡ false → is_digit (get_or text 0 0) ≡ false → (length text ≤ 1) ⊎ (is_pair (get_or text 0 0) (get_or text 1 0) ≡ false) → is_sign_byte (get_or text 0 0) ≡ true → IsLongest text 1
sign_longest [] some h k p s = absurd (omega arith)
sign_longest (b ∷ w) some h k p s = record {
  within = omega arith;
  token = λ _. signs_token b [] h k ∙ s;
  greatest = one_sign b w h k (λ l. elim p [ inl short ↦ absurd (omega arith) | inr no_pair ↦ no_pair ]);
}

-- no token
pub none_longest : (text : List ℕ) → 0 < length text → begins_word (get_or text 0 0) ≡ false → is_digit (get_or text 0 0) ≡ false → is_sign_byte (get_or text 0 0) ≡ false → IsLongest text 0
none_longest [] some h k s = absurd (omega arith)
none_longest (b ∷ w) some h k s = record { within = omega arith; token = λ l. absurd (omega arith); greatest = longer }
  where
    longer : (m : ℕ) → 0 < m → m ≤ suc (length w) → is_token (take m (b ∷ w)) ≡ false
    longer zero l n = absurd (omega arith)
    longer (suc zero) l n = signs_token b [] h k ∙ s
    longer (suc (suc m)) l n = one_sign b w h k (λ _. pair_needs_sign b (get_or w 0 0) s) (suc (suc m)) (omega arith) n
