-- Words ask for one thing, and a word that is read as a number is its decimal.
use Rattle.std.proofs.Common.{◌≡◌, ◌<◌, ◌≤◌, ◌^◌, ℕ, List, [], ◌∷◌, Result, Ok, Err, inl, inr, refl, ap, sym, ◌∙◌, arith}
use Rattle.std.specs.Prelude.{codes, cond, decimal}
use Rattle.std.specs.Str.{bytes_eq}
use Rattle.std.specs.Str.Parse.{digits_value, ParsesUnsigned}
use Rattle.std.proofs.lemmas.Fmt.{decimal_is_IsNumeral, parse-decimal}
use Rattle.lhg_cli.specs.Words.{Asks, AsksWithin, usual_budget, most_rounds}
use Rattle.lhg_cli.specs.declared.request.Request.{Request}
use Rattle.lhg_cli.specs.declared.request.Request.TheVariants.{Synth, Check, Run, Explain, Migrate, Lazy, Spoil, Reach, Gen}

-- the first word, where there is one
abbrev first : List (List ℕ) → List ℕ
first [] = []
first (w ∷ ws) = w

-- ---- what words ask for
-- the number that the words name, or the usual budget
abbrev number_in : List (List ℕ) → ℕ
number_in [] = 0
number_in (w ∷ []) = usual_budget
number_in (w ∷ v ∷ ws) = digits_value 10 v

-- what a word asks for with a number, where it asks for something
abbrev request_by : List ℕ → ℕ → Request
request_by word n =
    cond (bytes_eq word (codes "synth")) (Synth n)
    (cond (bytes_eq word (codes "check")) Check
    (cond (bytes_eq word (codes "run")) Run
    (cond (bytes_eq word (codes "explain")) (Explain n)
    (cond (bytes_eq word (codes "migrate")) Migrate
    (cond (bytes_eq word (codes "lazy")) (Lazy n)
    (cond (bytes_eq word (codes "spoil")) (Spoil n)
    (cond (bytes_eq word (codes "reach")) (Reach n) (Gen n))))))))

abbrev request_in : List (List ℕ) → Request
request_in words = request_by (first words) (number_in words)

-- a number is read back from its decimal
read_back : (n : ℕ) → n ≤ most_rounds → digits_value 10 (decimal n) ≡ n
read_back n few = (decimal_is_IsNumeral n (omega (arith, few))).1

with_rounds : (words : List (List ℕ)) (word : List ℕ) (make : ℕ → Request) → ((ws : List (List ℕ)) → request_in (word ∷ ws) ≡ make (number_in (word ∷ ws))) → (n : ℕ)
    → AsksWithin word words n → make n ≡ request_in words
with_rounds words word make is n (inl h) = sym (ap request_in h.0 ∙ is [] ∙ ap make (sym h.1))
with_rounds words word make is n (inr h) = sym (ap request_in h.0 ∙ is (decimal n ∷ []) ∙ ap make (read_back n h.2))

-- words tell what they ask for
asked_is : (words : List (List ℕ)) (r : Request) → Asks words r → r ≡ request_in words
asked_is words (Synth n) h = with_rounds words (codes "synth") Synth (λ ws. refl) n h
asked_is words Check h = sym (ap request_in h)
asked_is words Run h = sym (ap request_in h)
asked_is words (Explain n) h = with_rounds words (codes "explain") Explain (λ ws. refl) n h
asked_is words Migrate h = sym (ap request_in h)
asked_is words (Lazy n) h = with_rounds words (codes "lazy") Lazy (λ ws. refl) n h
asked_is words (Spoil n) h = with_rounds words (codes "spoil") Spoil (λ ws. refl) n h
asked_is words (Reach n) h = with_rounds words (codes "reach") Reach (λ ws. refl) n h
asked_is words (Gen k) h = let few = h.1.few in sym (ap request_in h.0 ∙ ap Gen (read_back k (omega (arith, few))))

-- so they ask for one thing
pub one_request : (words : List (List ℕ)) (q r : Request) → Asks words q → Asks words r → q ≡ r
one_request words q r h k = asked_is words q h ∙ sym (asked_is words r k)

-- ---- a word that is read as a number
-- the number of an answer, where it is one
abbrev ok_number : {E : Type 0} → Result ℕ E → ℕ
ok_number (Ok n) = n
ok_number (Err e) = 0

-- the number that is read of a budget in decimal is that budget
pub read_same : {E : Type 0} (m n : ℕ) (bytes : List ℕ) (r : Result ℕ E) → m < 2 ^ 32 → bytes ≡ decimal m → ParsesUnsigned 32 10 bytes r → r ≡ Ok n → m ≡ n
read_same m n bytes r high e parses is = ap ok_number (sym (parse-decimal 32 m bytes r (omega (arith, high)) (omega (arith, high)) e parses) ∙ is)

-- and there is one
pub read_some : {E : Type 0} (m : ℕ) (bytes : List ℕ) (r : Result ℕ E) → m < 2 ^ 32 → bytes ≡ decimal m → ParsesUnsigned 32 10 bytes r → r ≡ Ok m
read_some m bytes r high e parses = parse-decimal 32 m bytes r (omega (arith, high)) (omega (arith, high)) e parses
