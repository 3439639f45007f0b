-- Whether bytes are a name is decidable, and a few names.
use Rattle.std.proofs.Common.{◌≡◌, ◌⊎◌, ◌<◌, ◌≤◌, ℕ, zero, suc, true, false, List, [], ◌∷◌, length, inl, inr, refl, arith}
use Rattle.std.specs.Prelude.{codes}
use Rattle.std.specs.Str.{bytes_eq}
use Rattle.std.proofs.lemmas.Slice.Eq.{bytes_eq-Decides}
use Rattle.lhg_math.specs.Tests.{by_bool}
use Rattle.lhg_lex.specs.Word.{is_word}
use Rattle.lhg_plant.specs.Word.{IsName, IsVariable}
use Rattle.lhg_plant.specs.Example.{WordFacts}

-- a number is at most another or not
le_decided : (m n : ℕ) → (m ≤ n) ⊎ ¬ (m ≤ n)
le_decided zero n = inl (omega arith)
le_decided (suc m) zero = inr (λ h. omega arith)
le_decided (suc m) (suc n) = elim (le_decided m n) [ inl h ↦ inl (omega arith) | inr h ↦ inr (λ k. h (omega arith)) ]

-- bytes are the same or not
bytes_decided : (xs ys : List ℕ) → (xs ≡ ys) ⊎ ¬ (xs ≡ ys)
bytes_decided xs ys = by_bool (bytes_eq xs ys) (λ e. inl ((bytes_eq-Decides xs ys).0 e)) (λ e. inr (λ h. let t : bytes_eq xs ys ≡ true = (bytes_eq-Decides xs ys).1 h in cc))

-- bytes are a name or not
pub name_decided : (bytes : List ℕ) → IsName bytes ⊎ ¬ IsName bytes
name_decided bytes =
    by_bool (is_word bytes)
    (λ e. elim (le_decided (length bytes) 32) [ inl h ↦ inl (record { word = e; fits = h }) | inr h ↦ inr (λ n. h n.fits) ])
    (λ e. inr (λ n. let t : is_word bytes ≡ true = n.word in cc))

-- bytes are the name of a variable or not
pub variable_decided : (bytes : List ℕ) → IsVariable bytes ⊎ ¬ IsVariable bytes
variable_decided bytes =
    elim (name_decided bytes) [
      | inr n ↦ inr (λ v. n v.name)
      | inl name ↦ elim (bytes_decided bytes (codes "all")) [
        | inl e ↦ inr (λ v. v.not_all e)
        | inr all ↦ elim (bytes_decided bytes (codes "still")) [
          | inl e ↦ inr (λ v. v.not_still e)
          | inr still ↦ elim (bytes_decided bytes (codes "keep")) [
            | inl e ↦ inr (λ v. v.not_keep e)
            | inr keep ↦ inl (record { name = name; not_all = all; not_still = still; not_keep = keep })
          ]
        ]
      ]
    ]

-- a name has at least one byte
pub some_byte : (bytes : List ℕ) → IsName bytes → 0 < length bytes
some_byte [] h = let t : false ≡ true = h.word in absurd cc
some_byte (b ∷ bytes) h = omega arith

-- a few names
pub names : WordFacts
names = record {
  level_1 = record { name = record { word = refl; fits = omega arith }; not_all = λ e. cc; not_still = λ e. cc; not_keep = λ e. cc };
  lone_line = record { name = record { word = refl; fits = omega arith }; not_all = λ e. cc; not_still = λ e. cc; not_keep = λ e. cc };
  digit_first = λ n. let t : false ≡ true = n.word in cc;
  empty = λ n. let t : false ≡ true = n.word in cc;
  long = λ n. let t : 33 ≤ 32 = n.fits in omega arith;
  keyword = record { word = refl; fits = omega arith };
  no_variable = λ v. v.not_all refl;
}
