-- How lists are cut that are put together of parts.
use Rattle.std.proofs.Common.{◌≡◌, List, [], ◌∷◌, ◌++◌, refl, ap, ◌∙◌, Bool, true, not, append-nil}
use Rattle.std.specs.List.{list_all}
use Rattle.lhg_math.specs.Tests.{by_bool}
use Rattle.lhg_read.specs.Cut.{Cut, cut}

-- no member passes
abbrev pub all_fail : {A : Type 0} → (A → Bool) → List A → Bool
all_fail test xs = list_all (λ x. not (test x)) xs

-- what stands in front of the first mark, and each mark with what stands behind it
abbrev pub parted : {A : Type 0} → List A → List (A × List A) → Cut A
parted first others = record { first = first; others = others }

-- a part in front of what is cut
abbrev behind_part : {A : Type 0} → List A → Cut A → Cut A
behind_part part c = parted (part ++ c.first) c.others

cut-part : {A : Type 0} (test : A → Bool) (part rest : List A) → all_fail test part ≡ true → cut test (part ++ rest) ≡ behind_part part (cut test rest)
cut-part test [] rest h = refl
cut-part test (x ∷ part) rest h =
    by_bool (test x)
    (λ e. let k = rw e at h in absurd cc)
    (λ e. let k = rw e at h in rw (e, cut-part test part rest k) refl)

-- a part in front of a list that begins with a mark, or is empty
pub cut-before : {A : Type 0} (test : A → Bool) (part more : List A) (others : List (A × List A)) → all_fail test part ≡ true → cut test more ≡ parted [] others → cut test (part ++ more) ≡ parted part others
cut-before test part more others h e = cut-part test part more h ∙ ap (behind_part part) e ∙ ap (λ p. parted p others) (append-nil part)

-- a mark, a part, and such a list
pub cut-marked : {A : Type 0} (test : A → Bool) (x : A) (part more : List A) (others : List (A × List A)) → test x ≡ true → all_fail test part ≡ true → cut test more ≡ parted [] others
    → cut test (x ∷ (part ++ more)) ≡ parted [] ((x, part) ∷ others)
cut-marked test x part more others m h e = let c = cut-before test part more others h e in rw (m, c) refl
