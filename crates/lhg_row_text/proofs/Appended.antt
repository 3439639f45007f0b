-- Texts that grow in several steps.
use Rattle.std.proofs.Common.{◌≡◌, ◌++◌, ℕ, List, Result, Ok, Err, OnOk, ap, sym, ◌∙◌, append_assoc, append-nil, []}

-- two texts appended one after the other are their join appended
pub appended : {T E : Type 0} (r : Result T E) (now between before xs ys zs : List ℕ) → OnOk r (now ≡ between ++ ys) → between ≡ before ++ xs → zs ≡ xs ++ ys → OnOk r (now ≡ before ++ zs)
appended (Ok x) now between before xs ys zs h e f = h ∙ ap (λ w. w ++ ys) e ∙ append_assoc before xs ys ∙ ap (λ w. before ++ w) (sym f)
appended (Err x) now between before xs ys zs h e f = tt

-- a text appended is any equal one appended
pub appended_as : {T E : Type 0} (r : Result T E) (now before ys zs : List ℕ) → OnOk r (now ≡ before ++ ys) → zs ≡ ys → OnOk r (now ≡ before ++ zs)
appended_as (Ok x) now before ys zs h e = h ∙ ap (λ w. before ++ w) (sym e)
appended_as (Err x) now before ys zs h e = tt

-- a head, a middle and an end are the whole
pub joined : (now between before head middle end whole : List ℕ) → now ≡ between ++ end → between ≡ before ++ middle → before ≡ head → whole ≡ head ++ (middle ++ end) → now ≡ whole
joined now between before head middle end whole e f g h =
    e ∙ ap (λ w. w ++ end) (f ∙ ap (λ w. w ++ middle) g) ∙ append_assoc head middle end ∙ sym h

-- a piece is appended, and the rest is still to come
pub stepped : (now before piece rest whole total : List ℕ) → now ≡ before ++ piece → whole ≡ piece ++ rest → before ++ whole ≡ total → now ++ rest ≡ total
stepped now before piece rest whole total e f g = ap (λ w. w ++ rest) e ∙ append_assoc before piece rest ∙ ap (λ w. before ++ w) (sym f) ∙ g

-- nothing is still to come
pub finished : (now rest total : List ℕ) → rest ≡ [] → now ++ rest ≡ total → now ≡ total
finished now rest total e g = sym (append-nil now) ∙ ap (λ w. now ++ w) (sym e) ∙ g
