-- Steps of loops that test the members of a list until one decides.
use Rattle.std.proofs.Common.{◌≡◌, ℕ, ◌+◌, ◌<◌, ◌≤◌, List, ◌∷◌, length, drop, get_or, Bool, true, false, ◌||◌, ◌&&◌, sym, ap, ◌∙◌, subst}
use Rattle.std.proofs.lemmas.List.{drop_all}
use Rattle.lhg_num.specs.Marked.{Marked, valued, IsRest}
use Rattle.lhg_num.specs.MarkedLaws.{IsPart}
use Rattle.lhg_num.specs.PartLaws.{rest_step, step_part}
use Rattle.lhg_math.specs.ListFacts.{drop_cons}
use Rattle.lhg_row.specs.MarkedTests.{marked_all, marked_any}

module _ {A : Type 0} (t : A → Marked Bool) (xs : List A) (i : ℕ) (x : A) (x_is : x ≡ get_or xs i x) (in_xs : i < length xs) (whole : Marked Bool) where
  module _ (r : IsRest whole (marked_all t (drop i xs))) where
    all-here : IsRest whole (marked_all t (x ∷ drop (i + 1) xs))
    all-here = subst (λ ys. IsRest whole (marked_all t ys)) (drop_cons xs i x x_is in_xs) r

    -- the marks of the next test are among those of the whole
    pub all-part : IsPart whole (t x)
    all-part = step_part whole (t x) (λ b. valued (λ c. b && c) (marked_all t (drop (i + 1) xs))) all-here

    all-next : (b : Bool) → b ≡ (t x).value → IsRest whole (valued (λ c. b && c) (marked_all t (drop (i + 1) xs)))
    all-next b e = rest_step whole (t x) (λ b. valued (λ c. b && c) (marked_all t (drop (i + 1) xs))) b all-here e

    -- a member that does not pass decides
    pub all-stop : (b : Bool) → b ≡ (t x).value → b ≡ false → false ≡ whole.value
    all-stop b e k = ap (λ d. d && (marked_all t (drop (i + 1) xs)).value) (sym k) ∙ (all-next b e).same

    -- after one that passes the others are left
    pub all-on : (b : Bool) → b ≡ (t x).value → b ≡ true → IsRest whole (marked_all t (drop (i + 1) xs))
    all-on b e k = subst (λ d. IsRest whole (valued (λ c. d && c) (marked_all t (drop (i + 1) xs)))) k (all-next b e)

  module _ (r : IsRest whole (marked_any t (drop i xs))) where
    any-here : IsRest whole (marked_any t (x ∷ drop (i + 1) xs))
    any-here = subst (λ ys. IsRest whole (marked_any t ys)) (drop_cons xs i x x_is in_xs) r

    -- the marks of the next test are among those of the whole
    pub any-part : IsPart whole (t x)
    any-part = step_part whole (t x) (λ b. valued (λ c. b || c) (marked_any t (drop (i + 1) xs))) any-here

    any-next : (b : Bool) → b ≡ (t x).value → IsRest whole (valued (λ c. b || c) (marked_any t (drop (i + 1) xs)))
    any-next b e = rest_step whole (t x) (λ b. valued (λ c. b || c) (marked_any t (drop (i + 1) xs))) b any-here e

    -- a member that passes decides
    pub any-stop : (b : Bool) → b ≡ (t x).value → b ≡ true → true ≡ whole.value
    any-stop b e k = ap (λ d. d || (marked_any t (drop (i + 1) xs)).value) (sym k) ∙ (any-next b e).same

    -- after one that does not the others are left
    pub any-on : (b : Bool) → b ≡ (t x).value → b ≡ false → IsRest whole (marked_any t (drop (i + 1) xs))
    any-on b e k = subst (λ d. IsRest whole (valued (λ c. d || c) (marked_any t (drop (i + 1) xs)))) k (any-next b e)

-- where all members passed, all do
pub all-end : {A : Type 0} (t : A → Marked Bool) (xs : List A) (i : ℕ) (whole : Marked Bool) → length xs ≤ i → IsRest whole (marked_all t (drop i xs)) → true ≡ whole.value
all-end t xs i whole h r = sym (ap (λ ys. (marked_all t ys).value) (drop_all i xs h)) ∙ r.same
