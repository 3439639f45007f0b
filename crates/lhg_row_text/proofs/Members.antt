-- What holds of each member of a list, member by member.
use Rattle.std.proofs.Common.{◌≡◌, ◌<◌, ◌+◌, ℕ, List, length, drop, get_or, sym, subst}
use Rattle.lhg_math.specs.Tests.{AllOf}
use Rattle.lhg_math.specs.ListFacts.{drop_cons}

-- what holds of a member and of all behind it holds of all from it on
pub all_from : {A : Type 0} (P : A → Type 0) (xs : List A) (i : ℕ) (x : A) → i < length xs → x ≡ get_or xs i x → P x → AllOf P (drop (i + 1) xs) → AllOf P (drop i xs)
all_from P xs i x there is h k = subst (AllOf P) (sym (drop_cons xs i x is there)) (h, k)
