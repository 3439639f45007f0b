-- What is left of a row without one of its coefficients?
use Rattle.std.proofs.Common.{◌≡◌, ℕ, suc, List, ◌++◌, map, take, drop, sym, ap, ◌∙◌}
use Rattle.std.specs.Prelude.{remove}
use Rattle.std.proofs.lemmas.List.{map-append, take-map, drop-map}

-- the images of what is left are what is left of the images
pub map-remove : {A B : Type 0} (f : A → B) (xs : List A) (i : ℕ) → map f (remove xs i) ≡ remove (map f xs) i
map-remove f xs i = map-append f (take i xs) (drop (suc i) xs) ∙ ap (λ ys. ys ++ map f (drop (suc i) xs)) (sym (take-map f i xs)) ∙ ap (λ ys. take i (map f xs) ++ ys) (sym (drop-map f (suc i) xs))
