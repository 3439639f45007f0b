-- Lists that are built from others, member by member.
use Rattle.std.proofs.Common.{◌≡◌, List, [], ◌∷◌, ◌++◌, map, sym, ap, ◌∙◌, append_assoc, append-nil}
use Rattle.std.proofs.lemmas.List.{map-append}

module _ {A B : Type 0} (f : A → B) (out : List A) where
  -- one member more, where the others are left
  pub built-step : (more : List A) (x : A) (y : B) (rest whole : List B) → f x ≡ y → more ≡ out ++ x ∷ [] → map f out ++ (y ∷ rest) ≡ whole → map f more ++ rest ≡ whole
  built-step more x y rest whole e k h =
      ap (λ xs. map f xs ++ rest) k ∙ ap (λ ys. ys ++ rest) (map-append f out (x ∷ [])) ∙ append_assoc (map f out) (f x ∷ []) rest ∙ ap (λ z. map f out ++ z ∷ rest) e ∙ h

  -- at the end none is left
  pub built-all : (whole : List B) → map f out ++ [] ≡ whole → map f out ≡ whole
  built-all whole h = sym (append-nil (map f out)) ∙ h
