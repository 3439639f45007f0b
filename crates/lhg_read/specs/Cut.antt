-- How is a list cut at the members that pass a test?
use Rattle.std.specs.Prelude.{Bool, List, [], ◌∷◌, map, if◌then◌else◌}

-- what stands before the first such member, and each such member with what stands behind it, up to the next
pub record Cut (A : Type 0) : Type 0 where
  pub first : List A
  pub others : List (A × List A)

-- one member more in front
abbrev pub onto_cut : {A : Type 0} → (A → Bool) → A → Cut A → Cut A
onto_cut test x c = if test x then record { first = []; others = (x, c.first) ∷ c.others } else record { first = x ∷ c.first; others = c.others }

-- the list, cut
abbrev pub cut : {A : Type 0} → (A → Bool) → List A → Cut A
cut test [] = record { first = []; others = [] }
cut test (x ∷ xs) = onto_cut test x (cut test xs)

-- the parts without the members between them
abbrev pub parts_of : {A : Type 0} → Cut A → List (List A)
parts_of c = c.first ∷ map (λ p. p.1) c.others
