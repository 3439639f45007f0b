-- How are lists that are read in parts put together, where each part may be none?
use Rattle.std.specs.Prelude.{List, ◌∷◌, ◌++◌, Option, Some, None}

-- one member more in front
abbrev pub consed : {A : Type 0} → Option A → Option (List A) → Option (List A)
consed (Some x) (Some xs) = Some (x ∷ xs)
consed (Some x) None = None
consed None xs = None

-- one list behind the other
abbrev pub joined : {A : Type 0} → Option (List A) → Option (List A) → Option (List A)
joined (Some xs) (Some ys) = Some (xs ++ ys)
joined (Some xs) None = None
joined None ys = None
