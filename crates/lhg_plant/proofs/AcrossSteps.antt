-- The value of a row at two points, one behind the other, is formed in two parts.
use Rattle.std.proofs.Common.{◌≡◌, ◌+◌, List, [], ◌∷◌, ◌++◌, length, map, take, drop, sym, ap, ◌∙◌, subst, arith, Result, Ok, Err}
use Rattle.std.proofs.lemmas.List.{take-append-drop, map-append, length-map, length-take-le}
use Rattle.lhg_math.specs.Number.{Number}
use Rattle.lhg_num.specs.Arithmetic.{Arithmetic}
use Rattle.lhg_num.specs.Halting.{IsWideBy}
use Rattle.lhg_num.specs.Marked.{Marked, IsRest}
use Rattle.lhg_num.specs.MarkedLaws.{IsPart, rest_self, rest_rest, and_then-rest}
use Rattle.lhg_row.specs.Row.{PlainPoint}
use Rattle.lhg_row.specs.Values.{plus_product, marked_value}
use Rattle.lhg_num.specs.PartLaws.{done-part, then-part}

-- an answer by what is left is one by the whole
pub rest_answers : {T E A : Type 0} (r : Result T E) (whole rest : Marked A) (f : T → A) → IsRest whole rest → IsWideBy r rest f → IsWideBy r whole f
rest_answers (Ok x) whole rest f h e = e ∙ h.same
rest_answers (Err x) whole rest f h e = h.wide e

-- behind the value at the first point the second is left
value-rest : (a : Arithmetic) (s : Number) (cs ds : List Number) (xs ys : PlainPoint) → length cs ≡ length xs → IsRest (marked_value a s (cs ++ ds) (xs ++ ys)) (marked_value a (marked_value a s cs xs).value ds ys)
value-rest a s [] ds [] ys e = rest_self (marked_value a s ds ys)
value-rest a s [] ds (x ∷ xs) ys e = absurd (omega arith)
value-rest a s (c ∷ cs) ds [] ys e = absurd (omega arith)
value-rest a s (c ∷ cs) ds (x ∷ xs) ys e =
    rest_rest _ _ _ (and_then-rest (plus_product a s c x) (λ t. marked_value a t (cs ++ ds) (xs ++ ys))) (value-rest a (plus_product a s c x).value cs ds xs ys (omega arith))

-- its marks are among those of both
value-part : (a : Arithmetic) (s : Number) (cs ds : List Number) (xs ys : PlainPoint) → length cs ≡ length xs → IsPart (marked_value a s (cs ++ ds) (xs ++ ys)) (marked_value a s cs xs)
value-part a s [] ds [] ys e = done-part (marked_value a s ds ys) s
value-part a s [] ds (x ∷ xs) ys e = absurd (omega arith)
value-part a s (c ∷ cs) ds [] ys e = absurd (omega arith)
value-part a s (c ∷ cs) ds (x ∷ xs) ys e =
    then-part (plus_product a s c x) (λ t. marked_value a t (cs ++ ds) (xs ++ ys)) (λ t. marked_value a t cs xs) (value-part a (plus_product a s c x).value cs ds xs ys (omega arith))

-- the value at the first point
abbrev pub front : {N : Type 0} → (N → Number) → Arithmetic → Number → (cs olds : List N) → Marked Number
front m a s cs olds = marked_value a s (map m (take (length olds) cs)) (map m olds)

module _ {N : Type 0} (m : N → Number) (a : Arithmetic) (s : Number) (cs olds news : List N) (fits : length cs ≡ length olds + length news) where
  joined : map m (take (length olds) cs) ++ map m (drop (length olds) cs) ≡ map m cs
  joined = sym (map-append m (take (length olds) cs) (drop (length olds) cs)) ∙ ap (map m) (take-append-drop (length olds) cs)

  long : length (map m (take (length olds) cs)) ≡ length (map m olds)
  long = length-map (take (length olds) cs) m ∙ length-take-le (length olds) cs (omega arith) ∙ sym (length-map olds m)

  -- the marks of the first part are among those of the whole
  pub front-part : IsPart (marked_value a s (map m cs) (map m olds ++ map m news)) (front m a s cs olds)
  front-part = subst (λ ds. IsPart (marked_value a s ds (map m olds ++ map m news)) (front m a s cs olds)) joined (value-part a s (map m (take (length olds) cs)) (map m (drop (length olds) cs)) (map m olds) (map m news) long)

  -- behind the first part the second is left
  pub back-rest : (t : N) → m t ≡ (front m a s cs olds).value → IsRest (marked_value a s (map m cs) (map m olds ++ map m news)) (marked_value a (m t) (map m (drop (length olds) cs)) (map m news))
  back-rest t e =
      subst (λ v. IsRest (marked_value a s (map m cs) (map m olds ++ map m news)) (marked_value a v (map m (drop (length olds) cs)) (map m news))) (sym e)
      (subst (λ ds. IsRest (marked_value a s ds (map m olds ++ map m news)) (marked_value a (front m a s cs olds).value (map m (drop (length olds) cs)) (map m news))) joined
      (value-rest a s (map m (take (length olds) cs)) (map m (drop (length olds) cs)) (map m olds) (map m news) long))
