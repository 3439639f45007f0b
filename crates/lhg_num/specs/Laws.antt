-- The laws of scaling, of marks and of halts, as facts; those of marks and halts at numbers.
use Rattle.std.specs.Prelude.{◌≡◌, true, List, [], ◌++◌, ◌∷◌, length, map, Result, Err, IfOk}
use Rattle.std.specs.Result.{IsErrAnd}
use Rattle.lhg_math.specs.Number.{Number}
use Rattle.lhg_math.specs.Tests.{AllOf, all_of}
use Rattle.lhg_num.specs.Arithmetic.{Arithmetic, IsLawful, IsMultiple, scaled}
use Rattle.lhg_num.specs.Marked.{Marked, done, and_then, valued, each, walk, IsRest}
use Rattle.lhg_num.specs.MarkedLaws.{IsPart, IsBuilt}
use Rattle.lhg_num.specs.Halting.{Halts, IsHalted, IsHaltedByWide, IsHaltedByMemory, IsWideBy}
use Rattle.lhg_num.specs.AnswerLaws.{AreAmong}
use Rattle.lhg_num.specs.declared.refusals.Halt.{Halt}
use Rattle.lhg_num.specs.declared.refusals.Halt.TheVariants.{Wide}

-- a lawful type scales each row to a positive multiple, whatever the entries, and by its own rule where it holds them
pub record ScaledLaws : Type 0 where
  pub multiple : (a : Arithmetic) (row : List Number) → IsLawful a → IsMultiple row (scaled a row)
  pub held : (a : Arithmetic) (row : List Number) → all_of a.holds row ≡ true → scaled a row ≡ a.canon_of row

-- steps one after another, members one by one, and loops over them
pub record MarkedLaws : Type 0 where
  pub rest : (m : Marked Number) (f : Number → Marked Number) → IsRest (and_then m f) (f m.value)
  pub part : (m : Marked Number) (f : Number → Marked Number) → IsPart (and_then m f) m
  pub each_value : (f : Number → Marked Number) (xs : List Number) → (each f xs).value ≡ map (λ x. (f x).value) xs
  pub each_start : (f : Number → Marked Number) (xs : List Number) → IsBuilt (each f xs) [] (each f xs)
  pub each_step : (f : Number → Marked Number) (whole : Marked (List Number)) (out : List Number) (x : Number) (xs : List Number) (y : Number) → IsBuilt whole out (each f (x ∷ xs)) → y ≡ (f x).value → IsBuilt whole (out ++ y ∷ []) (each f xs)
  pub each_part : (f : Number → Marked Number) (whole : Marked (List Number)) (out : List Number) (x : Number) (xs : List Number) → IsBuilt whole out (each f (x ∷ xs)) → IsPart whole (f x)
  pub each_end : (whole : Marked (List Number)) (out : List Number) → IsBuilt whole out (done []) → out ≡ whole.value
  pub walk_append : (f : Number → Number → Marked Number) (s : Number) (xs ys : List Number) → IsRest (walk f s (xs ++ ys)) (walk f (walk f s xs).value ys)
  pub walk_step : (f : Number → Number → Marked Number) (whole : Marked Number) (s t x : Number) (xs : List Number) → IsRest whole (walk f s (x ∷ xs)) → t ≡ (f s x).value → IsRest whole (walk f t xs)
  pub walk_part : (f : Number → Number → Marked Number) (whole : Marked Number) (s x : Number) (xs : List Number) → IsRest whole (walk f s (x ∷ xs)) → IsPart whole (f s x)

-- a refused operation halts, and a halt of a part is one of the whole, whatever the call may halt for
pub record HaltLaws : Type 0 where
  pub wide : (r : Result Number Halt) (m : Marked Number) (f : Number → Number) → IsErrAnd r (λ e. e ≡ Wide) → m.wide ≡ true → IsHaltedByWide r m f
  pub part : (may : Halts) (r : Result Number Halt) (e : Halt) (m n : Marked Number) (f h : Number → Number) → IsErrAnd r (λ d. d ≡ e) → IsHalted {T = Number} may (Err e) n h → IsPart m n → IsHalted may r m f

-- parts of a calculation, also with other values, and the marks of walks
pub record PartLaws : Type 0 where
  pub rest : (whole rest : Marked Number) → IsRest whole rest → IsPart whole rest
  pub nothing : (whole : Marked Number) (x : Number) → IsPart whole (done x)
  pub step : (whole m : Marked Number) (f : Number → Marked Number) (t : Number) → IsRest whole (and_then m f) → t ≡ m.value → IsRest whole (f t)
  pub steps : (m : Marked Number) (f g : Number → Marked Number) → and_then (and_then m f) g ≡ and_then m (λ x. and_then (f x) g)
  pub beside : (m : Marked Number) (f g : Number → Marked Number) → IsPart (f m.value) (g m.value) → IsPart (and_then m f) (and_then m g)
  pub with_values : (g h : Number → Number) (whole part : Marked Number) → IsPart whole part → IsPart (valued g whole) (valued h part)
  pub many : (f : Number → Marked Number) (xs : List Number) → length (each f xs).value ≡ length xs
  pub walked : (f : Number → Number → Marked Number) (s : Number) (xs ys : List Number) → IsPart (walk f s (xs ++ ys)) (walk f s xs)
  pub stays : (f : Number → Number → Marked Number) (s : Number) (xs : List Number) → AllOf (λ x. (f s x).value ≡ s) xs → (walk f s xs).value ≡ s

-- answers that may halt, and refusals of a number
pub record AnswerLaws : Type 0 where
  pub more : (may more : Halts) (r : Result Number Halt) (m : Marked Number) (f : Number → Number) → AreAmong may more → IsHalted may r m f → IsHalted more r m f
  pub rest : (may : Halts) (r : Result Number Halt) (whole rest : Marked Number) (f : Number → Number) → IsRest whole rest → IsHalted may r rest f → IsHalted may r whole f
  pub exact : (may : Halts) (r : Result Number Halt) (m : Marked Number) (f : Number → Number) (q : Number) → IsHalted may r m f → m.value ≡ q → IfOk r (λ x. f x ≡ q)
  pub memory : (may : Halts) (r : Result Number Halt) (part : Marked Number) (f : Number → Number) (whole : Marked Number) (h : Number → Number)
      → IsHaltedByMemory r part f → ((x : Number) → f x ≡ part.value → h x ≡ whole.value) → IsHalted may r whole h
  pub refused : (r : Result Number Halt) (whole rest : Marked Number) (f : Number → Number) → IsRest whole rest → IsWideBy r rest f → IsWideBy r whole f
