-- That a plant is proper has one proof.
use Rattle.std.specs.Prelude.{◌≡◌, ◌<◌, ◌+◌, ℕ, Bool, List, [], ◌∷◌, length}
use Rattle.std.specs.Coded.{×_prop, Unit-prop, le_prop, Coded-set, coded_ℕ, coded_bool}
use Rattle.lhg_math.specs.Tests.{AllOf}
use Rattle.lhg_row.specs.Piece.{PlainPiece}
use Rattle.lhg_row.specs.Width.{AllWide}
use Rattle.lhg_plant.specs.Plant.{PlainLocation, PlainSwitch, PlainPlant}
use Rattle.lhg_plant.specs.Proper.{IsLine, IsLocation, IsSwitch, IsProper}
use Rattle.lhg_plant.specs.Word.{IsName}

-- what has one proof of each member has one of all
pub all-prop : {A : Type 0} (P : A → Type 0) → ((x : A) → IsProp (P x)) → (xs : List A) → IsProp (AllOf P xs)
all-prop P h [] = Unit-prop
all-prop P h (x ∷ xs) = ×_prop (h x) (all-prop P h xs)

-- an equation of numbers, and of tests
nat-prop : (a b : ℕ) → IsProp (a ≡ b)
nat-prop a b = Coded-set coded_ℕ a b

test-prop : (a b : Bool) → IsProp (a ≡ b)
test-prop a b = Coded-set coded_bool a b

wide-prop : (n : ℕ) (rows : PlainPiece) → IsProp (AllWide n rows)
wide-prop n rows = all-prop (λ r. length r.coefs ≡ n) (λ r. nat-prop (length r.coefs) n) rows

below-prop : (m n : ℕ) → IsProp (m < n)
below-prop m n = le_prop

line-prop : (n : ℕ) (rows : PlainPiece) → IsProp (IsLine n rows)
line-prop n rows = hlevel (wide-prop n rows, le_prop)

name-prop : (w : List ℕ) → IsProp (IsName w)
name-prop w = hlevel (test-prop, le_prop)

location-prop : (n : ℕ) (l : PlainLocation) → IsProp (IsLocation n l)
location-prop n l = hlevel (name-prop l.name, line-prop n l.inv, line-prop n l.flow, all-prop (IsLine n) (line-prop n) l.safe, le_prop)

switch-prop : (n m : ℕ) (s : PlainSwitch) → IsProp (IsSwitch n m s)
switch-prop n m s = hlevel (name-prop s.name, below-prop s.from m, below-prop s.to m, line-prop (n + n) s.jump)

-- of a plant it has one
pub proper-prop : (p : PlainPlant) → IsProp (IsProper p)
proper-prop p =
    hlevel (
      all-prop IsName name-prop p.vars,
      all-prop (IsLocation (length p.vars)) (location-prop (length p.vars)) p.locs,
      all-prop (IsSwitch (length p.vars) (length p.locs)) (switch-prop (length p.vars) (length p.locs)) p.switches,
      below-prop,
      le_prop,
      test-prop,
    )
