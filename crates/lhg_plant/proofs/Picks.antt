-- The results that the calculus picks are a legal choice.
use Rattle.std.proofs.Common.{◌≡◌, ◌⊎◌, inl, inr, ℕ, zero, suc, ◌+◌, List, [], ◌∷◌, ◌++◌, Option, Some, None, IsSomeAnd, slice_get, get_or, length, refl, sym, ap, ◌∙◌, subst, true}
use Rattle.lhg_math.specs.Tests.{AllOf, every_from_all, all_from_every}
use Rattle.lhg_num.specs.FracArithmetic.{frac_arithmetic, frac_is_lawful}
use Rattle.lhg_row.specs.Row.{PlainPoint, holds_at}
use Rattle.lhg_row.specs.Piece.{PlainPiece, InPiece, InSome}
use Rattle.lhg_row.specs.Width.{AllWide}
use Rattle.lhg_row.specs.WidthLaws.{append-wide}
use Rattle.lhg_row.specs.Members.{all_split, all-append}
use Rattle.lhg_row.specs.PutIn.{put_in_each}
use Rattle.lhg_row.specs.PutInLaws.{put_in-to, put_in-from, put_in-wide}
use Rattle.lhg_row.specs.PieceFacts.{IsMade, AllOver}
use Rattle.lhg_row.specs.MakeLaws.{make-exact}
use Rattle.lhg_row.specs.Sample.{sample}
use Rattle.lhg_row.specs.SampleLaws.{sample-in}
use Rattle.lhg_plant.specs.Plant.{PlainPlant, PlainSwitch}
use Rattle.lhg_plant.specs.State.{PlainState, IsState}
use Rattle.lhg_plant.specs.Legal.{LegalSwitch}
use Rattle.lhg_plant.specs.Proper.{IsSwitch, IsProper}
use Rattle.lhg_plant.specs.Region.{PlainRegion, InRegion}
use Rattle.lhg_plant.specs.Inside.{IsRegionInside}
use Rattle.lhg_plant.specs.Pick.{result_rows, results_in, sample_or, first_result, pick_by, picked_result, picks}
use Rattle.lhg_plant.specs.Choice.{target_in, result_at, IsLegalChoice}
use Rattle.lhg_plant.proofs.Options.{find_some, there_some}
use Rattle.lhg_plant.proofs.InsideStates.{some_inside}

-- no result is not some result
none_is_some : {P : Type 0} (y : PlainPoint) → None ≡ Some y → P
none_is_some y h = cc

-- equal results are one
pub some_point : (x y : PlainPoint) → Some x ≡ Some y → x ≡ y
some_point x y h = cc

-- what holds of all members holds of the one at a place
pub all_at : {A : Type 0} (P : A → Type 0) (xs : List A) (i : ℕ) (x : A) → AllOf P xs → slice_get xs i ≡ Some x → P x
all_at P [] i x h e = absurd (missing i e)
  where
    missing : {A : Type 0} {x : A} (i : ℕ) → slice_get [] i ≡ Some x → ⊥
    missing i e = cc
all_at P (y ∷ xs) zero x h e = subst P (let same : y ≡ x = cc in same) h.0
all_at P (y ∷ xs) (suc i) x h e = all_at P xs i x h.1 e

module _ (n : ℕ) (x : PlainPoint) (fits : length x ≡ n) (jump : PlainPiece) (wide : AllWide (n + n) jump) where
  -- the rows of the results in a piece are over n variables
  rows_wide : (piece : PlainPiece) → AllWide n piece → AllWide n (result_rows x jump piece).value
  rows_wide piece w = append-wide n (put_in_each frac_arithmetic x jump).value piece (put_in-wide frac_arithmetic x n n jump fits wide) w

  -- where they hold, so do the jump rows, and the point is in the piece
  rows_split : (piece : PlainPiece) (y : PlainPoint) → InPiece (result_rows x jump piece).value y → InPiece jump (x ++ y) × InPiece piece y
  rows_split piece y h =
      let s = all_split (λ r. holds_at r y ≡ true) (put_in_each frac_arithmetic x jump).value piece h in
      (put_in-from frac_arithmetic x jump y s.0, s.1)

  -- and back
  rows_joined : (piece : PlainPiece) (y : PlainPoint) → InPiece jump (x ++ y) → InPiece piece y → InPiece (result_rows x jump piece).value y
  rows_joined piece y h k = all-append (λ r. holds_at r y ≡ true) (put_in_each frac_arithmetic x jump).value piece (put_in-to frac_arithmetic x jump y h) k

  -- the point is a result in some piece
  pub record IsResult (pieces : List PlainPiece) (y : PlainPoint) : Type 0 where
    pub long : length y ≡ n
    pub jumps : InPiece jump (x ++ y)
    pub some : InSome pieces y

  -- what is picked is a result in some piece
  pub first_right : (pieces : List PlainPiece) (y : PlainPoint) → AllOver n pieces → (first_result n x jump pieces).value ≡ Some y → IsResult pieces y
  first_right [] y w h = none_is_some y h
  first_right (piece ∷ pieces) y w h =
      go (results_in n x jump piece).value (make-exact frac_arithmetic n (result_rows x jump piece).value frac_is_lawful (rows_wide piece w.0)) (first_right pieces y w.1) h
    where
      go : (o : Option PlainPiece) → IsMade frac_arithmetic n (result_rows x jump piece).value o
          → ((first_result n x jump pieces).value ≡ Some y → IsResult pieces y)
          → (sample_or n (first_result n x jump pieces) o).value ≡ Some y → IsResult (piece ∷ pieces) y
      go None made further e = let k = further e in record { long = k.long; jumps = k.jumps; some = inr k.some }
      go (Some results) made further e =
          let on = sample-in n results made.poly.wide made.poly.point in
          let same : (sample n results).value ≡ y = some_point (sample n results).value y e in
          let many : length y ≡ n = ap length (sym same) ∙ on.wide in
          let there : InPiece results y = subst (InPiece results) same on.inside in
          let rows = every_from_all (λ r. holds_at r y) (result_rows x jump piece).value (sym (made.points y many) ∙ all_from_every (λ r. holds_at r y) results there) in
          let s = rows_split piece y rows in
          record { long = many; jumps = s.0; some = inl s.1 }

  -- where some piece holds a result, one is picked
  pub first_found : (pieces : List PlainPiece) (z : PlainPoint) → AllOver n pieces → length z ≡ n → InPiece jump (x ++ z) → InSome pieces z
      → (y : PlainPoint) × ((first_result n x jump pieces).value ≡ Some y)
  first_found [] z w long jumps inside = absurd inside
  first_found (piece ∷ pieces) z w long jumps inside =
      go (results_in n x jump piece).value (make-exact frac_arithmetic n (result_rows x jump piece).value frac_is_lawful (rows_wide piece w.0))
      (first_found pieces z w.1 long jumps) inside
    where
      go : (o : Option PlainPiece) → IsMade frac_arithmetic n (result_rows x jump piece).value o
          → (InSome pieces z → (y : PlainPoint) × ((first_result n x jump pieces).value ≡ Some y))
          → InSome (piece ∷ pieces) z → (y : PlainPoint) × ((sample_or n (first_result n x jump pieces) o).value ≡ Some y)
      go (Some results) made further k = ((sample n results).value, refl)
      go None made further (inl k) = absurd (made z long (rows_joined piece z jumps k))
      go None made further (inr k) = further k

module _ (a : PlainPlant) (region : PlainRegion) (proper : IsProper a) (inside : IsRegionInside a region) where
  -- a legal result in the region
  abbrev IsPicked : ℕ → PlainState → PlainState → Type 0
  IsPicked e s z = LegalSwitch a e s z × InRegion a region z

  -- the jump rows of a switch are over the old variables and the new ones
  jump_wide : (e : ℕ) (w : PlainSwitch) → slice_get a.switches e ≡ Some w → AllWide (length a.vars + length a.vars) w.jump
  jump_wide e w there = (all_at (IsSwitch (length a.vars) (length a.locs)) a.switches e w proper.switches there).jump.wide

  -- by the switch that is there
  right_by : (e : ℕ) (s : PlainState) (y : PlainPoint) (o : Option PlainSwitch) → slice_get a.switches e ≡ o → IsState a s
      → IsSomeAnd o (λ w. w.from ≡ s.loc) → (pick_by a region s.at o).value ≡ Some y → IsPicked e s (record { loc = target_in o; at = y })
  right_by e s y None there state leaves h = absurd leaves
  right_by e s y (Some w) there state leaves h =
      let r = first_right (length a.vars) s.at state.fits w.jump (jump_wide e w there) (get_or region w.to []) y (inside.over w.to) h in
      let result = some_inside a w.to (get_or region w.to []) y r.long (inside.inside w.to) r.some in (
        record { switch = w; is_there = there; leaves = leaves; enters = refl; start = state; result = result; jump = r.jumps },
        record { state = result; some = r.some },
      )

  -- what is picked is a legal result in the region
  picked_right : (e : ℕ) (s : PlainState) (y : PlainPoint) → IsState a s → IsSomeAnd (slice_get a.switches e) (λ w. w.from ≡ s.loc)
      → (picked_result a region e s).value ≡ Some y → IsPicked e s (result_at a e y)
  picked_right e s y state leaves h = right_by e s y (slice_get a.switches e) refl state leaves h

  -- where some legal result is in the region, one is picked
  picked_found : (e : ℕ) (s z : PlainState) → LegalSwitch a e s z → InRegion a region z
      → (y : PlainPoint) × ((picked_result a region e s).value ≡ Some y)
  picked_found e s z legal h =
      let w = legal.switch in
      let some = subst (λ (l : ℕ). InSome (get_or region l []) z.at) (sym legal.enters) h.some in
      let f = first_found (length a.vars) s.at legal.start.fits w.jump (jump_wide e w legal.is_there) (get_or region w.to []) z.at (inside.over w.to) h.state.fits legal.jump some in
      (f.0, ap (λ (o : Option PlainSwitch). (pick_by a region s.at o).value) legal.is_there ∙ f.1)

  -- so what the calculus picks is a legal choice
  pub picks_legal : IsLegalChoice a region (picks a region)
  picks_legal = record { legal = picked_right; found = picked_found }
