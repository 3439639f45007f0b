-- After a switch from a piece are exactly the points to which it leads legally from there.
use Rattle.std.proofs.Common.{◌≡◌, ◌↔◌, ℕ, zero, suc, ◌+◌, ◌-◌, ◌≤◌, not, cond, List, [], ◌∷◌, ◌++◌, map, drop, take, length, slice_get, IsSomeAnd, Option, Some, None, refl, sym, ap, ◌∙◌, subst, arith}
use Rattle.std.proofs.lemmas.List.{length-append}
use Rattle.lhg_math.specs.Number.{Number, add, mul, lt, nought}
use Rattle.lhg_math.specs.NumberRing.{add_comm}
use Rattle.lhg_math.specs.Tests.{AllOf}
use Rattle.lhg_num.specs.FracArithmetic.{frac_arithmetic, frac_is_lawful}
use Rattle.lhg_row.specs.Row.{PlainRow, PlainPoint, row_value, holds_at}
use Rattle.lhg_row.specs.Piece.{PlainPiece, InPiece}
use Rattle.lhg_row.specs.PieceLemmas.{in_piece_is}
use Rattle.lhg_row.specs.Width.{AllWide}
use Rattle.lhg_row.specs.WidenedLaws.{value-append}
use Rattle.lhg_row.specs.MappedLaws.{mapped-wide}
use Rattle.lhg_row.specs.Pieces.{make}
use Rattle.lhg_row.specs.PieceFacts.{IsMade}
use Rattle.lhg_row.specs.MakeLaws.{make-exact}
use Rattle.lhg_row.specs.Lists.{listed}
use Rattle.lhg_motion.specs.JoinedLaws.{value_from}
use Rattle.lhg_plant.specs.Plant.{PlainLocation, PlainSwitch, PlainPlant}
use Rattle.lhg_plant.specs.Proper.{IsLocation, IsSwitch, IsProper}
use Rattle.lhg_plant.specs.State.{IsState}
use Rattle.lhg_plant.specs.Legal.{LegalSwitch}
use Rattle.lhg_plant.specs.Invariants.{invariant_of, invariant_at}
use Rattle.lhg_plant.specs.Pre.{pre_piece}
use Rattle.lhg_plant.specs.Sound.{IsInside}
use Rattle.lhg_plant.specs.SwitchFacts.{state_at}
use Rattle.lhg_plant.proofs.Options.{some_there, there_some, some_same}
use Rattle.lhg_plant.proofs.PrePoints.{LeadsInto, IsPrePieceOr, pre_piece-exact}
use Rattle.lhg_plant.proofs.PreStates.{all_there}
use Rattle.lhg_forward.specs.After.{swapped, switch_within, switch_by, after_switch}
use Rattle.lhg_forward.specs.AfterFacts.{IsResult, HasPoints, HasPointsOr}

-- ---- rows over the new values and then the old ones
length-take_part : (n : ℕ) (xs : List Number) → n ≤ length xs → length (take n xs) ≡ n
length-take_part zero xs h = refl
length-take_part (suc n) [] h = absurd (omega arith)
length-take_part (suc n) (x ∷ xs) h = ap (λ (k : ℕ). suc k) (length-take_part n xs (omega arith))

length-drop_part : (n m : ℕ) (xs : List Number) → length xs ≡ n + m → length (drop n xs) ≡ m
length-drop_part zero m xs h = h ∙ omega arith
length-drop_part (suc n) m [] h = absurd (omega arith)
length-drop_part (suc n) m (x ∷ xs) h = length-drop_part n m xs (omega arith)

parts_join : (n : ℕ) (xs : List Number) → take n xs ++ drop n xs ≡ xs
parts_join zero xs = refl
parts_join (suc n) [] = refl
parts_join (suc n) (x ∷ xs) = ap (λ w. x ∷ w) (parts_join n xs)

-- two parts of a sum
sum_parts : (cs ds : List Number) (x y : PlainPoint) → length cs ≡ length x → row_value nought (cs ++ ds) (x ++ y) ≡ add (row_value nought ds y) (row_value nought cs x)
sum_parts cs ds x y e = value-append nought cs ds x y e ∙ value_from (row_value nought cs x) ds y

module _ (n : ℕ) where
  swapped-value : (cs : List Number) (x y : PlainPoint) → length cs ≡ n + n → length x ≡ n → length y ≡ n → row_value nought (drop n cs ++ take n cs) (y ++ x) ≡ row_value nought cs (x ++ y)
  swapped-value cs x y e ex ey =
      let old = take n cs in
      let new = drop n cs in
      let few : length old ≡ n = length-take_part n cs (omega arith) in
      let many : length new ≡ n = length-drop_part n n cs e in
      sum_parts new old y x (many ∙ sym ey) ∙ add_comm (row_value nought old x) (row_value nought new y)
      ∙ sym (sum_parts old new x y (few ∙ sym ex)) ∙ ap (λ ds. row_value nought ds (x ++ y)) (parts_join n cs)

  swapped-holds : (r : PlainRow) (x y : PlainPoint) → length r.coefs ≡ n + n → length x ≡ n → length y ≡ n → holds_at (swapped n r) (y ++ x) ≡ holds_at r (x ++ y)
  swapped-holds r x y e ex ey = ap (λ v. cond r.strict (lt v r.bound) (not (lt r.bound v))) (swapped-value r.coefs x y e ex ey)

  swapped-length : (r : PlainRow) → length r.coefs ≡ n + n → length (swapped n r).coefs ≡ n + n
  swapped-length r e =
      let few : length (take n r.coefs) ≡ n = length-take_part n r.coefs (omega arith) in
      let many : length (drop n r.coefs) ≡ n = length-drop_part n n r.coefs e in
      length-append (drop n r.coefs) (take n r.coefs) ∙ omega arith

  pub swapped-wide : (jump : PlainPiece) → AllWide (n + n) jump → AllWide (n + n) (map (swapped n) jump)
  swapped-wide jump wide = mapped-wide (n + n) (n + n) (swapped n) swapped-length jump wide

  swapped-in : (jump : PlainPiece) (x y : PlainPoint) → AllWide (n + n) jump → length x ≡ n → length y ≡ n → InPiece (map (swapped n) jump) (y ++ x) → InPiece jump (x ++ y)
  swapped-in [] x y w ex ey h = tt
  swapped-in (r ∷ jump) x y w ex ey h = (sym (swapped-holds r x y w.0 ex ey) ∙ h.0, swapped-in jump x y w.1 ex ey h.1)

  in-swapped : (jump : PlainPiece) (x y : PlainPoint) → AllWide (n + n) jump → length x ≡ n → length y ≡ n → InPiece jump (x ++ y) → InPiece (map (swapped n) jump) (y ++ x)
  in-swapped [] x y w ex ey h = tt
  in-swapped (r ∷ jump) x y w ex ey h = (swapped-holds r x y w.0 ex ey ∙ h.0, in-swapped jump x y w.1 ex ey h.1)

-- ---- results
module _ (a : PlainPlant) (proper : IsProper a) (e : ℕ) (w : PlainSwitch) (is : slice_get a.switches e ≡ Some w)
    (place : PlainLocation) (there : slice_get a.locs w.to ≡ Some place)
    (piece : PlainPiece) (wide : AllWide (length a.vars) piece) (inside : IsInside a w.from piece) where
  abbrev n : ℕ
  n = length a.vars

  switch : IsSwitch n (length a.locs) w
  switch = all_there (IsSwitch n (length a.locs)) a.switches e w is proper.switches

  location : IsLocation n place
  location = all_there (IsLocation n) a.locs w.to place there proper.locs

  module _ (inv : PlainPiece) (made : IsMade frac_arithmetic n place.inv (Some inv)) where
    leads_result : (y : PlainPoint) → length y ≡ n → LeadsInto n (map (swapped n) w.jump) piece inv y → IsResult a e piece y
    leads_result y f c = record {
      start = c.to;
      inside = c.inside;
      legal = there_some (slice_get a.switches e) w _ is (record {
        switch = w;
        is_there = is;
        leaves = refl;
        enters = refl;
        start = inside c.to c.fits c.inside;
        result = record { fits = f; inside = there_some (slice_get a.locs w.to) place _ there ((in_piece_is place.inv y).1 (sym (made.points y f) ∙ (in_piece_is inv y).0 c.start)) };
        jump = swapped-in n w.jump c.to y switch.jump.wide c.fits f c.jumps;
      });
    }

    result_leads : (y : PlainPoint) → length y ≡ n → IsResult a e piece y → LeadsInto n (map (swapped n) w.jump) piece inv y
    result_leads y f h =
        let g = some_there (slice_get a.switches e) w (λ k. LegalSwitch a e (state_at k.from h.start) (state_at k.to y)) is h.legal in
        let same : g.switch ≡ w = some_same (slice_get a.switches e) g.switch w g.is_there is in
        record {
          start = (in_piece_is inv y).1 (made.points y f ∙ (in_piece_is place.inv y).0 (some_there (slice_get a.locs w.to) place (λ k. InPiece k.inv y) there g.result.inside));
          to = h.start;
          fits = g.start.fits;
          inside = h.inside;
          jumps = in-swapped n w.jump h.start y switch.jump.wide g.start.fits f (subst (λ (k : PlainSwitch). InPiece k.jump (h.start ++ y)) same g.jump);
        }

    resulted : (o : Option PlainPiece) → IsPrePieceOr n (map (swapped n) w.jump) piece inv o → HasPointsOr n (IsResult a e piece) o
    resulted None h = λ y f k. h y f (result_leads y f k)
    resulted (Some q) h = record {
      points = λ y f. (λ i. leads_result y f ((h.points y f).0 i), λ k. (h.points y f).1 (result_leads y f k));
      poly = h.poly;
    }

  switch_made : (o : Option PlainPiece) → IsMade frac_arithmetic n place.inv o → HasPointsOr n (IsResult a e piece) (switch_within n w.jump piece (listed o [])).value
  switch_made None m = λ y f h.
      let g = some_there (slice_get a.switches e) w (λ k. LegalSwitch a e (state_at k.from h.start) (state_at k.to y)) is h.legal in
      m y f (some_there (slice_get a.locs w.to) place (λ k. InPiece k.inv y) there g.result.inside)
  switch_made (Some inv) m =
      resulted inv m (pre_piece n (map (swapped n) w.jump) piece inv).value
      (pre_piece-exact n (map (swapped n) w.jump) piece inv (swapped-wide n w.jump switch.jump.wide) m.poly.wide wide)

  switch_exact : HasPointsOr n (IsResult a e piece) (switch_within n w.jump piece (invariant_of n (Some place)).value).value
  switch_exact = switch_made (make frac_arithmetic n place.inv).value (make-exact frac_arithmetic n place.inv frac_is_lawful location.inv.wide)

-- what enters a location that is not there has no result
module _ (a : PlainPlant) (proper : IsProper a) (e : ℕ) (w : PlainSwitch) (is : slice_get a.switches e ≡ Some w) (piece : PlainPiece) (wide : AllWide (length a.vars) piece) (inside : IsInside a w.from piece) where
  switch_there : (o : Option PlainLocation) → slice_get a.locs w.to ≡ o → HasPointsOr (length a.vars) (IsResult a e piece) (switch_within (length a.vars) w.jump piece (invariant_of (length a.vars) o).value).value
  switch_there None f = λ y g h.
      let k = some_there (slice_get a.switches e) w (λ v. LegalSwitch a e (state_at v.from h.start) (state_at v.to y)) is h.legal in
      absurd (subst (λ (o : Option PlainLocation). IsSomeAnd o (λ v. InPiece v.inv y)) f k.result.inside)
  switch_there (Some place) f = switch_exact a proper e w is place f piece wide inside

pub after_switch-exact : (a : PlainPlant) → IsProper a → (e : ℕ) (piece : PlainPiece) → AllWide (length a.vars) piece → IsSomeAnd (slice_get a.switches e) (λ w. IsInside a w.from piece)
    → HasPointsOr (length a.vars) (IsResult a e piece) (after_switch a e piece).value
unfolding after_switch
after_switch-exact a proper e piece wide inside = go (slice_get a.switches e) refl inside
  where
    go : (o : Option PlainSwitch) → slice_get a.switches e ≡ o → IsSomeAnd o (λ w. IsInside a w.from piece) → HasPointsOr (length a.vars) (IsResult a e piece) (switch_by a piece o).value
    go None is h = absurd h
    go (Some w) is h = switch_there a proper e w is piece wide h (slice_get a.locs w.to) refl
