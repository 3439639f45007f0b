-- The piece of a location's invariant has exactly its states.
use Rattle.std.proofs.Common.{◌≡◌, ◌↔◌, ◌⊎◌, inl, inr, ℕ, zero, suc, ◌<◌, List, [], ◌∷◌, map, length, get_or, slice_get, IsSomeAnd, Option, Some, None, refl, sym, ap, ◌∙◌, subst}
use Rattle.lhg_math.specs.Tests.{AllOf}
use Rattle.lhg_num.specs.FracArithmetic.{frac_arithmetic, frac_is_lawful}
use Rattle.lhg_num.specs.MarkedLaws.{each-value}
use Rattle.lhg_row.specs.Row.{PlainPoint}
use Rattle.lhg_row.specs.Piece.{PlainPiece, InPiece, InSome}
use Rattle.lhg_row.specs.PieceLemmas.{in_piece_is}
use Rattle.lhg_row.specs.Width.{AllWide}
use Rattle.lhg_row.specs.Pieces.{make}
use Rattle.lhg_row.specs.PieceFacts.{IsMade, AllPolys}
use Rattle.lhg_row.specs.MakeLaws.{make-exact}
use Rattle.lhg_row.specs.Lists.{listed}
use Rattle.lhg_plant.specs.Plant.{PlainLocation, PlainPlant}
use Rattle.lhg_plant.specs.Proper.{IsLocation, IsProper}
use Rattle.lhg_plant.specs.State.{IsState}
use Rattle.lhg_plant.specs.Invariants.{pieces_at, invariant_list, invariant_of, invariant_at, invariants}
use Rattle.lhg_plant.specs.SwitchFacts.{state_at}

-- what is made of rows has their points
made-points : (n : ℕ) (rows : PlainPiece) (o : Option PlainPiece) (x : PlainPoint) → length x ≡ n → IsMade frac_arithmetic n rows o → InSome (listed o []) x ↔ InPiece rows x
made-points n rows None x l h = (λ k. absurd k, λ k. absurd (h x l k))
made-points n rows (Some piece) x l h =
    let e = h.points x l in (
      λ k. elim k [ inl i ↦ (in_piece_is rows x).1 (sym e ∙ (in_piece_is piece x).0 i) | inr m ↦ absurd m ],
      λ k. inl ((in_piece_is piece x).1 (e ∙ (in_piece_is rows x).0 k)),
    )

made-polys : (n : ℕ) (rows : PlainPiece) (o : Option PlainPiece) → IsMade frac_arithmetic n rows o → AllPolys frac_arithmetic n (listed o [])
made-polys n rows None h = tt
made-polys n rows (Some piece) h = (h.poly, tt)

module _ (n : ℕ) where
  at-points : (locs : List PlainLocation) (l : ℕ) (x : PlainPoint) → AllOf (IsLocation n) locs → length x ≡ n
      → InSome (invariant_of n (slice_get locs l)).value x ↔ IsSomeAnd (slice_get locs l) (λ l. InPiece l.inv x)
  at-points [] l x h fits = (λ k. k, λ k. k)
  at-points (loc ∷ locs) zero x h fits = made-points n loc.inv (make frac_arithmetic n loc.inv).value x fits (make-exact frac_arithmetic n loc.inv frac_is_lawful h.0.inv.wide)
  at-points (loc ∷ locs) (suc l) x h fits = at-points locs l x h.1 fits

  at-polys : (locs : List PlainLocation) (l : ℕ) → AllOf (IsLocation n) locs → AllPolys frac_arithmetic n (invariant_of n (slice_get locs l)).value
  at-polys [] l h = tt
  at-polys (loc ∷ locs) zero h = made-polys n loc.inv (make frac_arithmetic n loc.inv).value (make-exact frac_arithmetic n loc.inv frac_is_lawful h.0.inv.wide)
  at-polys (loc ∷ locs) (suc l) h = at-polys locs l h.1

  at-place : (locs : List PlainLocation) (l : ℕ) → get_or (map (λ k. (invariant_list n k).value) locs) l [] ≡ (invariant_of n (slice_get locs l)).value
  at-place [] l = refl
  at-place (loc ∷ locs) zero = refl
  at-place (loc ∷ locs) (suc l) = at-place locs l

-- the invariant that is made for one location is that of the list for all
pub invariants-at : (a : PlainPlant) (l : ℕ) → pieces_at (invariants a).value l ≡ (invariant_at a l).value
unfolding invariants
invariants-at a l = ap (λ r. get_or r l []) (each-value (invariant_list (length a.vars)) a.locs) ∙ at-place (length a.vars) a.locs l

module _ (a : PlainPlant) (proper : IsProper a) (l : ℕ) where
  -- its points are the states of the location
  pub invariant-points : (x : PlainPoint) → length x ≡ length a.vars → InSome (invariant_at a l).value x ↔ IsState a (state_at l x)
  invariant-points x fits =
      let same = at-points (length a.vars) a.locs l x proper.locs fits in
      (λ k. record { fits = fits; inside = same.0 k }, λ s. same.1 s.inside)

  -- it is a piece
  pub invariant-polys : AllPolys frac_arithmetic (length a.vars) (invariant_at a l).value
  invariant-polys = at-polys (length a.vars) a.locs l proper.locs
