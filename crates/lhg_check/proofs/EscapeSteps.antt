-- Steps of the third part in one location.
use Rattle.std.proofs.Common.{◌≡◌, ℕ, List, [], ◌∷◌, ◌++◌, length, get_or, slice_get, Some, None, refl, sym, ap, subst, append-nil}
use Rattle.lhg_num.specs.FracArithmetic.{frac_arithmetic}
use Rattle.lhg_num.specs.Marked.{Marked, done, valued, IsRest}
use Rattle.lhg_num.specs.MarkedLaws.{IsPart, and_then-part, and_then-rest}
use Rattle.lhg_row.specs.Piece.{PlainPiece}
use Rattle.lhg_motion.specs.Found.{pieces_of}
use Rattle.lhg_motion.specs.ReachCalculus.{reach}
use Rattle.lhg_plant.specs.Plant.{PlainPlant, PlainLocation}
use Rattle.lhg_plant.specs.Controller.{PlainController}
use Rattle.lhg_plant.specs.Invariants.{pieces_at}
use Rattle.lhg_plant.specs.OutCalculus.{PlainHit, PlainOuts, hit_pieces}
use Rattle.lhg_plant.specs.BackCalculus.{near_at}
use Rattle.lhg_jump.specs.declared.hits.Hit.{Hit}
use Rattle.lhg_check.specs.Check.{first_of, followed, found_from, lost_at}
use Rattle.lhg_check.proofs.CheckLists.{followed-first, followed-rest}
use Rattle.lhg_check.proofs.FirstSteps.{valued_rest}

-- ---- what the code holds
-- a list begins with its first member
pub hits-begin : (hs : List Hit) (h : Hit) → Some h ≡ slice_get hs 0 → (rest : List Hit) × (hs ≡ h ∷ rest)
hits-begin [] h e = absurd (some_none e)
  where
    some_none : Some h ≡ None → ⊥
    some_none e = cc
hits-begin (x ∷ hs) h e = (hs, ap (λ y. y ∷ hs) same)
  where
    same : x ≡ h
    same = cc

-- a list without a first member is empty
pub hits-none : (hs : List Hit) → None ≡ slice_get hs 0 → hs ≡ []
hits-none [] e = refl
hits-none (x ∷ hs) e = absurd (none_some e)
  where
    none_some : None ≡ Some x → ⊥
    none_some e = cc

-- ---- one location
module _ (a : PlainPlant) (c : PlainController) (outs : PlainOuts) (l : ℕ) (place : PlainLocation) where
  abbrev hits : List PlainHit
  hits = get_or outs.hits l []

  abbrev found : List PlainPiece → Marked (List PlainPiece)
  found bad = found_from a c bad (l, place)

  -- the piece of the first hit is lost
  pub hit-first : (hit : PlainHit) (hs : List PlainHit) → hits ≡ hit ∷ hs → Some hit.piece ≡ first_of (lost_at a c outs (l, place)).value
  unfolding lost_at
  hit-first hit hs e = sym (followed-first (done (hit_pieces hits)) (found (pieces_at outs.away l ++ hit_pieces hits)) hit.piece (ap (λ (w : List PlainHit). first_of (hit_pieces w)) e))

  -- without a hit what is found from the states outside is left
  pub found-left : hits ≡ [] → IsRest (valued first_of (lost_at a c outs (l, place))) (valued first_of (found (pieces_at outs.away l)))
  unfolding lost_at
  found-left e =
      let away = pieces_at outs.away l in
      let whole = valued first_of (followed (done (hit_pieces hits)) (found (away ++ hit_pieces hits))) in
      subst (λ (ps : List PlainPiece). IsRest whole (valued first_of (found ps))) (append-nil away)
      (subst (λ (w : List PlainHit). IsRest whole (valued first_of (found (away ++ hit_pieces w)))) e
      (followed-rest (done (hit_pieces hits)) (found (away ++ hit_pieces hits)) (ap (λ (w : List PlainHit). first_of (hit_pieces w)) e)))

  module _ (bad : List PlainPiece) where
    abbrev near : Marked (List PlainPiece)
    near = near_at a c.region c.guards l

    abbrev reached : List PlainPiece → Marked (List PlainPiece)
    reached ps = valued (λ r. pieces_of r.found) (reach frac_arithmetic (length a.vars) bad ps place.flow)

    -- the marks of the near pieces are among those of what is found
    pub found-near : IsPart (valued first_of (found bad)) near
    found-near = let p = and_then-part near reached in record { wide = p.wide; rows = p.rows; pieces = p.pieces }

    -- after them reach is left
    pub found-rest : IsRest (valued first_of (found bad)) (valued first_of (reached near.value))
    found-rest = valued_rest first_of (found bad) (reached near.value) (and_then-rest near reached)
