-- Steps of the loops that gather the rim of one location.
use Rattle.std.proofs.Common.{◌≡◌, ℕ, ◌+◌, ◌<◌, ◌≤◌, List, [], ◌++◌, Option, length, drop, get_or, refl}
use Rattle.lhg_num.specs.FracArithmetic.{frac_arithmetic}
use Rattle.lhg_num.specs.Marked.{Marked, valued}
use Rattle.lhg_num.specs.MarkedLaws.{IsPart}
use Rattle.lhg_row.specs.Piece.{PlainPiece}
use Rattle.lhg_row.specs.System.{PlainSystem}
use Rattle.lhg_row.specs.Lists.{listed, counted_pieces}
use Rattle.lhg_motion.specs.CrossCalculus.{cross}
use Rattle.lhg_union.specs.PolyLists.{lines_of}
use Rattle.lhg_jump.proofs.EachSteps.{IsGiven, given-end, piece-part, piece-step, IsJoined}
use Rattle.lhg_jump.proofs.EachSteps as joined
use Rattle.lhg_lazy.specs.RimCalculus.{rim_from, rim_list}

-- ---- from one piece
-- the crossing through one piece, and those through the pieces of a list
abbrev pub crossing : ℕ → PlainPiece → PlainPiece → PlainSystem → Marked (Option PlainPiece)
crossing n flow s q = cross frac_arithmetic n s q.lines q.lines flow

abbrev pub crossings : ℕ → PlainPiece → PlainPiece → List PlainSystem → Marked (List PlainPiece)
crossings n flow s qs = rim_from n flow (lines_of qs) s

-- the crossings through the pieces so far
abbrev pub IsEach : ℕ → PlainPiece → PlainPiece → List PlainSystem → List PlainSystem → ℕ → Type 0
IsEach n flow s qs out i = IsGiven (crossings n flow s) qs out i

module _ (n : ℕ) (flow s : PlainPiece) (qs out : List PlainSystem) (i : ℕ) (q : PlainSystem) (is : q ≡ get_or qs i q) (there : i < length qs) (h : IsEach n flow s qs out i) where
  -- the marks of the next crossing
  pub each-part : IsPart (rim_from n flow (lines_of qs) s) (valued (λ o. lines_of out ++ listed o []) (cross frac_arithmetic n s q.lines q.lines flow))
  each-part = piece-part (crossing n flow s) (crossings n flow s) (λ r rs. refl) qs out i q is there h (λ o. lines_of out ++ listed o [])

  -- the next crossing
  pub each-step : (more : List PlainSystem) → lines_of more ≡ lines_of out ++ listed (cross frac_arithmetic n s q.lines q.lines flow).value [] → IsEach n flow s qs more (i + 1)
  each-step = piece-step (crossing n flow s) (crossings n flow s) (λ r rs. refl) qs out i q is there h

-- at the end these are all
pub each-end : (n : ℕ) (flow s : PlainPiece) (qs out : List PlainSystem) (i : ℕ) → length qs ≤ i → IsEach n flow s qs out i → lines_of out ≡ (rim_from n flow (lines_of qs) s).value
each-end n flow s qs out i = given-end (crossings n flow s) qs out i refl

-- ---- from each piece
-- the pieces so far
abbrev pub IsListed : ℕ → PlainPiece → List PlainPiece → List PlainSystem → List PlainSystem → ℕ → Type 0
IsListed n flow outside here out i = IsJoined (rim_from n flow outside) here out i

module _ (n : ℕ) (flow : PlainPiece) (outside : List PlainPiece) (ss out : List PlainSystem) (i : ℕ) (s : PlainSystem) (is : s ≡ get_or ss i s) (there : i < length ss) (h : IsListed n flow outside ss out i) where
  -- the marks of the next pieces
  pub list-part : IsPart (rim_list n flow (lines_of ss) outside) (rim_from n flow outside s.lines)
  unfolding rim_list
  list-part = joined.list-part (rim_from n flow outside) ss out i s is there h

  -- a list that is past its limits is so in the end
  pub limit-part : (found : List PlainSystem) → lines_of found ≡ (rim_from n flow outside s.lines).value → IsPart (rim_list n flow (lines_of ss) outside) (counted_pieces (lines_of (out ++ found)))
  unfolding rim_list
  limit-part = joined.limit-part (rim_from n flow outside) ss out i s is there h

  -- the next pieces
  pub list-step : (found more : List PlainSystem) → lines_of found ≡ (rim_from n flow outside s.lines).value → more ≡ out ++ found → IsListed n flow outside ss more (i + 1)
  list-step = joined.list-step (rim_from n flow outside) ss out i s is there h

-- at the end these are all
pub list-end : (n : ℕ) (flow : PlainPiece) (outside : List PlainPiece) (ss out : List PlainSystem) (i : ℕ) → length ss ≤ i → IsListed n flow outside ss out i → lines_of out ≡ (rim_list n flow (lines_of ss) outside).value
unfolding rim_list
list-end n flow outside ss out i = joined.joined-end (rim_from n flow outside) ss out i
