-- The small cases, by computation.
use Rattle.std.proofs.Common.{◌≡◌, refl, [], ◌∷◌, zero, suc, length, true, false, ap, sym, ◌∙◌, arith}
use Rattle.lhg_math.specs.Gcd.{gcd}
use Rattle.lhg_math.specs.Represents.{number_ext}
use Rattle.lhg_math.specs.Number.{Number, add, mul, neg, sub, lt, nought, unit, half, whole, ratio, ratio_suc}
use Rattle.lhg_math.specs.NumberRing.{nought-add, neg-mul, nought-mul}
use Rattle.lhg_math.specs.NumberOrder.{nought_unit, lt_irrefl, lt_asym, neg-lt_nought}
use Rattle.lhg_math.specs.Interpolate.{interpolate}
use Rattle.lhg_math.specs.InterpolateLaws.{unit-mul}
use Rattle.lhg_math.specs.PlacesLaws.{end_place}
use Rattle.lhg_row.specs.Row.{PlainPoint}
use Rattle.lhg_row.specs.Piece.{InPiece}
use Rattle.lhg_row.specs.Decisions.{clash}
use Rattle.lhg_row.specs.Example.{empty_system, IntervalFacts, EmptyFacts}

-- an open interval
pub interval : IntervalFacts
unfolding gcd lt add mul neg nought unit half whole ratio ratio_suc
interval = record { inside = refl; low_end = refl; high_end = refl; low_closed = (refl, (refl, tt)); high_closed = (refl, (refl, tt)) }

-- a system without points
no_point : (p : PlainPoint) → InPiece empty_system p → ⊥
no_point [] h = clash (lt nought nought) h.0 (lt_irrefl nought)
no_point (x ∷ p) h =
    let value : add nought (mul unit x) ≡ x = nought-add (mul unit x) ∙ unit-mul x in
    let negative : add nought (mul (neg unit) x) ≡ neg x = nought-add (mul (neg unit) x) ∙ neg-mul unit x ∙ ap neg (unit-mul x) in
    let low : lt x nought ≡ true = ap (λ w. lt w nought) (sym value) ∙ h.0 in
    let high : lt nought x ≡ true = sym (neg-lt_nought x) ∙ ap (λ w. lt w nought) (sym negative) ∙ h.1.0 in
    clash (lt nought x) high (lt_asym x nought low)

-- no rows, no pieces, no point
pub empties : EmptyFacts
empties = record { everywhere = λ p. refl; nowhere = λ p. refl; empty = no_point }
