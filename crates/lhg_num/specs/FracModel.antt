-- A fraction is seen as its number, and gives its fields back.
use Rattle.std.specs.Prelude.{◌≡◌, ℕ, ℤ, pos, negsuc, ◌<ℤ◌}
use Rattle.std.specs.Int.RustNames.{unsigned_abs}
use Rattle.std.proofs.Common.{ap, refl, ◌∙◌, arith}
use Rattle.std.proofs.lemmas.Int.{ints}
use Rattle.lhg_math.specs.Number.{Number, ratio}
use Rattle.lhg_math.specs.Represents.{ratio_parts}
use Rattle.lhg_num.specs.Stored.{IsStored}
use Rattle.lhg_num.specs.declared.fraction.Frac.TheInside.{Inside}

-- the number that the fields keep
abbrev pub number_of : Inside → Number
number_of f = ratio f.numerator (unsigned_abs f.denominator)

-- the fields that keep a number
abbrev pub fields_of : Number → Inside
fields_of q = record { numerator = q.top; denominator = pos q.bottom }

-- a positive number is its size
abs_pos : (d : ℤ) → pos 0 <ℤ d → pos (unsigned_abs d) ≡ d
abs_pos (pos n) h = refl
abs_pos (negsuc n) h = absurd (omega (arith, ints))

-- the fields with these values
abbrev inside : ℤ → ℤ → Inside
inside n d = record { numerator = n; denominator = d }

-- the fields come back from their number
pub fields_back : (f : Inside) → IsStored f.numerator f.denominator → fields_of (number_of f) ≡ f
fields_back f h =
    let e = ratio_parts f.numerator (unsigned_abs f.denominator) h.lowest in
    ap (λ n. inside n (pos (number_of f).bottom)) e.0 ∙ ap (λ (b : ℕ). inside f.numerator (pos b)) e.1 ∙ ap (λ d. inside f.numerator d) (abs_pos f.denominator h.above)
