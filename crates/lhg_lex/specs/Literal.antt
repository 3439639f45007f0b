-- Which bytes are a number, and what is its value or its error?
use Rattle.std.specs.Prelude.{ℕ, ◌+◌, ◌^◌, pos, List, ◌++◌, length, Bool, ◌&&◌, ◌||◌, ◌==◌, nat_lt, if◌then◌else◌, Result, Ok, Err}
use Rattle.std.specs.List.{before_first, after_first}
use Rattle.lhg_math.specs.Number.{Number, whole, quot}
use Rattle.lhg_lex.specs.Digits.{is_run, value_of}
use Rattle.lhg_lex.specs.declared.stops.What.{What}
use Rattle.lhg_lex.specs.declared.stops.What.TheVariants.{LongNumber, ZeroDenominator}

-- what stands before the first such byte, and all where there is none
abbrev pub before : ℕ → List ℕ → List ℕ
before mark w = before_first (λ b. b == mark) w

-- what stands behind it, and nothing where there is none
abbrev pub behind : ℕ → List ℕ → List ℕ
behind mark w = after_first (λ b. b == mark) w

-- digits, the mark, digits
abbrev pub is_parted : ℕ → List ℕ → Bool
is_parted mark w = is_run (before mark w) && is_run (behind mark w)

-- digits `/` digits
abbrev pub is_fraction : List ℕ → Bool
is_fraction w = is_parted 47 w

-- digits `.` digits
abbrev pub is_decimal : List ℕ → Bool
is_decimal w = is_parted 46 w

-- `/` or `.`
abbrev pub is_mark : ℕ → Bool
is_mark b = (b == 47) || (b == 46)

-- digits; or digits `/` digits; or digits `.` digits
abbrev pub is_number : List ℕ → Bool
is_number w = is_run w || (is_fraction w || is_decimal w)

-- the greatest number that a run of digits may stand for, 2^127 - 1
abbrev pub limit : ℕ
limit = 170141183460469231731687303715884105727

-- the digits stand for more
abbrev pub is_long : List ℕ → Bool
is_long w = nat_lt limit (value_of w)

-- the value of digits alone
abbrev pub whole_value : List ℕ → Result Number What
whole_value w = if is_long w then Err LongNumber else Ok (whole (pos (value_of w)))

-- the value of digits before and behind a `/`
abbrev pub fraction_value : List ℕ → List ℕ → Result Number What
fraction_value n d =
    if is_long n || is_long d then Err LongNumber else
    (if value_of d == 0 then Err ZeroDenominator else Ok (quot (whole (pos (value_of n))) (whole (pos (value_of d)))))

-- how many digits a decimal may have
abbrev pub decimal_digits : ℕ
decimal_digits = 38

-- the value of digits before and behind a `.`: all of them over a power of ten
abbrev pub decimal_value : List ℕ → List ℕ → Result Number What
decimal_value n d =
    if nat_lt decimal_digits (length n + length d) then Err LongNumber else Ok (quot (whole (pos (value_of (n ++ d)))) (whole (pos (10 ^ length d))))

-- the value of a number as it is written, in lowest terms
abbrev pub number_of : List ℕ → Result Number What
number_of w =
    if is_run w then whole_value w else
    (if is_fraction w then fraction_value (before 47 w) (behind 47 w) else decimal_value (before 46 w) (behind 46 w))
