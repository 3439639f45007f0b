-- Which rows hold at no common point?
use Rattle.std.specs.Prelude.{◌≡◌, true, false}
use Rattle.lhg_row.specs.Row.{PlainRow, PlainPoint, holds_at}

-- where the first row holds, the second does not
abbrev pub IsClash : PlainRow → PlainRow → Type 0
IsClash r s = (x : PlainPoint) → holds_at r x ≡ true → holds_at s x ≡ false
