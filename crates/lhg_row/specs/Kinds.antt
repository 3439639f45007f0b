-- Which kind of row is strict?
use Rattle.std.specs.Prelude.{Bool, true, false}
use Rattle.lhg_row.specs.declared.rows.Kind.{Kind}
use Rattle.lhg_row.specs.declared.rows.Kind.TheVariants.{Weak, Strict}

-- a weak row allows that its bound is reached, a strict one does not
abbrev pub is_strict : Kind → Bool
is_strict Weak = false
is_strict Strict = true
