-- How large may a plant be?
use Rattle.std.specs.Prelude.{ℕ}

-- bytes of a name
abbrev pub most_name_bytes : ℕ
most_name_bytes = 32

-- variables; there is one or more
abbrev pub most_variables : ℕ
most_variables = 8

-- locations; there is one or more
abbrev pub most_locations : ℕ
most_locations = 64

-- switches
abbrev pub most_switches : ℕ
most_switches = 256

-- safe lines of a location
abbrev pub most_safe_lines : ℕ
most_safe_lines = 64

-- rows that one line gives
abbrev pub most_line_rows : ℕ
most_line_rows = 64
