-- The limits of programs as text (F-1, F-9).
use Rattle.std.specs.Prelude.{ℕ}

-- bytes of a text
abbrev pub max_source : ℕ
max_source = 16384

-- characters of a name
abbrev pub max_name : ℕ
max_name = 32

-- levels of nesting: a text of the grammar that is within the length has fewer (specs/Theorems, `Nesting`)
abbrev pub max_levels : ℕ
max_levels = 2731
