-- The limits of document 01, each named once; that of the traps is F-7's.
use Rattle.std.specs.Prelude.{ℕ}

-- checks 1, 8 and 9; the signals 0 to 255
abbrev pub max_nodes : ℕ
max_nodes = 1024

abbrev pub max_depth : ℕ
max_depth = 256

abbrev pub max_traps : ℕ
max_traps = 62

abbrev pub signals : ℕ
signals = 256
