-- Fields as bytes: what a table of bytes holds of a statement whose fields may be larger.
use Rattle.std.specs.Prelude.{ℕ, ◌%◌, List, [], ◌∷◌}
use Rattle.esterel.specs.Statement.{nothing, pause, emit, exit, signal, suspend, loop, trap, present, sequence, parallel, Stmt, leaf, one, two}

abbrev pub low_bytes : List ℕ → List ℕ
low_bytes [] = []
low_bytes (b ∷ bs) = b % 256 ∷ low_bytes bs

abbrev pub clip : Stmt → Stmt
clip (leaf nothing) = leaf nothing
clip (leaf pause) = leaf pause
clip (leaf (emit s)) = leaf (emit (s % 256))
clip (leaf (exit level)) = leaf (exit (level % 256))
clip (one (signal s) p) = one (signal (s % 256)) (clip p)
clip (one (suspend s) p) = one (suspend (s % 256)) (clip p)
clip (one loop p) = one loop (clip p)
clip (one trap p) = one trap (clip p)
clip (two (present s) p q) = two (present (s % 256)) (clip p) (clip q)
clip (two sequence p q) = two sequence (clip p) (clip q)
clip (two parallel p q) = two parallel (clip p) (clip q)
