-- A held state as bits (document 02, F-11), and the bytes of a program's nodes that document 01 has: 1 at each held pause and 0 elsewhere.
use Rattle.std.specs.Prelude.{ℕ, zero, suc, ◌+◌, ◌-◌, ◌*◌, ◌/◌, ◌%◌, ◌^◌, Bool, not, ◌&&◌, cond, List, [], ◌∷◌, eqb, get_or}
use Rattle.codes.specs.Codes.{bit, word_below}
use Rattle.codes.specs.Words.{◌∋◌}
use Rattle.esterel.specs.Limits.{max_nodes}
use Rattle.esterel.specs.Statement.{Stmt, size}
use Rattle.esterel.specs.Instant.{holds, admitted}

-- a bit for each node that a table can have
abbrev pub state_bytes : ℕ
state_bytes = 128

-- bit k of a byte, the lowest is bit 0
abbrev pub bit_of : ℕ → ℕ → ℕ
bit_of w k = bit (w ∋ k)

-- node i: bit i modulo 8 (lowest first) of byte i divided by 8
unfoldable pub held_bit : List ℕ → ℕ → ℕ
held_bit s i = bit_of (get_or s (i / 8) 0) (i % 8)

-- f i, f (i + 1), ..: n numbers
unfoldable pub column : (ℕ → ℕ) → (i n : ℕ) → List ℕ
column f i zero = []
column f i (suc n) = f i ∷ column f (suc i) n

-- the bytes of the first n nodes: 1 at each held one
unfoldable pub unpack : ℕ → List ℕ → List ℕ
unpack n s = column (held_bit s) 0 n

-- n bytes of h from i on as bits, lowest first: 1 where a byte is not 0. Past the end of h there are zeros.
unfoldable pub bits_from : List ℕ → (i n : ℕ) → ℕ
bits_from h i n = word_below n (λ k. not (eqb (get_or h (i + k) 0) 0))

-- byte j has the bits of nodes 8 j to 8 j + 7
unfoldable pub byte_of : List ℕ → ℕ → ℕ
byte_of h j = bits_from h (8 * j) 8

-- the packed state that holds what h holds: all 128 bytes
unfoldable pub pack : List ℕ → List ℕ
pack h = column (byte_of h) 0 state_bytes

-- no bit from n on is 1
unfoldable pub is_clear_from : ℕ → List ℕ → Bool
is_clear_from n s = not (holds (column (held_bit s) n (max_nodes - n)))

-- check 12: the bits from n on are 0, and those of the n nodes are admitted as document 01 has it, so those of other nodes than pauses
-- are 0 too
abbrev pub admits : Stmt → List ℕ → Bool
admits p s = is_clear_from (size p) s && admitted p (unpack (size p) s)

-- for the code: the bits from n on in the byte where node n stands, none where n is the first there
abbrev pub tail_of : ℕ → List ℕ → ℕ
tail_of n s = cond (eqb (n % 8) 0) 0 (get_or s (n / 8) 0 / 2 ^ (n % 8))
