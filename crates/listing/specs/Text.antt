-- The listing's text (document 01, "Listing program"), as bytes.
use Rattle.std.specs.Prelude.{ℕ, zero, suc, ◌+◌, ◌/◌, ◌%◌, cond, List, [], ◌∷◌, ◌++◌, ltb}
use Rattle.esterel.specs.Statement.{size, loop_depth}
use Rattle.esterel.specs.Table.{Verdict, passed, refused}
use Rattle.esterel.specs.Checks.{Line, line, listing, planned}

-- a digit, in lower case from 10 on
abbrev pub digit : ℕ → ℕ
digit d = cond (ltb d 10) (48 + d) (87 + d)

-- the digits of n in a base, without leading zeros; 64 suffice for a 64-bit number
abbrev pub digits_up_to : (fuel base n : ℕ) → List ℕ
digits_up_to zero base n = []
digits_up_to (suc f) base n = cond (ltb n base) (digit n ∷ []) (digits_up_to f base (n / base) ++ (digit (n % base) ∷ []))

unfoldable pub digits : (base n : ℕ) → List ℕ
digits base n = digits_up_to 64 base n

abbrev pub decimal : ℕ → List ℕ
decimal n = digits 10 n

abbrev pub hexadecimal : ℕ → List ℕ
hexadecimal n = digits 16 n

-- fields with one blank between them, and a line feed at the end
abbrev pub fields : List (List ℕ) → List ℕ
fields [] = 10 ∷ []
fields (x ∷ []) = x ++ (10 ∷ [])
fields (x ∷ (y ∷ xs)) = x ++ (32 ∷ fields (y ∷ xs))

-- `refused` and `ok`
abbrev pub refused_word : List ℕ
refused_word = 114 ∷ 101 ∷ 102 ∷ 117 ∷ 115 ∷ 101 ∷ 100 ∷ []

abbrev pub ok_word : List ℕ
ok_word = 111 ∷ 107 ∷ []

unfoldable pub line_text : ℕ → Line → List ℕ
line_text node (line kind field K A S mark) =
    fields (decimal node ∷ decimal kind ∷ decimal field ∷ hexadecimal K ∷ hexadecimal A ∷ hexadecimal S ∷ decimal mark ∷ [])

-- one line a node, from node n on
abbrev pub lines_from : ℕ → List Line → List ℕ
lines_from n [] = []
lines_from n (l ∷ ls) = line_text n l ++ lines_from (suc n) ls

-- the first line: n, d, n(1 + d)
unfoldable pub header_text : (nodes loops planned : ℕ) → List ℕ
header_text n d c = fields (ok_word ∷ decimal n ∷ decimal d ∷ decimal c ∷ [])

unfoldable pub text_of : Verdict → List ℕ
text_of (refused number node) = fields (refused_word ∷ decimal number ∷ decimal node ∷ [])
text_of (passed p) = header_text (size p) (loop_depth p) (planned p) ++ lines_from 0 (listing p)

-- and no text is longer
abbrev pub max_text : ℕ
max_text = 67584
