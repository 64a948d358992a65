-- The first line of a listing is its header or its refusal: no byte of a field is a line feed.
use mathlib.Core.Path.{◌≡◌, refl, sym, ap, ◌∙◌}
use mathlib.Core.Bool.{Bool, true, false, cond}
use mathlib.Core.List.{List, [], ◌∷◌, ◌++◌, append-nil, append_assoc}
use Prim.Native.Nat.{ℕ, zero, suc, ◌+◌, ◌/◌, ◌%◌, ◌<◌}
use native.Mathlib.Omega.{arith}
use borrow.Author.Tests.{ne_eqb}
use lib.Dec.{ltb}
use Rattle.esterel.specs.Statement.{Stmt, size, loop_depth}
use Rattle.esterel.specs.Table.{passed, refused}
use Rattle.esterel.specs.Checks.{planned}
use Rattle.listing.specs.Text.{digit, digits_up_to, digits, decimal, fields, refused_word, ok_word, header_text, text_of}
use Rattle.tickline.specs.Line.{first_line}

-- each byte is above 10
abbrev NoFeed : List ℕ → Type 0
NoFeed [] = Unit {0}
NoFeed (b ∷ bs) = (10 < b) × NoFeed bs

abbrev NoFeeds : List (List ℕ) → Type 0
NoFeeds [] = Unit {0}
NoFeeds (x ∷ xs) = NoFeed x × NoFeeds xs

past : (b : ℕ) (bs : List ℕ) → 10 < b → first_line (b ∷ bs) ≡ b ∷ first_line bs
past b bs h = ap (λ t. b ∷ cond t [] (first_line bs)) (ne_eqb b 10 (λ e. omega arith))

skips : (x z : List ℕ) → NoFeed x → first_line (x ++ z) ≡ x ++ first_line z
skips [] z n = refl
skips (b ∷ x) z n = past b (x ++ z) n.0 ∙ ap (λ l. b ∷ l) (skips x z n.1)

-- fields are one line, whatever follows them
one_line : (xs : List (List ℕ)) → NoFeeds xs → (ys : List ℕ) → first_line (fields xs ++ ys) ≡ fields xs
one_line [] n ys = refl
one_line (x ∷ []) n ys = ap first_line (append_assoc x (10 ∷ []) ys) ∙ skips x (10 ∷ ys) n.0
one_line (x ∷ (y ∷ xs)) n ys =
    ap first_line (append_assoc x (32 ∷ fields (y ∷ xs)) ys) ∙ skips x (32 ∷ (fields (y ∷ xs) ++ ys)) n.0 ∙
    ap (λ l. x ++ l) (past 32 (fields (y ∷ xs) ++ ys) (omega arith) ∙ ap (λ l. 32 ∷ l) (one_line (y ∷ xs) n.1 ys))

digit-above : (d : ℕ) → 10 < digit d
digit-above d = go (ltb d 10)
  where
    go : (b : Bool) → 10 < cond b (48 + d) (87 + d)
    go true = omega arith
    go false = omega arith

feeds_append : (x y : List ℕ) → NoFeed x → NoFeed y → NoFeed (x ++ y)
feeds_append [] y n m = m
feeds_append (b ∷ x) y n m = (n.0, feeds_append x y n.1 m)

digits_above : (f base n : ℕ) → NoFeed (digits_up_to f base n)
digits_above zero base n = tt
digits_above (suc f) base n = go (ltb n base) (digits_above f base (n / base))
  where
    go : (b : Bool) → NoFeed (digits_up_to f base (n / base)) → NoFeed (cond b (digit n ∷ []) (digits_up_to f base (n / base) ++ (digit (n % base) ∷ [])))
    go true ih = (digit-above n, tt)
    go false ih = feeds_append (digits_up_to f base (n / base)) (digit (n % base) ∷ []) ih (digit-above (n % base), tt)

decimal-above : (n : ℕ) → NoFeed (decimal n)
unfolding digits
decimal-above n = digits_above 64 10 n

pub refusal-line : (number node : ℕ) → text_of (refused number node) ≡ first_line (text_of (refused number node))
unfolding text_of
refusal-line number node =
    let xs = refused_word ∷ decimal number ∷ decimal node ∷ [] in
    let word : NoFeed refused_word = (omega arith, (omega arith, (omega arith, (omega arith, (omega arith, (omega arith, (omega arith, tt))))))) in
    sym (ap first_line (sym (append-nil (fields xs))) ∙ one_line xs (word, (decimal-above number, (decimal-above node, tt))) [])

pub header_line : (p : Stmt) → header_text (size p) (loop_depth p) (planned p) ≡ first_line (text_of (passed p))
unfolding header_text text_of
header_line p =
    let xs = ok_word ∷ decimal (size p) ∷ decimal (loop_depth p) ∷ decimal (planned p) ∷ [] in
    let word : NoFeed ok_word = (omega arith, (omega arith, tt)) in
    sym (one_line xs (word, (decimal-above (size p), (decimal-above (loop_depth p), (decimal-above (planned p), tt)))) _)
