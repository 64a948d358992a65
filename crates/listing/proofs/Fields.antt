-- Writing fields one after the other, each with the blank or the line feed after it.
use mathlib.Core.Path.{◌≡◌}
use mathlib.Core.List.{List, [], ◌∷◌, ◌++◌, append_assoc}
use Prim.Native.Nat.{ℕ, ◌+◌, ◌*◌, ◌≤◌}
use native.Mathlib.Nat.{mul-le-mul}
use native.Mathlib.Omega.{arith}
use lib.ListN.{length, length-append}
use Rattle.esterel.specs.Table.{refused}
use Rattle.esterel.specs.Checks.{line}
use Rattle.listing.specs.Text.{decimal, hexadecimal, fields, refused_word, ok_word, line_text, header_text, text_of}
use Rattle.listing.specs.Writer.{HasRoom, Puts}
use Rattle.listing.specs.declared.writer.Writer.{Writer}
use Rattle.listing.proofs.Digits.{few-digits}
use Rattle.listing.proofs.Writing.{Left, left-all, left-next, left-last, left-fits}

-- of bytes that a writer has to put these fields are left
pub record FieldsLeft (first : Writer) (bytes : List ℕ) (now : Writer) (xs : List (List ℕ)) : Type 0 where
  pub left : Left first bytes now (fields xs)

module _ {first : Writer} {bytes : List ℕ} {now : Writer} {x y : List ℕ} {ys : List (List ℕ)} where
  front : FieldsLeft first bytes now (x ∷ (y ∷ ys)) → Left first bytes now ((x ++ (32 ∷ [])) ++ fields (y ∷ ys))
  front o = rw (append_assoc x (32 ∷ []) (fields (y ∷ ys))) o.left

  pub field_next : {new : Writer} → FieldsLeft first bytes now (x ∷ (y ∷ ys)) → Puts now (x ++ (32 ∷ [])) new → FieldsLeft first bytes new (y ∷ ys)
  field_next o w = record { left = left-next (x ++ (32 ∷ [])) (fields (y ∷ ys)) (front o) w }

  pub field_fits : HasRoom first bytes → FieldsLeft first bytes now (x ∷ (y ∷ ys)) → HasRoom now (x ++ (32 ∷ []))
  field_fits h o = omega (arith, left-fits h (front o), length-append (x ++ (32 ∷ [])) (fields (y ∷ ys)))

module _ {first : Writer} {bytes : List ℕ} {now : Writer} {x : List ℕ} where
  pub last_fits : HasRoom first bytes → FieldsLeft first bytes now (x ∷ []) → HasRoom now (x ++ (10 ∷ []))
  last_fits h o = left-fits h o.left

  pub field_last : {new : Writer} → FieldsLeft first bytes now (x ∷ []) → Puts now (x ++ (10 ∷ [])) new → Puts first bytes new
  field_last o w = left-last o.left w

module _ (node kind field K A S mark : ℕ) where
  abbrev pub line_fields : List (List ℕ)
  line_fields = decimal node ∷ decimal kind ∷ decimal field ∷ hexadecimal K ∷ hexadecimal A ∷ hexadecimal S ∷ decimal mark ∷ []

  pub line-left : (w : Writer) → FieldsLeft w (line_text node (line kind field K A S mark)) w line_fields
  unfolding line_text
  line-left w = record { left = left-all w (fields line_fields) }

  pub line-size : length (line_text node (line kind field K A S mark)) ≡ length (decimal node) + length (decimal kind) + length (decimal field) + length (hexadecimal K) + length (hexadecimal A) + length (hexadecimal S) + length (decimal mark) + 7
  unfolding line_text
  line-size = simp length-append (omega arith)

  pub line-short : length (line_text node (line kind field K A S mark)) ≤ 455
  line-short =
      omega (arith, line-size, few-digits 10 node, few-digits 10 kind, few-digits 10 field, few-digits 16 K, few-digits 16 A, few-digits 16 S, few-digits 10 mark)

module _ (number node : ℕ) where
  abbrev pub refusal_fields : List (List ℕ)
  refusal_fields = refused_word ∷ decimal number ∷ decimal node ∷ []

  pub refusal-left : (w : Writer) → FieldsLeft w (text_of (refused number node)) w refusal_fields
  unfolding text_of
  refusal-left w = record { left = left-all w (fields refusal_fields) }

  pub refusal-size : length (text_of (refused number node)) ≡ length (decimal number) + length (decimal node) + 10
  unfolding text_of
  refusal-size = simp length-append (omega arith)

module _ (n d c : ℕ) where
  abbrev pub header_fields : List (List ℕ)
  header_fields = ok_word ∷ decimal n ∷ decimal d ∷ decimal c ∷ []

  pub header_left : (w : Writer) → FieldsLeft w (header_text n d c) w header_fields
  unfolding header_text
  header_left w = record { left = left-all w (fields header_fields) }

  pub header_size : length (header_text n d c) ≡ length (decimal n) + length (decimal d) + length (decimal c) + 6
  unfolding header_text
  header_size = simp length-append (omega arith)

  pub header_short : length (header_text n d c) ≤ 198
  header_short = omega (arith, header_size, few-digits 10 n, few-digits 10 d, few-digits 10 c)

pub planned-few : (n d : ℕ) → n ≤ 1024 → d ≤ 1024 → n * (1 + d) ≤ 1049600
planned-few n d h l = let few : 1 + d ≤ 1025 = omega arith in mul-le-mul h few
