-- The state that a resumption begins with: its bytes are 0 or 1, so the prefix counts grow by each of them.
use mathlib.Core.Path.{◌≡◌, refl, ap, ◌∙◌}
use mathlib.Core.Bool.{true}
use mathlib.Core.List.{List, [], ◌∷◌}
use Prim.Native.Nat.{ℕ, zero, suc, ◌+◌, ◌≤◌, ◌<◌}
use native.Mathlib.Omega.{arith}
use lib.Dec.{eqb-suc-zero, eqb-suc-suc}
use lib.ListN.{length, get_or, take}
use lib.Seq.{take-suc, get_or-take}
use Rattle.codes.proofs.Bools.{left, right}
use Rattle.esterel.specs.Statement.{Stmt, size, nodes}
use Rattle.esterel.specs.Instant.{holds, at_pauses, one_branch, admitted}
use Rattle.instant.specs.Admission.{count_held, Counted, byte_fits}
use Rattle.instant.proofs.Admits.{count-append}

-- a byte that fits is 0 or 1, and counts as itself
byte_small : (w : Stmt) (b : ℕ) → byte_fits w b ≡ true → b ≤ 1
byte_small w zero e = omega arith
byte_small w (suc zero) e = omega arith
byte_small w (suc (suc b)) e = let f = rw (eqb-suc-zero, eqb-suc-suc, eqb-suc-zero) at e in let z : ◌≡◌ {A = ℕ} 0 1 = cc in absurd (omega arith)

count_byte : (b : ℕ) → b ≤ 1 → count_held (b ∷ []) ≡ b
count_byte zero e = refl
count_byte (suc zero) e = refl
count_byte (suc (suc b)) e = absurd (omega arith)

pub small_bytes : (ps : List Stmt) (h : List ℕ) → at_pauses ps h ≡ true → (i : ℕ) → get_or h i 0 ≤ 1
small_bytes [] [] e i = omega arith
small_bytes [] (b ∷ h) e i = let z : ◌≡◌ {A = ℕ} 0 1 = cc in absurd (omega arith)
small_bytes (p ∷ ps) [] e i = let z : ◌≡◌ {A = ℕ} 0 1 = cc in absurd (omega arith)
small_bytes (p ∷ ps) (b ∷ h) e zero = byte_small p b (left (byte_fits p b) (at_pauses ps h) e)
small_bytes (p ∷ ps) (b ∷ h) e (suc i) = small_bytes ps h (right (byte_fits p b) e) i

pub admitted-small : (p : Stmt) (h : List ℕ) → admitted p h ≡ true → (i : ℕ) → get_or h i 0 ≤ 1
admitted-small p h e = small_bytes (nodes p) h (left (at_pauses (nodes p) h) (one_branch p h) (right (holds h) e))

module _ (p : Stmt) (held counts : List ℕ) (long : size p ≤ length held) (c : Counted held counts (size p)) where
  pub counts_rise : admitted p (take (size p) held) ≡ true → (j : ℕ) → j < size p → get_or counts (suc j) 0 ≡ get_or counts j 0 + get_or held j 0
  counts_rise e j h =
      let byte = get_or-take (size p) held j 0 h in
      let one = count_byte (get_or held j 0) (omega (arith, byte, admitted-small p (take (size p) held) e j)) in
      c.entry (suc j) (omega arith)
      ∙ ap count_held (take-suc held j 0 (omega arith))
      ∙ count-append (take j held) (get_or held j 0 ∷ [])
      ∙ (let left = c.entry j (omega arith) in rw (← left, one))
