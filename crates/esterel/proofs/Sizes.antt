-- Sizes of statements, and the bounds on an instant's entries.
use mathlib.Core.Path.{◌≡◌, refl}
use mathlib.Core.List.{List, [], ◌∷◌, ◌++◌, map, map-append}
use Prim.Native.Nat.{ℕ, suc, ◌+◌, ◌*◌, ◌≤◌, ◌<◌, max}
use native.Mathlib.Nat.{mul-le-mul_left, le-max_left, le-max_right}
use native.Mathlib.Omega.{arith}
use lib.ListN.{length, length-append}
use Rattle.esterel.specs.Statement.{Unary, signal, suspend, loop, trap, Stmt, leaf, one, two, size, nodes, loops_under, loop_depth, loops_around}
use Rattle.esterel.specs.Checks.{planned}
use Rattle.esterel.specs.Theorems.{total, entry_bound}

pub length-nodes : (p : Stmt) → length (nodes p) ≡ size p
length-nodes (leaf l) = refl
length-nodes (one u p) = simp (length-append, length-nodes p) (omega arith)
length-nodes (two b p q) = simp (length-append, length-nodes p, length-nodes q) (omega arith)

pub size_pos : (p : Stmt) → 0 < size p
size_pos (leaf l) = omega arith
size_pos (one u p) = omega arith
size_pos (two b p q) = omega arith

-- the body of a resumed loop, of n nodes, may be started once more
abbrev pub repeats : Unary → ℕ → ℕ
repeats (signal s) n = 0
repeats (suspend s) n = 0
repeats loop n = n
repeats trap n = 0

-- the most entries of a resumption of p
abbrev pub load : Stmt → ℕ
load (leaf l) = 1
load (one u p) = suc (load p + repeats u (size p))
load (two b p q) = suc (load p + load q)

pub size-load : (p : Stmt) → size p ≤ load p
size-load (leaf l) = omega arith
size-load (one u p) = omega (arith, size-load p)
size-load (two b p q) = omega (arith, size-load p, size-load q)

planned-one : (u : Unary) (n d : ℕ) → suc (n * (1 + d) + repeats u n) ≤ suc n * (1 + loops_under u d)
planned-one (signal s) n d = omega arith
planned-one (suspend s) n d = omega arith
planned-one loop n d = omega arith
planned-one trap n d = omega arith

planned-two : (a b c d : ℕ) → suc (a * (1 + c) + b * (1 + d)) ≤ suc (a + b) * (1 + max c d)
planned-two a b c d = omega (arith, mul-le-mul_left a (le-max_left c d), mul-le-mul_left b (le-max_right c d))

-- it is at most n(1 + d)
pub load-planned : (p : Stmt) → load p ≤ planned p
load-planned (leaf l) = omega arith
load-planned (one u p) = omega (arith, load-planned p, planned-one u (size p) (loop_depth p))
load-planned (two b p q) = omega (arith, load-planned p, load-planned q, planned-two (size p) (size q) (loop_depth p) (loop_depth q))

total-append : (xs ys : List ℕ) → total (xs ++ ys) ≡ total xs + total ys
total-append [] ys = omega arith
total-append (x ∷ xs) ys = omega (arith, total-append xs ys)

under_one : (u : Unary) (n m : ℕ) → loops_under u n * m ≡ n * m + repeats u m
under_one (signal s) n m = omega arith
under_one (suspend s) n m = omega arith
under_one loop n m = omega arith
under_one trap n m = omega arith

-- n loops around p add n for each of its nodes
around : (n : ℕ) (p : Stmt) → total (map suc (loops_around n p)) ≡ load p + n * size p
around n (leaf l) = omega arith
around n (one u p) =
    simp (map-append, total-append) (omega (arith, around (loops_under u n) p, under_one u n (size p)))
around n (two b p q) = simp (map-append, total-append) (omega (arith, around n p, around n q))

-- it is the sum over the nodes of 1 + the loops around each
pub load-bound : (p : Stmt) → load p ≡ entry_bound p
load-bound p = omega (arith, around 0 p)
