-- Whatever is tied, each node of an accepted program can finish with some code.
use mathlib.Core.Path.{◌≡◌}
use mathlib.Core.Bool.{true}
use Prim.Native.Nat.{ℕ, zero, suc, ◌+◌, ◌-◌, max}
use Rattle.codes.proofs.Bools.{inl_true}
use Rattle.codes.proofs.Members.{only_in, larger_in, sequence-first, sequence-second, caught_in}
use Rattle.esterel.specs.Codes.{Codes, union, given, without_ended, catch_code}
use Rattle.esterel.specs.Statement.{nothing, pause, emit, exit, signal, suspend, loop, trap, present, sequence, parallel, Stmt, leaf, one, two, size, nodes}
use Rattle.esterel.specs.Sets.{start_set}
use Rattle.esterel.specs.Outcome.{statement_at}
use Rattle.esterel.proofs.Subtrees.{only_child_lem, two-children}
use Rattle.tied.specs.Ties.{Ties, inside}
use Rattle.tied.specs.declared.Tie.{Tie}
use Rattle.tied.specs.declared.Tie.TheVariants.{Unknown, Absent, Present}
use Rattle.tied.specs.Narrowed.{tested, narrowed}

abbrev Some : Codes → Type 0
Some a = (k : ℕ) × (a k ≡ true)

without-some : (a : Codes) → (a 0 ≡ true → ⊥) → Some a → Some (without_ended a)
without-some a f (zero, e) = absurd (f e)
without-some a f (suc k, e) = (suc k, e)

followed-some : (a b : Codes) → Some a → Some b → Some (union (without_ended a) (given (a 0) b))
followed-some a b (zero, e) (l, d) = (l, sequence-second a b l e d)
followed-some a b (suc k, e) d = (suc k, sequence-first a b k e)

tested-some : (t : Tie) (a b : Codes) → Some a → Some b → Some (tested t a b)
tested-some Unknown a b (k, e) d = (k, inl_true (a k) (b k) e)
tested-some Absent a b x d = d
tested-some Present a b x d = x

-- a program whose loops go on, of whose sets under ties K says so too
module _ (p : Stmt) (sound : (i : ℕ) (b : Stmt) → statement_at (nodes p) i ≡ one loop b → start_set b 0 ≡ true → ⊥) (in_k : (c : Ties) (q : Stmt) (k : ℕ) → narrowed c q k ≡ true → start_set q k ≡ true) where
  pub some : (q : Stmt) (i : ℕ) → statement_at (nodes p) i ≡ q → (c : Ties) → Some (narrowed c q)
  some (leaf nothing) i at c = (0, only_in 0)
  some (leaf pause) i at c = (1, only_in 1)
  some (leaf (emit s)) i at c = (0, only_in 0)
  some (leaf (exit level)) i at c = (2 + level, only_in (2 + level))
  some (one (signal s) q) i at c = some q (i - 1) (only_child_lem p i (signal s) q at).1 (inside s c)
  some (one (suspend s) q) i at c = some q (i - 1) (only_child_lem p i (suspend s) q at).1 c
  some (one loop q) i at c = without-some (narrowed c q) (λ e. sound i q at (in_k c q 0 e)) (some q (i - 1) (only_child_lem p i loop q at).1 c)
  some (one trap q) i at c = let (k, e) = some q (i - 1) (only_child_lem p i trap q at).1 c in (catch_code k, caught_in (narrowed c q) k e)
  some (two sequence q r) i at c =
      let (le, right, left) = two-children p i sequence q r at in
      followed-some (narrowed c q) (narrowed c r) (some q (i - 1 - size r) left c) (some r (i - 1) right c)
  some (two (present s) q r) i at c =
      let (le, right, left) = two-children p i (present s) q r at in
      tested-some (c s) (narrowed c q) (narrowed c r) (some q (i - 1 - size r) left c) (some r (i - 1) right c)
  some (two parallel q r) i at c =
      let (le, right, left) = two-children p i parallel q r at in
      let (k, e) = some q (i - 1 - size r) left c in
      let (l, f) = some r (i - 1) right c in
      (max k l, larger_in (narrowed c q) (narrowed c r) k l e f)
