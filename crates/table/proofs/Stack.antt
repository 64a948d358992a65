-- One node more on the stack of the statements that are not used so far: the code's checks of a node are the theory's step.
use mathlib.Core.Path.{◌≡◌}
use mathlib.Core.Bool.{cond, not}
use mathlib.Core.List.{List, [], ◌∷◌}
use Prim.Native.Nat.{ℕ, zero, suc, ◌+◌}
use native.Mathlib.Omega.{arith}
use borrow.Author.Tests.{le-ltb}
use lib.Dec.{eqb, ltb, eqb-suc-zero}
use lib.ListN.{length}
use Rattle.esterel.specs.Statement.{Leaf, nothing, pause, emit, exit, Unary, signal, suspend, loop, trap, Binary, present, sequence, parallel, Stmt, leaf, one, two}
use Rattle.esterel.specs.Table.{Node, takes0, takes1, takes2, plain, node_of, Step, go_on, fault, push}
use Rattle.table.specs.Kinds.{kind_of, arity_of}
use Rattle.table.specs.Check.{node_check}
use Rattle.esterel.specs.Refusal.{Reply, yields, rejects}

-- a step, the children that it takes, and its check: a statement comes in the place of its c children
pub data Stepped (st : List Stmt) (i : ℕ) : Step → ℕ → Reply (Unit {0}) → Type 0 where
  faults : (number c : ℕ) → Stepped st i (fault number) c (rejects number i)
  passes : (p : Stmt) (below : List Stmt) (c : ℕ) → length below + c ≡ length st → Stepped st i (go_on (p ∷ below)) c (yields tt)

module _ (i : ℕ) where
  -- check 6 and the step, by the number of children
  leaf-step : (l : Leaf) (st : List Stmt) → Stepped st i (push (takes0 l) st) 0 (cond (ltb (length st) 0) (rejects 6 i) (yields tt))
  leaf-step l st = rw (le-ltb (length st) 0 (omega arith)) (passes (leaf l) st 0 (omega arith))

  one-step : (u : Unary) (st : List Stmt) → Stepped st i (push (takes1 u) st) 1 (cond (ltb (length st) 1) (rejects 6 i) (yields tt))
  one-step u [] = faults 6 1
  one-step u (p ∷ st) = rw (le-ltb (suc (length st)) 1 (omega arith)) (passes (one u p) st 1 (omega arith))

  two-step : (b : Binary) (st : List Stmt) → Stepped st i (push (takes2 b) st) 2 (cond (ltb (length st) 2) (rejects 6 i) (yields tt))
  two-step b [] = faults 6 2
  two-step b (q ∷ []) = faults 6 2
  two-step b (q ∷ (p ∷ st)) = rw (le-ltb (suc (suc (length st))) 2 (omega arith)) (passes (two b p q) st 2 (omega arith))

  -- check 5 before it
  plainly : (node : Node) {st : List Stmt} {c : ℕ} {r : Reply (Unit {0})} → Stepped st i (push node st) c r → (f : ℕ) → Stepped st i (push (plain node f) st) c (cond (not (eqb f 0)) (rejects 5 i) r)
  plainly node s zero = s
  plainly node {c = c} s (suc f) = rw (eqb-suc-zero f) (faults 5 c)

  -- check 4 before both
  pub stepped : (k f : ℕ) (st : List Stmt) → Stepped st i (push (node_of k f) st) (arity_of (kind_of k)) (node_check (kind_of k) f (length st) i)
  unfolding kind_of node_check
  stepped zero f st = faults 4 0
  stepped (suc zero) f st = plainly (takes0 nothing) (leaf-step nothing st) f
  stepped (suc (suc zero)) f st = plainly (takes0 pause) (leaf-step pause st) f
  stepped (suc (suc (suc zero))) f st = leaf-step (emit f) st
  stepped (suc (suc (suc (suc zero)))) f st = leaf-step (exit f) st
  stepped (suc (suc (suc (suc (suc zero))))) f st = one-step (signal f) st
  stepped (suc (suc (suc (suc (suc (suc zero)))))) f st = two-step (present f) st
  stepped (suc (suc (suc (suc (suc (suc (suc zero))))))) f st = one-step (suspend f) st
  stepped (suc (suc (suc (suc (suc (suc (suc (suc zero)))))))) f st = plainly (takes1 loop) (one-step loop st) f
  stepped (suc (suc (suc (suc (suc (suc (suc (suc (suc zero))))))))) f st = plainly (takes2 sequence) (two-step sequence st) f
  stepped (suc (suc (suc (suc (suc (suc (suc (suc (suc (suc zero)))))))))) f st = plainly (takes2 parallel) (two-step parallel st) f
  stepped (suc (suc (suc (suc (suc (suc (suc (suc (suc (suc (suc zero))))))))))) f st = plainly (takes1 trap) (one-step trap st) f
  stepped (suc (suc (suc (suc (suc (suc (suc (suc (suc (suc (suc (suc k)))))))))))) f st = faults 4 0
