-- The numbers and the nodes of refusals.
use mathlib.Core.Path.{◌≡◌, refl, sym, ap, subst, ◌∙◌}
use mathlib.Core.Bool.{Bool, true, false, ◌||◌, cond}
use mathlib.Core.Option.{Option, none, some}
use mathlib.Core.List.{List, [], ◌∷◌}
use Prim.Native.Nat.{ℕ, zero, suc, ◌+◌, ◌*◌, ◌%◌, ◌≤◌, ◌<◌}
use native.Mathlib.Omega.{arith}
use lib.ListN.{length}
use lib.Dec.{eqb, ltb}
use borrow.Author.Tests.{ltb-false}
use Rattle.esterel.specs.Limits.{max_nodes}
use Rattle.esterel.specs.Statement.{Stmt}
use Rattle.esterel.specs.Codes.{empty}
use Rattle.esterel.specs.Sets.{Place, places_of}
use Rattle.esterel.specs.Table.{Node, takes0, takes1, takes2, faulty, plain, kinds, node_of, Step, go_on, fault, push, Verdict, passed, refused, step, scan, check_length, read}
use Rattle.esterel.specs.Checks.{too_deep, too_many_traps, uncaught, ends_at_once, first_node, refuse_at, check_places, check_program}
use Rattle.esterel.specs.Theorems.{Refusals}
use Rattle.esterel.proofs.Every.{Every, also, every_at}
use Rattle.esterel.proofs.Every as every
use Rattle.esterel.proofs.Reading.{length-postfix, scan-is}
use Rattle.esterel.proofs.Accepted.{length-places}

-- the number of a check from 1 on, up to `most`, and a node that a table can have
pub record Numbered (most number node : ℕ) : Type 0 where
  pub some : 1 ≤ number
  pub known : number ≤ most
  pub within : node < max_nodes

-- of the refusal that a verdict is
pub data Told (most : ℕ) : Verdict → Type 0 where
  passes : (p : Stmt) → Told most (passed p)
  refuses : (number node : ℕ) → Numbered most number node → Told most (refused number node)

pub told-numbered : {most number node : ℕ} → Told most (refused number node) → Numbered most number node
told-numbered (refuses number node o) = o

told_more : {most : ℕ} (more : ℕ) {v : Verdict} → most ≤ more → Told most v → Told more v
told_more more h (passes p) = passes p
told_more more h (refuses number node o) = refuses number node record { some = o.some; known = omega (arith, o.known); within = o.within }

-- a verdict is of one kind, and a refusal of one number
pub one-program : {v : Verdict} {p q : Stmt} → v ≡ passed p → v ≡ passed q → p ≡ q
one-program e f = let z = sym e ∙ f in cc

pub one-refusal : {v : Verdict} {a b c d : ℕ} → v ≡ refused a b → v ≡ refused c d → (a ≡ c) × (b ≡ d)
one-refusal e f = (cc, cc)

pub passed-refused : {v : Verdict} {p : Stmt} {number node : ℕ} → v ≡ passed p → v ≡ refused number node → ⊥
passed-refused e f = let z : ◌≡◌ {A = ℕ} 0 1 = cc in omega arith

pub other-number : {a b number node : ℕ} → (a ≡ number → ⊥) → refused a b ≡ refused number node → ⊥
other-number d e = d cc

-- ---- checks 1, 2 and 4 to 7

-- what a node's bytes say has such a number, up to 7
data Faulty : Node → Type 0 where
  leaf : (l : _) → Faulty (takes0 l)
  one : (u : _) → Faulty (takes1 u)
  two : (b : _) → Faulty (takes2 b)
  fails : (number : ℕ) → 1 ≤ number → number ≤ 7 → Faulty (faulty number)

plain-faulty : {x : Node} → Faulty x → (f : ℕ) → Faulty (plain x f)
plain-faulty o zero = o
plain-faulty o (suc f) = fails 5 (omega arith) (omega arith)

kinds-faulty : Every (λ (g : ℕ → Node). (f : ℕ) → Faulty (g f)) kinds
kinds-faulty =
    also (λ f. fails 4 (omega arith) (omega arith))
    (also (plain-faulty (leaf _)) (also (plain-faulty (leaf _)) (also (λ f. leaf _) (also (λ f. leaf _) (also (λ f. one _)
    (also (λ f. two _) (also (λ f. one _) (also (plain-faulty (one _)) (also (plain-faulty (two _)) (also (plain-faulty (two _)) (also (plain-faulty (one _)) every.none)))))))))))

node-faulty : (k f : ℕ) → Faulty (node_of k f)
node-faulty k f = every_at _ (λ g. fails 4 (omega arith) (omega arith)) kinds-faulty k f

data Stepped : Step → Type 0 where
  goes : (stack : List Stmt) → Stepped (go_on stack)
  stops : (number : ℕ) → 1 ≤ number → number ≤ 7 → Stepped (fault number)

push-stepped : {x : Node} → Faulty x → (stack : List Stmt) → Stepped (push x stack)
push-stepped (fails number a b) stack = stops number a b
push-stepped (leaf l) stack = goes _
push-stepped (one u) [] = stops 6 (omega arith) (omega arith)
push-stepped (one u) (p ∷ stack) = goes _
push-stepped (two b) [] = stops 6 (omega arith) (omega arith)
push-stepped (two b) (q ∷ []) = stops 6 (omega arith) (omega arith)
push-stepped (two b) (q ∷ (p ∷ stack)) = goes _

step-told : {x : Step} → Stepped x → (n : ℕ) (next : List Stmt → Verdict) → n < max_nodes → ((stack : List Stmt) → Told 7 (next stack)) → Told 7 (step x n next)
step-told (goes stack) n next h later = later stack
step-told (stops number a b) n next h later = refuses number n record { some = a; known = b; within = h }

scan-told : (bytes : List ℕ) (n : ℕ) (stack : List Stmt) → 2 * n + length bytes ≤ 2 * max_nodes → Told 7 (scan bytes n stack)
scan-told [] n [] h = refuses 2 0 record { some = omega arith; known = omega arith; within = omega arith }
scan-told [] n (p ∷ []) h = passes p
scan-told [] n (p ∷ (q ∷ stack)) h = refuses 7 0 record { some = omega arith; known = omega arith; within = omega arith }
scan-told (k ∷ []) n stack h = refuses 2 0 record { some = omega arith; known = omega arith; within = omega arith }
scan-told (k ∷ (f ∷ bytes)) n stack h =
    step-told (push-stepped (node-faulty k f) stack) n (λ s. scan bytes (suc n) s) (omega arith) (λ s. scan-told bytes (suc n) s (omega arith))

-- a length that passes checks 1 and 2 is a table's
pub length-told : (bytes : List ℕ) (next : Verdict) (most : ℕ) → 2 ≤ most → (length bytes ≤ 2 * max_nodes → Told most next) → Told most (check_length bytes next)
length-told bytes next most h later = go (ltb (2 * max_nodes) (length bytes)) refl (eqb (length bytes) 0 || eqb (length bytes % 2) 1)
  where
    go : (a : Bool) → ltb (2 * max_nodes) (length bytes) ≡ a → (b : Bool) → Told most (cond a (refused 1 0) (cond b (refused 2 0) next))
    go true e b = refuses 1 0 record { some = omega arith; known = omega arith; within = omega arith }
    go false e true = refuses 2 0 record { some = omega arith; known = omega arith; within = omega arith }
    go false e false = later (ltb-false (2 * max_nodes) (length bytes) e)

-- so has the refusal of a table that is not read
pub read_told : (bytes : List ℕ) → Told 7 (read bytes)
read_told bytes = length-told bytes (scan bytes 0 []) 7 (omega arith) (λ h. scan-told bytes 0 [] (omega arith))

-- ---- checks 8 to 11: a node that is found is one of the places'

abbrev pub Below : ℕ → Option ℕ → Type 0
Below m none = Unit {0}
Below m (some k) = k < m

pub first_below : (test : Place → Bool) (ps : List Place) (n m : ℕ) → n + length ps ≤ m → Below m (first_node test ps n)
first_below test [] n m h = tt
first_below test (x ∷ ps) n m h = go (test x) (first_below test ps (suc n) m (omega arith))
  where
    go : (b : Bool) → Below m (first_node test ps (suc n)) → Below m (cond b (some n) (first_node test ps (suc n)))
    go true later = omega arith
    go false later = later

refuse-told : (number : ℕ) (o : Option ℕ) (next : Verdict) → 1 ≤ number → number ≤ 11 → Below max_nodes o → Told 11 next → Told 11 (refuse_at number o next)
refuse-told number none next a b h later = later
refuse-told number (some node) next a b h later = refuses number node record { some = a; known = b; within = h }

places-told : (ps : List Place) (next : Verdict) → length ps ≤ max_nodes → Told 11 next → Told 11 (check_places ps next)
places-told ps next h later =
    let below : (test : Place → Bool) → Below max_nodes (first_node test ps 0) = λ test. first_below test ps 0 max_nodes (omega arith) in
    refuse-told 8 (first_node too_deep ps 0) _ (omega arith) (omega arith) (below too_deep)
    (refuse-told 9 (first_node too_many_traps ps 0) _ (omega arith) (omega arith) (below too_many_traps)
    (refuse-told 10 (first_node uncaught ps 0) _ (omega arith) (omega arith) (below uncaught)
    (refuse-told 11 (first_node ends_at_once ps 0) next (omega arith) (omega arith) (below ends_at_once) later)))

-- a program that was read has few nodes
pub program-told : (bytes : List ℕ) → length bytes ≤ 2 * max_nodes → Told 11 (check_program (scan bytes 0 []))
program-told bytes h = go (scan bytes 0 []) refl (scan-told bytes 0 [] (omega arith))
  where
    go : (v : Verdict) → scan bytes 0 [] ≡ v → Told 7 v → Told 11 (check_program v)
    go (refused number node) e o = told_more 11 (omega arith) o
    go (passed p) e o = places-told (places_of p) (passed p) (omega (arith, length-places p 1 0 empty, length-postfix p, ap length (scan-is bytes 0 [] p e))) (passes p)

-- ---- the verdict: checks 1 and 2 come first, whichever follow

pub length-first : (bytes : List ℕ) (v : Verdict) → check_program (check_length bytes v) ≡ check_length bytes (check_program v)
length-first bytes v = go (ltb (2 * max_nodes) (length bytes)) (eqb (length bytes) 0 || eqb (length bytes % 2) 1)
  where
    go : (a b : Bool) → check_program (cond a (refused 1 0) (cond b (refused 2 0) v)) ≡ cond a (refused 1 0) (cond b (refused 2 0) (check_program v))
    go true b = refl
    go false true = refl
    go false false = refl

pub refusals : Refusals
refusals bytes number node e =
    let o = told-numbered (subst (Told 11) (sym (length-first bytes (scan bytes 0 [])) ∙ e) (length-told bytes _ 11 (omega arith) (program-told bytes))) in
    (o.some, o.known, o.within)
