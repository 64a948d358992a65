-- A statement's bytes read back as the statement, and nothing else does.
use mathlib.Core.Path.{◌≡◌, refl, ◌∙◌}
use mathlib.Core.Bool.{Bool, true, false, cond, ◌||◌}
use mathlib.Core.List.{List, [], ◌∷◌, ◌++◌, append_assoc, append-nil}
use Prim.Native.Nat.{ℕ, zero, suc, ◌+◌, ◌*◌, ◌%◌, ◌≤◌}
use native.Mathlib.Nat.{add-suc, add_assoc}
use native.Mathlib.Numerals.{add-one}
use native.Mathlib.Omega.{arith}
use lib.Dec.{eqb, ltb}
use lib.ListN.{length}
use mir.Facts.{no_ltb, no_eqb}
use Rattle.codes.proofs.Bools.{from_not}
use Rattle.esterel.specs.Limits.{max_nodes}
use Rattle.esterel.specs.Statement.{Leaf, nothing, pause, emit, exit, Unary, signal, suspend, loop, trap, Binary, present, sequence, parallel, Stmt, leaf, one, two, kind, field, size, nodes}
use Rattle.esterel.specs.Table.{Node, takes0, takes1, takes2, faulty, node_of, Step, go_on, fault, push, Verdict, passed, refused, step, scan, check_length, read, bytes_of, postfix}
use Rattle.esterel.proofs.Sizes.{length-nodes, size_pos}

pub bytes-append : (ps qs : List Stmt) → bytes_of (ps ++ qs) ≡ bytes_of ps ++ bytes_of qs
bytes-append [] qs = refl
bytes-append (p ∷ ps) qs = rw (bytes-append ps qs)

pub length-bytes : (ps : List Stmt) → length (bytes_of ps) ≡ 2 * length ps
length-bytes [] = refl
length-bytes (p ∷ ps) = omega (arith, length-bytes ps)

pub length-postfix : (p : Stmt) → length (postfix p) ≡ 2 * size p
length-postfix p = length-bytes (nodes p) ∙ rw length-nodes

-- the node of each statement, from its bytes
pub node-leaf : (l : Leaf) → node_of (kind (leaf l)) (field (leaf l)) ≡ takes0 l
node-leaf nothing = refl
node-leaf pause = refl
node-leaf (emit s) = refl
node-leaf (exit level) = refl

pub node-one : (u : Unary) (p : Stmt) → node_of (kind (one u p)) (field (one u p)) ≡ takes1 u
node-one (signal s) p = refl
node-one (suspend s) p = refl
node-one loop p = refl
node-one trap p = refl

pub node-two : (b : Binary) (p q : Stmt) → node_of (kind (two b p q)) (field (two b p q)) ≡ takes2 b
node-two (present s) p q = refl
node-two sequence p q = refl
node-two parallel p q = refl

-- the bytes of p put p on the stack
scans : (p : Stmt) (bytes : List ℕ) (n : ℕ) (stack : List Stmt) → scan (postfix p ++ bytes) n stack ≡ scan bytes (n + size p) (p ∷ stack)
scans (leaf l) bytes n stack = rw (node-leaf l, add-one)
scans (one u p) bytes n stack =
    rw (bytes-append (nodes p) (one u p ∷ []), append_assoc, scans p (bytes_of (one u p ∷ []) ++ bytes) n stack, node-one u p, add-suc)
scans (two b p q) bytes n stack =
    let own = bytes_of (two b p q ∷ []) ++ bytes in
    rw (bytes-append (nodes p ++ nodes q) (two b p q ∷ []), bytes-append (nodes p) (nodes q))
    (simp append_assoc (scans p (postfix q ++ own) n stack ∙ scans q own (n + size p) (p ∷ stack) ∙ rw (node-two b p q, add-suc, add_assoc)))

pub reads-back : (p : Stmt) → size p ≤ max_nodes → read (postfix p) ≡ passed p
reads-back p small =
    let l = length-postfix p in
    let pos = size_pos p in
    let a : ltb (2 * max_nodes) (length (postfix p)) ≡ false = from_not _ (no_ltb {a = 2 * max_nodes} {b = length (postfix p)} (omega arith)) in
    let b : eqb (length (postfix p)) 0 ≡ false = from_not _ (no_eqb {a = length (postfix p)} {b = 0} (omega arith)) in
    let c : eqb (length (postfix p) % 2) 1 ≡ false = from_not _ (no_eqb {a = length (postfix p) % 2} {b = 1} (omega arith)) in
    rw (a, b, c, ← append-nil (postfix p)) (scans p [] 0 [])

-- the other way round. A node's bytes are its kind and its field
data Names : Node → (k f : ℕ) → Type 0 where
  names0 : (l : Leaf) → Names (takes0 l) (kind (leaf l)) (field (leaf l))
  names1 : (u : Unary) {k f : ℕ} → ((p : Stmt) → (kind (one u p) ≡ k) × (field (one u p) ≡ f)) → Names (takes1 u) k f
  names2 : (b : Binary) {k f : ℕ} → ((p q : Stmt) → (kind (two b p q) ≡ k) × (field (two b p q) ≡ f)) → Names (takes2 b) k f
  names-none : (number : ℕ) {k f : ℕ} → Names (faulty number) k f

names : (k f : ℕ) → Names (node_of k f) k f
names zero f = names-none 4
names (suc zero) zero = names0 nothing
names (suc zero) (suc f) = names-none 5
names (suc (suc zero)) zero = names0 pause
names (suc (suc zero)) (suc f) = names-none 5
names (suc (suc (suc zero))) f = names0 (emit f)
names (suc (suc (suc (suc zero)))) f = names0 (exit f)
names (suc (suc (suc (suc (suc zero))))) f = names1 (signal f) (λ p. (refl, refl))
names (suc (suc (suc (suc (suc (suc zero)))))) f = names2 (present f) (λ p q. (refl, refl))
names (suc (suc (suc (suc (suc (suc (suc zero))))))) f = names1 (suspend f) (λ p. (refl, refl))
names (suc (suc (suc (suc (suc (suc (suc (suc zero)))))))) zero = names1 loop (λ p. (refl, refl))
names (suc (suc (suc (suc (suc (suc (suc (suc zero)))))))) (suc f) = names-none 5
names (suc (suc (suc (suc (suc (suc (suc (suc (suc zero))))))))) zero = names2 sequence (λ p q. (refl, refl))
names (suc (suc (suc (suc (suc (suc (suc (suc (suc zero))))))))) (suc f) = names-none 5
names (suc (suc (suc (suc (suc (suc (suc (suc (suc (suc zero)))))))))) zero = names2 parallel (λ p q. (refl, refl))
names (suc (suc (suc (suc (suc (suc (suc (suc (suc (suc zero)))))))))) (suc f) = names-none 5
names (suc (suc (suc (suc (suc (suc (suc (suc (suc (suc (suc zero))))))))))) zero = names1 trap (λ p. (refl, refl))
names (suc (suc (suc (suc (suc (suc (suc (suc (suc (suc (suc zero))))))))))) (suc f) = names-none 5
names (suc (suc (suc (suc (suc (suc (suc (suc (suc (suc (suc (suc k)))))))))))) f = names-none 4

-- the nodes of the statements not used so far
abbrev pub unused : List Stmt → List Stmt
unused [] = []
unused (p ∷ stack) = unused stack ++ nodes p

-- a step takes the root of what it leaves on top
push-is : {node : Node} {k f : ℕ} → Names node k f → (stack st : List Stmt) → push node stack ≡ go_on st → bytes_of (unused st) ≡ bytes_of (unused stack) ++ (k ∷ f ∷ [])
push-is (names0 l) stack st e =
    let z : leaf l ∷ stack ≡ st = cc in
    rw (← z, bytes-append (unused stack) (leaf l ∷ []))
push-is (names1 u is) [] st e = cc
push-is (names1 u is) (p ∷ stack) st e =
    let z : one u p ∷ stack ≡ st = cc in
    rw (← z, ← append_assoc (unused stack) (nodes p) (one u p ∷ []), bytes-append (unused stack ++ nodes p) (one u p ∷ []), (is p).0, (is p).1)
push-is (names2 b is) [] st e = cc
push-is (names2 b is) (q ∷ []) st e = cc
push-is (names2 b is) (q ∷ (p ∷ stack)) st e =
    let z : two b p q ∷ stack ≡ st = cc in
    let w : unused stack ++ nodes (two b p q) ≡ ((unused stack ++ nodes p) ++ nodes q) ++ (two b p q ∷ []) = simp append_assoc in
    rw (← z, w, bytes-append ((unused stack ++ nodes p) ++ nodes q) (two b p q ∷ []), (is p q).0, (is p q).1)
push-is (names-none number) stack st e = cc

pub scan-is : (bytes : List ℕ) (n : ℕ) (stack : List Stmt) (p : Stmt) → scan bytes n stack ≡ passed p → bytes_of (unused stack) ++ bytes ≡ postfix p
scan-is [] n [] p e = cc
scan-is [] n (q ∷ []) p e = let z : q ≡ p = cc in rw (append-nil, z)
scan-is [] n (q ∷ (r ∷ stack)) p e = cc
scan-is (k ∷ []) n stack p e = cc
scan-is (k ∷ (f ∷ bytes)) n stack p e = go (push (node_of k f) stack) refl e (scan-is bytes (suc n))
  where
    go : (s : Step) → push (node_of k f) stack ≡ s → step s n (λ st. scan bytes (suc n) st) ≡ passed p → ((st : List Stmt) (q : Stmt) → scan bytes (suc n) st ≡ passed q → bytes_of (unused st) ++ bytes ≡ postfix q) → bytes_of (unused stack) ++ (k ∷ f ∷ bytes) ≡ postfix p
    go (fault number) z g ih = cc
    go (go_on st) z g ih = (rw (push-is (names k f) stack st z, append_assoc) at (ih st p g))

cond-is : (b : Bool) (number node : ℕ) (next : Verdict) (p : Stmt) → cond b (refused number node) next ≡ passed p → next ≡ passed p
cond-is true number node next p e = cc
cond-is false number node next p e = e

pub length-passed : (bytes : List ℕ) (next : Verdict) (p : Stmt) → check_length bytes next ≡ passed p → next ≡ passed p
length-passed bytes next p e =
    cond-is (eqb (length bytes) 0 || eqb (length bytes % 2) 1) 2 0 next p (cond-is (ltb (2 * max_nodes) (length bytes)) 1 0 _ p e)

pub reads_only_lem : (bytes : List ℕ) (p : Stmt) → read bytes ≡ passed p → bytes ≡ postfix p
reads_only_lem bytes p e = scan-is bytes 0 [] p (length-passed bytes (scan bytes 0 []) p e)
