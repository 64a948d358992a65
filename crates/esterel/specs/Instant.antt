-- One instant (document 01, "One instant"); the numbers are the rules of Figure 11, which has none for suspend.
use Rattle.std.specs.Prelude.{ℕ, zero, suc, ◌+◌, max, Bool, true, false, not, ◌&&◌, ◌||◌, cond, List, [], ◌∷◌, ◌++◌, length, take, drop, replicate, eqb}
use Rattle.esterel.specs.Statement.{nothing, pause, emit, exit, signal, suspend, loop, trap, Binary, present, sequence, parallel, Stmt, leaf, one, two, kind, size, nodes}

-- the trail: each entry's node, whether it was started or resumed, and the code that it finishes with
pub data Mode : Type 0 where
  started resumed : Mode

pub data Entry : Type 0 where
  entry : (node : ℕ) (mode : Mode) (code : ℕ) → Entry

-- closed: the code, the trail, the bytes of the subtree's nodes (1 at each held pause), the answers not taken.
-- starved: an answer is needed and none is left (check 13). stuck: there is no rule (12).
pub data Result : Type 0 where
  closed : (code : ℕ) (trail : List Entry) (held rest : List ℕ) → Result
  starved : Result
  stuck : Result

abbrev pub zeros : ℕ → List ℕ
zeros n = replicate n 0

-- a statement without children: its entry and its byte
abbrev pub single : ℕ → Mode → (code byte : ℕ) → List ℕ → Result
single node mode k b ans = closed k (entry node mode k ∷ []) (b ∷ []) ans

-- a node with children is entered: its own entry comes before its children's, its own byte, 0, after theirs
abbrev pub enter : ℕ → Mode → Result → Result
enter node mode (closed k t h r) = closed k (entry node mode k ∷ t) (h ++ (0 ∷ [])) r
enter node mode starved = starved
enter node mode stuck = stuck

-- what has run before, with its trail and bytes, then x; `code` is what becomes of x's code
abbrev pub onto : (ℕ → ℕ) → List Entry → List ℕ → Result → Result
onto code t h (closed l u g r) = closed (code l) (t ++ u) (h ++ g) r
onto code t h starved = starved
onto code t h stuck = stuck

-- the child that is not entered leaves n bytes 0, before the other's or after them
abbrev pub zeros_then : ℕ → Result → Result
zeros_then n x = onto (λ l. l) [] (zeros n) x

abbrev pub then_zeros : Result → ℕ → Result
then_zeros (closed k t h r) n = closed k t (h ++ zeros n) r
then_zeros starved n = starved
then_zeros stuck n = stuck

-- a sequence: if the first ends, its second, of n nodes, is started
abbrev pub and_then : Result → ℕ → (List ℕ → Result) → Result
and_then (closed zero t h r) n second = onto (λ l. l) t h (second r)  -- (6)
and_then (closed (suc k) t h r) n second = closed (suc k) t (h ++ zeros n) r  -- (5)
and_then starved n second = starved
and_then stuck n second = stuck

-- a parallel: left, then right, whatever the left did
abbrev pub beside : Result → (List ℕ → Result) → Result
beside (closed k t h r) right = onto (max k) t h (right r)  -- (11)
beside starved right = starved
beside stuck right = stuck

-- a started loop body: where it ends, there is no rule
abbrev pub body : Result → Result
body (closed zero t h r) = stuck
body (closed (suc k) t h r) = closed (suc k) t h r  -- (12)
body starved = starved
body stuck = stuck

-- a resumed loop body: if it ends, it is started once more
abbrev pub again : Result → (List ℕ → Result) → Result
again (closed zero t h r) once = onto (λ l. l) t [] (body (once r))
again (closed (suc k) t h r) once = closed (suc k) t h r
again starved once = starved
again stuck once = stuck

-- a trap: 0 and 2 become 0, 1 stays, each k from 3 becomes k − 1; a trap that catches drops all pauses beneath it
abbrev pub catch : Result → Result
catch (closed zero t h r) = closed 0 t h r  -- (9)
catch (closed (suc zero) t h r) = closed 1 t h r  -- (10)
catch (closed (suc (suc zero)) t h r) = closed 0 t (zeros (length h)) r  -- (9)
catch (closed (suc (suc (suc k))) t h r) = closed (suc (suc k)) t h r  -- (10)
catch starved = starved
catch stuck = stuck

-- p is started with these answers; n is the number of its first node
abbrev pub start : ℕ → Stmt → List ℕ → Result
start n (leaf nothing) ans = single n started 0 0 ans  -- (1)
start n (leaf pause) ans = single n started 1 1 ans  -- (2)
start n (leaf (exit level)) ans = single n started (2 + level) 0 ans  -- (3)
start n (leaf (emit s)) ans = single n started 0 0 ans  -- (4)
start n (two sequence p q) ans =
    enter (n + (size p + size q)) started (and_then (start n p ans) (size q) (λ r. start (n + size p) q r))  -- (5) (6)
start n (two (present s) p q) [] = starved
start n (two (present s) p q) (suc a ∷ ans) = enter (n + (size p + size q)) started (then_zeros (start n p ans) (size q))  -- (7)
start n (two (present s) p q) (zero ∷ ans) = enter (n + (size p + size q)) started (zeros_then (size p) (start (n + size p) q ans))  -- (8)
start n (one trap p) ans = enter (n + size p) started (catch (start n p ans))  -- (9) (10)
start n (two parallel p q) ans =
    enter (n + (size p + size q)) started (beside (start n p ans) (λ r. start (n + size p) q r))  -- (11)
start n (one loop p) ans = enter (n + size p) started (body (start n p ans))  -- (12)
start n (one (signal s) p) ans = enter (n + size p) started (start n p ans)  -- (13) (14)
start n (one (suspend s) p) ans = enter (n + size p) started (start n p ans)

-- some byte is not 0
abbrev pub holds : List ℕ → Bool
holds [] = false
holds (zero ∷ bs) = holds bs
holds (suc b ∷ bs) = true

-- the bytes of the first child p, and of the second child q
abbrev pub first : Stmt → List ℕ → List ℕ
first p held = take (size p) held

abbrev pub second : Stmt → Stmt → List ℕ → List ℕ
second p q held = take (size q) (drop (size p) held)

-- a parallel's child, of n nodes, that holds no pause has ended: it is not entered, and counts as code 0
abbrev pub idle : ℕ → List ℕ → Result
idle n ans = closed 0 [] (zeros n) ans

-- p, whose nodes have the bytes `held`, among them a held pause, is resumed with these answers
abbrev pub resume : ℕ → Stmt → List ℕ → List ℕ → Result
resume n (leaf nothing) held ans = stuck
resume n (leaf pause) held ans = single n resumed 0 0 ans  -- as nothing, (1)
resume n (leaf (exit level)) held ans = stuck
resume n (leaf (emit s)) held ans = stuck
resume n (two sequence p q) held ans =
    enter (n + (size p + size q)) resumed
    (cond (holds (first p held)) (and_then (resume n p (first p held) ans) (size q) (λ r. start (n + size p) q r))  -- (5) (6)
    (zeros_then (size p) (resume (n + size p) q (second p q held) ans)))
resume n (two (present s) p q) held ans =
    enter (n + (size p + size q)) resumed
    (cond (holds (first p held)) (then_zeros (resume n p (first p held) ans) (size q))
    (zeros_then (size p) (resume (n + size p) q (second p q held) ans)))
resume n (one trap p) held ans = enter (n + size p) resumed (catch (resume n p (first p held) ans))  -- (9) (10)
resume n (two parallel p q) held ans =
    enter (n + (size p + size q)) resumed
    (beside (cond (holds (first p held)) (resume n p (first p held) ans) (idle (size p) ans))  -- (11)
    (λ r. cond (holds (second p q held)) (resume (n + size p) q (second p q held) r) (idle (size q) r)))
resume n (one loop p) held ans = enter (n + size p) resumed (again (resume n p (first p held) ans) (λ r. start n p r))  -- (5) (6) (12)
resume n (one (signal s) p) held ans = enter (n + size p) resumed (resume n p (first p held) ans)  -- (13) (14)
resume n (one (suspend s) p) held [] = starved
resume n (one (suspend s) p) held (suc a ∷ ans) = closed 1 (entry (n + size p) resumed 1 ∷ []) held ans
resume n (one (suspend s) p) held (zero ∷ ans) = enter (n + size p) resumed (resume n p (first p held) ans)

-- each 1 stands at a pause, and none is above 1: of the nodes and their bytes
abbrev pub at_pauses : List Stmt → List ℕ → Bool
at_pauses [] [] = true
at_pauses [] (b ∷ h) = false
at_pauses (p ∷ ps) [] = false
at_pauses (p ∷ ps) (b ∷ h) = (eqb b 0 || eqb b 1 && eqb (kind p) 2) && at_pauses ps h

-- no sequence or present holds pauses in both children
abbrev pub apart : Binary → Bool → Bool → Bool
apart (present s) a b = not (a && b)
apart sequence a b = not (a && b)
apart parallel a b = true

abbrev pub one_branch : Stmt → List ℕ → Bool
one_branch (leaf l) h = true
one_branch (one u p) h = one_branch p (first p h)
one_branch (two b p q) h =
    apart b (holds (first p h)) (holds (second p q h)) && (one_branch p (first p h) && one_branch q (second p q h))

-- check 12: at least one byte is 1, each 1 stands at a pause, none is above 1, no sequence or present holds pauses in both children
abbrev pub admitted : Stmt → List ℕ → Bool
admitted p h = holds h && (at_pauses (nodes p) h && one_branch p h)
