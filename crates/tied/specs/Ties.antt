-- Signals known for certain (F-8): what is known of each signal, and a start under it. The numbers are the rules of Figure 11.
use Rattle.std.specs.Prelude.{ℕ, zero, suc, ◌+◌, cond, List, [], ◌∷◌, eqb, get_or}
use Rattle.esterel.specs.Statement.{nothing, pause, emit, exit, signal, suspend, loop, trap, present, sequence, parallel, Stmt, leaf, one, two, size}
use Rattle.esterel.specs.Instant.{started, Result, starved, single, enter, zeros_then, then_zeros, and_then, beside, body, catch}
use Rattle.tied.specs.declared.Tie.{Tie}
use Rattle.tied.specs.declared.Tie.TheVariants.{Unknown, Absent, Present}

-- of each signal
abbrev pub Ties : Type 0
Ties = ℕ → Tie

-- "0 unknown, 1 absent, 2 present"; check 19 refuses any other byte
abbrev pub tie_of : ℕ → Tie
tie_of zero = Unknown
tie_of (suc zero) = Absent
tie_of (suc (suc b)) = Present

-- by a byte for each signal
abbrev pub ties_of : List ℕ → Ties
ties_of bytes s = tie_of (get_or bytes s 0)

abbrev pub none_tied : Ties
none_tied s = Unknown

-- c, but for the signal s
abbrev pub tie : ℕ → Tie → Ties → Ties
tie s t c x = cond (eqb x s) t (c x)

-- "inside the body of a signal statement that number is unknown"
abbrev pub inside : ℕ → Ties → Ties
inside s c = tie s Unknown c

-- of three that which is for the tie
abbrev pub by_tie : {A : Type 0} → Tie → (free absent present : A) → A
by_tie Unknown x y z = x
by_tie Absent x y z = y
by_tie Present x y z = z

-- a test, with its then branch and its else branch, that is answered from the list
abbrev pub asked : (then other : List ℕ → Result) → List ℕ → Result
asked then other [] = starved
asked then other (suc a ∷ ans) = then ans
asked then other (zero ∷ ans) = other ans

-- that of a tied signal gets the tied answer, and takes none from the list
abbrev pub test : Tie → (then other : List ℕ → Result) → List ℕ → Result
test t then other = by_tie t (asked then other) other then

-- p is started under the ties c with these answers, rule by rule as `start`; n is the number of its first node
abbrev pub start_tied : Ties → ℕ → Stmt → List ℕ → Result
start_tied c n (leaf nothing) ans = single n started 0 0 ans  -- (1)
start_tied c n (leaf pause) ans = single n started 1 1 ans  -- (2)
start_tied c n (leaf (exit level)) ans = single n started (2 + level) 0 ans  -- (3)
start_tied c n (leaf (emit s)) ans = single n started 0 0 ans  -- (4)
start_tied c n (two sequence p q) ans =
    enter (n + (size p + size q)) started (and_then (start_tied c n p ans) (size q) (λ r. start_tied c (n + size p) q r))  -- (5) (6)
start_tied c n (two (present s) p q) ans =
    test (c s)
    (λ r. enter (n + (size p + size q)) started (then_zeros (start_tied c n p r) (size q)))  -- (7)
    (λ r. enter (n + (size p + size q)) started (zeros_then (size p) (start_tied c (n + size p) q r)))  -- (8)
    ans
start_tied c n (one trap p) ans = enter (n + size p) started (catch (start_tied c n p ans))  -- (9) (10)
start_tied c n (two parallel p q) ans =
    enter (n + (size p + size q)) started (beside (start_tied c n p ans) (λ r. start_tied c (n + size p) q r))  -- (11)
start_tied c n (one loop p) ans = enter (n + size p) started (body (start_tied c n p ans))  -- (12)
start_tied c n (one (signal s) p) ans = enter (n + size p) started (start_tied (inside s c) n p ans)  -- (13) (14)
start_tied c n (one (suspend s) p) ans = enter (n + size p) started (start_tied c n p ans)
