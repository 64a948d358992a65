-- The nodes looked at: where they lie, that none is looked at twice, how many there are, and that the asked one is among them.
use mathlib.Core.Path.{◌≡◌, sym, subst}
use mathlib.Core.Bool.{Bool, true, false, cond}
use mathlib.Core.List.{List, [], ◌∷◌}
use Prim.Native.Nat.{ℕ, zero, suc, ◌+◌, ◌-◌, ◌≤◌, ◌<◌}
use native.Mathlib.Omega.{arith}
use lib.Dec.{ltb}
use lib.ListN.{length, length-append}
use borrow.Author.Tests.{le-ltb, lt-ltb}
use Rattle.esterel.specs.Codes.{Codes, without_ended}
use Rattle.esterel.specs.Sets.{start_set}
use Rattle.esterel.specs.Statement.{signal, suspend, loop, trap, present, sequence, parallel, Stmt, leaf, one, two, size}
use Rattle.esterel.specs.Outcome.{member}
use Rattle.esterel.proofs.Sizes.{size_pos}
use Rattle.question.specs.Question.{Found, found, nodes_of, asking, after, or_else, asks_second, and_then, max_code, limited, range, whole, look, question}
use Rattle.question.specs.Theorems.{NoneTwice}
use Rattle.question.proofs.Lists.{Between, wider, between-append, elsewhere, first-is, none-append, length-range, range-between, range-once, in_range}

pub limited_in : (k : ℕ) (x : Found) → k ≤ max_code → limited k x ≡ x
limited_in k x h = rw (le-ltb max_code k h)

pub limited_out : (k : ℕ) (x : Found) → max_code < k → limited k x ≡ found false []
limited_out k x h = rw (lt-ltb max_code k h)

-- what is found of a statement of n nodes from i on
pub record Fits (i n : ℕ) (x : Found) : Type 0 where
  pub between : Between i (i + n) (nodes_of x)
  pub once : NoneTwice (nodes_of x)
  pub most : length (nodes_of x) ≤ n

none-fits : (i n : ℕ) (b : Bool) → Fits i n (found b [])
none-fits i n b = record { between = tt; once = tt; most = omega arith }

whole-fits : (i : ℕ) (p : Stmt) (k : ℕ) → Fits i (size p) (whole i p k)
whole-fits i p k = record { between = range-between i (size p); once = range-once i (size p); most = omega (arith, length-range i (size p)) }

asking-fits : (i n : ℕ) (x : Found) → Fits i n x → Fits i (suc n) (asking (i + n) x)
asking-fits i n (found b ns) o =
    record {
      between = (omega arith, omega arith, wider i (i + n) i (i + suc n) ns (omega arith) (omega arith) o.between);
      once = (elsewhere i (i + n) ns o.between (i + n) (λ l r. omega arith), o.once);
      most = omega (arith, o.most);
    }

after-fits : (i n m : ℕ) (b : Bool) (ns : List ℕ) (y : Found) → Fits i n (found b ns) → Fits (i + n) m y → Fits i (n + m) (after ns y)
after-fits i n m b ns (found c ms) o x =
    record {
      between =
          between-append i (i + (n + m)) ns ms (wider i (i + n) i (i + (n + m)) ns (omega arith) (omega arith) o.between)
          (wider (i + n) (i + n + m) i (i + (n + m)) ms (omega arith) (omega arith) x.between);
      once = none-append i (i + n) (i + n + m) ns ms o.between x.between o.once x.once;
      most = omega (arith, length-append ns ms, o.most, x.most);
    }

else_fits : (i n m : ℕ) (x y : Found) → Fits i n x → Fits (i + n) m y → Fits i (n + m) (or_else x y)
else_fits i n m (found true ns) y o z =
    record { between = wider i (i + n) i (i + (n + m)) ns (omega arith) (omega arith) o.between; once = o.once; most = omega (arith, o.most) }
else_fits i n m (found false ns) y o z = after-fits i n m false ns y o z

by-test : (i n : ℕ) (b : Bool) (x y : Found) → Fits i n x → Fits i n y → Fits i n (cond b x y)
by-test i n true x y o z = o
by-test i n false x y o z = z

then-fits : (i n : ℕ) (a : Codes) (k : ℕ) (y : Found) → Fits i n y → Fits i n (and_then a k y)
then-fits i n a k y o = by-test i n (asks_second a k) y (found (without_ended a k) []) o (none-fits i n (without_ended a k))

limited-fits : (i n k : ℕ) (x : Found) → Fits i n x → Fits i n (limited k x)
limited-fits i n k x o = by-test i n (ltb max_code k) (found false []) x (none-fits i n false) o

pub look-fits : (i : ℕ) (p : Stmt) (k : ℕ) → Fits i (size p) (look i p k)
look-fits i (leaf l) k = whole-fits i (leaf l) k
look-fits i (one (signal s) p) k = asking-fits i (size p) (look i p k) (look-fits i p k)
look-fits i (one (suspend s) p) k = asking-fits i (size p) (look i p k) (look-fits i p k)
look-fits i (one loop p) zero = asking-fits i (size p) (found false []) (none-fits i (size p) false)
look-fits i (one loop p) (suc k) = asking-fits i (size p) (look i p (suc k)) (look-fits i p (suc k))
look-fits i (one trap p) zero = whole-fits i (one trap p) 0
look-fits i (one trap p) (suc zero) = asking-fits i (size p) (look i p 1) (look-fits i p 1)
look-fits i (one trap p) (suc (suc k)) =
    let up = suc (suc (suc k)) in
    asking-fits i (size p) (limited up (look i p up)) (limited-fits i (size p) up (look i p up) (look-fits i p up))
look-fits i (two (present s) p q) k =
    asking-fits i (size p + size q) (or_else (look i p k) (look (i + size p) q k)) (else_fits i (size p) (size q) (look i p k) (look (i + size p) q k) (look-fits i p k) (look-fits (i + size p) q k))
look-fits i (two sequence p q) k =
    let second = and_then (start_set p) k (look (i + size p) q k) in
    asking-fits i (size p + size q) (after (range i (size p)) second)
    (after-fits i (size p) (size q) (start_set p k) (range i (size p)) second (whole-fits i p k) (then-fits (i + size p) (size q) (start_set p) k (look (i + size p) q k) (look-fits (i + size p) q k)))
look-fits i (two parallel p q) k = whole-fits i (two parallel p q) k

pub question-fits : (i : ℕ) (p : Stmt) (k : ℕ) → Fits i (size p) (question i p k)
question-fits i p k = limited-fits i (size p) k (look i p k) (look-fits i p k)

-- the asked node
pub asked_is : (n m : ℕ) (x : Found) → n ≡ m → member n (nodes_of (asking m x)) ≡ true
asked_is n m (found b ns) e = subst (λ k. member k (m ∷ ns) ≡ true) (sym e) (first-is m ns)

whole-asked : (i : ℕ) (p : Stmt) (k : ℕ) → member (i + size p - 1) (nodes_of (whole i p k)) ≡ true
whole-asked i p k = in_range i (size p) (i + size p - 1) (omega (arith, size_pos p)) (omega (arith, size_pos p))

pub asked-looked : (i : ℕ) (p : Stmt) (k : ℕ) → member (i + size p - 1) (nodes_of (look i p k)) ≡ true
asked-looked i (leaf l) k = whole-asked i (leaf l) k
asked-looked i (one (signal s) p) k = asked_is _ (i + size p) (look i p k) (omega arith)
asked-looked i (one (suspend s) p) k = asked_is _ (i + size p) (look i p k) (omega arith)
asked-looked i (one loop p) zero = asked_is _ (i + size p) (found false []) (omega arith)
asked-looked i (one loop p) (suc k) = asked_is _ (i + size p) (look i p (suc k)) (omega arith)
asked-looked i (one trap p) zero = whole-asked i (one trap p) 0
asked-looked i (one trap p) (suc zero) = asked_is _ (i + size p) (look i p 1) (omega arith)
asked-looked i (one trap p) (suc (suc k)) = asked_is _ (i + size p) (limited (suc (suc (suc k))) (look i p (suc (suc (suc k))))) (omega arith)
asked-looked i (two (present s) p q) k = asked_is _ (i + (size p + size q)) (or_else (look i p k) (look (i + size p) q k)) (omega arith)
asked-looked i (two sequence p q) k = asked_is _ (i + (size p + size q)) (after (range i (size p)) (and_then (start_set p) k (look (i + size p) q k))) (omega arith)
asked-looked i (two parallel p q) k = whole-asked i (two parallel p q) k
