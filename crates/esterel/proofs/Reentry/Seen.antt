-- What is seen of the entries of a run: where they stand, that their codes are in A, and in S if the node may be entered again.
use mathlib.Core.Path.{◌≡◌}
use mathlib.Core.Bool.{true}
use mathlib.Core.List.{List}
use Prim.Native.Nat.{ℕ, suc, ◌+◌, ◌≤◌, ◌<◌}
use native.Mathlib.Omega.{arith}
use Rattle.esterel.specs.Statement.{Unary, Binary, present, sequence, parallel, Stmt, leaf, one, two, size}
use Rattle.esterel.specs.Codes.{Codes}
use Rattle.esterel.specs.Sets.{Place, at, context_of, stmt_of, start_set, any_instant_set}
use Rattle.esterel.specs.Instant.{Mode, started, Entry, entry}
use Rattle.esterel.proofs.Reentry.Places.{place_in}

abbrev pub node_of : Entry → ℕ
node_of (entry n m k) = n

abbrev pub mode_of : Entry → Mode
mode_of (entry n m k) = m

-- The nodes that a start of p, whose nodes are those from n on, may enter: not those of a second child whose first cannot end at once.
abbrev pub Opens : Binary → Stmt → Type 0
Opens (present s) p = Unit {0}
Opens sequence p = start_set p 0 ≡ true
Opens parallel p = Unit {0}

abbrev pub Live : ℕ → Stmt → ℕ → Type 0
Live n (leaf l) i = Unit {0}
Live n (one u p) i = i < n + size p → Live n p i
Live n (two b p q) i = (i < n + size p → Live n p i) × (n + size p ≤ i → i < n + (size p + size q) → Opens b p × Live (n + size p) q i)

-- Their own node is among them.
pub live-one : (n : ℕ) (u : Unary) (p : Stmt) → Live n (one u p) (n + size p)
live-one n u p hi = absurd (omega arith)

pub live-two : (n : ℕ) (b : Binary) (p q : Stmt) → Live n (two b p q) (n + (size p + size q))
live-two n b p q = (λ hi. absurd (omega arith), λ lo hi. absurd (omega arith))

-- From a child up. (Down it is the definition.)
pub live-first : (n : ℕ) (b : Binary) (p q : Stmt) (i : ℕ) → i < n + size p → Live n p i → Live n (two b p q) i
live-first n b p q i h l = (λ hi. l, λ lo hi. absurd (omega arith))

pub live-second : (n : ℕ) (b : Binary) (p q : Stmt) (i : ℕ) → n + size p ≤ i → Opens b p → Live (n + size p) q i → Live n (two b p q) i
live-second n b p q i h o l = (λ hi. absurd (omega arith), λ lo hi. (o, l))

module _ (xs : List Place) where
  abbrev pub InA : Entry → Type 0
  InA (entry n m k) = any_instant_set (stmt_of (place_in xs n)) k ≡ true

  abbrev pub InS : Entry → Type 0
  InS (entry n m k) = context_of (place_in xs n) k ≡ true

  -- of an entry and a later one of the same node: the earlier code is in S, and the later one is a start
  abbrev pub Again : Entry → Entry → Type 0
  Again e e' = node_of e ≡ node_of e' → InS e × (mode_of e' ≡ started)

  -- an entry of a run over the s nodes from n on that came to the code k: its node is one of these, its code is in A, and if k is in P
  -- and the node in L, the code is in S
  pub record Seen (n s : ℕ) (L : ℕ → Type 0) (P : Codes) (k : ℕ) (e : Entry) : Type 0 where
    pub lo : n ≤ node_of e
    pub hi : node_of e < n + s
    pub any : InA e
    pub back : L (node_of e) → P k ≡ true → InS e

  -- an entry of a start
  pub record Fresh (L : ℕ → Type 0) (e : Entry) : Type 0 where
    pub live : L (node_of e)
    pub mode : mode_of e ≡ started

  module _ {n s n' s' : ℕ} {L L' : ℕ → Type 0} {P P' : Codes} {k k' : ℕ} (le : n' ≤ n) (up : n + s ≤ n' + s')
      (down : (i : ℕ) → n ≤ i → i < n + s → L' i → P' k' ≡ true → L i × (P k ≡ true)) where
    -- from a child to its parent
    pub lift : (e : Entry) → Seen n s L P k e → Seen n' s' L' P' k' e
    lift e o =
        record {
          lo = omega (arith, o.lo);
          hi = omega (arith, o.hi);
          any = o.any;
          back = λ l c. let z = down (node_of e) o.lo o.hi l c in o.back z.0 z.1;
        }

    pub lift-both : ((i : ℕ) → n ≤ i → i < n + s → L i → L' i) → (e : Entry) → Seen n s L P k e × Fresh L e → Seen n' s' L' P' k' e × Fresh L' e
    lift-both f e o = (lift e o.0, record { live = f (node_of e) o.0.lo o.0.hi o.1.live; mode = o.1.mode })

  -- the statement's own entry, the last of s + 1 nodes
  pub own-seen : {L : ℕ → Type 0} (w : Stmt) (n s d t : ℕ) (P : Codes) (m : Mode) (k : ℕ) → place_in xs (n + s) ≡ at d t P w → any_instant_set w k ≡ true → Seen n (suc s) L P k (entry (n + s) m k)
  own-seen w n s d t P m k e a = record { lo = omega arith; hi = omega arith; any = rw e a; back = λ l c. rw e c }

  -- entries of different nodes
  pub apart : {n s n' s' : ℕ} {L L' : ℕ → Type 0} {P P' : Codes} {k k' : ℕ} → n + s ≤ n' → (e e' : Entry) → Seen n s L P k e → Seen n' s' L' P' k' e' → Again e e'
  apart h e e' o o' z = absurd (omega (arith, o.hi, o'.lo))

  pub before-own : {n s : ℕ} {L : ℕ → Type 0} {P : Codes} {k : ℕ} (m : Mode) (j : ℕ) (e : Entry) → Seen n s L P k e → Again (entry (n + s) m j) e
  before-own m j e o z = absurd (omega (arith, o.hi))
