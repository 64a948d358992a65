-- What a statement gives, some start does: over these answers, all taken, whatever follows them.
use mathlib.Core.Path.{◌≡◌, refl, ap, ◌∙◌, subst}
use mathlib.Core.Bool.{Bool, true, false}
use mathlib.Core.Logic.{inl, inr}
use mathlib.Core.List.{List, [], ◌∷◌, ◌++◌, append_assoc}
use Prim.Native.Nat.{ℕ, zero, suc, ◌+◌, ◌≤◌, max}
use native.Mathlib.Nat.{max-eq_left, max-eq_right}
use native.Mathlib.Omega.{arith}
use lib.Dec.{eqb}
use lib.ListN.{length, length-append}
use Rattle.codes.proofs.Members.{only_out}
use Rattle.esterel.specs.Statement.{nothing, pause, emit, exit, signal, suspend, loop, trap, present, sequence, parallel, Stmt, leaf, one, two, size}
use Rattle.esterel.specs.Instant.{started, Entry, entry, Result, closed, starved, zeros, single, enter, onto, zeros_then, then_zeros, and_then, beside, body, catch, start}
use Rattle.starts.specs.Summary.{Starts, Both, Took, IsAbsent, IsPresent, starts, given, only, up_to, without_ended, followed, larger, caught, branched, summary}

-- the run takes exactly u, with n entries, and finishes with code k, whatever follows u
pub record Comes (run : List ℕ → Result) (k : ℕ) (u : List ℕ) (n : ℕ) : Type 0 where
  pub trail : List Entry
  pub held : List ℕ
  pub many : length trail ≡ n
  pub is : (other : List ℕ) → run (u ++ other) ≡ closed k trail held other

-- all that the statement gives, the run does
abbrev Done : (ℕ → Starts) → (List ℕ → Result) → Type 0
Done G run = (k : ℕ) (u : List ℕ) (n : ℕ) → G k u n → Comes run k u n

turned : {run : List ℕ → Result} {k l : ℕ} {u : List ℕ} {n : ℕ} (f : Result → Result) (h : List ℕ → List ℕ) → Comes run k u n → ((t : List Entry) (g r : List ℕ) → f (closed k t g r) ≡ closed l t (h g) r) → Comes (λ a. f (run a)) l u n
turned f h o z = record { trail = o.trail; held = h o.held; many = o.many; is = λ x. ap f (o.is x) ∙ z o.trail o.held x }

enter_comes : {X : Starts} {run : List ℕ → Result} {k n : ℕ} {u : List ℕ} (node : ℕ) → ((v : List ℕ) (m : ℕ) → X v m → Comes run k v m) → Both starts.entry X u n → Comes (λ a. enter node started (run a)) k u n
enter_comes {run = run} {k = k} {u = u} node go b =
    let y = go b.after b.entries_after b.second in
    let z : u ≡ b.after = b.answers ∙ ap (λ l. l ++ b.after) b.first.0 in
    record {
      trail = entry node started k ∷ y.trail;
      held = y.held ++ (0 ∷ []);
      many = omega (arith, y.many, b.entries, b.first.1);
      is = λ x. ap (λ l. enter node started (run (l ++ x))) z ∙ ap (enter node started) (y.is x);
    }

both_comes : {A B : Starts} {run next c : List ℕ → Result} {i j n : ℕ} {u : List ℕ} (code : ℕ → ℕ) → Both A B u n → ((v : List ℕ) (m : ℕ) → A v m → Comes run i v m) → ((v : List ℕ) (m : ℕ) → B v m → Comes next j v m) → ((a : List ℕ) (t : List Entry) (h e : List ℕ) → run a ≡ closed i t h e → c a ≡ onto code t h (next e)) → Comes c (code j) u n
both_comes {c = c} {u = u} code b go on z =
    let x = go b.before b.entries_before b.first in
    let y = on b.after b.entries_after b.second in
    record {
      trail = x.trail ++ y.trail;
      held = x.held ++ y.held;
      many = rw length-append (omega (arith, x.many, y.many, b.entries));
      is = λ o.
          ap (λ l. c (l ++ o)) b.answers ∙ ap c (append_assoc b.before b.after o) ∙
          z (b.before ++ (b.after ++ o)) x.trail x.held (b.after ++ o) (x.is (b.after ++ o)) ∙
          ap (onto code x.trail x.held) (y.is o);
    }

pub up_to_out : (G : ℕ → Starts) (l : ℕ) (u : List ℕ) (n : ℕ) → up_to starts G l u n → (k : ℕ) × (k ≤ l) × G k u n
up_to_out G zero u n x = (0, omega arith, x)
up_to_out G (suc l) u n (inl x) = (suc l, omega arith, x)
up_to_out G (suc l) u n (inr x) = let (k, h, y) = up_to_out G l u n x in (k, omega arith, y)

module _ {G : ℕ → Starts} {run : List ℕ → Result} (go : Done G run) where
  body_comes : Done (without_ended starts G) (λ a. body (run a))
  body_comes zero u n x = absurd x
  body_comes (suc k) u n x = turned body (λ h. h) (go (suc k) u n x) (λ t g r. refl)

  catch_comes : Done (caught starts G) (λ a. catch (run a))
  catch_comes zero u n (inl x) = turned catch (λ h. h) (go 0 u n x) (λ t g r. refl)
  catch_comes zero u n (inr x) = turned catch (λ h. zeros (length h)) (go 2 u n x) (λ t g r. refl)
  catch_comes (suc zero) u n x = turned catch (λ h. h) (go 1 u n x) (λ t g r. refl)
  catch_comes (suc (suc k)) u n x = turned catch (λ h. h) (go (suc (suc (suc k))) u n x) (λ t g r. refl)

  module _ {H : ℕ → Starts} {next : List ℕ → Result} (on : Done H next) where
    then_comes : (m : ℕ) → Done (followed starts G H) (λ a. and_then (run a) m next)
    then_comes m zero u n x = both_comes (λ l. l) x (go 0) (on 0) (λ a t h e z. ap (λ y. and_then y m next) z)
    then_comes m (suc k) u n (inl x) = turned (λ y. and_then y m next) (λ h. h ++ zeros m) (go (suc k) u n x) (λ t g r. refl)
    then_comes m (suc k) u n (inr x) = both_comes (λ l. l) x (go 0) (on (suc k)) (λ a t h e z. ap (λ y. and_then y m next) z)

    joined : {A B : Starts} (i j k : ℕ) (u : List ℕ) (n : ℕ) → max i j ≡ k → Both A B u n → ((v : List ℕ) (m : ℕ) → A v m → G i v m) → ((v : List ℕ) (m : ℕ) → B v m → H j v m) → Comes (λ a. beside (run a) next) k u n
    joined i j k u n e x f g =
        subst (λ l. Comes (λ a. beside (run a) next) l u n) e
        (both_comes (max i) x (λ v m y. go i v m (f v m y)) (λ v m y. on j v m (g v m y)) (λ a t h r z. ap (λ y. beside y next) z))

    beside_comes : Done (larger starts G H) (λ a. beside (run a) next)
    beside_comes k u n (inl x) =
        let (j, le, y) = up_to_out H k x.after x.entries_after x.second in
        joined {A = G k} {B = H j} k j k u n (max-eq_left le)
        record { before = x.before; after = x.after; entries_before = x.entries_before; entries_after = x.entries_after; first = x.first; second = y; answers = x.answers; entries = x.entries }
        (λ v m z. z) (λ v m z. z)
    beside_comes k u n (inr x) =
        let (i, le, y) = up_to_out G k x.before x.entries_before x.first in
        joined {A = G i} {B = H k} i k k u n (max-eq_right le)
        record { before = x.before; after = x.after; entries_before = x.entries_before; entries_after = x.entries_after; first = y; second = x.second; answers = x.answers; entries = x.entries }
        (λ v m z. z) (λ v m z. z)

took_comes : {X : Starts} {ok : ℕ → Type 0} {run c : List ℕ → Result} {k n : ℕ} {u : List ℕ} → Both (Took ok) X u n → ((v : List ℕ) (m : ℕ) → X v m → Comes run k v m) → ((a : ℕ) (e : List ℕ) → ok a → c (a ∷ e) ≡ run e) → Comes c k u n
took_comes {c = c} {u = u} b go z =
    let y = go b.after b.entries_after b.second in
    let a = b.first.answer in
    let w : u ≡ a ∷ b.after = b.answers ∙ ap (λ l. l ++ b.after) b.first.answers in
    record {
      trail = y.trail;
      held = y.held;
      many = omega (arith, y.many, b.entries, b.first.entries);
      is = λ x. ap (λ l. c (l ++ x)) w ∙ z a (b.after ++ x) b.first.is ∙ y.is x;
    }

leaf_comes : (c node b : ℕ) → Done (only starts c) (single node started c b)
leaf_comes c node b k u n x = go (eqb c k) refl x
  where
    go : (t : Bool) → eqb c k ≡ t → given starts t starts.entry u n → Comes (single node started c b) k u n
    go false e y = absurd y
    go true e (y, z) =
        subst (λ l. Comes (single node started c b) l u n) (only_out c k e)
        record { trail = entry node started c ∷ []; held = b ∷ []; many = omega arith; is = λ o. ap (λ l. single node started c b (l ++ o)) y }

-- a test, where f and g are what follows a present answer and an absent one
abbrev answered : (f g : List ℕ → Result) → List ℕ → Result
answered f g [] = starved
answered f g (suc a ∷ ans) = f ans
answered f g (zero ∷ ans) = g ans

module _ {G H : ℕ → Starts} {f g : List ℕ → Result} (go : Done G f) (on : Done H g) where
  tested_comes : Done (branched starts G H) (answered f g)
  tested_comes k u n (inl x) = took_comes {ok = IsPresent} x (go k) (λ a e o. is a e o)
    where
      is : (a : ℕ) (e : List ℕ) → IsPresent a → answered f g (a ∷ e) ≡ f e
      is zero e o = absurd o
      is (suc a) e o = refl
  tested_comes k u n (inr x) = took_comes {ok = IsAbsent} x (on k) (λ a e o. is a e o)
    where
      is : (a : ℕ) (e : List ℕ) → IsAbsent a → answered f g (a ∷ e) ≡ g e
      is zero e o = refl
      is (suc a) e o = absurd o

same-run : {run c : List ℕ → Result} {k n : ℕ} {u : List ℕ} → ((a : List ℕ) → c a ≡ run a) → Comes run k u n → Comes c k u n
same-run {u = u} z o = record { trail = o.trail; held = o.held; many = o.many; is = λ x. z (u ++ x) ∙ o.is x }

module _ (n s : ℕ) (p q : Stmt) where
  -- what follows an answer at a present
  abbrev then-run : List ℕ → Result
  then-run r = then_zeros (start n p r) (size q)

  abbrev else_run : List ℕ → Result
  else_run r = zeros_then (size p) (start (n + size p) q r)

  present-run : (a : List ℕ) → start n (two (present s) p q) a ≡ enter (n + (size p + size q)) started (answered then-run else_run a)
  present-run [] = refl
  present-run (zero ∷ a) = refl
  present-run (suc x ∷ a) = refl

  then-branch : Done (summary starts p) (start n p) → Done (summary starts p) then-run
  then-branch go k u m x = turned (λ y. then_zeros y (size q)) (λ h. h ++ zeros (size q)) (go k u m x) (λ t g r. refl)

  else_branch_lem : Done (summary starts q) (start (n + size p) q) → Done (summary starts q) else_run
  else_branch_lem go k u m x = turned (zeros_then (size p)) (λ h. zeros (size p) ++ h) (go k u m x) (λ t g r. refl)

pub start_comes : (p : Stmt) (n : ℕ) → Done (summary starts p) (start n p)
start_comes (leaf nothing) n = leaf_comes 0 n 0
start_comes (leaf pause) n = leaf_comes 1 n 1
start_comes (leaf (exit level)) n = leaf_comes (2 + level) n 0
start_comes (leaf (emit s)) n = leaf_comes 0 n 0
start_comes (two sequence p q) n = λ k u m. enter_comes (n + (size p + size q)) (then_comes (start_comes p n) (start_comes q (n + size p)) (size q) k)
start_comes (two (present s) p q) n =
    λ k u m b.
    same-run (present-run n s p q)
    (enter_comes (n + (size p + size q)) (tested_comes (then-branch n s p q (start_comes p n)) (else_branch_lem n s p q (start_comes q (n + size p))) k) b)
start_comes (one trap p) n = λ k u m. enter_comes (n + size p) (catch_comes (start_comes p n) k)
start_comes (two parallel p q) n = λ k u m. enter_comes (n + (size p + size q)) (beside_comes (start_comes p n) (start_comes q (n + size p)) k)
start_comes (one loop p) n = λ k u m. enter_comes (n + size p) (body_comes (start_comes p n) k)
start_comes (one (signal s) p) n = λ k u m. enter_comes (n + size p) (start_comes p n k)
start_comes (one (suspend s) p) n = λ k u m. enter_comes (n + size p) (start_comes p n k)
