-- What a run takes of its answers decides it, whatever follows; and each code of K is reached.
use mathlib.Core.Path.{◌≡◌, refl, sym, ap, ◌∙◌, subst}
use mathlib.Core.Bool.{Bool, true, false, ◌&&◌, cond, false≢true}
use mathlib.Core.Logic.{⊎_elim}
use mathlib.Core.List.{List, [], ◌∷◌, ◌++◌, append_assoc}
use Prim.Native.Nat.{ℕ, zero, suc, ◌+◌, max}
use lib.ListN.{length}
use Rattle.codes.proofs.Bools.{left, right, either}
use Rattle.codes.proofs.Members.{only_out, larger_out, caught_out}
use Rattle.esterel.specs.Statement.{Leaf, nothing, pause, emit, exit, signal, suspend, loop, trap, present, sequence, parallel, Stmt, leaf, one, two, size}
use Rattle.esterel.specs.Codes.{catch_code}
use Rattle.esterel.specs.Sets.{start_set}
use Rattle.esterel.specs.Instant.{Mode, started, resumed, Entry, entry, Result, closed, starved, stuck, zeros, single, enter, onto, zeros_then, then_zeros, and_then, beside, body, again, catch, idle, holds, first, second, start, resume}
use Rattle.esterel.specs.Theorems.{Decides}

-- the run takes the answers `used` and finishes so, whatever follows them
pub record Takes (run : List ℕ → Result) (used : List ℕ) (k : ℕ) (t : List Entry) (h : List ℕ) : Type 0 where
  pub is : (other : List ℕ) → run (used ++ other) ≡ closed k t h other

-- what is made of the run's result
turned : {run : List ℕ → Result} {used : List ℕ} {k l : ℕ} {t u : List Entry} {h g : List ℕ} (f : Result → Result) → Takes run used k t h → ((e : List ℕ) → f (closed k t h e) ≡ closed l u g e) → Takes (λ a. f (run a)) used l u g
turned f o z = record { is = λ x. ap f (o.is x) ∙ z x }

-- a first run, then a second over what the first left
joined : {run next c : List ℕ → Result} {used more : List ℕ} {k l : ℕ} {t u : List Entry} {h g : List ℕ} (code : ℕ → ℕ) (h' : List ℕ) → Takes run used k t h → ((a e : List ℕ) → run a ≡ closed k t h e → c a ≡ onto code t h' (next e)) → Takes next more l u g → Takes c (used ++ more) (code l) (t ++ u) (h' ++ g)
joined {used = used} {more = more} {t = t} code h' o j d =
    record {
      is = λ x. rw append_assoc (j (used ++ (more ++ x)) (more ++ x) (o.is (more ++ x)) ∙ ap (onto code t h') (d.is x));
    }

-- what a run over the answers does
data Reads (run : List ℕ → Result) (ans : List ℕ) : Result → Type 0 where
  takes : (used : List ℕ) (k : ℕ) (t : List Entry) (h r : List ℕ) → ans ≡ used ++ r → Takes run used k t h → Reads run ans (closed k t h r)
  starves : Reads run ans starved
  sticks : Reads run ans stuck

module _ {run : List ℕ → Result} {ans : List ℕ} where
  enter-reads : {x : Result} (n : ℕ) (m : Mode) → Reads run ans x → Reads (λ a. enter n m (run a)) ans (enter n m x)
  enter-reads n m (takes used k t h r e o) = takes used k (entry n m k ∷ t) (h ++ (0 ∷ [])) r e (turned (enter n m) o (λ x. refl))
  enter-reads n m starves = starves
  enter-reads n m sticks = sticks

  zeros-reads : {x : Result} (n : ℕ) → Reads run ans x → Reads (λ a. zeros_then n (run a)) ans (zeros_then n x)
  zeros-reads n (takes used k t h r e o) = takes used k t (zeros n ++ h) r e (turned (zeros_then n) o (λ x. refl))
  zeros-reads n starves = starves
  zeros-reads n sticks = sticks

  reads-zeros : {x : Result} (n : ℕ) → Reads run ans x → Reads (λ a. then_zeros (run a) n) ans (then_zeros x n)
  reads-zeros n (takes used k t h r e o) = takes used k t (h ++ zeros n) r e (turned (λ y. then_zeros y n) o (λ x. refl))
  reads-zeros n starves = starves
  reads-zeros n sticks = sticks

  body_reads : {x : Result} → Reads run ans x → Reads (λ a. body (run a)) ans (body x)
  body_reads (takes used zero t h r e o) = sticks
  body_reads (takes used (suc k) t h r e o) = takes used (suc k) t h r e (turned body o (λ x. refl))
  body_reads starves = starves
  body_reads sticks = sticks

  catch-reads : {x : Result} → Reads run ans x → Reads (λ a. catch (run a)) ans (catch x)
  catch-reads (takes used zero t h r e o) = takes used 0 t h r e (turned catch o (λ x. refl))
  catch-reads (takes used (suc zero) t h r e o) = takes used 1 t h r e (turned catch o (λ x. refl))
  catch-reads (takes used (suc (suc zero)) t h r e o) = takes used 0 t (zeros (length h)) r e (turned catch o (λ x. refl))
  catch-reads (takes used (suc (suc (suc k))) t h r e o) = takes used (suc (suc k)) t h r e (turned catch o (λ x. refl))
  catch-reads starves = starves
  catch-reads sticks = sticks

  -- the first answer is taken, then the run goes on over the others
  ask_reads : {c : List ℕ → Result} {x : Result} (a : ℕ) → ((e : List ℕ) → c (a ∷ e) ≡ run e) → Reads run ans x → Reads c (a ∷ ans) x
  ask_reads a z (takes used k t h r e o) = takes (a ∷ used) k t h r (ap (λ l. a ∷ l) e) record { is = λ x. z (used ++ x) ∙ o.is x }
  ask_reads a z starves = starves
  ask_reads a z sticks = sticks

onto-reads : {run next c : List ℕ → Result} {ans used r : List ℕ} {k : ℕ} {t : List Entry} {h : List ℕ} {x : Result} (code : ℕ → ℕ) (h' : List ℕ) → ans ≡ used ++ r → Takes run used k t h → ((a e : List ℕ) → run a ≡ closed k t h e → c a ≡ onto code t h' (next e)) → Reads next r x → Reads c ans (onto code t h' x)
onto-reads {used = used} {t = t} code h' e o j (takes more l u g r f d) =
    takes (used ++ more) (code l) (t ++ u) (h' ++ g) r (e ∙ ap (λ y. used ++ y) f ∙ sym (append_assoc used more r)) (joined code h' o j d)
onto-reads code h' e o j starves = starves
onto-reads code h' e o j sticks = sticks

module _ {run : List ℕ → Result} {ans : List ℕ} (next : List ℕ → Result) (go : (r : List ℕ) → Reads next r (next r)) where
  then-reads : {x : Result} (n : ℕ) → Reads run ans x → Reads (λ a. and_then (run a) n next) ans (and_then x n next)
  then-reads n (takes used zero t h r e o) = onto-reads (λ l. l) h e o (λ a b z. ap (λ y. and_then y n next) z) (go r)
  then-reads n (takes used (suc k) t h r e o) = takes used (suc k) t (h ++ zeros n) r e (turned (λ y. and_then y n next) o (λ x. refl))
  then-reads n starves = starves
  then-reads n sticks = sticks

  beside-reads : {x : Result} → Reads run ans x → Reads (λ a. beside (run a) next) ans (beside x next)
  beside-reads (takes used k t h r e o) = onto-reads (max k) h e o (λ a b z. ap (λ y. beside y next) z) (go r)
  beside-reads starves = starves
  beside-reads sticks = sticks

  again-reads : {x : Result} → Reads run ans x → Reads (λ a. again (run a) next) ans (again x next)
  again-reads (takes used zero t h r e o) =
      onto-reads {next = λ a. body (next a)} (λ l. l) [] e o (λ a b z. ap (λ y. again y next) z) (body_reads (go r))
  again-reads (takes used (suc k) t h r e o) = takes used (suc k) t h r e (turned (λ y. again y next) o (λ x. refl))
  again-reads starves = starves
  again-reads sticks = sticks

cond-reads : {f g : List ℕ → Result} {ans : List ℕ} (b : Bool) → Reads f ans (f ans) → Reads g ans (g ans) → Reads (λ a. cond b (f a) (g a)) ans (cond b (f ans) (g ans))
cond-reads true x y = x
cond-reads false x y = y

start-reads : (p : Stmt) (n : ℕ) (ans : List ℕ) → Reads (start n p) ans (start n p ans)
start-reads (leaf nothing) n ans = takes [] 0 _ _ ans refl record { is = λ x. refl }
start-reads (leaf pause) n ans = takes [] 1 _ _ ans refl record { is = λ x. refl }
start-reads (leaf (exit level)) n ans = takes [] (2 + level) _ _ ans refl record { is = λ x. refl }
start-reads (leaf (emit s)) n ans = takes [] 0 _ _ ans refl record { is = λ x. refl }
start-reads (two sequence p q) n ans =
    enter-reads (n + (size p + size q)) started (then-reads (start (n + size p) q) (start-reads q (n + size p)) (size q) (start-reads p n ans))
start-reads (two (present s) p q) n [] = starves
start-reads (two (present s) p q) n (suc a ∷ ans) =
    ask_reads (suc a) (λ e. refl) (enter-reads (n + (size p + size q)) started (reads-zeros (size q) (start-reads p n ans)))
start-reads (two (present s) p q) n (zero ∷ ans) =
    ask_reads zero (λ e. refl) (enter-reads (n + (size p + size q)) started (zeros-reads (size p) (start-reads q (n + size p) ans)))
start-reads (one trap p) n ans = enter-reads (n + size p) started (catch-reads (start-reads p n ans))
start-reads (two parallel p q) n ans =
    enter-reads (n + (size p + size q)) started (beside-reads (start (n + size p) q) (start-reads q (n + size p)) (start-reads p n ans))
start-reads (one loop p) n ans = enter-reads (n + size p) started (body_reads (start-reads p n ans))
start-reads (one (signal s) p) n ans = enter-reads (n + size p) started (start-reads p n ans)
start-reads (one (suspend s) p) n ans = enter-reads (n + size p) started (start-reads p n ans)

idle-reads : (n : ℕ) (ans : List ℕ) → Reads (idle n) ans (idle n ans)
idle-reads n ans = takes [] 0 [] (zeros n) ans refl record { is = λ x. refl }

resume-reads : (p : Stmt) (n : ℕ) (held ans : List ℕ) → Reads (resume n p held) ans (resume n p held ans)
resume-reads (leaf nothing) n held ans = sticks
resume-reads (leaf pause) n held ans = takes [] 0 _ _ ans refl record { is = λ x. refl }
resume-reads (leaf (exit level)) n held ans = sticks
resume-reads (leaf (emit s)) n held ans = sticks
resume-reads (two sequence p q) n held ans =
    enter-reads (n + (size p + size q)) resumed
    (cond-reads (holds (first p held)) (then-reads (start (n + size p) q) (start-reads q (n + size p)) (size q) (resume-reads p n (first p held) ans))
    (zeros-reads (size p) (resume-reads q (n + size p) (second p q held) ans)))
resume-reads (two (present s) p q) n held ans =
    enter-reads (n + (size p + size q)) resumed
    (cond-reads (holds (first p held)) (reads-zeros (size q) (resume-reads p n (first p held) ans))
    (zeros-reads (size p) (resume-reads q (n + size p) (second p q held) ans)))
resume-reads (one trap p) n held ans = enter-reads (n + size p) resumed (catch-reads (resume-reads p n (first p held) ans))
resume-reads (two parallel p q) n held ans =
    enter-reads (n + (size p + size q)) resumed
    (beside-reads (λ r. cond (holds (second p q held)) (resume (n + size p) q (second p q held) r) (idle (size q) r))
    (λ r. cond-reads (holds (second p q held)) (resume-reads q (n + size p) (second p q held) r) (idle-reads (size q) r))
    (cond-reads (holds (first p held)) (resume-reads p n (first p held) ans) (idle-reads (size p) ans)))
resume-reads (one loop p) n held ans =
    enter-reads (n + size p) resumed (again-reads (start n p) (start-reads p n) (resume-reads p n (first p held) ans))
resume-reads (one (signal s) p) n held ans = enter-reads (n + size p) resumed (resume-reads p n (first p held) ans)
resume-reads (one (suspend s) p) n held [] = starves
resume-reads (one (suspend s) p) n held (suc a ∷ ans) = takes (suc a ∷ []) 1 _ _ ans refl record { is = λ x. refl }
resume-reads (one (suspend s) p) n held (zero ∷ ans) =
    ask_reads zero (λ e. refl) (enter-reads (n + size p) resumed (resume-reads p n (first p held) ans))

taken_of : {run : List ℕ → Result} {ans : List ℕ} {k : ℕ} {t : List Entry} {h r : List ℕ} → Reads run ans (closed k t h r) → (used : List ℕ) × (ans ≡ used ++ r) × ((other : List ℕ) → run (used ++ other) ≡ closed k t h other)
taken_of (takes used k t h r e o) = (used, e, o.is)

pub start-decides : (p : Stmt) (n : ℕ) → Decides (start n p)
start-decides p n ans k t h r e = taken_of (rw e at (start-reads p n ans))

pub resume-decides : (p : Stmt) (n : ℕ) (held : List ℕ) → Decides (resume n p held)
resume-decides p n held ans k t h r e = taken_of (rw e at (resume-reads p n held ans))

-- some answers, all taken, bring the run to the code k
pub record Reaches (run : List ℕ → Result) (k : ℕ) : Type 0 where
  pub used : List ℕ
  pub trail : List Entry
  pub held : List ℕ
  pub is : Takes run used k trail held

at_once : (l : Leaf) (n c b k : ℕ) → ((ans : List ℕ) → start n (leaf l) ans ≡ single n started c b ans) → c ≡ k → Reaches (start n (leaf l)) k
at_once l n c b k z e = subst (Reaches (start n (leaf l))) e record { used = []; trail = entry n started c ∷ []; held = b ∷ []; is = record { is = z } }

enter_reaches : {run : List ℕ → Result} {k : ℕ} (n : ℕ) → Reaches run k → Reaches (λ a. enter n started (run a)) k
enter_reaches {k = k} n c =
    record { used = c.used; trail = entry n started k ∷ c.trail; held = c.held ++ (0 ∷ []); is = turned (enter n started) c.is (λ x. refl) }

asked_reaches : {run c : List ℕ → Result} {k : ℕ} (a : ℕ) → ((e : List ℕ) → c (a ∷ e) ≡ run e) → Reaches run k → Reaches c k
asked_reaches a z c = record { used = a ∷ c.used; trail = c.trail; held = c.held; is = record { is = λ x. z (c.used ++ x) ∙ c.is.is x } }

catch_reaches : {run : List ℕ → Result} (k : ℕ) → Reaches run k → Reaches (λ a. catch (run a)) (catch_code k)
catch_reaches zero c = record { used = c.used; trail = c.trail; held = c.held; is = turned catch c.is (λ x. refl) }
catch_reaches (suc zero) c = record { used = c.used; trail = c.trail; held = c.held; is = turned catch c.is (λ x. refl) }
catch_reaches (suc (suc zero)) c =
    record { used = c.used; trail = c.trail; held = zeros (length c.held); is = turned catch c.is (λ x. refl) }
catch_reaches (suc (suc (suc k))) c = record { used = c.used; trail = c.trail; held = c.held; is = turned catch c.is (λ x. refl) }

-- the answers of the first, then those of the second
module _ {run : List ℕ → Result} (next : List ℕ → Result) where
  beside_reaches : {k l : ℕ} → Reaches run k → Reaches next l → Reaches (λ a. beside (run a) next) (max k l)
  beside_reaches {k = k} c d =
      record {
        used = c.used ++ d.used;
        trail = c.trail ++ d.trail;
        held = c.held ++ d.held;
        is = joined (max k) c.held c.is (λ a b z. ap (λ y. beside y next) z) d.is;
      }

  then_reaches : {l : ℕ} (n : ℕ) → Reaches run 0 → Reaches next l → Reaches (λ a. and_then (run a) n next) l
  then_reaches n c d =
      record {
        used = c.used ++ d.used;
        trail = c.trail ++ d.trail;
        held = c.held ++ d.held;
        is = joined (λ l. l) c.held c.is (λ a b z. ap (λ y. and_then y n next) z) d.is;
      }

  stops_reaches : {k : ℕ} (n : ℕ) → Reaches run (suc k) → Reaches (λ a. and_then (run a) n next) (suc k)
  stops_reaches n c =
      record { used = c.used; trail = c.trail; held = c.held ++ zeros n; is = turned (λ y. and_then y n next) c.is (λ x. refl) }

pub reach : (p : Stmt) (n k : ℕ) → start_set p k ≡ true → Reaches (start n p) k
reach (leaf nothing) n k e = at_once nothing n 0 0 k (λ a. refl) (only_out 0 k e)
reach (leaf pause) n k e = at_once pause n 1 1 k (λ a. refl) (only_out 1 k e)
reach (leaf (exit level)) n k e = at_once (exit level) n (2 + level) 0 k (λ a. refl) (only_out (2 + level) k e)
reach (leaf (emit s)) n k e = at_once (emit s) n 0 0 k (λ a. refl) (only_out 0 k e)
reach (two sequence p q) n zero e =
    enter_reaches (n + (size p + size q))
    (then_reaches (start (n + size p) q) (size q) (reach p n 0 (left (start_set p 0) (start_set q 0) e)) (reach q (n + size p) 0 (right (start_set p 0) e)))
reach (two sequence p q) n (suc k) e =
    enter_reaches (n + (size p + size q))
    (⊎_elim (λ f. stops_reaches (start (n + size p) q) (size q) (reach p n (suc k) f))
    (λ f. then_reaches (start (n + size p) q) (size q) (reach p n 0 (left (start_set p 0) (start_set q (suc k)) f)) (reach q (n + size p) (suc k) (right (start_set p 0) f)))
    (either (start_set p (suc k)) (start_set p 0 && start_set q (suc k)) e))
reach (two (present s) p q) n k e =
    ⊎_elim (λ f. asked_reaches 1 (λ a. refl) (enter_reaches (n + (size p + size q)) (behind (reach p n k f))))
    (λ f. asked_reaches 0 (λ a. refl) (enter_reaches (n + (size p + size q)) (before (reach q (n + size p) k f)))) (either (start_set p k) (start_set q k) e)
  where
    behind : Reaches (start n p) k → Reaches (λ a. then_zeros (start n p a) (size q)) k
    behind c = record { used = c.used; trail = c.trail; held = c.held ++ zeros (size q); is = turned (λ y. then_zeros y (size q)) c.is (λ x. refl) }

    before : Reaches (start (n + size p) q) k → Reaches (λ a. zeros_then (size p) (start (n + size p) q a)) k
    before c = record { used = c.used; trail = c.trail; held = zeros (size p) ++ c.held; is = turned (zeros_then (size p)) c.is (λ x. refl) }
reach (one trap p) n k e =
    let (j, f, z) = caught_out (start_set p) k e in
    subst (Reaches (start n (one trap p))) z (enter_reaches (n + size p) (catch_reaches j (reach p n j f)))
reach (two parallel p q) n k e =
    let (i, j, f, g, z) = larger_out (start_set p) (start_set q) k e in
    subst (Reaches (start n (two parallel p q))) z (enter_reaches (n + (size p + size q)) (beside_reaches (start (n + size p) q) (reach p n i f) (reach q (n + size p) j g)))
reach (one loop p) n zero e = absurd (false≢true e)
reach (one loop p) n (suc k) e = enter_reaches (n + size p) (on (reach p n (suc k) e))
  where
    on : Reaches (start n p) (suc k) → Reaches (λ a. body (start n p a)) (suc k)
    on c = record { used = c.used; trail = c.trail; held = c.held; is = turned body c.is (λ x. refl) }
reach (one (signal s) p) n k e = enter_reaches (n + size p) (reach p n k e)
reach (one (suspend s) p) n k e = enter_reaches (n + size p) (reach p n k e)
