-- What a start does is among what the statement gives, and it takes at most as many answers as there are presents.
use mathlib.Core.Path.{◌≡◌, refl, sym, ap, ◌∙◌}
use mathlib.Core.Logic.{◌⊎◌, inl, inr}
use mathlib.Core.List.{List, [], ◌∷◌, ◌++◌, append_assoc}
use Prim.Native.Nat.{ℕ, zero, suc, ◌+◌, ◌≤◌, ◌<◌, max}
use native.Mathlib.Nat.{max-eq_left, max-eq_right}
use native.Mathlib.Decide.{dec_le}
use native.Mathlib.Omega.{arith}
use lib.ListN.{length, length-append}
use Rattle.codes.proofs.Members.{only_in}
use Rattle.esterel.specs.Statement.{nothing, pause, emit, exit, signal, suspend, loop, trap, present, sequence, parallel, Stmt, leaf, one, two, size}
use Rattle.esterel.specs.Codes.{catch_code}
use Rattle.esterel.specs.Instant.{started, Entry, entry, Result, closed, starved, stuck, zeros, single, enter, onto, zeros_then, then_zeros, and_then, beside, body, catch, start}
use Rattle.starts.specs.Ticks.{presents}
use Rattle.starts.specs.Summary.{Starts, Both, Took, starts, only, up_to, without_ended, followed, larger, caught, entered, summary}

-- what a run over the answers did, where G says what it may give, and with at most `most` answers
pub data Gave (G : ℕ → Starts) (most : ℕ) (ans : List ℕ) : Result → Type 0 where
  gave : (used : List ℕ) (k : ℕ) (t : List Entry) (h r : List ℕ) → ans ≡ used ++ r → length used ≤ most → G k used (length t) → Gave G most ans (closed k t h r)
  starves : length ans < most → Gave G most ans starved
  sticks : Gave G most ans stuck

pub join : {A B : Starts} (u v : List ℕ) (m n : ℕ) → A u m → B v n → Both A B (u ++ v) (m + n)
join u v m n x y =
    record { before = u; after = v; entries_before = m; entries_after = n; first = x; second = y; answers = refl; entries = refl }

pub up_to_in : (G : ℕ → Starts) (k l : ℕ) (u : List ℕ) (n : ℕ) → k ≤ l → G k u n → up_to starts G l u n
up_to_in G k zero u n h x = let z : k ≡ 0 = omega arith in rw z at x
up_to_in G k (suc l) u n h x = go (λ j. up_to_in G k l u n j x) (dec_le k l)
  where
    go : (k ≤ l → up_to starts G l u n) → Dec (k ≤ l) → G (suc l) u n ⊎ up_to starts G l u n
    go ih (yes j) = inr (ih j)
    go ih (no j) = let z : k ≡ suc l = omega arith in inl (rw z at x)

pub larger_in : (G H : ℕ → Starts) (k l : ℕ) (u v : List ℕ) (m n : ℕ) → G k u m → H l v n → larger starts G H (max k l) (u ++ v) (m + n)
larger_in G H k l u v m n x y = go (dec_le k l)
  where
    go : Dec (k ≤ l) → larger starts G H (max k l) (u ++ v) (m + n)
    go (yes h) = rw (max-eq_right h) (inr (join u v m n (up_to_in G k l u m h x) y))
    go (no h) = let j : l ≤ k = omega arith in rw (max-eq_left j) (inl (join u v m n x (up_to_in H l k v n j y)))

pub caught_in : (G : ℕ → Starts) (k : ℕ) (u : List ℕ) (n : ℕ) → G k u n → caught starts G (catch_code k) u n
caught_in G zero u n x = inl x
caught_in G (suc zero) u n x = x
caught_in G (suc (suc zero)) u n x = inr x
caught_in G (suc (suc (suc k))) u n x = x

pub followed_in : (G H : ℕ → Starts) (l : ℕ) (u v : List ℕ) (m n : ℕ) → G 0 u m → H l v n → followed starts G H l (u ++ v) (m + n)
followed_in G H zero u v m n x y = join u v m n x y
followed_in G H (suc l) u v m n x y = inr (join u v m n x y)

module _ {G : ℕ → Starts} {m : ℕ} {ans : List ℕ} where
  maps : {H : ℕ → Starts} {l : ℕ} {x : Result} → m ≤ l → ((k : ℕ) (u : List ℕ) (n : ℕ) → G k u n → H k u n) → Gave G m ans x → Gave H l ans x
  maps b f (gave used k t h r e l g) = gave used k t h r e (omega arith) (f k used (length t) g)
  maps b f (starves l) = starves (omega arith)
  maps b f sticks = sticks

  enter-gave : {x : Result} (n : ℕ) → Gave G m ans x → Gave (entered starts G) m ans (enter n started x)
  enter-gave n (gave used k t h r e l g) = gave used k (entry n started k ∷ t) (h ++ (0 ∷ [])) r e l record { before = []; after = used; entries_before = 1; entries_after = length t; first = (refl, refl); second = g; answers = refl; entries = omega arith }
  enter-gave n (starves l) = starves l
  enter-gave n sticks = sticks

  zeros-gave : {x : Result} (n : ℕ) → Gave G m ans x → Gave G m ans (zeros_then n x)
  zeros-gave n (gave used k t h r e l g) = gave used k t (zeros n ++ h) r e l g
  zeros-gave n (starves l) = starves l
  zeros-gave n sticks = sticks

  gave-zeros : {x : Result} (n : ℕ) → Gave G m ans x → Gave G m ans (then_zeros x n)
  gave-zeros n (gave used k t h r e l g) = gave used k t (h ++ zeros n) r e l g
  gave-zeros n (starves l) = starves l
  gave-zeros n sticks = sticks

  body_gave : {x : Result} → Gave G m ans x → Gave (without_ended starts G) m ans (body x)
  body_gave (gave used zero t h r e l g) = sticks
  body_gave (gave used (suc k) t h r e l g) = gave used (suc k) t h r e l g
  body_gave (starves l) = starves l
  body_gave sticks = sticks

  catch-gave : {x : Result} → Gave G m ans x → Gave (caught starts G) m ans (catch x)
  catch-gave (gave used zero t h r e l g) = gave used 0 t h r e l (inl g)
  catch-gave (gave used (suc zero) t h r e l g) = gave used 1 t h r e l g
  catch-gave (gave used (suc (suc zero)) t h r e l g) = gave used 0 t (zeros (length h)) r e l (inr g)
  catch-gave (gave used (suc (suc (suc k))) t h r e l g) = gave used (suc (suc k)) t h r e l g
  catch-gave (starves l) = starves l
  catch-gave sticks = sticks

  took-gave : {x : Result} {ok : ℕ → Type 0} (a : ℕ) → ok a → Gave G m ans x → Gave (λ k. Both (Took ok) (G k)) (suc m) (a ∷ ans) x
  took-gave a o (gave used k t h r e l g) =
      gave (a ∷ used) k t h r (ap (λ y. a ∷ y) e) (omega arith)
      record { before = a ∷ []; after = used; entries_before = 0; entries_after = length t; first = record { answer = a; is = o; answers = refl; entries = refl }; second = g; answers = refl; entries = omega arith }
  took-gave a o (starves l) = starves (omega arith)
  took-gave a o sticks = sticks

onto-gave : {H F : ℕ → Starts} {l m : ℕ} {ans r : List ℕ} {y : Result} (used : List ℕ) (t : List Entry) (code : ℕ → ℕ) (h : List ℕ) → ans ≡ used ++ r → length used ≤ m → ((k : ℕ) (v : List ℕ) (j : ℕ) → H k v j → F (code k) (used ++ v) (length t + j)) → Gave H l r y → Gave F (m + l) ans (onto code t h y)
onto-gave used t code h e b f (gave v k u g s d a x) =
    gave (used ++ v) (code k) (t ++ u) (h ++ g) s (e ∙ ap (λ y. used ++ y) d ∙ sym (append_assoc used v s)) (rw length-append (omega arith)) (rw (length-append t u) (f k v (length u) x))
onto-gave {r = r} used t code h e b f (starves a) = starves (let z = ap length e ∙ length-append used r in omega arith)
onto-gave used t code h e b f sticks = sticks

module _ {G H : ℕ → Starts} {l m : ℕ} {ans : List ℕ} (next : List ℕ → Result) (go : (r : List ℕ) → Gave H l r (next r)) where
  then-gave : {x : Result} (n : ℕ) → Gave G m ans x → Gave (followed starts G H) (m + l) ans (and_then x n next)
  then-gave n (gave used zero t h r e b g) = onto-gave used t (λ k. k) h e b (λ k v j y. followed_in G H k used v (length t) j g y) (go r)
  then-gave n (gave used (suc k) t h r e b g) = gave used (suc k) t (h ++ zeros n) r e (omega arith) (inl g)
  then-gave n (starves b) = starves (omega arith)
  then-gave n sticks = sticks

  beside-gave : {x : Result} → Gave G m ans x → Gave (larger starts G H) (m + l) ans (beside x next)
  beside-gave (gave used k t h r e b g) = onto-gave used t (max k) h e b (λ i v j y. larger_in G H k i used v (length t) j g y) (go r)
  beside-gave (starves b) = starves (omega arith)
  beside-gave sticks = sticks

leaf-gave : (c n b : ℕ) (ans : List ℕ) → Gave (only starts c) 0 ans (single n started c b ans)
leaf-gave c n b ans = gave [] c (entry n started c ∷ []) (b ∷ []) ans refl (omega arith) (rw (only_in c) (refl, refl))

pub start-gave : (p : Stmt) (n : ℕ) (ans : List ℕ) → Gave (summary starts p) (presents p) ans (start n p ans)
start-gave (leaf nothing) n ans = leaf-gave 0 n 0 ans
start-gave (leaf pause) n ans = leaf-gave 1 n 1 ans
start-gave (leaf (exit level)) n ans = leaf-gave (2 + level) n 0 ans
start-gave (leaf (emit s)) n ans = leaf-gave 0 n 0 ans
start-gave (two sequence p q) n ans =
    enter-gave (n + (size p + size q)) (then-gave (start (n + size p) q) (start-gave q (n + size p)) (size q) (start-gave p n ans))
start-gave (two (present s) p q) n [] = starves (omega arith)
start-gave (two (present s) p q) n (suc a ∷ ans) =
    enter-gave (n + (size p + size q)) (maps (omega arith) (λ k u j z. inl z) (took-gave (suc a) tt (gave-zeros (size q) (start-gave p n ans))))
start-gave (two (present s) p q) n (zero ∷ ans) =
    enter-gave (n + (size p + size q)) (maps (omega arith) (λ k u j z. inr z) (took-gave zero tt (zeros-gave (size p) (start-gave q (n + size p) ans))))
start-gave (one trap p) n ans = enter-gave (n + size p) (catch-gave (start-gave p n ans))
start-gave (two parallel p q) n ans =
    enter-gave (n + (size p + size q)) (beside-gave (start (n + size p) q) (start-gave q (n + size p)) (start-gave p n ans))
start-gave (one loop p) n ans = enter-gave (n + size p) (body_gave (start-gave p n ans))
start-gave (one (signal s) p) n ans = enter-gave (n + size p) (start-gave p n ans)
start-gave (one (suspend s) p) n ans = enter-gave (n + size p) (start-gave p n ans)
