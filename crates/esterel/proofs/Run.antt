-- What a run keeps: one law for each way in which `start` and `resume` put results together.
use mathlib.Core.Path.{◌≡◌, refl, sym, ap, ◌∙◌}
use mathlib.Core.Bool.{Bool, true, false, ◌||◌, cond, or-false}
use mathlib.Core.List.{List, [], ◌∷◌, ◌++◌, append_assoc}
use Prim.Native.Nat.{ℕ, zero, suc, ◌+◌, ◌≤◌, ◌<◌, max}
use native.Mathlib.Omega.{arith}
use lib.Dec.{eqb}
use lib.ListN.{length, length-append}
use Rattle.codes.proofs.Bools.{both, left, right}
use Rattle.esterel.specs.Statement.{Stmt, kind}
use Rattle.esterel.specs.Codes.{bit, catch_code}
use Rattle.esterel.specs.Sets.{start_set}
use Rattle.esterel.specs.Instant.{Mode, started, resumed, Entry, entry, Result, closed, starved, stuck, zeros, enter, onto, zeros_then, then_zeros, and_then, beside, body, again, catch, holds}
use Rattle.esterel.specs.Outcome.{statement_at, asks, taken, started_in, all_in}
use Rattle.esterel.proofs.Held.{holds-append, holds-zeros, Shows, shows-max}

-- what two equal results leave
pub closed-held : {k j : ℕ} {t u : List Entry} {h g r s : List ℕ} → closed k t h r ≡ closed j u g s → h ≡ g
closed-held e = cc

pub closed-trail : {k j : ℕ} {t u : List Entry} {h g r s : List ℕ} → closed k t h r ≡ closed j u g s → t ≡ u
closed-trail e = cc

pub in_append : (ps : List Stmt) (t u : List Entry) → all_in ps t ≡ true → all_in ps u ≡ true → all_in ps (t ++ u) ≡ true
in_append ps [] u a b = b
in_append ps (entry n started k ∷ t) u a b =
    both (left (start_set (statement_at ps n) k) (all_in ps t) a) (in_append ps t u (right (start_set (statement_at ps n) k) a) b)
in_append ps (entry n resumed k ∷ t) u a b = in_append ps t u a b

pub taken-append : (ps : List Stmt) (t u : List Entry) → taken ps (t ++ u) ≡ taken ps t + taken ps u
taken-append ps [] u = omega arith
taken-append ps (e ∷ t) u = omega (arith, taken-append ps t u)

bit_le : (b : Bool) → bit b ≤ 1
bit_le true = omega arith
bit_le false = omega arith

pub asks_le : (ps : List Stmt) (e : Entry) → asks ps e ≤ 1
asks_le ps (entry n started k) = bit_le (eqb (kind (statement_at ps n)) 6)
asks_le ps (entry n resumed k) = bit_le (eqb (kind (statement_at ps n)) 7)

-- each entry takes an answer at most
pub taken_le : (ps : List Stmt) (t : List Entry) → taken ps t ≤ length t
taken_le ps [] = omega arith
taken_le ps (e ∷ t) = omega (arith, asks_le ps e, taken_le ps t)

-- of a closed result over the answers: C of its code, F of its bytes, at most L entries, and the answers that it used
pub record Ran (ps : List Stmt) (F : List ℕ → Type 0) (C : ℕ → Type 0) (L : ℕ) (ans : List ℕ) (k : ℕ) (t : List Entry) (h r : List ℕ) : Type 0 where
  pub code : C k
  pub fit : F h
  pub shown : Shows k (holds h)
  pub trail : all_in ps t ≡ true
  pub short : length t ≤ L
  pub used : List ℕ
  pub lent : ans ≡ used ++ r
  pub counted : length used ≡ taken ps t

-- a starved result had fewer than L answers; S where a result is stuck
pub data Run (ps : List Stmt) (S : Type 0) (F : List ℕ → Type 0) (C : ℕ → Type 0) (L : ℕ) (ans : List ℕ) : Result → Type 0 where
  ran : (k : ℕ) (t : List Entry) (h r : List ℕ) → Ran ps F C L ans k t h r → Run ps S F C L ans (closed k t h r)
  asked : length ans < L → Run ps S F C L ans starved
  no_rule : S → Run ps S F C L ans stuck

module _ {ps : List Stmt} {F G : List ℕ → Type 0} {C D : ℕ → Type 0} {L M : ℕ} {ans : List ℕ} {k l : ℕ} {t : List Entry} {h g r : List ℕ} where
  -- the same trail and answers, with another code or other bytes
  turned : Ran ps F C L ans k t h r → D l → G g → Shows l (holds g) → L ≤ M → Ran ps G D M ans l t g r
  turned o c f s le =
      record {
        code = c;
        fit = f;
        shown = s;
        trail = o.trail;
        short = omega arith;
        used = o.used;
        lent = o.lent;
        counted = o.counted;
      }

module _ {ps : List Stmt} {S : Type 0} {F G : List ℕ → Type 0} {C : ℕ → Type 0} {L M : ℕ} {ans : List ℕ} where
  -- the node itself is entered, after it has taken the answers `before`
  pub enter-run : {x : Result} (node : ℕ) (mode : Mode) (before : List ℕ) → ((k : ℕ) → C k → started_in ps (entry node mode k) ≡ true) → ((k : ℕ) → length before ≡ asks ps (entry node mode k)) → ((h : List ℕ) → F h → G (h ++ (0 ∷ []))) → L < M → Run ps S F C L ans x → Run ps S G C M (before ++ ans) (enter node mode x)
  enter-run node mode before e a f l (ran k t h r o) =
      ran k (entry node mode k ∷ t) (h ++ (0 ∷ [])) r
      record {
        code = o.code;
        fit = f h o.fit;
        shown = rw (holds-append, or-false) o.shown;
        trail = both (e k o.code) o.trail;
        short = omega arith;
        used = before ++ o.used;
        lent = ap (λ l. before ++ l) o.lent ∙ sym (append_assoc before o.used r);
        counted = rw length-append (omega (arith, a k, o.counted));
      }
  enter-run node mode before e a f l (asked o) = asked (rw length-append (omega (arith, a 0, asks_le ps (entry node mode 0))))
  enter-run node mode before e a f l (no_rule s) = no_rule s

module _ {ps : List Stmt} {S : Type 0} {F G : List ℕ → Type 0} {C D : ℕ → Type 0} {L M : ℕ} {ans : List ℕ} where
  -- the same result, as a part of more
  pub weaken : {x : Result} → ((h : List ℕ) → F h → G h) → ((k : ℕ) → C k → D k) → L ≤ M → Run ps S F C L ans x → Run ps S G D M ans x
  weaken f c l (ran k t h r o) = ran k t h r (turned o (c k o.code) (f h o.fit) o.shown l)
  weaken f c l (asked o) = asked (omega arith)
  weaken f c l (no_rule s) = no_rule s

  -- n zeros behind x
  pub alone-run : {x : Result} (n : ℕ) → ((h : List ℕ) → F h → G (h ++ zeros n)) → ((k : ℕ) → C k → D k) → L ≤ M → Run ps S F C L ans x → Run ps S G D M ans (then_zeros x n)
  alone-run n f c l (ran k t h r o) =
      ran k t (h ++ zeros n) r (turned o (c k o.code) (f h o.fit) (rw (holds-append, holds-zeros, or-false) o.shown) l)
  alone-run n f c l (asked o) = asked (omega arith)
  alone-run n f c l (no_rule s) = no_rule s

  -- a started loop body does not end
  pub body_run : {x : Result} → (C 0 → S) → ((h : List ℕ) → F h → G h) → ((k : ℕ) → C (suc k) → D (suc k)) → L ≤ M → Run ps S F C L ans x → Run ps S G D M ans (body x)
  body_run bad f c l (ran zero t h r o) = no_rule (bad o.code)
  body_run bad f c l (ran (suc k) t h r o) = ran (suc k) t h r (turned o (c k o.code) (f h o.fit) o.shown l)
  body_run bad f c l (asked o) = asked (omega arith)
  body_run bad f c l (no_rule s) = no_rule s

  pub catch-run : {x : Result} → ((h : List ℕ) → F h → G h) → ((h : List ℕ) → F h → G (zeros (length h))) → ((k : ℕ) → C k → D (catch_code k)) → L ≤ M → Run ps S F C L ans x → Run ps S G D M ans (catch x)
  catch-run f z c l (ran zero t h r o) = ran 0 t h r (turned o (c 0 o.code) (f h o.fit) o.shown l)
  catch-run f z c l (ran (suc zero) t h r o) = ran 1 t h r (turned o (c 1 o.code) (f h o.fit) o.shown l)
  catch-run f z c l (ran (suc (suc zero)) t h r o) =
      ran 0 t (zeros (length h)) r (turned o (c 2 o.code) (z h o.fit) (holds-zeros (length h)) l)
  catch-run f z c l (ran (suc (suc (suc k))) t h r o) =
      ran (suc (suc k)) t h r (turned o (c (suc (suc (suc k))) o.code) (f h o.fit) tt l)
  catch-run f z c l (asked o) = asked (omega arith)
  catch-run f z c l (no_rule s) = no_rule s

-- x, over the answers `left`, after a part that has the trail t and the bytes h and used the others
module _ {ps : List Stmt} {S : Type 0} {F G : List ℕ → Type 0} {C D : ℕ → Type 0} {L M : ℕ} {ans left : List ℕ} where
  pub onto-run : {x : Result} (code : ℕ → ℕ) (t : List Entry) (h used : List ℕ) (N : ℕ) → ans ≡ used ++ left → length used ≡ taken ps t → all_in ps t ≡ true → length t ≤ N → ((l : ℕ) (b : Bool) → Shows l b → Shows (code l) (holds h || b)) → ((g : List ℕ) → F g → G (h ++ g)) → ((l : ℕ) → C l → D (code l)) → N + L ≤ M → Run ps S F C L left x → Run ps S G D M ans (onto code t h x)
  onto-run code t h used N lent tk ok sh s f c l (ran k u g r o) =
      ran (code k) (t ++ u) (h ++ g) r
      record {
        code = c k o.code;
        fit = f g o.fit;
        shown = rw holds-append (s k (holds g) o.shown);
        trail = in_append ps t u ok o.trail;
        short = rw length-append (omega arith);
        used = used ++ o.used;
        lent = lent ∙ ap (λ l. used ++ l) o.lent ∙ sym (append_assoc used o.used r);
        counted = rw (length-append, taken-append) (omega (arith, o.counted));
      }
  onto-run code t h used N lent tk ok sh s f c l (asked o) = asked (rw (lent, length-append) (omega (arith, taken_le ps t)))
  onto-run code t h used N lent tk ok sh s f c l (no_rule o) = no_rule o

module _ {ps : List Stmt} {S : Type 0} {F G : List ℕ → Type 0} {C D : ℕ → Type 0} {L M : ℕ} {ans : List ℕ} where
  -- n zeros before x
  pub skip_run : {x : Result} (n : ℕ) → ((g : List ℕ) → F g → G (zeros n ++ g)) → ((k : ℕ) → C k → D k) → L ≤ M → Run ps S F C L ans x → Run ps S G D M ans (zeros_then n x)
  skip_run n f c l o =
      onto-run (λ l. l) [] (zeros n) [] 0 refl refl refl (omega arith) (λ l b s. rw holds-zeros s) f c (omega arith) o

module _ {ps : List Stmt} {S : Type 0} {F₁ F₂ G : List ℕ → Type 0} {C₁ C₂ D : ℕ → Type 0} {L₁ L₂ M : ℕ} {ans : List ℕ} where
  pub and_then-run : {x : Result} {c : List ℕ → Result} (n : ℕ) → ((h : List ℕ) → F₁ h → G (h ++ zeros n)) → ((h g : List ℕ) → F₁ h → F₂ g → holds h ≡ false → G (h ++ g)) → ((k : ℕ) → C₁ (suc k) → D (suc k)) → ((l : ℕ) → C₁ 0 → C₂ l → D l) → L₁ + L₂ ≤ M → Run ps S F₁ C₁ L₁ ans x → ((r : List ℕ) → Run ps S F₂ C₂ L₂ r (c r)) → Run ps S G D M ans (and_then x n c)
  and_then-run n f g c d l (ran zero t h r o) next =
      onto-run (λ k. k) t h o.used L₁ o.lent o.counted o.trail o.short (λ k b s. rw o.shown s) (λ y fy. g h y o.fit fy o.shown) (λ k ck. d k o.code ck) l (next r)
  and_then-run n f g c d l (ran (suc k) t h r o) next =
      ran (suc k) t (h ++ zeros n) r (turned o (c k o.code) (f h o.fit) (rw (holds-append, holds-zeros, or-false) o.shown) (omega arith))
  and_then-run n f g c d l (asked o) next = asked (omega arith)
  and_then-run n f g c d l (no_rule s) next = no_rule s

  pub beside-run : {x : Result} {c : List ℕ → Result} → ((h g : List ℕ) → F₁ h → F₂ g → G (h ++ g)) → ((k l : ℕ) → C₁ k → C₂ l → D (max k l)) → L₁ + L₂ ≤ M → Run ps S F₁ C₁ L₁ ans x → ((r : List ℕ) → Run ps S F₂ C₂ L₂ r (c r)) → Run ps S G D M ans (beside x c)
  beside-run g d l (ran k t h r o) next =
      onto-run (max k) t h o.used L₁ o.lent o.counted o.trail o.short (λ j b s. shows-max k j (holds h) b o.shown s) (λ y fy. g h y o.fit fy) (λ j cj. d k j o.code cj) l (next r)
  beside-run g d l (asked o) next = asked (omega arith)
  beside-run g d l (no_rule s) next = no_rule s

  pub again-run : {x : Result} {c : List ℕ → Result} → (C₂ 0 → S) → ((h : List ℕ) → F₁ h → G h) → ((h : List ℕ) → F₂ h → G h) → ((k : ℕ) → C₁ (suc k) → D (suc k)) → ((k : ℕ) → C₂ (suc k) → D (suc k)) → L₁ + L₂ ≤ M → Run ps S F₁ C₁ L₁ ans x → ((r : List ℕ) → Run ps S F₂ C₂ L₂ r (c r)) → Run ps S G D M ans (again x c)
  again-run bad f g c d l (ran zero t h r o) next =
      onto-run (λ k. k) t [] o.used L₁ o.lent o.counted o.trail o.short (λ k b s. s) (λ y fy. fy) (λ k ck. ck) l (body_run {M = L₂} bad g d (omega arith) (next r))
  again-run bad f g c d l (ran (suc k) t h r o) next =
      ran (suc k) t h r (turned o (c k o.code) (f h o.fit) o.shown (omega arith))
  again-run bad f g c d l (asked o) next = asked (omega arith)
  again-run bad f g c d l (no_rule s) next = no_rule s

module _ {ps : List Stmt} {S : Type 0} {F : List ℕ → Type 0} {C : ℕ → Type 0} {L : ℕ} {ans : List ℕ} where
  pub cond-run : {x y : Result} (b : Bool) → (b ≡ true → Run ps S F C L ans x) → (b ≡ false → Run ps S F C L ans y) → Run ps S F C L ans (cond b x y)
  cond-run true f g = f refl
  cond-run false f g = g refl
