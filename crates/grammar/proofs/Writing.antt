-- Numbers told in text order are those of the whole list.
use mathlib.Core.Path.{◌≡◌, refl, sym, ap, ◌∙◌}
use mathlib.Core.Bool.{Bool, true, false, ◌||◌, cond}
use mathlib.Core.List.{List, [], ◌∷◌, ◌++◌, append_assoc, append-nil}
use Prim.Native.Nat.{ℕ, suc, ◌≤◌, ◌<◌}
use native.Mathlib.Omega.{arith}
use lib.ListN.{length, length-append}
use borrow.Author.Tests.{ltb-true, ltb-false, eq-eqb}
use Rattle.grammar.specs.Tokens.{same_bytes}
use Rattle.grammar.specs.Tree as T
use Rattle.grammar.specs.Tree.{Tree, Name}
use Rattle.grammar.specs.Kernel.{Kernel, leaf, one, two, expand}
use Rattle.esterel.specs.Statement as S
use Rattle.esterel.specs.Statement.{Stmt, nodes, kind, field}
use Rattle.esterel.specs.Table.{postfix}
use Rattle.esterel.proofs.Reading.{bytes-append}
use Rattle.grammar.specs.Names.{place, has, see}
use Rattle.grammar.specs.Meaning.{signals_from, signals, untrapped, resolve, statement_of}
use Rattle.grammar.specs.Progress.{Progress, past, blank, note}

pub same_name : (s : Name) → same_bytes s s ≡ true
same_name [] = refl
same_name (b ∷ s) = rw (eq-eqb b b refl, same_name s)

-- a name that is in a list keeps its place when the list grows
pub place_in : (ns more : List Name) (s : Name) → place ns s < length ns → place (ns ++ more) s ≡ place ns s
place_in [] more s h = absurd (omega arith)
place_in (n ∷ ns) more s h = go (same_bytes n s) refl (λ i. place_in ns more s i)
  where
    go : (c : Bool) → same_bytes n s ≡ c → (place ns s < length ns → place (ns ++ more) s ≡ place ns s) → cond (same_bytes n s) 0 (suc (place (ns ++ more) s)) ≡ cond (same_bytes n s) 0 (suc (place ns s))
    go true e ih = rw e
    go false e ih = let g : place (n ∷ ns) s ≡ suc (place ns s) = rw e in rw e (ap suc (ih (omega arith)))

pub place_end : (ns : List Name) (s : Name) → length ns ≤ place ns s → place (ns ++ (s ∷ [])) s ≡ length ns
place_end [] s h = rw (same_name s)
place_end (n ∷ ns) s h = go (same_bytes n s) refl (λ i. place_end ns s i)
  where
    go : (c : Bool) → same_bytes n s ≡ c → (length ns ≤ place ns s → place (ns ++ (s ∷ [])) s ≡ length ns) → cond (same_bytes n s) 0 (suc (place (ns ++ (s ∷ [])) s)) ≡ suc (length ns)
    go true e ih = let g : place (n ∷ ns) s ≡ 0 = rw e in absurd (omega arith)
    go false e ih = let g : place (n ∷ ns) s ≡ suc (place ns s) = rw e in rw e (ap suc (ih (omega arith)))

pub see-has : (ns : List Name) (s : Name) → place (see ns s) s < length (see ns s)
see-has ns s = go (has ns s) refl
  where
    go : (c : Bool) → has ns s ≡ c → place (cond (has ns s) ns (ns ++ (s ∷ []))) s < length (cond (has ns s) ns (ns ++ (s ∷ [])))
    go true e = rw e (ltb-true (place ns s) (length ns) e)
    go false e = rw e (omega (arith, place_end ns s (ltb-false (place ns s) (length ns) e), length-append ns (s ∷ [])))

-- the list grows
pub record Longer (ns ms : List Name) : Type 0 where
  pub more : List Name
  pub is : ms ≡ ns ++ more

pub longer-same : (ns : List Name) → Longer ns ns
longer-same ns = record { more = []; is = sym (append-nil ns) }

pub longer-then : {ns ms ls : List Name} → Longer ns ms → Longer ms ls → Longer ns ls
longer-then {ns = ns} a b = record { more = a.more ++ b.more; is = b.is ∙ ap (λ (l : List Name). l ++ b.more) a.is ∙ append_assoc ns a.more b.more }

pub longer-see : (ns : List Name) (s : Name) → Longer ns (see ns s)
longer-see ns s = go (has ns s) refl
  where
    go : (c : Bool) → has ns s ≡ c → Longer ns (see ns s)
    go true e = rw e (longer-same ns)
    go false e = rw e record { more = s ∷ []; is = refl }

pub longer-signals : (t : Kernel) (ns : List Name) → Longer ns (signals_from ns t)
longer-signals (leaf T.nothing) ns = longer-same ns
longer-signals (leaf T.pause) ns = longer-same ns
longer-signals (leaf (T.emit s)) ns = longer-see ns s
longer-signals (leaf (T.exit t)) ns = longer-same ns
longer-signals (one (T.signal s) p) ns = longer-then (longer-see ns s) (longer-signals p (see ns s))
longer-signals (one (T.suspend s) p) ns = longer-then (longer-signals p ns) (longer-see (signals_from ns p) s)
longer-signals (one T.loop p) ns = longer-signals p ns
longer-signals (one (T.trap t) p) ns = longer-signals p ns
longer-signals (two (T.present s) p q) ns = longer-then (longer-see ns s) (longer-then (longer-signals p (see ns s)) (longer-signals q (signals_from (see ns s) p)))
longer-signals (two T.sequence p q) ns = longer-then (longer-signals p ns) (longer-signals q (signals_from ns p))
longer-signals (two T.parallel p q) ns = longer-then (longer-signals p ns) (longer-signals q (signals_from ns p))

-- a name of the list, in a longer one
pub place_kept : {ns ms : List Name} (s : Name) → place ns s < length ns → Longer ns ms → (place ms s ≡ place ns s) × (place ms s < length ms)
place_kept {ns = ns} {ms = ms} s h l =
    let e : place ms s ≡ place ns s = rw l.is (place_in ns l.more s h) in
    (e, rw e (omega (arith, h, ap (λ (k : List Name). length k) l.is, length-append ns l.more)))

pub seen-is : (ts : List Name) (t : Kernel) (g : Progress) → (past ts t g).seen ≡ signals_from g.seen t
seen-is ts (leaf T.nothing) g = refl
seen-is ts (leaf T.pause) g = refl
seen-is ts (leaf (T.emit s)) g = refl
seen-is ts (leaf (T.exit t)) g = refl
seen-is ts (one (T.signal s) p) g = seen-is ts p (note s g)
seen-is ts (one (T.suspend s) p) g = ap (λ (l : List Name). see l s) (seen-is ts p g)
seen-is ts (one T.loop p) g = seen-is ts p g
seen-is ts (one (T.trap t) p) g = seen-is (t ∷ ts) p g
seen-is ts (two (T.present s) p q) g = seen-is ts q (past ts p (note s g)) ∙ ap (λ (l : List Name). signals_from l q) (seen-is ts p (note s g))
seen-is ts (two T.sequence p q) g = seen-is ts q (past ts p g) ∙ ap (λ (l : List Name). signals_from l q) (seen-is ts p g)
seen-is ts (two T.parallel p q) g = seen-is ts q (past ts p g) ∙ ap (λ (l : List Name). signals_from l q) (seen-is ts p g)

or-false : (a : Bool) → a ≡ a || false
or-false true = refl
or-false false = refl

or_three : (a b c : Bool) → (a || b) || c ≡ a || (b || c)
or_three true b c = refl
or_three false b c = refl

lost-two : (a b c d e : Bool) → e ≡ d || c → d ≡ a || b → e ≡ a || (b || c)
lost-two a b c d e f g = f ∙ ap (λ (z : Bool). z || c) g ∙ or_three a b c

pub lost-is : (ts : List Name) (t : Kernel) (g : Progress) → (past ts t g).lost ≡ g.lost || untrapped ts t
lost-is ts (leaf T.nothing) g = or-false g.lost
lost-is ts (leaf T.pause) g = or-false g.lost
lost-is ts (leaf (T.emit s)) g = or-false g.lost
lost-is ts (leaf (T.exit t)) g = refl
lost-is ts (one (T.signal s) p) g = lost-is ts p (note s g)
lost-is ts (one (T.suspend s) p) g = lost-is ts p g
lost-is ts (one T.loop p) g = lost-is ts p g
lost-is ts (one (T.trap t) p) g = lost-is (t ∷ ts) p g
lost-is ts (two (T.present s) p q) g = lost-two g.lost (untrapped ts p) (untrapped ts q) _ _ (lost-is ts q (past ts p (note s g))) (lost-is ts p (note s g))
lost-is ts (two T.sequence p q) g = lost-two g.lost (untrapped ts p) (untrapped ts q) _ _ (lost-is ts q (past ts p g)) (lost-is ts p g)
lost-is ts (two T.parallel p q) g = lost-two g.lost (untrapped ts p) (untrapped ts q) _ _ (lost-is ts q (past ts p g)) (lost-is ts p g)

-- the bytes of a node after those of its children
one-bytes : (out bs : List ℕ) (u : S.Unary) (p : Stmt) (k f : ℕ) → bs ≡ out ++ postfix p → k ≡ kind (S.one u p) → f ≡ field (S.one u p) → bs ++ (k ∷ f ∷ []) ≡ out ++ postfix (S.one u p)
one-bytes out bs u p k f e a b =
    rw (e, a, b, bytes-append (nodes p) (S.one u p ∷ [])) (append_assoc out (postfix p) (kind (S.one u p) ∷ field (S.one u p) ∷ []))

two_bytes : (out bs cs : List ℕ) (u : S.Binary) (p q : Stmt) (k f : ℕ) → bs ≡ out ++ postfix p → cs ≡ bs ++ postfix q → k ≡ kind (S.two u p q) → f ≡ field (S.two u p q) → cs ++ (k ∷ f ∷ []) ≡ out ++ postfix (S.two u p q)
two_bytes out bs cs u p q k f d e a b =
    rw (e, d, a, b, bytes-append (nodes p ++ nodes q) (S.two u p q ∷ []), bytes-append (nodes p) (nodes q))
    (append_assoc (out ++ postfix p) (postfix q) (kind (S.two u p q) ∷ field (S.two u p q) ∷ []) ∙ append_assoc out (postfix p) (postfix q ++ (kind (S.two u p q) ∷ field (S.two u p q) ∷ []))
    ∙ ap (λ (l : List ℕ). out ++ l) (sym (append_assoc (postfix p) (postfix q) (kind (S.two u p q) ∷ field (S.two u p q) ∷ []))))

-- with the final list of signals
bytes-are : (fin ts : List Name) (t : Kernel) (g : Progress) → Longer (past ts t g).seen fin → (past ts t g).bytes ≡ g.bytes ++ postfix (resolve fin ts t)
bytes-are fin ts (leaf T.nothing) g l = refl
bytes-are fin ts (leaf T.pause) g l = refl
bytes-are fin ts (leaf (T.emit s)) g l = rw (place_kept s (see-has g.seen s) l).0
bytes-are fin ts (leaf (T.exit t)) g l = refl
bytes-are fin ts (one (T.signal s) p) g l =
    let m : Longer (see g.seen s) (past ts p (note s g)).seen = rw (seen-is ts p (note s g)) (longer-signals p (see g.seen s)) in
    one-bytes g.bytes (past ts p (note s g)).bytes (S.signal (place fin s)) (resolve fin ts p) 5 _ (bytes-are fin ts p (note s g) l) refl
    (sym (place_kept s (place_kept s (see-has g.seen s) m).1 l).0)
bytes-are fin ts (one (T.suspend s) p) g l =
    one-bytes g.bytes (past ts p g).bytes (S.suspend (place fin s)) (resolve fin ts p) 7 _ (bytes-are fin ts p g (longer-then (longer-see (past ts p g).seen s) l)) refl
    (sym (place_kept s (see-has (past ts p g).seen s) l).0)
bytes-are fin ts (one T.loop p) g l = one-bytes g.bytes (past ts p g).bytes S.loop (resolve fin ts p) 8 0 (bytes-are fin ts p g l) refl refl
bytes-are fin ts (one (T.trap t) p) g l = one-bytes g.bytes (past (t ∷ ts) p g).bytes S.trap (resolve fin (t ∷ ts) p) 11 0 (bytes-are fin (t ∷ ts) p g l) refl refl
bytes-are fin ts (two (T.present s) p q) g l =
    let a : Longer (see g.seen s) (past ts p (note s g)).seen = rw (seen-is ts p (note s g)) (longer-signals p (see g.seen s)) in
    let b : Longer (past ts p (note s g)).seen (past ts q (past ts p (note s g))).seen = rw (seen-is ts q (past ts p (note s g))) (longer-signals q (past ts p (note s g)).seen) in
    two_bytes g.bytes (past ts p (note s g)).bytes (past ts q (past ts p (note s g))).bytes (S.present (place fin s)) (resolve fin ts p) (resolve fin ts q) 6 _
    (bytes-are fin ts p (note s g) (longer-then b l)) (bytes-are fin ts q (past ts p (note s g)) l) refl
    (sym (place_kept s (place_kept s (see-has g.seen s) (longer-then a b)).1 l).0)
bytes-are fin ts (two T.sequence p q) g l =
    let b : Longer (past ts p g).seen (past ts q (past ts p g)).seen = rw (seen-is ts q (past ts p g)) (longer-signals q (past ts p g).seen) in
    two_bytes g.bytes (past ts p g).bytes (past ts q (past ts p g)).bytes S.sequence (resolve fin ts p) (resolve fin ts q) 9 0
    (bytes-are fin ts p g (longer-then b l)) (bytes-are fin ts q (past ts p g) l) refl refl
bytes-are fin ts (two T.parallel p q) g l =
    let b : Longer (past ts p g).seen (past ts q (past ts p g)).seen = rw (seen-is ts q (past ts p g)) (longer-signals q (past ts p g).seen) in
    two_bytes g.bytes (past ts p g).bytes (past ts q (past ts p g)).bytes S.parallel (resolve fin ts p) (resolve fin ts q) 10 0
    (bytes-are fin ts p g (longer-then b l)) (bytes-are fin ts q (past ts p g) l) refl refl

-- what is written in text order, with the numbers known so far, is the table of the statement
pub record Written (t : Tree) : Type 0 where
  pub table : (past [] (expand t) blank).bytes ≡ postfix (statement_of t)
  pub names : (past [] (expand t) blank).seen ≡ signals t
  pub exits : (past [] (expand t) blank).lost ≡ untrapped [] (expand t)

pub written : (t : Tree) → Written t
written t = record {
  table = bytes-are (signals t) [] (expand t) blank (rw (seen-is [] (expand t) blank) (longer-same (signals t)));
  names = seen-is [] (expand t) blank;
  exits = lost-is [] (expand t) blank;
}
