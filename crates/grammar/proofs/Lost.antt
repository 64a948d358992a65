-- Where an exit without its trap, and a signal too many, stand in the tokens.
use mathlib.Core.Path.{◌≡◌, refl, sym, ap, ◌∙◌}
use mathlib.Core.Bool.{Bool, true, false, ◌||◌, not, cond}
use mathlib.Core.List.{List, [], ◌∷◌, ◌++◌}
use Prim.Native.Nat.{ℕ, suc, ◌≤◌, ◌<◌}
use native.Mathlib.Omega.{arith}
use lib.Dec.{ltb}
use lib.ListN.{length}
use borrow.Author.Tests.{lt-ltb, ltb-true, ltb-false}
use Rattle.esterel.specs.Limits.{signals as max_signals}
use Rattle.grammar.specs.Tokens.{Token, opening, mark, name, foreign, stray, exit}
use Rattle.grammar.specs.Tree.{Tree, Name}
use Rattle.grammar.specs.Kernel.{added, expand}
use Rattle.grammar.specs.Grammar.{Category, Derives, a-nothing, a-pause, an-emit, an-exit, a-signal, a-trap, a-loop, a-suspend, a_then_else, a-then, an_else, a_bracket, a-halt, a-sustain, an-await, an-abort, a_weak_abort, a-single, a-sequence, a_pair, a-branch, Program}
use Rattle.grammar.specs.Names.{has, see}
use Rattle.grammar.specs.Faults.{lost_from, crowded_from, opens_signal, marks_signal}
use Rattle.grammar.specs.Meaning.{signals, untrapped}
use Rattle.grammar.specs.Theorems.{AtNames, InOrder, signal_names, see_all}
use Rattle.grammar.proofs.Order.{signals_in_order}

-- tokens that end with others
data Tail : List Token → List Token → Type 0 where
  here : {ts : List Token} → Tail ts ts
  further : {t : Token} {us vs : List Token} → Tail us vs → Tail (t ∷ us) vs

after : {us vs : List Token} {t : Token} → Tail us (t ∷ vs) → Tail us vs
after here = further here
after (further x) = further (after x)

onwards : {us vs ws : List Token} → Tail us vs → Tail vs ws → Tail us ws
onwards here y = y
onwards (further x) y = further (onwards x y)

front : {us vs : List Token} → Tail us vs → (before : List Token) × (us ≡ before ++ vs)
front here = ([], refl)
front (further {t = t} x) = let (before, e) = front x in (t ∷ before, ap (λ (l : List Token). t ∷ l) e)

-- what is left of a derivation ends its tokens
left : {what : Category} {p : Tree} {us r : List Token} → Derives what p us r → Tail us r
left a-nothing = further here
left a-pause = further here
left an-emit = further (further here)
left an-exit = further (further here)
left (a-signal d) = further (further (further (after (left d))))
left (a-trap d) = further (further (further (after (left d))))
left (a-loop d) = further (after (left d))
left (a-suspend d) = further (after (after (left d)))
left (a_then_else d e) = further (further (further (onwards (after (left d)) (after (left e)))))
left (a-then d) = further (further (further (after (left d))))
left (an_else d) = further (further (further (after (left d))))
left (a_bracket d) = further (after (left d))
left a-halt = further here
left a-sustain = further (further here)
left an-await = further (further here)
left (an-abort d) = further (after (after (after (left d))))
left (a_weak_abort d) = further (further (after (after (after (left d)))))
left (a-single d) = left d
left (a-sequence d e) = onwards (after (left d)) (left e)
left (a_pair d e) = onwards (after (left d)) (left e)
left (a-branch d e) = onwards (after (left d)) (left e)

-- What is found in the tokens us: an exit's name where there is one without its trap (b), else what is found later.
data Found (us later : List Token) (b : Bool) (l : List Token) : Type 0 where
  nowhere : b ≡ false → l ≡ later → Found us later b l
  at : (n : Name) (more : List Token) → b ≡ true → l ≡ name n ∷ more → Tail us (opening exit ∷ name n ∷ more) → Found us later b l

within : {us vs later l : List Token} {b : Bool} → Tail us vs → Found vs later b l → Found us later b l
within x (nowhere e f) = nowhere e f
within x (at n more e f y) = at n more e f (onwards x y)

-- in one part, then in another
join : {us vs later rest l : List Token} {b c : Bool} → Tail us vs → Found us rest b l → Found vs later c rest → Found us later (b || c) l
join x (nowhere e f) (nowhere g h) = nowhere (rw (e, g)) (f ∙ h)
join x (nowhere e f) (at n more g h y) = at n more (rw (e, g)) (f ∙ h) (onwards x y)
join x (at n more e f y) s = at n more (rw e) f y

-- an exit of a form's own trap has it around
own : (ts : List Name) → not (has (added ∷ ts) added) ≡ false
own ts = rw (lt-ltb 0 (suc (length ts)) (omega arith))

find : {what : Category} {p : Tree} {us r : List Token} (d : Derives what p us r) (ts : List Name) (later : List Token) → Found us later (untrapped ts (expand p)) (lost_from ts d later)
find a-nothing ts later = nowhere refl refl
find a-pause ts later = nowhere refl refl
find an-emit ts later = nowhere refl refl
find (an-exit {t = t} {r = r}) ts later = go (has ts t)
  where
    go : (b : Bool) → Found (opening exit ∷ name t ∷ r) later (not b) (cond b later (name t ∷ r))
    go true = nowhere refl refl
    go false = at t r refl refl here
find (a-signal d) ts later = within (further (further (further here))) (find d ts later)
find (a-trap {t = t} d) ts later = within (further (further (further here))) (find d (t ∷ ts) later)
find (a-loop d) ts later = within (further here) (find d ts later)
find (a-suspend d) ts later = within (further here) (find d ts later)
find (a_then_else d e) ts later = within (further (further (further here))) (join (after (left d)) (find d ts (lost_from ts e later)) (find e ts later))
find (a-then d) ts later = within (further (further (further here))) (join here (find d ts later) (nowhere refl refl))
find (an_else d) ts later = within (further (further (further here))) (find d ts later)
find (a_bracket d) ts later = within (further here) (find d ts later)
find a-halt ts later = nowhere refl refl
find a-sustain ts later = nowhere refl refl
find an-await ts later = nowhere (rw (own ts)) refl
find (an-abort d) ts later = within (further here) (join here (join here (find d (added ∷ ts) later) (nowhere (own ts) refl)) (nowhere (rw (own ts)) refl))
find (a_weak_abort d) ts later = within (further (further here)) (join here (join here (find d (added ∷ ts) later) (nowhere (own ts) refl)) (nowhere (rw (own ts)) refl))
find (a-single d) ts later = find d ts later
find (a-sequence d e) ts later = join (after (left d)) (find d ts (lost_from ts e later)) (find e ts later)
find (a_pair d e) ts later = join (after (left d)) (find d ts (lost_from ts e later)) (find e ts later)
find (a-branch d e) ts later = join (after (left d)) (find d ts (lost_from ts e later)) (find e ts later)

not-both : {A : Type 0} {b : Bool} → b ≡ false → b ≡ true → A
not-both e f = let z : ◌≡◌ {A = Bool} false true = sym e ∙ f in let w : ◌≡◌ {A = ℕ} 0 1 = cc in absurd (omega arith)

lost-at : {ts l : List Token} {b : Bool} → Found ts [] b l → b ≡ true → (before : List Token) × (n : Name) × (us : List Token) × (ts ≡ before ++ (opening exit ∷ name n ∷ us)) × (l ≡ name n ∷ us)
lost-at (nowhere e f) g = not-both e g
lost-at (at n more e f y) g = let (before, h) = front y in (before, n, more, h, f)

all-trapped : {ts l : List Token} {b : Bool} → Found ts [] b l → b ≡ false → l ≡ []
all-trapped (nowhere e f) g = f
all-trapped (at n more e f y) g = not-both g e

-- Of the names of signals in the tokens, one is the first with which there are too many.
pub record Crowd (ns : List Name) (b : Bool) (ts : List Token) : Type 0 where
  pub before : List Token
  pub last : Name
  pub rest : List Token
  pub split : ts ≡ before ++ (name last ∷ rest)
  pub told : crowded_from ns b ts ≡ name last ∷ rest
  pub few : length (see_all ns (signal_names b before)) ≤ max_signals
  pub many : max_signals < length (see_all ns (signal_names b (before ++ (name last ∷ []))))

-- what is so behind a token is so with it
past : {ns ms : List Name} {b c : Bool} {ts : List Token} (t : Token) → ((us : List Token) → see_all ns (signal_names b (t ∷ us)) ≡ see_all ms (signal_names c us)) → crowded_from ns b (t ∷ ts) ≡ crowded_from ms c ts → Crowd ms c ts → Crowd ns b (t ∷ ts)
past t e f k = record {
  before = t ∷ k.before;
  last = k.last;
  rest = k.rest;
  split = ap (λ (l : List Token). t ∷ l) k.split;
  told = f ∙ k.told;
  few = rw (e k.before) k.few;
  many = rw (e (k.before ++ (name k.last ∷ []))) k.many;
}

crowd : (ns : List Name) (b : Bool) (ts : List Token) → length ns ≤ max_signals → max_signals < length (see_all ns (signal_names b ts)) → Crowd ns b ts
crowd ns b [] h m = absurd (omega arith)
crowd ns b (opening o ∷ ts) h m = past (opening o) (λ us. refl) refl (crowd ns (opens_signal o) ts h m)
crowd ns b (mark k ∷ ts) h m = past (mark k) (λ us. refl) refl (crowd ns (marks_signal k) ts h m)
crowd ns true (name n ∷ ts) h m = go (ltb max_signals (length (see ns n))) refl (λ l. crowd (see ns n) false ts l m)
  where
    go : (c : Bool) → ltb max_signals (length (see ns n)) ≡ c → (length (see ns n) ≤ max_signals → Crowd (see ns n) false ts) → Crowd ns true (name n ∷ ts)
    go true e k = record { before = []; last = n; rest = ts; split = refl; told = rw e; few = h; many = ltb-true max_signals (length (see ns n)) e }
    go false e k = past (name n) (λ us. refl) (rw e) (k (ltb-false max_signals (length (see ns n)) e))
crowd ns false (name n ∷ ts) h m = past (name n) (λ us. refl) refl (crowd ns false ts h m)
crowd ns b (foreign ∷ ts) h m = past foreign (λ us. refl) refl (crowd ns false ts h m)
crowd ns b (stray ∷ ts) h m = past stray (λ us. refl) refl (crowd ns false ts h m)

crowded : (ts : List Token) (t : Tree) → Program t ts → max_signals < length (signals t) → Crowd [] false ts
unfolding InOrder
crowded ts t d h = let e : signals t ≡ see_all [] (signal_names false ts) = signals_in_order ts t d in crowd [] false ts (omega arith) (omega (arith, ap (λ (l : List Name). length l) e))

pub at_names : AtNames
at_names = record {
  lost = λ ts t d h. lost-at (find d [] []) h;
  trapped = λ ts t d h. all-trapped (find d [] []) h;
  crowded = λ ts t d h. let k = crowded ts t d h in (k.before, k.last, k.rest, k.split, k.told, k.few, k.many);
}
