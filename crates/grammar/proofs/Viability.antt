-- Each state of the machine can be led to a program, so it is stuck at the first token with which the text can't go on.
use mathlib.Core.Path.{◌≡◌, refl, sym, ap, ◌∙◌, subst}
use mathlib.Core.Logic.{◌⊎◌, inl, inr}
use mathlib.Core.List.{List, [], ◌∷◌, ◌++◌, append_assoc, append-nil}
use Prim.Native.Nat.{ℕ}
use native.Mathlib.Omega.{arith}
use Rattle.grammar.specs.Tokens.{Token, opening, mark, name, Opening, Mark, nothing, abort, bars, close, in-mark, then, end, when}
use Rattle.grammar.specs.Tree as T
use Rattle.grammar.specs.Tree.{Tree, Name}
use Rattle.grammar.specs.Grammar.{Program}
use Rattle.grammar.specs.Machine.{Before, alone, after, Open, top, within, branch, body, then_branch, else_branch, suspended, aborted, Wanting, an_emit, an_exit, a_signal, a_trap, a_present, a_suspend, a_sustain, an_await, an_abort, State, expect, have, want_name, want_in, want_branch, want_end, want_abort, Next, to, no_way, next, Outcome, accepted, stuck, finish, take_step, run, parse}
use Rattle.grammar.specs.Faults.{CanGoOn, Fault}
use Rattle.grammar.specs.Printing.{name_of}
use Rattle.grammar.specs.Theorems.{OneFault}
use Rattle.grammar.proofs.Completeness.{complete}
use Rattle.grammar.proofs.Soundness.{sound}
use Rattle.grammar.proofs.Stops.{refuses}
use Rattle.grammar.proofs.Spelling.{Spellable}

-- a name for what is still to be named
abbrev blank_name : Name
blank_name = name_of 0

-- some tokens, which a text spells, lead from a state to a program
pub record Ending (s : State) : Type 0 where
  pub tokens : List Token
  pub tree : Tree
  pub reads : run s tokens ≡ accepted tree
  pub spellable : Spellable tokens

-- before an ending of the next state: an opening, a mark, or the name
opened : {s s' : State} (o : Opening) → next s (opening o) ≡ to s' → Ending s' → Ending s
opened o e d = record {
  tokens = opening o ∷ d.tokens;
  tree = d.tree;
  reads = rw e d.reads;
  spellable = d.spellable;
}

marked : {s s' : State} (m : Mark) → next s (mark m) ≡ to s' → Ending s' → Ending s
marked m e d = record {
  tokens = mark m ∷ d.tokens;
  tree = d.tree;
  reads = rw e d.reads;
  spellable = d.spellable;
}

called : {s s' : State} → next s (name blank_name) ≡ to s' → Ending s' → Ending s
called e d = record {
  tokens = name blank_name ∷ d.tokens;
  tree = d.tree;
  reads = rw e d.reads;
  spellable = ((0, refl), d.spellable);
}

-- what closes the open statements
closing : (k : Open) (p : Tree) → Ending (have p k)
closing top p = record {
  tokens = [];
  tree = p;
  reads = refl;
  spellable = tt;
}
closing (within (branch alone) b k) p =
    marked bars refl (opened nothing refl (marked close refl (closing k _)))
closing (within (branch (after l)) b k) p = marked close refl (closing k _)
closing (within (body u) b k) p = marked end refl (closing k _)
closing (within (then_branch s) b k) p = marked end refl (closing k _)
closing (within (else_branch s q) b k) p = marked end refl (closing k _)
closing (within suspended b k) p = marked when refl (called refl (closing k _))
closing (within (aborted w) b k) p = marked when refl (called refl (marked end refl (closing k _)))

expecting : (b : Before) (k : Open) → Ending (expect b k)
expecting b k = opened nothing refl (closing k _)

naming : (w : Wanting) (b : Before) (k : Open) → Ending (want_name w b k)
naming an_emit b k = called refl (closing k _)
naming an_exit b k = called refl (closing k _)
naming a_signal b k = called refl (marked in-mark refl (expecting alone (within (body (T.signal blank_name)) b k)))
naming a_trap b k = called refl (marked in-mark refl (expecting alone (within (body (T.trap blank_name)) b k)))
naming a_present b k = called refl (marked then refl (expecting alone (within (then_branch blank_name) b k)))
naming (a_suspend p) b k = called refl (closing k _)
naming a_sustain b k = called refl (closing k _)
naming an_await b k = called refl (closing k _)
naming (an_abort w p) b k = called refl (marked end refl (closing k _))

pub ending : (s : State) → Ending s
ending (expect b k) = expecting b k
ending (have p k) = closing k p
ending (want_name w b k) = naming w b k
ending (want_in u b k) = marked in-mark refl (expecting alone (within (body u) b k))
ending (want_branch s b k) = marked then refl (expecting alone (within (then_branch s) b k))
ending (want_end p b k) = marked end refl (closing k _)
ending (want_abort b k) = opened abort refl (expecting alone (within (aborted T.weak) b k))

-- where the machine stops: it passes xs, whatever follows, to a state that has no way on
pub record Stops (s : State) (ts rest : List Token) : Type 0 where
  pub passed : List Token
  pub last : State
  pub split : ts ≡ passed ++ rest
  pub moves : (ys : List Token) → run s (passed ++ ys) ≡ run last ys
  pub first : (t : Token) (us : List Token) → rest ≡ t ∷ us → next last t ≡ no_way
  pub still : rest ≡ [] → (p : Tree) → finish last ≡ accepted p → ⊥

stops : (ts rest : List Token) (s : State) → run s ts ≡ stuck rest → Stops s ts rest
stops [] rest s e = record {
  passed = [];
  last = s;
  split = empty s e;
  moves = λ ys. refl;
  first = λ t us f. let g : ◌≡◌ {A = List Token} [] rest = empty s e in let z : ◌≡◌ {A = List Token} [] (t ∷ us) = cc in absurd (none-empty t us z);
  still = λ f p g. let z : stuck rest ≡ accepted p = cc in absurd (apart rest p z);
}
  where
    apart : (r : List Token) (p : Tree) → stuck r ≡ accepted p → ⊥
    apart r p z = let y : ◌≡◌ {A = ℕ} 0 1 = cc in omega arith

    none-empty : (t : Token) (us : List Token) → ◌≡◌ {A = List Token} [] (t ∷ us) → ⊥
    none-empty t us z = let y : ◌≡◌ {A = ℕ} 0 1 = cc in omega arith

    empty : (s : State) → finish s ≡ stuck rest → ◌≡◌ {A = List Token} [] rest
    empty (expect b k) e = cc
    empty (have p top) e = cc
    empty (have p (within f b k)) e = cc
    empty (want_name w b k) e = cc
    empty (want_in u b k) e = cc
    empty (want_branch x b k) e = cc
    empty (want_end p b k) e = cc
    empty (want_abort b k) e = cc
stops (t ∷ ts) rest s e = go (next s t) refl e (λ s' e'. stops ts rest s' e')
  where
    go : (n : Next) → next s t ≡ n → take_step n (t ∷ ts) (λ s'. run s' ts) ≡ stuck rest → ((s' : State) → run s' ts ≡ stuck rest → Stops s' ts rest) → Stops s (t ∷ ts) rest
    go (to s') f e' ih = let d = ih s' e' in record {
      passed = t ∷ d.passed;
      last = d.last;
      split = ap (λ (x : List Token). t ∷ x) d.split;
      moves = λ ys. rw f (d.moves ys);
      first = d.first;
      still = d.still;
    }
    go no_way f e' ih = let same : ◌≡◌ {A = List Token} (t ∷ ts) rest = cc in record {
      passed = [];
      last = s;
      split = same;
      moves = λ ys. refl;
      first = λ u us g. let h : t ≡ u = cc in rw (← h) f;
      still = λ g. let z : ◌≡◌ {A = List Token} (t ∷ ts) [] = cc in let y : ◌≡◌ {A = ℕ} 0 1 = cc in absurd (omega arith);
    }

module _ (ts rest : List Token) (e : parse ts ≡ stuck rest) where
  stop : Stops (expect alone top) ts rest
  stop = stops ts rest (expect alone top) e

  goes_on_lem : CanGoOn stop.passed
  goes_on_lem =
      let d = ending stop.last in
      (d.tokens, d.tree, sound d.tree _ (stop.moves d.tokens ∙ d.reads))

  first-token : (t : Token) (us : List Token) → rest ≡ t ∷ us → CanGoOn (stop.passed ++ (t ∷ [])) → ⊥
  first-token t us f (ys, p, d) =
      let a : parse ((stop.passed ++ (t ∷ [])) ++ ys) ≡ accepted p = complete p _ d in
      let b : parse (stop.passed ++ (t ∷ ys)) ≡ accepted p = rw append_assoc at a in
      let g : parse (stop.passed ++ (t ∷ ys)) ≡ run stop.last (t ∷ ys) = stop.moves (t ∷ ys) in
      let h : next stop.last t ≡ no_way = stop.first t us f in
      let i : run stop.last (t ∷ ys) ≡ stuck (t ∷ ys) = rw h refl in
      let y : ◌≡◌ {A = ℕ} 0 1 = cc in omega arith

  pub fault-at : Fault ts rest
  fault-at = record {
    before = stop.passed;
    split = stop.split;
    goes_on = goes_on_lem;
    stops = first-token;
    underivable = λ p d. refuses p e (complete p ts d);
  }

-- a fault or a derivation
fault-or-tree : (ts : List Token) → ((us : List Token) × Fault ts us) ⊎ ((t : Tree) × Program t ts)
fault-or-tree ts = go (parse ts) refl
  where
    go : (o : Outcome) → parse ts ≡ o → ((us : List Token) × Fault ts us) ⊎ ((t : Tree) × Program t ts)
    go (accepted t) e = inr (t, sound t ts e)
    go (stuck us) e = inl (us, fault-at ts us e)

-- what goes on with more goes on with less
less-goes-on : (a b : List Token) (t : Token) → CanGoOn (a ++ (t ∷ b)) → CanGoOn (a ++ (t ∷ []))
less-goes-on a b t (ys, p, d) =
    (b ++ ys, p, subst (λ (l : List Token). Program p l) (append_assoc a (t ∷ b) ys ∙ sym (append_assoc a (t ∷ []) (b ++ ys))) d)

-- of two faults, after tokens that both have passed
same-fault : (a b c us vs : List Token) → b ++ us ≡ c ++ vs → CanGoOn (a ++ b) → CanGoOn (a ++ c) →
    ((t : Token) (more : List Token) → us ≡ t ∷ more → CanGoOn ((a ++ b) ++ (t ∷ [])) → ⊥) → ((t : Token) (more : List Token) → vs ≡ t ∷ more → CanGoOn ((a ++ c) ++ (t ∷ [])) → ⊥) → us ≡ vs
same-fault a [] [] us vs e g h i j = e
same-fault a [] (t ∷ c) us vs e g h i j = absurd (i t (c ++ vs) e (subst (λ (l : List Token). CanGoOn (l ++ (t ∷ []))) (sym (append-nil a)) (less-goes-on a c t h)))
same-fault a (t ∷ b) [] us vs e g h i j = absurd (j t (b ++ us) (sym e) (subst (λ (l : List Token). CanGoOn (l ++ (t ∷ []))) (sym (append-nil a)) (less-goes-on a b t g)))
same-fault a (t ∷ b) (u ∷ c) us vs e g h i j =
    let f : t ≡ u = cc in
    let k : b ++ us ≡ c ++ vs = cc in
    let l : a ++ (t ∷ b) ≡ (a ++ (t ∷ [])) ++ b = sym (append_assoc a (t ∷ []) b) in
    let m : a ++ (u ∷ c) ≡ (a ++ (t ∷ [])) ++ c = rw f (sym (append_assoc a (u ∷ []) c)) in
    same-fault (a ++ (t ∷ [])) b c us vs k (subst CanGoOn l g) (subst CanGoOn m h)
    (λ v more o q. i v more o (subst (λ (z : List Token). CanGoOn (z ++ (v ∷ []))) (sym l) q))
    (λ v more o q. j v more o (subst (λ (z : List Token). CanGoOn (z ++ (v ∷ []))) (sym m) q))

pub one-fault : (ts us vs : List Token) → Fault ts us → Fault ts vs → us ≡ vs
one-fault ts us vs f g = same-fault [] f.before g.before us vs (sym f.split ∙ g.split) f.goes_on g.goes_on f.stops g.stops

-- and it is where the machine is stuck
pub fault-stuck : (ts us : List Token) → Fault ts us → parse ts ≡ stuck us
fault-stuck ts us f = go (parse ts) refl
  where
    go : (o : Outcome) → parse ts ≡ o → parse ts ≡ stuck us
    go (accepted t) e = absurd (f.underivable t (sound t ts e))
    go (stuck vs) e = e ∙ ap stuck (one-fault ts vs us (fault-at ts vs e) f)

pub of_faults : OneFault
of_faults = record { either = fault-or-tree; one_fault = one-fault }
