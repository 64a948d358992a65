-- A text can go on with bytes exactly if its tokens can with tokens: the machine passes them, and its state has an ending that is spelled.
use mathlib.Core.Path.{◌≡◌, refl, ap, ◌∙◌}
use mathlib.Core.List.{List, [], ◌∷◌, ◌++◌}
use Prim.Native.Nat.{ℕ}
use Prim.Native.Char.{code}
use native.Mathlib.Omega.{arith}
use Rattle.grammar.specs.Tokens.{Token, tokens}
use Rattle.grammar.specs.Tree.{Tree}
use Rattle.grammar.specs.Grammar.{Program}
use Rattle.grammar.specs.Machine.{alone, top, State, expect, Next, to, no_way, next, accepted, take_step, run}
use Rattle.grammar.specs.Faults.{CanGoOn}
use Rattle.grammar.specs.Printing.{spell}
use Rattle.grammar.specs.Theorems.{GoesOn}
use Rattle.grammar.proofs.Beginnings.{apart}
use Rattle.grammar.proofs.Completeness.{complete}
use Rattle.grammar.proofs.Soundness.{sound}
use Rattle.grammar.proofs.Spelling.{Spellable, spelled}
use Rattle.grammar.proofs.Viability.{ending}

-- the machine passes ts, whatever follows
record Passes (s : State) (ts : List Token) : Type 0 where
  pub last : State
  pub moves : (ys : List Token) → run s (ts ++ ys) ≡ run last ys

passes : (ts more : List Token) (s : State) (t : Tree) → run s (ts ++ more) ≡ accepted t → Passes s ts
passes [] more s t e = record { last = s; moves = λ ys. refl }
passes (u ∷ ts) more s t e = go (next s u) refl e (λ r f. passes ts more r t f)
  where
    go : (n : Next) → next s u ≡ n → take_step n (u ∷ (ts ++ more)) (λ r. run r (ts ++ more)) ≡ accepted t →
        ((r : State) → run r (ts ++ more) ≡ accepted t → Passes r ts) → Passes s (u ∷ ts)
    go (to r) f g h = let d = h r g in record { last = d.last; moves = λ ys. rw f (d.moves ys) }
    go no_way f g h = let z : ◌≡◌ {A = ℕ} 0 1 = cc in absurd (omega arith)

-- a text with further tokens spelled
spelled_after : (text : List ℕ) (us : List Token) → Spellable us → tokens (text ++ (code " " ∷ spell us)) ≡ tokens text ++ us
spelled_after text us h = apart text (spell us) ∙ ap (λ (l : List Token). tokens text ++ l) (spelled us h)

-- tokens that can go on do so with tokens that are spelled
bytes_on : (text : List ℕ) → CanGoOn (tokens text) → (more : List ℕ) × (t : Tree) × Program t (tokens (text ++ (code " " ∷ more)))
bytes_on text (more, t, d) =
    let p = passes (tokens text) more (expect alone top) t (complete t _ d) in
    let e = ending p.last in
    (spell e.tokens, e.tree, rw (spelled_after text e.tokens e.spellable) (sound e.tree _ (p.moves e.tokens ∙ e.reads)))

tokens-on : (text more : List ℕ) (t : Tree) → Program t (tokens (text ++ (code " " ∷ more))) → CanGoOn (tokens text)
tokens-on text more t d = (tokens more, t, rw (apart text more) at d)

pub goes_on_lem : GoesOn
unfolding GoesOn
goes_on_lem text = (bytes_on text, λ d. tokens-on text d.0 d.1 d.2)
