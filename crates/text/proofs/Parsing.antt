-- A whole text on a fresh sheet.
use mathlib.Core.Path.{◌≡◌, refl, sym, ◌∙◌}
use mathlib.Core.Bool.{Bool, true, false}
use mathlib.Core.List.{List, [], ◌∷◌}
use Prim.Native.Nat.{ℕ, ◌*◌, ◌≤◌}
use native.Mathlib.Omega.{arith}
use lib.ListN.{length}
use Rattle.grammar.specs.Limits.{max_source, max_levels}
use Rattle.esterel.specs.Limits.{max_nodes}
use Rattle.esterel.specs.Table.{refused}
use Rattle.grammar.specs.Tokens.{Token, tokens, byte_of}
use Rattle.grammar.specs.Tree.{Tree}
use Rattle.grammar.specs.Grammar.{Program}
use Rattle.grammar.specs.Machine.{alone, Open, top, expect, Outcome, accepted, stuck, parse}
use Rattle.grammar.specs.Faults.{number_of_fault}
use Rattle.grammar.specs.Meaning.{faulty}
use Rattle.grammar.specs.Progress.{blank}
use Rattle.grammar.proofs.Completeness.{complete}
use Rattle.grammar.proofs.Soundness.{sound}
use Rattle.grammar.proofs.Depth.{few-levels}
use Rattle.grammar.proofs.Stops.{top-end, refuses as machine-refuses}
use Rattle.grammar.proofs.Viability.{fault-at}
use Rattle.scan.specs.Scanning.{rest, none}
use Rattle.reader.specs.Reading.{Deeper, SequenceIs}
use Rattle.fault.specs.Walking.{FaultTold}
use Rattle.sheet.specs.declared.Sheet.{Sheet}
use Rattle.text.specs.Reading.{refuses, ReadAs, judged}
use Rattle.text.specs.Inner.{Parsing, ParsedAs}

module _ (x : List ℕ) (short : length x ≤ max_source) where
  pub never_read : ((k : Open) → Deeper (expect alone k) k x 0 max_levels) → (t : Tree) → Program t (tokens x) → ⊥
  unfolding rest
  never_read h t d = let e = complete t (tokens x) d in omega (arith, h top t e, few-levels x t short e)

  module _ {w w' : Sheet} {e : ℕ} (s : SequenceIs x 0 max_levels w w' e) where
    whole : rest x e ≡ [] → Parsing x w w'
    unfolding rest
    whole g = record {
      tree = s.tree;
      derivation = sound s.tree (tokens x) (s.moves top ∙ rw g);
      wrote = λ f. s.wrote [] blank (omega arith) f;
    }

    ends-early : none (rest x e) ≡ false → (t : Tree) → Program t (tokens x) → ⊥
    unfolding rest
    ends-early f t d = go (rest x e) refl
      where
        go : (ts : List Token) → rest x e ≡ ts → ⊥
        go [] g = let y : none (rest x e) ≡ true = rw g in let v : ◌≡◌ {A = ℕ} 0 1 = cc in omega arith
        go (u ∷ ts) g = machine-refuses {ts = u ∷ ts} t (s.moves top ∙ rw g (top-end s.tree u ts (λ us i. s.stops.first us (g ∙ i)))) (complete t (tokens x) d)

    ends : none (rest x e) ≡ true → Parsing x w w'
    ends f = go (rest x e) refl
      where
        go : (ts : List Token) → rest x e ≡ ts → Parsing x w w'
        go [] g = whole g
        go (u ∷ ts) g = let y : none (rest x e) ≡ false = rw g in let v : ◌≡◌ {A = ℕ} 0 1 = cc in absurd (omega arith)

    -- whether nothing is left
    pub told-ends : (b : Bool) → b ≡ none (rest x e) → ParsedAs x w w' b
    told-ends true g = ends (sym g)
    told-ends false g = ends-early (sym g)

-- a text that is outside the grammar is refused where it can't go on
pub unread : (x old : List ℕ) (number place : ℕ) → 2 * max_nodes ≤ length old → length x ≤ max_source → ((t : Tree) → Program t (tokens x) → ⊥) → FaultTold x number place → ReadAs x old old (refuses number 0 place)
unread x old number place room short h f = go (parse (tokens x)) refl
  where
    go : (o : Outcome) → parse (tokens x) ≡ o → ReadAs x old old (refuses number 0 place)
    go (accepted t) e = absurd (h t (sound t (tokens x) e))
    go (stuck us) e =
        let p = f us (fault-at (tokens x) us e) in
        let z : refuses number 0 place ≡ refuses (number_of_fault us) 0 (byte_of x us) = rw (p.0, p.1) in
        judged (refused (number_of_fault us) 0) 0 (byte_of x us) room (faulty us short (fault-at (tokens x) us e)) (z, refl)
