-- The beginning of a statement, by its tokens.
use mathlib.Core.Path.{◌≡◌, sym, ◌∙◌}
use mathlib.Core.List.{List, ◌∷◌}
use Prim.Native.Nat.{ℕ}
use Rattle.grammar.specs.Tokens as G
use Rattle.grammar.specs.Tokens.{opening, mark, name}
use Rattle.grammar.specs.Tree as T
use Rattle.grammar.specs.Tree.{Tree, Name}
use Rattle.grammar.specs.Machine.{Before, Open, Wanting, a_present, expect, want_name, want_in, run}
use Rattle.scan.specs.Scanning.{rest, Lexed, NameAt, ScannedAs, opening_is, Lacks}
use Rattle.scan.specs.declared.Opening.{Opening}
use Rattle.scan.specs.declared.Token.{Token}
use Rattle.scan.specs.declared.Token.TheVariants.{Opens}
use Rattle.sheet.specs.Sheet.{part}
use Rattle.reader.specs.Reading.{NoWay, NoNameIn, no_name, no_in}
use Rattle.grammar.proofs.Stops.{wants-name, wants_in, wants-branch, refuses}

pub begun : (x : List ℕ) (at s e : ℕ) {t : Token} {o : Opening} (o' : Opening) → t ≡ Opens o → o ≡ o' → ScannedAs x at s e t → Lexed x at e (opening (opening_is o'))
begun x at s e o' is same l = rw (is, same) at l

pub name-missing : {x : List ℕ} {at : ℕ} (w : Wanting) → ((n : Name) → Lacks x at (name n)) → NoWay (want_name w) x at
name-missing {x = x} {at = at} w h = λ b k p. refuses p (wants-name w b k (rest x at) (λ n. (h n).first))

module _ {x : List ℕ} {at e : ℕ} (o : G.Opening) (w : Wanting) (m : (b : Before) (k : Open) (ts : List G.Token) → run (expect b k) (opening o ∷ ts) ≡ run (want_name w b k) ts) (l : Lexed x at e (opening o)) where
  through : NoWay (want_name w) x e → NoWay expect x at
  through d = λ b k p f. let i : run (expect b k) (rest x at) ≡ run (want_name w b k) (rest x e) = rw l.moves (m b k (rest x e)) in d b k p (sym i ∙ f)

  -- no name
  pub unnamed : ((n : Name) → Lacks x e (name n)) → NoWay expect x at
  unnamed h = through (name-missing w h)

  -- or no `in` after it
  pub without-in : (u : Name → T.Unary) → ((n : Name) (b : Before) (k : Open) (ts : List G.Token) → run (want_name w b k) (name n ∷ ts) ≡ run (want_in (u n) b k) ts) → NoNameIn x e → NoWay expect x at
  without-in u n (no_name h) = unnamed h
  without-in u n (no_in {start = a} {stop = c} d h) =
      through (λ b k p. refuses {ts = rest x c} p (rw d.lexed.moves (n (part x a c) b k (rest x c) ∙ wants_in (u (part x a c)) b k (rest x c) h.first)))

-- neither `then` nor `else`
pub branch-missing : {x : List ℕ} {at a e : ℕ} → NameAt x at a e → Lacks x e (mark G.then) → Lacks x e (mark G.else) → NoWay (want_name a_present) x at
branch-missing {x = x} {a = a} {e = e} d h i = λ b k p. refuses {ts = rest x e} p (rw d.lexed.moves (wants-branch (part x a e) b k (rest x e) h.first i.first))
