-- From one token to the next, and the bytes at which they begin.
use mathlib.Core.Path.{◌≡◌, refl, sym, ap, ◌∙◌}
use mathlib.Core.List.{List, [], ◌∷◌, ◌++◌, append_assoc, append-nil}
use Prim.Native.Nat.{ℕ, suc, ◌-◌, ◌≤◌, ◌<◌}
use native.Mathlib.Omega.{arith}
use lib.ListN.{length, get_or, length-append}
use Rattle.grammar.specs.Tokens as G
use Rattle.grammar.specs.Tokens.{tokens, beginnings, byte_of}
use Rattle.scan.specs.Scanning.{rest, starts, token_is, ScannedAs, BeginsAs, Takes, TakesToken}
use Rattle.scan.specs.declared.Scanned.{Scanned}
use Rattle.scan.specs.declared.Tokens.{Tokens}
use Rattle.std.specs.Prelude.{None}
use Rattle.scan.specs.declared.Token.{Token}
use Rattle.scan.specs.declared.Token.TheVariants.{Opens, Marks, Names, Foreign, Stray, Finished}
use Rattle.sheet.specs.Sheet.{part, Part, name_at, InText}
use Rattle.fault.specs.Walking.{Reached, Going}

-- at the front of the text, after a token
pub reached-first : (x : List ℕ) → Reached x 0
unfolding rest starts beginnings
reached-first x = record { before = []; split = refl; count = omega arith }

pub reached-next : (x : List ℕ) (at start e : ℕ) (t : G.Token) → Reached x at → rest x at ≡ t ∷ rest x e → starts x at ≡ start ∷ starts x e → Reached x e
reached-next x at start e t r m b = record {
  before = r.before ++ (start ∷ []);
  split = r.split ∙ ap (λ (l : List ℕ). r.before ++ l) b ∙ sym (append_assoc r.before (start ∷ []) (starts x e));
  count = let n : length (rest x at) ≡ suc (length (rest x e)) = ap (λ (l : List G.Token). length l) m in omega (arith, r.count, length-append r.before (start ∷ []));
}

-- a token of the text
pub record TokenAt (x : List ℕ) (s : Tokens) (r : Scanned) (t : Tokens) : Type 0 where
  pub is : G.Token
  pub told : token_is r.token (name_at x r.part) ≡ is ∷ []
  pub from : s.at < t.at
  pub stop : r.part.stop ≤ length x
  pub moves : rest x s.at ≡ is ∷ rest x t.at
  pub begins : starts x s.at ≡ r.part.start ∷ starts x t.at
  pub bounds : r.token ≡ Names → InText x r.part
  pub going : Going x t

-- what is scanned is one
record Told (x : List ℕ) (at s e : ℕ) (t : Token) : Type 0 where
  is : G.Token
  told : token_is t (part x s e) ≡ is ∷ []
  from : at < e
  to : e ≤ length x
  moves : rest x at ≡ is ∷ rest x e
  bounds : t ≡ Names → Part x s e

told : (x : List ℕ) (at s e : ℕ) (t : Token) → (t ≡ Finished → ⊥) → ScannedAs x at s e t → Told x at s e t
told x at s e (Opens o) h l = record { is = _; told = refl; from = l.from; to = l.to; moves = l.moves; bounds = λ z. grind arith }
told x at s e (Marks m) h l = record { is = _; told = refl; from = l.from; to = l.to; moves = l.moves; bounds = λ z. grind arith }
told x at s e Names h l = record { is = _; told = refl; from = l.lexed.from; to = l.lexed.to; moves = l.lexed.moves; bounds = λ z. record { order = l.ordered; within = l.lexed.to } }
told x at s e Foreign h l = record { is = _; told = refl; from = l.from; to = l.to; moves = l.moves; bounds = λ z. grind arith }
told x at s e Stray h l = record { is = _; told = refl; from = l.from; to = l.to; moves = l.moves; bounds = λ z. grind arith }
told x at s e Finished h l = absurd (h refl)

begun : (x : List ℕ) (at s e : ℕ) (t : Token) → (t ≡ Finished → ⊥) → BeginsAs x at s e t → starts x at ≡ s ∷ starts x e
begun x at s e (Opens o) h b = b
begun x at s e (Marks m) h b = b
begun x at s e Names h b = b
begun x at s e Foreign h b = b
begun x at s e Stray h b = b
begun x at s e Finished h b = absurd (h refl)

pub going-first : {x : List ℕ} {it ts : Tokens} → it ≡ ts → (ts.text.now ≡ x) × (ts.at ≡ 0) → Going x it × (it.at ≡ 0)
going-first {x} e h = rw e (record { text = h.0; within = omega (arith, h.1); reached = rw h.1 (reached-first x) }, h.1)

pub token-taken : {x : List ℕ} {s t : Tokens} (r : Scanned) → Going x s → TakesToken s r t → TokenAt x s r t
token-taken {x} {s} {t} r g k =
    let a = told x s.at r.part.start r.part.stop r.token k.one (rw g.text at k.scanned) in
    let b = begun x s.at r.part.start r.part.stop r.token k.one (rw g.text at k.begins) in
    record {
      is = a.is;
      told = a.told;
      from = rw k.at a.from;
      stop = a.to;
      moves = rw k.at a.moves;
      begins = rw k.at b;
      bounds = a.bounds;
      going = record { text = k.text ∙ g.text; within = rw k.at a.to; reached = rw k.at (reached-next x s.at r.part.start r.part.stop a.is g.reached a.moves b) };
    }

-- the byte of the next token, or the end
at_front : (before : List ℕ) (start d : ℕ) (more : List ℕ) (n : ℕ) → n ≡ length before → get_or (before ++ (start ∷ more)) n d ≡ start
at_front [] start d more n e = rw e
at_front (b ∷ before) start d more n e = rw e (at_front before start d more (length before) refl)

past_end : (before : List ℕ) (d n : ℕ) → n ≡ length before → get_or before n d ≡ d
past_end [] d n e = refl
past_end (b ∷ before) d n e = rw e (past_end before d (length before) refl)

pub byte_next : (x : List ℕ) (at start e : ℕ) → Reached x at → starts x at ≡ start ∷ starts x e → byte_of x (rest x at) ≡ start
unfolding byte_of
byte_next x at start e r b =
    let n : length (tokens x) - length (rest x at) ≡ length r.before = omega (arith, r.count) in
    rw (r.split, b) (at_front r.before start (length x) (starts x e) (length (tokens x) - length (rest x at)) n)

byte_end : (x : List ℕ) (at : ℕ) → Reached x at → rest x at ≡ [] → starts x at ≡ [] → byte_of x [] ≡ length x
unfolding byte_of
byte_end x at r m b =
    let z : length (rest x at) ≡ 0 = ap (λ (l : List G.Token). length l) m in
    let n : length (tokens x) - 0 ≡ length r.before = omega (arith, r.count) in
    rw (r.split, b, append-nil r.before) (past_end r.before (length x) (length (tokens x) - 0) n)

-- no token is left
pub none-taken : {x : List ℕ} {s : Tokens} (t : Tokens) → Going x s → Takes s None t → (rest x s.at ≡ []) × (byte_of x [] ≡ length x)
none-taken {x} {s} t g k =
    let e = rw g.text at k in
    (e.0, byte_end x s.at g.reached e.0 e.1)
