-- What the scanner's functions answer.
use Rattle.std.specs.Prelude.{ℕ, ◌<◌, ◌≤◌, ◌-◌, ◌≡◌, Bool, true, false, List, [], ◌∷◌, length, get_or, take, drop, Option, Some, None}
use Rattle.grammar.specs.Tokens as G
use Rattle.grammar.specs.Tokens.{tokens, is_blank, word_token, beginnings_after}
use Rattle.scan.specs.declared.Opening.{Opening}
use Rattle.scan.specs.declared.Opening.TheVariants.{Nothing, Pause, Emit, Exit, Signal, Trap, Loop, Present, Suspend, Bracket, Halt, Sustain, Await, Abort, Weak}
use Rattle.scan.specs.declared.Mark.{Mark}
use Rattle.scan.specs.declared.Mark.TheVariants.{Semicolon, Bars, Close, In, Then, Else, End, When}
use Rattle.scan.specs.declared.Token.{Token}
use Rattle.scan.specs.declared.Token.TheVariants.{Opens, Marks, Names, Foreign, Stray, Finished}
use Rattle.scan.specs.declared.Part.{Part}
use Rattle.scan.specs.declared.Scanned.{Scanned}
use Rattle.scan.specs.declared.Tokens.{Tokens}

-- the words and signs as the theory has them
abbrev pub opening_is : Opening → G.Opening
opening_is Nothing = G.nothing
opening_is Pause = G.pause
opening_is Emit = G.emit
opening_is Exit = G.exit
opening_is Signal = G.signal
opening_is Trap = G.trap
opening_is Loop = G.loop
opening_is Present = G.present
opening_is Suspend = G.suspend
opening_is Bracket = G.bracket
opening_is Halt = G.halt
opening_is Sustain = G.sustain
opening_is Await = G.await
opening_is Abort = G.abort
opening_is Weak = G.weak

abbrev pub mark_is : Mark → G.Mark
mark_is Semicolon = G.semicolon
mark_is Bars = G.bars
mark_is Close = G.close
mark_is In = G.in-mark
mark_is Then = G.then
mark_is Else = G.else
mark_is End = G.end
mark_is When = G.when

-- the token that stands at a part of the text, if there is one
abbrev pub token_is : Token → List ℕ → List G.Token
token_is (Opens o) w = G.opening (opening_is o) ∷ []
token_is (Marks m) w = G.mark (mark_is m) ∷ []
token_is Names w = G.name w ∷ []
token_is Foreign w = G.foreign ∷ []
token_is Stray w = G.stray ∷ []
token_is Finished w = []

-- the tokens from a place of the text on
unfoldable pub rest : List ℕ → ℕ → List G.Token
rest x at = tokens (drop at x)

-- where they begin
unfoldable pub starts : List ℕ → ℕ → List ℕ
starts x at = beginnings_after at G.none (drop at x)

-- the first byte from `at` on that is no blank
pub record Skipped (x : List ℕ) (at r : ℕ) : Type 0 where
  pub from : at ≤ r
  pub to : r ≤ length x
  pub same : rest x at ≡ rest x r
  pub same_starts : starts x at ≡ starts x r
  pub solid : r < length x → is_blank (get_or x r 0) ≡ false

-- a word stands from `at` to r
pub record Worded (x : List ℕ) (at r : ℕ) : Type 0 where
  pub from : at < r
  pub to : r ≤ length x
  pub moves : rest x at ≡ word_token (take (r - at) (drop at x)) ∷ rest x r
  pub begins : starts x at ≡ at ∷ starts x r

-- a token t stands from `at` on and ends at r
pub record Lexed (x : List ℕ) (at r : ℕ) (t : G.Token) : Type 0 where
  pub from : at < r
  pub to : r ≤ length x
  pub moves : rest x at ≡ t ∷ rest x r

-- a name stands from start to r, the next token from `at` on
pub record NameAt (x : List ℕ) (at start r : ℕ) : Type 0 where
  pub lexed : Lexed x at r (G.name (take (r - start) (drop start x)))
  pub ordered : start ≤ r

abbrev pub ScannedAs : List ℕ → ℕ → ℕ → ℕ → Token → Type 0
ScannedAs x at start end (Opens o) = Lexed x at end (G.opening (opening_is o))
ScannedAs x at start end (Marks m) = Lexed x at end (G.mark (mark_is m))
ScannedAs x at start end Names = NameAt x at start end
ScannedAs x at start end Foreign = Lexed x at end G.foreign
ScannedAs x at start end Stray = Lexed x at end G.stray
ScannedAs x at start end Finished = rest x at ≡ []

-- the token begins at start; where there is none, start is the text's length
abbrev pub BeginsAs : List ℕ → ℕ → ℕ → ℕ → Token → Type 0
BeginsAs x at start end (Opens o) = starts x at ≡ start ∷ starts x end
BeginsAs x at start end (Marks m) = starts x at ≡ start ∷ starts x end
BeginsAs x at start end Names = starts x at ≡ start ∷ starts x end
BeginsAs x at start end Foreign = starts x at ≡ start ∷ starts x end
BeginsAs x at start end Stray = starts x at ≡ start ∷ starts x end
BeginsAs x at start end Finished = (starts x at ≡ []) × (start ≡ length x)

-- the text has no token t next
pub record Lacks (x : List ℕ) (at : ℕ) (t : G.Token) : Type 0 where
  pub first : (ts : List G.Token) → rest x at ≡ t ∷ ts → ⊥

-- a mark, or not
abbrev pub PastMark : List ℕ → ℕ → Mark → Option ℕ → Type 0
PastMark x at m (Some e) = Lexed x at e (G.mark (mark_is m))
PastMark x at m None = Lacks x at (G.mark (mark_is m))

-- a name, or not
abbrev pub CalledAs : List ℕ → ℕ → Option Part → Type 0
CalledAs x at (Some p) = NameAt x at p.start p.stop
CalledAs x at None = (n : List ℕ) → Lacks x at (G.name n)

-- no token is left
abbrev pub none : List G.Token → Bool
none [] = true
none (t ∷ ts) = false

-- the next token of s is x, and those from t on come after it
pub record TakesToken (s : Tokens) (x : Scanned) (t : Tokens) : Type 0 where
  pub text : t.text.now ≡ s.text.now
  pub at : t.at ≡ x.part.stop
  pub scanned : ScannedAs s.text.now s.at x.part.start x.part.stop x.token
  pub begins : BeginsAs s.text.now s.at x.part.start x.part.stop x.token
  pub one : x.token ≡ Finished → ⊥

-- a token, or none is left
abbrev pub Takes : Tokens → Option Scanned → Tokens → Type 0
Takes s (Some x) t = TakesToken s x t
Takes s None t = (rest s.text.now s.at ≡ []) × (starts s.text.now s.at ≡ [])
