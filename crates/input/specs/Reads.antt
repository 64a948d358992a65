-- What reading standard input answers, and what it does to the lent buffer.
use Rattle.std.specs.Prelude.{ℕ, zero, suc, ◌+◌, ◌-◌, ◌≤◌, ◌<◌, ◌≡◌, Bool, false, List, Result, Ok, Err, is_ok, eqb, length, take}
use Rattle.std.specs.declared.io.Error.{Error}
use Rattle.input.specs.declared.Progress.{Progress}
use Rattle.input.specs.declared.Progress.TheVariants.{On, Over}

-- no more bytes came than there was room for
abbrev pub Within : {E : Type 0} → Result ℕ E → ℕ → Type 0
Within (Ok n) room = n ≤ room
Within (Err e) room = Unit {0}

-- what a read makes of the bytes done: behind those that came it goes on; where none came, the input has ended; a failed read fails, with its
-- error
abbrev pub step_of : {E : Type 0} (done : ℕ) (piece : Result ℕ E) → Progress E
step_of done (Ok zero) = Over (Ok done)
step_of done (Ok (suc n)) = On (done + suc n)
step_of done (Err e) = Over (Err e)

-- what a read that answered `piece`, into the room behind the buffer's first `done` bytes, leaves of it: there was room, those bytes stay,
-- and so does the length
pub record ReadBehind {E : Type 0} (done : ℕ) (b b' : List ℕ) (piece : Result ℕ E) : Type 0 where
  pub room : done < length b
  pub came : Within piece (length b - done)
  pub front : take done b' ≡ take done b
  pub size : length b' ≡ length b

-- `done` bytes are at the front of the buffer b; reading goes on from there, leaves b' and answers r
pub data Reads {E : Type 0} : (done : ℕ) (b b' : List ℕ) (r : Result ℕ E) → Type 0 where
  -- the buffer is full
  full : {done : ℕ} {b : List ℕ} → done ≡ length b → Reads done b b (Ok done)
  -- after a read it is over
  over : {done : ℕ} {b b' : List ℕ} {r : Result ℕ E} (piece : Result ℕ E) → ReadBehind done b b' piece → step_of done piece ≡ Over r → Reads done b b' r
  -- after a read it goes on
  on : {done next : ℕ} {b c b' : List ℕ} {r : Result ℕ E} (piece : Result ℕ E) → ReadBehind done b c piece → step_of done piece ≡ On next → Reads next c b' r → Reads done b b' r

-- what is said of the whole input where its bytes may not all fit in the buffer
pub record OfInput (b b' : List ℕ) (Said : List ℕ → Type 0) : Type 0 where
  -- so many bytes were read
  pub read : ℕ
  pub reads : Reads {E = Error} 0 b b' (Ok read)
  -- whatever the whole input is: if they are as many of its bytes as fit in the buffer
  pub whole : (input : List ℕ) → take (length b') input ≡ take read b' → Said input

-- whether the bytes that came fill a buffer of this length
abbrev pub is_full : {E : Type 0} → Result ℕ E → ℕ → Bool
is_full (Ok n) room = eqb n room
is_full (Err e) room = false

-- the answer to whether the input filled the buffer: it is that it did exactly where as many bytes came, and a failed read's error comes with it
pub record Fills (b b' : List ℕ) (r : Result Unit Error) : Type 0 where
  pub input : Result ℕ Error
  pub reads : Reads 0 b b' input
  pub answer : is_ok r ≡ is_full input (length b')
  pub reason : (e : Error) → input ≡ Err e → r ≡ Err e
