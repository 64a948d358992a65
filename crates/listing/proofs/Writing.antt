-- A text while bytes are written into it: what is left to be written leads to what is wanted.
use mathlib.Core.Path.{◌≡◌, refl, sym, ap, ◌∙◌}
use mathlib.Core.List.{List, [], ◌∷◌, ◌++◌, append_assoc}
use Prim.Native.Nat.{ℕ, suc, ◌+◌, ◌-◌, ◌≤◌}
use native.Mathlib.Omega.{arith}
use lib.ListN.{length, set, take, drop, length-append}
use lib.Seq.{sets, sets-eq, length-sets, set_comm}
use borrow.Rule.Slice.PartMut.{put_mid, Post-is}
use Rattle.table.proofs.Buffers.{sets-append, sets-front}
use Rattle.listing.specs.Written.{Written}
use Rattle.std.specs.Borrow.{MutBor}
use Rattle.listing.specs.Writer.{HasRoom, Puts, Begins}
use Rattle.listing.specs.Rendering.{WholeText}
use Rattle.listing.specs.declared.writer.Writer.{Writer}

pub set-sets : (l : List ℕ) (i : ℕ) (xs : List ℕ) (j v : ℕ) → i + length xs ≤ j → set (sets l i xs) j v ≡ sets (set l j v) i xs
set-sets l i [] j v h = refl
set-sets l i (x ∷ xs) j v h =
    set-sets (set l i x) (suc i) xs j v (omega arith) ∙ ap (λ m. sets m (suc i) xs) (set_comm l i j x v (λ e. omega arith))

-- of bytes at a position so many are left, from another position on
pub record Rest (old : List ℕ) (at : ℕ) (bytes now : List ℕ) (pos : ℕ) (rest : List ℕ) : Type 0 where
  pub is : sets now pos rest ≡ sets old at bytes
  pub end : pos + length rest ≡ at + length bytes
  pub long : length now ≡ length old

pub all_left : (old : List ℕ) (at : ℕ) (bytes : List ℕ) → Rest old at bytes old at bytes
all_left old at bytes =
    record {
      is = refl;
      end = refl;
      long = refl;
    }

module _ {old : List ℕ} {at : ℕ} {bytes now : List ℕ} {pos : ℕ} where
  -- the front of what is left is written
  pub next-left : (xs ys : List ℕ) {new : List ℕ} {r : ℕ} → Rest old at bytes now pos (xs ++ ys) → Written now pos xs new r → Rest old at bytes new r ys
  next-left xs ys {new} {r} o w =
      record {
        is =
            ap (λ l. sets l r ys) w.is
            ∙ ap (λ i. sets (sets now pos xs) i ys) w.end
            ∙ sym (sets-append now pos xs ys)
            ∙ o.is;
        end = omega (arith, o.end, w.end, length-append xs ys);
        long = ap length w.is ∙ length-sets now pos xs ∙ o.long;
      }

  -- all of it
  pub last-left : {rest new : List ℕ} {r : ℕ} → Rest old at bytes now pos rest → Written now pos rest new r → Written old at bytes new r
  last-left o w = record { is = w.is ∙ o.is; end = w.end ∙ o.end }

  pub rest-fits : {rest : List ℕ} → at + length bytes ≤ length old → Rest old at bytes now pos rest → pos + length rest ≤ length now
  rest-fits h o = omega (arith, o.end, o.long)

  pub none_left : Rest old at bytes now pos [] → Written old at bytes now pos
  none_left o = record { is = o.is; end = omega (arith, o.end) }

-- of bytes that a writer has to put, from `first` on, so many are left
pub record Left (first : Writer) (bytes : List ℕ) (now : Writer) (rest : List ℕ) : Type 0 where
  pub is : Rest first.text.now first.at bytes now.text.now now.at rest
  pub same : now.text.ghost_name ≡ first.text.ghost_name

pub left-all : (first : Writer) (bytes : List ℕ) → Left first bytes first bytes
left-all first bytes = record { is = all_left first.text.now first.at bytes; same = refl }

module _ {first : Writer} {bytes : List ℕ} {now : Writer} where
  pub left-next : (xs ys : List ℕ) {new : Writer} → Left first bytes now (xs ++ ys) → Puts now xs new → Left first bytes new ys
  left-next xs ys o w = record { is = next-left xs ys o.is w.written; same = w.same ∙ o.same }

  pub left-last : {rest : List ℕ} {new : Writer} → Left first bytes now rest → Puts now rest new → Puts first bytes new
  left-last o w = record { written = last-left o.is w.written; same = w.same ∙ o.same }

  pub left-fits : {rest : List ℕ} → HasRoom first bytes → Left first bytes now rest → HasRoom now rest
  left-fits h o = rest-fits h o.is

  pub left-none : Left first bytes now [] → Puts first bytes now
  left-none o = record { written = none_left o.is; same = o.same }

pub joined : {old : Writer} (xs ys : List ℕ) {mid new : Writer} → Puts old xs mid → Puts mid ys new → Puts old (xs ++ ys) new
joined {old} xs ys w v = left-last (left-next xs ys (left-all old (xs ++ ys)) w) v

pub second_fits : {old mid : Writer} (xs ys : List ℕ) → HasRoom old (xs ++ ys) → Puts old xs mid → HasRoom mid ys
second_fits {old} xs ys h w = left-fits h (left-next xs ys (left-all old (xs ++ ys)) w)

-- the bytes are pasted at a place
pub pasted : (old : List ℕ) (at : ℕ) (bytes : List ℕ) {part : List ℕ} → at + length bytes ≤ length old → part ≡ bytes → put_mid at (at + length bytes - at) old part ≡ sets old at bytes
pasted old at bytes h e =
    rw (e, Post-is at (at + length bytes) old (omega arith), ← (append_assoc (take at old) bytes (drop (at + length bytes) old))) (sym (sets-eq bytes old at h))

-- a text at the front of a buffer
module _ {lent : MutBor (List ℕ)} {first : Writer} (b : Begins lent first) (line : List ℕ) (h : length line ≤ length lent.now) where
  pub begin_fits : HasRoom first line
  begin_fits = rw (b.at, b.content) (omega arith)

  pub written-whole : {last : Writer} {new : List ℕ} {r : ℕ} → Puts first line last → new ≡ last.text.now → r ≡ last.at → WholeText line lent.now new r
  written-whole w e f =
      let content : _ ≡ line ++ drop (length line) lent.now = e ∙ (w.written.is ∙ rw (b.at, b.content) (sets-front line lent.now h)) in
      let end : _ ≡ length line = f ∙ (w.written.end ∙ rw b.at (omega arith)) in
      record { end = end; within = rw (content, length-append) (omega (arith, end)); content = content }
