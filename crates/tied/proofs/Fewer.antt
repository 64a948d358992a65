-- What a statement can give under ties it can give where fewer are tied.
use mathlib.Core.Bool.{Bool, true, false, cond}
use Prim.Native.Nat.{ℕ}
use lib.Dec.{eqb}
use Rattle.codes.proofs.Bools.{inl_true, inr_true}
use Rattle.codes.proofs.Members.{Within, without-ended-within, caught-within, union-within, sequence-within, larger-within}
use Rattle.esterel.specs.Codes.{Codes}
use Rattle.esterel.specs.Statement.{nothing, pause, emit, exit, signal, suspend, loop, trap, present, sequence, parallel, Stmt, leaf, one, two}
use Rattle.tied.specs.Ties.{Ties, inside}
use Rattle.tied.specs.declared.Tie.{Tie}
use Rattle.tied.specs.declared.Tie.TheVariants.{Unknown, Absent, Present}
use Rattle.tied.specs.Narrowed.{tested, narrowed}

-- the second says the same of a signal, or nothing
pub data Looser : Tie → Tie → Type 0 where
  same : (t : Tie) → Looser t t
  free : (t : Tie) → Looser t Unknown

tested-within : {t s : Tie} {a b d e : Codes} → Looser t s → Within a d → Within b e → Within (tested t a b) (tested s d e)
tested-within {d = d} {e = e} (same Unknown) f g = union-within f g
tested-within (same Absent) f g = g
tested-within (same Present) f g = f
tested-within (free Unknown) f g = union-within f g
tested-within {d = d} {e = e} (free Absent) f g = λ k z. inr_true (d k) (e k) (g k z)
tested-within {d = d} {e = e} (free Present) f g = λ k z. inl_true (d k) (e k) (f k z)

inside_looser : (s : ℕ) {c d : Ties} → ((x : ℕ) → Looser (c x) (d x)) → (x : ℕ) → Looser (inside s c x) (inside s d x)
inside_looser s {c} {d} o x = go (eqb x s)
  where
    go : (b : Bool) → Looser (cond b Unknown (c x)) (cond b Unknown (d x))
    go true = same Unknown
    go false = o x

pub narrowed-within : (p : Stmt) {c d : Ties} → ((x : ℕ) → Looser (c x) (d x)) → Within (narrowed c p) (narrowed d p)
narrowed-within (leaf nothing) o = λ k z. z
narrowed-within (leaf pause) o = λ k z. z
narrowed-within (leaf (exit level)) o = λ k z. z
narrowed-within (leaf (emit s)) o = λ k z. z
narrowed-within (two sequence p q) o = sequence-within (narrowed-within p o) (narrowed-within q o)
narrowed-within (two (present s) p q) o = tested-within (o s) (narrowed-within p o) (narrowed-within q o)
narrowed-within (one trap p) o = caught-within (narrowed-within p o)
narrowed-within (two parallel p q) o = larger-within (narrowed-within p o) (narrowed-within q o)
narrowed-within (one loop p) o = without-ended-within (narrowed-within p o)
narrowed-within (one (signal s) p) o = narrowed-within p (inside_looser s o)
narrowed-within (one (suspend s) p) o = narrowed-within p o
