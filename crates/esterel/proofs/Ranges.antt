-- What holds of each of a run of numbers.
use Prim.Native.Nat.{ℕ, suc, ◌+◌, ◌≤◌, ◌<◌}
use mathlib.Core.Path.{◌≡◌}
use native.Mathlib.Decide.{dec_lt}
use native.Mathlib.Omega.{arith}

-- of the k numbers from n on
abbrev pub Over : (ℕ → Type 0) → ℕ → ℕ → Type 0
Over P n k = (i : ℕ) → n ≤ i → i < n + k → P i

module _ (P : ℕ → Type 0) where
  pub over-join : (n k l : ℕ) → Over P n k → Over P (n + k) l → Over P n (k + l)
  over-join n k l f g i lo hi = go (dec_lt i (n + k))
    where
      go : Dec (i < n + k) → P i
      go (yes h) = f i lo h
      go (no h) = g i (omega arith) (omega arith)

  pub over_last : (n k : ℕ) → Over P n k → P (n + k) → Over P n (suc k)
  over_last n k f own i lo hi = go (dec_lt i (n + k))
    where
      go : Dec (i < n + k) → P i
      go (yes h) = f i lo h
      go (no h) = let e : i ≡ n + k = omega arith in rw e own
