-- What a trap makes of a code, by its size.
use mathlib.Core.Path.{◌≡◌, refl}
use Prim.Native.Nat.{ℕ, zero, suc, ◌-◌, ◌<◌, ◌≤◌}
use native.Mathlib.Omega.{arith}
use Rattle.codes.specs.Codes.{catch_code}

pub catch-low : (c : ℕ) → c < 2 → c ≡ catch_code c
catch-low zero h = refl
catch-low (suc zero) h = refl
catch-low (suc (suc c)) h = absurd (omega arith)

pub catch-high : (c : ℕ) → 2 ≤ c → (c ≡ 2 → ⊥) → c - 1 ≡ catch_code c
catch-high zero h n = absurd (omega arith)
catch-high (suc zero) h n = absurd (omega arith)
catch-high (suc (suc zero)) h n = absurd (n refl)
catch-high (suc (suc (suc c))) h n = omega arith

-- no code rises
pub catch_falls : (c : ℕ) → catch_code c ≤ c
catch_falls zero = omega arith
catch_falls (suc zero) = omega arith
catch_falls (suc (suc zero)) = omega arith
catch_falls (suc (suc (suc c))) = omega arith
