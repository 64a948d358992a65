-- Parts of a state's bytes.
use mathlib.Core.Path.{◌≡◌, refl, ap, ◌∙◌}
use mathlib.Core.Bool.{true}
use mathlib.Core.List.{List, [], ◌∷◌}
use Prim.Native.Nat.{ℕ, zero, suc, ◌+◌, ◌≤◌}
use native.Mathlib.Omega.{arith}
use lib.ListN.{take, drop}
use lib.Seq.{take-take, drop-drop}
use Rattle.esterel.specs.Instant.{holds}

-- a part of a part
pub part_in : (a b n : ℕ) (l : List ℕ) → a + b ≤ n → take b (drop a (take n l)) ≡ take b (drop a l)
part_in zero b n l le = take-take b n l (omega arith)
part_in (suc a) b zero l le = absurd (omega arith)
part_in (suc a) b (suc n) [] le = refl
part_in (suc a) b (suc n) (x ∷ l) le = part_in a b n l (omega arith)

pub part_at : (f a b n : ℕ) (l : List ℕ) → a + b ≤ n → take b (drop a (take n (drop f l))) ≡ take b (drop (f + a) l)
part_at f a b n l le = part_in a b n (drop f l) le ∙ ap (take b) (drop-drop a f l)

-- what a part holds, the whole holds
pub holds-front : (n : ℕ) (l : List ℕ) → holds (take n l) ≡ true → holds l ≡ true
holds-front zero l e = let z : ◌≡◌ {A = ℕ} 0 1 = cc in absurd (omega arith)
holds-front (suc n) [] e = e
holds-front (suc n) (zero ∷ l) e = holds-front n l e
holds-front (suc n) (suc b ∷ l) e = refl

pub holds-rest : (n : ℕ) (l : List ℕ) → holds (drop n l) ≡ true → holds l ≡ true
holds-rest zero l e = e
holds-rest (suc n) [] e = e
holds-rest (suc n) (zero ∷ l) e = holds-rest n l e
holds-rest (suc n) (suc b ∷ l) e = refl

pub holds-part : (f a b n : ℕ) (l : List ℕ) → a + b ≤ n → holds (take b (drop (f + a) l)) ≡ true → holds (take n (drop f l)) ≡ true
holds-part f a b n l le e = holds-rest a (take n (drop f l)) (holds-front b (drop a (take n (drop f l))) (rw (part_at f a b n l le) e))
