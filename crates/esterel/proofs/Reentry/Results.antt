-- What is said of a closed result: one law for each way in which `start` and `resume` put results together.
use mathlib.Core.Path.{◌≡◌, refl}
use mathlib.Core.Bool.{Bool, true, false, cond}
use mathlib.Core.List.{List, [], ◌∷◌, ◌++◌}
use Prim.Native.Nat.{ℕ, zero, suc, max}
use lib.ListN.{length}
use Rattle.esterel.specs.Codes.{catch_code}
use Rattle.esterel.specs.Instant.{Mode, Entry, entry, Result, closed, starved, stuck, zeros, enter, onto, zeros_then, then_zeros, and_then, beside, body, again, catch}

-- Z of its code, its trail and its bytes
pub data Leaves (Z : ℕ → List Entry → List ℕ → Type 0) : Result → Type 0 where
  leaves : (k : ℕ) (t : List Entry) (h r : List ℕ) → Z k t h → Leaves Z (closed k t h r)
  asked : Leaves Z starved
  no_rule : Leaves Z stuck

pub left_of : {Z : ℕ → List Entry → List ℕ → Type 0} {k : ℕ} {t : List Entry} {h r : List ℕ} → Leaves Z (closed k t h r) → Z k t h
left_of (leaves _ _ _ _ z) = z

-- the bytes that a trap leaves
abbrev pub bytes_caught : ℕ → List ℕ → List ℕ
bytes_caught zero h = h
bytes_caught (suc zero) h = h
bytes_caught (suc (suc zero)) h = zeros (length h)
bytes_caught (suc (suc (suc k))) h = h

module _ {Z Y : ℕ → List Entry → List ℕ → Type 0} where
  pub same-leaves : {x : Result} → ((k : ℕ) (t : List Entry) (h : List ℕ) → Z k t h → Y k t h) → Leaves Z x → Leaves Y x
  same-leaves f (leaves k t h r z) = leaves k t h r (f k t h z)
  same-leaves f asked = asked
  same-leaves f no_rule = no_rule

  pub both-leave : {x : Result} → Leaves Z x → Leaves Y x → Leaves (λ k t h. Z k t h × Y k t h) x
  both-leave (leaves k t h r z) (leaves _ _ _ _ y) = leaves k t h r (z, y)
  both-leave asked y = asked
  both-leave no_rule y = no_rule

  pub enter-leaves : {x : Result} (node : ℕ) (mode : Mode) → ((k : ℕ) (t : List Entry) (h : List ℕ) → Z k t h → Y k (entry node mode k ∷ t) (h ++ (0 ∷ []))) → Leaves Z x → Leaves Y (enter node mode x)
  enter-leaves node mode f (leaves k t h r z) = leaves k (entry node mode k ∷ t) (h ++ (0 ∷ [])) r (f k t h z)
  enter-leaves node mode f asked = asked
  enter-leaves node mode f no_rule = no_rule

  pub onto-leaves : {x : Result} (code : ℕ → ℕ) (t : List Entry) (h : List ℕ) → ((l : ℕ) (u : List Entry) (g : List ℕ) → Z l u g → Y (code l) (t ++ u) (h ++ g)) → Leaves Z x → Leaves Y (onto code t h x)
  onto-leaves code t h f (leaves l u g r z) = leaves (code l) (t ++ u) (h ++ g) r (f l u g z)
  onto-leaves code t h f asked = asked
  onto-leaves code t h f no_rule = no_rule

  pub skip_leaves : {x : Result} (n : ℕ) → ((k : ℕ) (t : List Entry) (h : List ℕ) → Z k t h → Y k t (zeros n ++ h)) → Leaves Z x → Leaves Y (zeros_then n x)
  skip_leaves n f o = onto-leaves (λ l. l) [] (zeros n) f o

  pub alone-leaves : {x : Result} (n : ℕ) → ((k : ℕ) (t : List Entry) (h : List ℕ) → Z k t h → Y k t (h ++ zeros n)) → Leaves Z x → Leaves Y (then_zeros x n)
  alone-leaves n f (leaves k t h r z) = leaves k t (h ++ zeros n) r (f k t h z)
  alone-leaves n f asked = asked
  alone-leaves n f no_rule = no_rule

  -- a started body that ends has no rule
  pub body-leaves : {x : Result} → ((k : ℕ) (t : List Entry) (h : List ℕ) → Z (suc k) t h → Y (suc k) t h) → Leaves Z x → Leaves Y (body x)
  body-leaves f (leaves zero t h r z) = no_rule
  body-leaves f (leaves (suc k) t h r z) = leaves (suc k) t h r (f k t h z)
  body-leaves f asked = asked
  body-leaves f no_rule = no_rule

  pub catch-leaves : {x : Result} → ((k : ℕ) (t : List Entry) (h : List ℕ) → Z k t h → Y (catch_code k) t (bytes_caught k h)) → Leaves Z x → Leaves Y (catch x)
  catch-leaves f (leaves zero t h r z) = leaves 0 t h r (f 0 t h z)
  catch-leaves f (leaves (suc zero) t h r z) = leaves 1 t h r (f 1 t h z)
  catch-leaves f (leaves (suc (suc zero)) t h r z) = leaves 0 t (zeros (length h)) r (f 2 t h z)
  catch-leaves f (leaves (suc (suc (suc k))) t h r z) = leaves (suc (suc k)) t h r (f (suc (suc (suc k))) t h z)
  catch-leaves f asked = asked
  catch-leaves f no_rule = no_rule

module _ {Z₁ Z₂ Z : ℕ → List Entry → List ℕ → Type 0} where
  pub and_then-leaves : {x : Result} {c : List ℕ → Result} (n : ℕ) → ((k : ℕ) (t : List Entry) (h : List ℕ) → Z₁ (suc k) t h → Z (suc k) t (h ++ zeros n)) → ((l : ℕ) (t u : List Entry) (h g : List ℕ) → Z₁ 0 t h → Z₂ l u g → Z l (t ++ u) (h ++ g)) → Leaves Z₁ x → ((r : List ℕ) → Leaves Z₂ (c r)) → Leaves Z (and_then x n c)
  and_then-leaves n f g (leaves zero t h r z) next = onto-leaves (λ l. l) t h (λ l u y w. g l t u h y z w) (next r)
  and_then-leaves n f g (leaves (suc k) t h r z) next = leaves (suc k) t (h ++ zeros n) r (f k t h z)
  and_then-leaves n f g asked next = asked
  and_then-leaves n f g no_rule next = no_rule

  pub beside-leaves : {x : Result} {c : List ℕ → Result} → ((k l : ℕ) (t u : List Entry) (h g : List ℕ) → Z₁ k t h → Z₂ l u g → Z (max k l) (t ++ u) (h ++ g)) → Leaves Z₁ x → ((r : List ℕ) → Leaves Z₂ (c r)) → Leaves Z (beside x c)
  beside-leaves g (leaves k t h r z) next = onto-leaves (max k) t h (λ l u y w. g k l t u h y z w) (next r)
  beside-leaves g asked next = asked
  beside-leaves g no_rule next = no_rule

  -- a resumed body, and the same body started once more
  pub again-leaves : {x : Result} {c : List ℕ → Result} → ((k : ℕ) (t : List Entry) (h : List ℕ) → Z₁ (suc k) t h → Z (suc k) t h) → ((l : ℕ) (t u : List Entry) (h g : List ℕ) → Z₁ 0 t h → Z₂ (suc l) u g → Z (suc l) (t ++ u) g) → Leaves Z₁ x → ((r : List ℕ) → Leaves Z₂ (c r)) → Leaves Z (again x c)
  again-leaves f g (leaves zero t h r z) next = go (next r)
    where
      go : {y : Result} → Leaves Z₂ y → Leaves Z (onto (λ l. l) t [] (body y))
      go (leaves zero u h' r' z') = no_rule
      go (leaves (suc l) u h' r' z') = leaves (suc l) (t ++ u) h' r' (g l t u h h' z z')
      go asked = asked
      go no_rule = no_rule
  again-leaves f g (leaves (suc k) t h r z) next = leaves (suc k) t h r (f k t h z)
  again-leaves f g asked next = asked
  again-leaves f g no_rule next = no_rule

pub cond-leaves : {Z : ℕ → List Entry → List ℕ → Type 0} {x y : Result} (b : Bool) → (b ≡ true → Leaves Z x) → (b ≡ false → Leaves Z y) → Leaves Z (cond b x y)
cond-leaves true f g = f refl
cond-leaves false f g = g refl
