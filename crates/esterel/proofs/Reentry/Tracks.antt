-- How a trail goes: what stands before an entry that paused, and between two entries of one node.
use mathlib.Core.Path.{◌≡◌, refl, sym, ap, subst, ◌∙◌}
use mathlib.Core.Logic.{◌⊎◌, inl, inr}
use mathlib.Core.List.{List, [], ◌∷◌, ◌++◌, append_assoc}
use Prim.Native.Nat.{ℕ, suc, ◌+◌, ◌≤◌, ◌<◌}
use native.Mathlib.Decide.{dec_lt}
use native.Mathlib.Omega.{arith}
use Rattle.esterel.specs.Statement.{Stmt, size, nodes}
use Rattle.esterel.specs.Codes.{catch_code}
use Rattle.esterel.specs.Instant.{Mode, Entry, entry, Result, enter, catch}
use Rattle.esterel.specs.Reentry.{Beneath, Entered, Catching}
use Rattle.esterel.proofs.Every.{Every, every_right, every_first}
use Rattle.esterel.proofs.Nodes.{Sits, within}
use Rattle.esterel.proofs.Reentry.Results.{Leaves, enter-leaves, catch-leaves}
use Rattle.esterel.proofs.Reentry.Seen.{node_of}
use Rattle.esterel.proofs.Reentry.Splits.{Split, in_first, in_second, split, not-empty}

abbrev pub code_of : Entry → ℕ
code_of (entry n m k) = k

-- Z of the code and the trail of a closed result
abbrev pub Tracked : (ℕ → List Entry → Type 0) → Result → Type 0
Tracked Z = Leaves (λ k t h. Z k t)

-- a trap, entered
pub trap_tracked : {Z Y : ℕ → List Entry → Type 0} {x : Result} (node : ℕ) (mode : Mode) → ((k : ℕ) (t : List Entry) → Z k t → Y (catch_code k) (entry node mode (catch_code k) ∷ t)) → Tracked Z x → Tracked Y (enter node mode (catch x))
trap_tracked {Z} {Y} node mode f o =
    enter-leaves {Z = λ k t h. (j : ℕ) × (catch_code j ≡ k) × Z j t} node mode (λ k t _ (j, e, z). subst (λ c. Y c (entry node mode c ∷ t)) e (f j t z)) (catch-leaves (λ k t _ z. (k, refl, z)) o)

-- G of what stands before an entry, the entry, and what stands between it and a later one of its node
abbrev pub Revisits : (List Entry → Entry → List Entry → Type 0) → List Entry → Type 0
Revisits G t = (b : List Entry) (e : Entry) (m : List Entry) (e' : Entry) (a : List Entry) → t ≡ b ++ (e ∷ (m ++ (e' ∷ a))) → node_of e ≡ node_of e' → G b e m

pub member_of : {P : Entry → Type 0} (b : List Entry) (e : Entry) (a : List Entry) {t : List Entry} → t ≡ b ++ (e ∷ a) → Every P t → P e
member_of b e a z c = every_first (every_right b (e ∷ a) (rw z at c))

-- two trails, one after the other
module _ (G : List Entry → Entry → List Entry → Type 0) (further : (x b : List Entry) (e : Entry) (m : List Entry) → G b e m → G (x ++ b) e m) where
  pub revisits_join : {t u : List Entry} → Revisits G t → Revisits G u → ((b : List Entry) (e : Entry) (r m : List Entry) (e' : Entry) (a : List Entry) → t ≡ b ++ (e ∷ r) → u ≡ m ++ (e' ∷ a) → node_of e ≡ node_of e' → G b e (r ++ m)) → Revisits G (t ++ u)
  revisits_join {t} {u} f g across b e m e' a z n = go (split t u b e (m ++ (e' ∷ a)) z)
    where
      later : (r : List Entry) → t ≡ b ++ (e ∷ r) → Split r u m e' a → G b e m
      later r y (in_first rest p q) = f b e m e' rest (y ∙ ap (λ l. b ++ (e ∷ l)) p) n
      later r y (in_second pre p q) = rw p (across b e r pre e' a y q n)

      go : Split t u b e (m ++ (e' ∷ a)) → G b e m
      go (in_first rest p q) = later rest p (split rest u m e' a (sym q))
      go (in_second pre p q) = rw p (further t pre e m (g pre e m e' a q n))

-- entries of different nodes do not meet
pub never : (G : List Entry → Entry → List Entry → Type 0) {P Q : Entry → Type 0} {t u : List Entry} → ((e e' : Entry) → P e → Q e' → node_of e ≡ node_of e' → ⊥) → Every P t → Every Q u → (b : List Entry) (e : Entry) (r m : List Entry) (e' : Entry) (a : List Entry) → t ≡ b ++ (e ∷ r) → u ≡ m ++ (e' ∷ a) → node_of e ≡ node_of e' → G b e (r ++ m)
never G d p q b e r m e' a y z n = absurd (d e e' (member_of b e r y p) (member_of m e' a z q) n)

pub revisits_none : (G : List Entry → Entry → List Entry → Type 0) → Revisits G []
revisits_none G b e m e' a z n = not-empty b e (m ++ (e' ∷ a)) z

pub revisits_one : (G : List Entry → Entry → List Entry → Type 0) (x : Entry) → Revisits G (x ∷ [])
revisits_one G x [] e m e' a z n = let y : [] ≡ m ++ (e' ∷ a) = cc in not-empty m e' a y
revisits_one G x (w ∷ b) e m e' a z n = let y : [] ≡ b ++ (e ∷ (m ++ (e' ∷ a))) = cc in not-empty b e (m ++ (e' ∷ a)) y

-- node n is entered in t
pub entered : {n : ℕ} {t : List Entry} (b : List Entry) (e : Entry) (a : List Entry) → node_of e ≡ n → t ≡ b ++ (e ∷ a) → Entered n t
entered b (entry n m k) a z y = record { before = b; mode = m; code = k; after = a; is = y ∙ ap (λ j. b ++ (entry j m k ∷ a)) z }

pub entered-behind : {n : ℕ} {t : List Entry} (x : List Entry) → Entered n t → Entered n (x ++ t)
entered-behind x o = record { before = x ++ o.before; mode = o.mode; code = o.code; after = o.after; is = ap (λ l. x ++ l) o.is ∙ sym (append_assoc x o.before _) }

pub entered-before : {n : ℕ} {t : List Entry} (x : List Entry) → Entered n t → Entered n (t ++ x)
entered-before x o = record { before = o.before; mode = o.mode; code = o.code; after = o.after ++ x; is = ap (λ l. l ++ x) o.is ∙ append_assoc o.before _ x }

pub entered-either : {n : ℕ} (t u : List Entry) → Entered n (t ++ u) → Entered n t ⊎ Entered n u
entered-either {n} t u o = go (split t u o.before (entry n o.mode o.code) o.after o.is)
  where
    go : Split t u o.before (entry n o.mode o.code) o.after → Entered n t ⊎ Entered n u
    go (in_first rest p q) = inl (entered o.before (entry n o.mode o.code) rest refl p)
    go (in_second pre p q) = inr (entered pre (entry n o.mode o.code) o.after refl q)

pub entered-none : {A : Type 0} {n : ℕ} → Entered n [] → A
entered-none o = not-empty o.before _ o.after o.is

pub entered_in : {P : Entry → Type 0} {n : ℕ} {t : List Entry} → Every P t → (o : Entered n t) → P (entry n o.mode o.code)
entered_in c o = member_of o.before _ o.after o.is c

-- an entry e of a trail in which x stands, where e is not x, and its node is not entered before x
pub record Later (b : List Entry) (x : Entry) (a c : List Entry) (e : Entry) (z : List Entry) : Type 0 where
  pub between : List Entry
  pub front : c ≡ b ++ (x ∷ between)
  pub back : a ≡ between ++ (e ∷ z)

pub later : (b : List Entry) (x : Entry) (a c : List Entry) (e : Entry) (z : List Entry) → b ++ (x ∷ a) ≡ c ++ (e ∷ z) → (Entered (node_of e) b → ⊥) → (x ≡ e → ⊥) → Later b x a c e z
later b x a c e z y first other = go (split b (x ∷ a) c e z y)
  where
    go : Split b (x ∷ a) c e z → Later b x a c e z
    go (in_first rest f g) = absurd (first (entered c e rest refl f))
    go (in_second [] f g) = absurd (other (cc))
    go (in_second (w ∷ m) f g) =
        let head : x ≡ w = cc in
        record { between = m; front = rw head f; back = cc }

module _ (p₀ : Stmt) where
  -- a trap of a node below `top` around node i catches, within which the entry of i behind b stands
  pub record Catches (top i : ℕ) (b : List Entry) : Type 0 where
    pub caught : Catching p₀ i b
    pub low : caught.catcher < top

  -- where a run ends with code 0, each entry that paused was caught
  abbrev pub Drops : ℕ → ℕ → List Entry → Type 0
  Drops top k t = (b : List Entry) (e : Entry) (a : List Entry) → t ≡ b ++ (e ∷ a) → code_of e ≡ 1 → k ≡ 0 → Catches top (node_of e) b

  abbrev pub catching_behind : {i : ℕ} (x : List Entry) {b : List Entry} → Catching p₀ i b → Catching p₀ i (x ++ b)
  catching_behind x c =
      record {
        catcher = c.catcher;
        is_trap = c.is_trap;
        around = c.around;
        mode = c.mode;
        earlier = x ++ c.earlier;
        since = c.since;
        catches = ap (λ l. x ++ l) c.catches ∙ sym (append_assoc x c.earlier _);
        inside = c.inside;
      }

  more-catches : {top top' i : ℕ} (x b : List Entry) → top ≤ top' → Catches top i b → Catches top' i (x ++ b)
  more-catches x b le c = record { caught = catching_behind x c.caught; low = omega (arith, c.low) }

  pub drops-none : {top k : ℕ} → Drops top k []
  drops-none b e a z = not-empty b e a z

  pub drops-one : {top : ℕ} (n : ℕ) (m : Mode) (k : ℕ) → Drops top k (entry n m k ∷ [])
  drops-one n m k [] e a z c k0 = let y : k ≡ 1 = ap code_of' z ∙ c in absurd (omega arith)
    where
      code_of' : List Entry → ℕ
      code_of' [] = 0
      code_of' (x ∷ l) = code_of x
  drops-one n m k (w ∷ b) e a z c k0 = let y : [] ≡ b ++ (e ∷ a) = cc in not-empty b e a y

  pub drops-join : {top top₁ top₂ k l j : ℕ} {t u : List Entry} → top₁ ≤ top → top₂ ≤ top → (j ≡ 0 → (k ≡ 0) × (l ≡ 0)) → Drops top₁ k t → Drops top₂ l u → Drops top j (t ++ u)
  drops-join {top} {t = t} {u = u} le₁ le₂ z f g b e a y c j0 = go (split t u b e a y)
    where
      go : Split t u b e a → Catches top (node_of e) b
      go (in_first rest p q) = more-catches [] b le₁ (f b e rest p c (z j0).0)
      go (in_second pre p q) = rw p (more-catches t pre le₂ (g pre e a q c (z j0).1))

  pub drops_same : {top top' k j : ℕ} {t : List Entry} → top ≤ top' → (j ≡ 0 → k ≡ 0) → Drops top k t → Drops top' j t
  drops_same le z f b e a y c j0 = more-catches [] b le (f b e a y c (z j0))

  -- Each entry comes after one of every node below `top` that is around it.
  abbrev pub Around : ℕ → List Entry → Type 0
  Around top t = (b : List Entry) (e : Entry) (a : List Entry) → t ≡ b ++ (e ∷ a) → (c : ℕ) → c < top → Beneath p₀ c (node_of e) → Entered c b

  -- no node from m up to `top` is around one before m
  abbrev pub Clear : ℕ → ℕ → Type 0
  Clear m top = (c i : ℕ) → m ≤ c → c < top → i < m → Beneath p₀ c i → ⊥

  pub clear_none : {m top : ℕ} → top ≤ m → Clear m top
  clear_none le c i lo hi h w = omega arith

  pub clear-sits : {m : ℕ} (q : Stmt) → Sits (nodes p₀) m q → Clear m (m + size q)
  clear-sits {m} q w c i lo hi h y = omega (arith, within (nodes p₀) q m w c lo hi, y.1)

  pub around-none : {top : ℕ} → Around top []
  around-none b e a z = not-empty b e a z

  pub around-wide : {m top : ℕ} {t : List Entry} → Clear m top → Every (λ e. node_of e < m) t → Around m t → Around top t
  around-wide {m} {top} {t} clear low f b e a z c h w = go (dec_lt c m)
    where
      go : Dec (c < m) → Entered c b
      go (yes y) = f b e a z c y w
      go (no y) = absurd (clear c (node_of e) (omega arith) h (member_of b e a z low) w)

  pub around-join : {top : ℕ} {t u : List Entry} → Around top t → Around top u → Around top (t ++ u)
  around-join {top} {t} {u} f g b e a z c h w = go (split t u b e a z)
    where
      go : Split t u b e a → Entered c b
      go (in_first rest y q) = f b e rest y c h w
      go (in_second pre y q) = rw y (entered-behind t (g pre e a q c h w))

  -- behind the entry of the node that is around them all
  pub around-own : {top : ℕ} (m : Mode) (k : ℕ) {t : List Entry} → Around top t → Around (suc top) (entry top m k ∷ t)
  around-own {top} m k f [] e a z c h w =
      let first : node_of e ≡ top = cc in
      absurd (omega (arith, w.0))
  around-own {top} m k {t} f (x ∷ b) e a z c h w = go (dec_lt c top)
    where
      first : x ≡ entry top m k
      first = cc

      tail : t ≡ b ++ (e ∷ a)
      tail = cc

      go : Dec (c < top) → Entered c (x ∷ b)
      go (yes y) = entered-behind (x ∷ []) (f b e a tail c y w)
      go (no y) = entered [] x b (let same : c ≡ top = omega arith in ap node_of first ∙ sym same) refl
