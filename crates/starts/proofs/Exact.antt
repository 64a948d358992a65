-- A summary that weighs the starts is exact: some start, over answers of 0 and 1, has that weight, and none is preferred to it.
use mathlib.Core.Path.{◌≡◌, refl, sym, ap, ◌∙◌}
use mathlib.Core.Logic.{◌⊎◌, inl, inr}
use mathlib.Core.Option.{Option, none, some}
use mathlib.Core.List.{List, [], ◌∷◌, ◌++◌}
use Prim.Native.Nat.{ℕ, zero, suc, ◌+◌, ◌≤◌, min, max}
use native.Mathlib.Decide.{dec_le}
use native.Mathlib.Omega.{arith}
use lib.ListN.{length-append}
use Rattle.starts.specs.Ticks.{Bits}
use Rattle.starts.specs.declared.Weight.{Weight}
use Rattle.starts.specs.declared.Weight.TheVariants.{Answers, Entries}
use Rattle.starts.specs.Summary.{Starts, Both, Took, IsAbsent, IsPresent, starts, either, together, weighed, prefer, weigh}
use Rattle.starts.proofs.Related.{Keeps}
use Rattle.starts.proofs.Sound.{join}

pub bits-append : (u v : List ℕ) → Bits u → Bits v → Bits (u ++ v)
bits-append [] v b d = d
bits-append (x ∷ u) v b d = (b.0, bits-append u v b.1 d)

-- what `pick`, `join` and `weigh` have to keep, where Le x y says that y is not preferred to x
pub record Weighs {A : Type 0} (pick join : A → A → A) (weigh : List ℕ → ℕ → A) (Le : A → A → Type 0) : Type 0 where
  pub pick-one : (x y : A) → (pick x y ≡ x) ⊎ (pick x y ≡ y)
  pub pick-left : (x y : A) → Le (pick x y) x
  pub pick-right : (x y : A) → Le (pick x y) y
  pub same : (x : A) → Le x x
  pub then : (x y z : A) → Le x y → Le y z → Le x z
  pub keeps : (x x' y y' : A) → Le x x' → Le y y' → Le (join x y) (join x' y')
  pub parts : (u v : List ℕ) (m n : ℕ) → weigh (u ++ v) (m + n) ≡ join (weigh u m) (weigh v n)
  pub one-first : (a : ℕ) → Le (weigh (1 ∷ []) 0) (weigh (suc a ∷ []) 0)

module _ {A : Type 0} (weigh : List ℕ → ℕ → A) (Le : A → A → Type 0) where
  -- x is reached by a start of G, over answers of 0 and 1, and no start of G is preferred to it
  pub record Reached (x : A) (G : Starts) : Type 0 where
    pub used : List ℕ
    pub many : ℕ
    pub bits : Bits used
    pub is : G used many
    pub weight : weigh used many ≡ x
    pub first : (u : List ℕ) (n : ℕ) → G u n → Le x (weigh u n)

  abbrev pub Exact : Option A → Starts → Type 0
  Exact none G = (u : List ℕ) (n : ℕ) → G u n → ⊥
  Exact (some x) G = Reached x G

module _ {A : Type 0} {pick join : A → A → A} {weigh : List ℕ → ℕ → A} {Le : A → A → Type 0} (w : Weighs pick join weigh Le) where
  choices : (x x' : Option A) (y y' : Starts) → Exact weigh Le x y → Exact weigh Le x' y' → Exact weigh Le (either pick x x') (λ u n. y u n ⊎ y' u n)
  choices none none y y' o d = λ u n. λ z. go u n z
    where
      go : (u : List ℕ) (n : ℕ) → y u n ⊎ y' u n → ⊥
      go u n (inl z) = o u n z
      go u n (inr z) = d u n z
  choices none (some x') y y' o d =
      record { used = d.used; many = d.many; bits = d.bits; is = inr d.is; weight = d.weight; first = go }
    where
      go : (u : List ℕ) (n : ℕ) → y u n ⊎ y' u n → Le x' (weigh u n)
      go u n (inl z) = absurd (o u n z)
      go u n (inr z) = d.first u n z
  choices (some x) none y y' o d =
      record { used = o.used; many = o.many; bits = o.bits; is = inl o.is; weight = o.weight; first = go }
    where
      go : (u : List ℕ) (n : ℕ) → y u n ⊎ y' u n → Le x (weigh u n)
      go u n (inl z) = o.first u n z
      go u n (inr z) = absurd (d u n z)
  choices (some x) (some x') y y' o d = chosen (w.pick-one x x')
    where
      go : (u : List ℕ) (n : ℕ) → y u n ⊎ y' u n → Le (pick x x') (weigh u n)
      go u n (inl z) = w.then _ x _ (w.pick-left x x') (o.first u n z)
      go u n (inr z) = w.then _ x' _ (w.pick-right x x') (d.first u n z)

      chosen : (pick x x' ≡ x) ⊎ (pick x x' ≡ x') → Reached weigh Le (pick x x') (λ u n. y u n ⊎ y' u n)
      chosen (inl e) = record { used = o.used; many = o.many; bits = o.bits; is = inl o.is; weight = o.weight ∙ sym e; first = go }
      chosen (inr e) = record { used = d.used; many = d.many; bits = d.bits; is = inr d.is; weight = d.weight ∙ sym e; first = go }

  joins : (x x' : Option A) (y y' : Starts) → Exact weigh Le x y → Exact weigh Le x' y' → Exact weigh Le (together join x x') (Both y y')
  joins none x' y y' o d = λ u n b. o b.before b.entries_before b.first
  joins (some x) none y y' o d = λ u n b. d b.after b.entries_after b.second
  joins (some x) (some x') y y' o d =
      record {
        used = o.used ++ d.used;
        many = o.many + d.many;
        bits = bits-append o.used d.used o.bits d.bits;
        is = package.Rattle.starts.proofs.Sound.join o.used d.used o.many d.many o.is d.is;
        weight = w.parts o.used d.used o.many d.many ∙ ap (λ z. join z (weigh d.used d.many)) o.weight ∙ ap (join x) d.weight;
        first = λ u n b.
            rw (b.answers, b.entries, w.parts b.before b.after b.entries_before b.entries_after)
            (w.keeps x _ x' _ (o.first b.before b.entries_before b.first) (d.first b.after b.entries_after b.second));
      }

  -- one answer, where it weighs no more than any other of its kind
  took : {Is : ℕ → Type 0} (a : ℕ) → a ≤ 1 → Is a → ((b : ℕ) → Is b → Le (weigh (a ∷ []) 0) (weigh (b ∷ []) 0)) → Reached weigh Le (weigh (a ∷ []) 0) (Took Is)
  took a bit is least =
      record {
        used = a ∷ [];
        many = 0;
        bits = (bit, tt);
        is = record { answer = a; is = is; answers = refl; entries = refl };
        weight = refl;
        first = λ u n b. rw (b.answers, b.entries) (least b.answer b.is);
      }

  absents : Reached weigh Le (weigh (0 ∷ []) 0) (Took IsAbsent)
  absents = took 0 (omega arith) tt go
    where
      go : (a : ℕ) → IsAbsent a → Le (weigh (0 ∷ []) 0) (weigh (a ∷ []) 0)
      go zero o = w.same _
      go (suc a) o = absurd o

  presents : Reached weigh Le (weigh (1 ∷ []) 0) (Took IsPresent)
  presents = took 1 (omega arith) tt go
    where
      go : (a : ℕ) → IsPresent a → Le (weigh (1 ∷ []) 0) (weigh (a ∷ []) 0)
      go zero o = absurd o
      go (suc a) o = w.one-first a

  pub exact-keeps : Keeps (weighed pick join weigh) starts (Exact weigh Le)
  exact-keeps =
      record {
        none = λ u n x. x;
        entry = record { used = []; many = 1; bits = tt; is = (refl, refl); weight = refl; first = λ u n (e, f). rw (e, f) (w.same _) };
        absent = absents;
        present = presents;
        choice = choices;
        both = joins;
      }

-- which of two weights is preferred: x, or neither
abbrev pub NoWorse : Weight → ℕ → ℕ → Type 0
NoWorse Answers x y = x ≤ y
NoWorse Entries x y = y ≤ x

pub weighs : (w : Weight) → Weighs (prefer w) ◌+◌ (weigh w) (NoWorse w)
weighs Answers =
    record {
      pick-one = λ x y. smaller_one x y (dec_le x y);
      pick-left = λ x y. omega arith;
      pick-right = λ x y. omega arith;
      same = λ x. omega arith;
      then = λ x y z h j. omega arith;
      keeps = λ x x' y y' h j. omega arith;
      parts = λ u v m n. length-append u v;
      one-first = λ a. omega arith;
    }
  where
    smaller_one : (x y : ℕ) → Dec (x ≤ y) → (min x y ≡ x) ⊎ (min x y ≡ y)
    smaller_one x y (yes h) = inl (omega arith)
    smaller_one x y (no h) = inr (omega arith)
weighs Entries =
    record {
      pick-one = λ x y. larger-one x y (dec_le x y);
      pick-left = λ x y. omega arith;
      pick-right = λ x y. omega arith;
      same = λ x. omega arith;
      then = λ x y z h j. omega arith;
      keeps = λ x x' y y' h j. omega arith;
      parts = λ u v m n. refl;
      one-first = λ a. omega arith;
    }
  where
    larger-one : (x y : ℕ) → Dec (x ≤ y) → (max x y ≡ x) ⊎ (max x y ≡ y)
    larger-one x y (yes h) = inr (omega arith)
    larger-one x y (no h) = inl (omega arith)
