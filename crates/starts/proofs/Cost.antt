-- The cost of a part and of what is needed after it, from what is preferred for its codes.
use mathlib.Core.Path.{◌≡◌, refl, sym, ap}
use mathlib.Core.Logic.{◌⊎◌, inl, inr}
use mathlib.Core.Option.{Option, none, some}
use mathlib.Core.List.{List}
use Prim.Native.Nat.{ℕ, zero, suc, ◌+◌, ◌≤◌}
use native.Mathlib.Decide.{dec_le}
use native.Mathlib.Omega.{arith}
use Rattle.esterel.specs.Statement.{Stmt, leaf, one, two}
use Rattle.starts.specs.declared.Weight.{Weight}
use Rattle.starts.specs.Summary.{Gives, up_to, either, together, prefer, weigh, weights, best}
use Rattle.starts.specs.Walk.{Need, cost, Low, Below}
use Rattle.starts.proofs.Exact.{Exact, NoWorse, weighs}
use Rattle.starts.proofs.Triples.{exact, in_start}
use Rattle.starts.proofs.Bind.{Coded, Best, Costs, in_larger, same-best}

module _ (w : Weight) where
  same-costs : (S T : Coded) (need : Need) → ((k : ℕ) (u : List ℕ) (n : ℕ) → S k u n → T k u n) → ((k : ℕ) (u : List ℕ) (n : ℕ) → T k u n → S k u n) → (x : Option ℕ) → Costs w S need x → Costs w T need x
  same-costs S T need to from none c = λ j v n r s e. c j v n r (from j v n s) e
  same-costs S T need to from (some m) c = same-best w S T need to from c

  -- the preferred of two sets is the preferred of both
  union-costs : (S T U : Coded) (need : Need) → ((k : ℕ) (u : List ℕ) (n : ℕ) → S k u n → U k u n) → ((k : ℕ) (u : List ℕ) (n : ℕ) → T k u n → U k u n) → ((k : ℕ) (u : List ℕ) (n : ℕ) → U k u n → S k u n ⊎ T k u n) → (x y : Option ℕ) → Costs w S need x → Costs w T need y → Costs w U need (either (prefer w) x y)
  union-costs S T U need f g out none none c d = λ j v n r s e. go j v n r e (out j v n s)
    where
      go : (j : ℕ) (v : List ℕ) (n r : ℕ) → need j ≡ some r → S j v n ⊎ T j v n → ⊥
      go j v n r e (inl s) = c j v n r s e
      go j v n r e (inr s) = d j v n r s e
  union-costs S T U need f g out none (some l) c d = in_larger w T U need g refl (λ j v n r s e. go j v n r e (out j v n s)) d
    where
      go : (j : ℕ) (v : List ℕ) (n r : ℕ) → need j ≡ some r → S j v n ⊎ T j v n → NoWorse w l (weigh w v n + r)
      go j v n r e (inl s) = absurd (c j v n r s e)
      go j v n r e (inr s) = d.best j v n r s e
  union-costs S T U need f g out (some m) none c d = in_larger w S U need f refl (λ j v n r s e. go j v n r e (out j v n s)) c
    where
      go : (j : ℕ) (v : List ℕ) (n r : ℕ) → need j ≡ some r → S j v n ⊎ T j v n → NoWorse w m (weigh w v n + r)
      go j v n r e (inl s) = c.best j v n r s e
      go j v n r e (inr s) = absurd (d j v n r s e)
  union-costs S T U need f g out (some m) (some l) c d = pick ((weighs w).pick-one m l)
    where
      go : (j : ℕ) (v : List ℕ) (n r : ℕ) → need j ≡ some r → S j v n ⊎ T j v n → NoWorse w (prefer w m l) (weigh w v n + r)
      go j v n r e (inl s) = (weighs w).then (prefer w m l) m (weigh w v n + r) ((weighs w).pick-left m l) (c.best j v n r s e)
      go j v n r e (inr s) = (weighs w).then (prefer w m l) l (weigh w v n + r) ((weighs w).pick-right m l) (d.best j v n r s e)

      pick : (prefer w m l ≡ m) ⊎ (prefer w m l ≡ l) → Best w U need (prefer w m l)
      pick (inl e) = in_larger w S U need f (sym e) (λ j v n r s e. go j v n r e (out j v n s)) c
      pick (inr e) = in_larger w T U need g (sym e) (λ j v n r s e. go j v n r e (out j v n s)) d

  module _ (G : Coded) (L : ℕ → Option ℕ) (exact : (k : ℕ) → Exact (weigh w) (NoWorse w) (L k) (G k)) (need : Need) where
    abbrev At : ℕ → Coded
    At b k u n = (k ≡ b) × G k u n

    abbrev UpTo : ℕ → Coded
    UpTo b k u n = (k ≤ b) × G k u n

    at_code : (b : ℕ) → Costs w (At b) need (together ◌+◌ (L b) (need b))
    at_code b = go (L b) (need b) (exact b) refl
      where
        go : (x y : Option ℕ) → Exact (weigh w) (NoWorse w) x (G b) → need b ≡ y → Costs w (At b) need (together ◌+◌ x y)
        go none y o e = λ j v n r (z, s) f. o v n (rw z at s)
        go (some m) none o e = λ j v n r (z, s) f. let g : need b ≡ some r = rw (sym z) f in let x : ◌≡◌ {A = ℕ} 0 1 = cc in omega arith
        go (some m) (some l) o e =
            record {
              code = b;
              used = o.used;
              many = o.many;
              left = l;
              is = (refl, o.is);
              needs = e;
              total = ap (λ x. x + l) o.weight;
              best = λ j v n r (z, s) f.
                  let g : need b ≡ some r = rw (sym z) f in
                  let x : l ≡ r = cc in
                  rw (← x) ((weighs w).keeps m (weigh w v n) l l (o.first v n (rw z at s)) ((weighs w).same l));
            }

    up-to : (b : ℕ) → Costs w (UpTo b) need (up_to (weights w) (λ k. together ◌+◌ (L k) (need k)) b)
    up-to zero = same-costs (At 0) (UpTo 0) need (λ k u n (z, s). (omega arith, s)) (λ k u n (z, s). (omega arith, s)) (together ◌+◌ (L 0) (need 0)) (at_code 0)
    up-to (suc b) =
        union-costs (At (suc b)) (UpTo b) (UpTo (suc b)) need (λ k u n (z, s). (omega arith, s)) (λ k u n (z, s). (omega arith, s)) (λ k u n (z, s). side k u n s (dec_le k b) z)
        (together ◌+◌ (L (suc b)) (need (suc b))) (up_to (weights w) (λ k. together ◌+◌ (L k) (need k)) b) (at_code (suc b)) (up-to b)
      where
        side : (k : ℕ) (u : List ℕ) (n : ℕ) → G k u n → Dec (k ≤ b) → k ≤ suc b → At (suc b) k u n ⊎ UpTo b k u n
        side k u n s (yes h) z = inr (h, s)
        side k u n s (no h) z = inl (omega arith, s)

    all-costs : (b : ℕ) → ((k : ℕ) (u : List ℕ) (n : ℕ) → G k u n → k ≤ b) → Costs w G need (up_to (weights w) (λ k. together ◌+◌ (L k) (need k)) b)
    all-costs b low = same-costs (UpTo b) G need (λ k u n (z, s). s) (λ k u n s. (low k u n s, s)) (up_to (weights w) (λ k. together ◌+◌ (L k) (need k)) b) (up-to b)

pub below-low : (B : ℕ) (p : Stmt) → Below B p → Low B p
below-low B (leaf l) b = b
below-low B (one u p) b = b.0
below-low B (two c p q) b = b.0

-- of a statement with no code above B
pub low-cost : (w : Weight) (B : ℕ) (p : Stmt) → Low B p → (need : Need) → Costs w (Gives p) need (cost w B p need)
unfolding cost
low-cost w B p low need = all-costs w (Gives p) (best w p) (exact (weighs w) p) need B (λ k u n x. low k (in_start p k u n x))

pub cost-is : (w : Weight) (B : ℕ) (p : Stmt) → Below B p → (need : Need) → Costs w (Gives p) need (cost w B p need)
cost-is w B p b need = low-cost w B p (below-low B p b) need
