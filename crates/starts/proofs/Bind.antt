-- The walk, over any sets of starts by code: what is needed after a part, the preferred in all, and the list that the walk takes.
use mathlib.Core.Path.{◌≡◌, refl, sym, ap, ◌∙◌, subst}
use mathlib.Core.Bool.{true, false}
use mathlib.Core.Logic.{◌⊎◌, inl, inr}
use mathlib.Core.Option.{Option, none, some}
use mathlib.Core.List.{List, [], ◌∷◌, ◌++◌}
use Prim.Native.Nat.{ℕ, zero, suc, ◌+◌, ◌≤◌, ◌<◌}
use native.Mathlib.Nat.{eq-or-lt_of_le}
use native.Mathlib.Omega.{arith}
use Rattle.starts.specs.declared.Weight.{Weight}
use Rattle.starts.specs.declared.Weight.TheVariants.{Answers, Entries}
use Rattle.starts.specs.Ticks.{Bits, Sooner, here, further}
use Rattle.starts.specs.Summary.{Starts, starts, entered, without_ended, weigh, weights}
use Rattle.starts.specs.Walk.{Need, no_worse}
use Rattle.starts.proofs.Exact.{NoWorse, bits-append, weighs}
use Rattle.starts.proofs.Order.{sooner_left, sooner_right}
use Rattle.starts.proofs.Weights.{same-weight, add-weight, told_no_worse, told_worse, told-other, of_answer, of_entry, answered-weight, entered-weight}

-- the starts of each code
abbrev pub Coded : Type 1
Coded = ℕ → Starts

-- m is the preferred weight, of a start and of what is needed after its code
pub record Best (w : Weight) (S : Coded) (need : Need) (m : ℕ) : Type 0 where
  pub code : ℕ
  pub used : List ℕ
  pub many : ℕ
  pub left : ℕ
  pub is : S code used many
  pub needs : need code ≡ some left
  pub total : weigh w used many + left ≡ m
  pub best : (j : ℕ) (v : List ℕ) (n r : ℕ) → S j v n → need j ≡ some r → NoWorse w m (weigh w v n + r)

abbrev pub Costs : Weight → Coded → Need → Option ℕ → Type 0
Costs w S need none = (j : ℕ) (v : List ℕ) (n r : ℕ) → S j v n → need j ≡ some r → ⊥
Costs w S need (some m) = Best w S need m

-- u, of code i, is the first of the lists that come to m
pub record Walks (w : Weight) (S : Coded) (need : Need) (m : ℕ) (u : List ℕ) (i : ℕ) : Type 0 where
  pub bits : Bits u
  pub many : ℕ
  pub is : S i u many
  pub left : ℕ
  pub needs : need i ≡ some left
  pub total : weigh w u many + left ≡ m
  pub first : (j : ℕ) (v : List ℕ) (n r : ℕ) → S j v n → need j ≡ some r → weigh w v n + r ≡ m → ((v ≡ u) × (j ≡ i)) ⊎ Sooner u v

module _ (w : Weight) where
  same_no_worse : {x y : ℕ} → x ≡ y → NoWorse w x y
  same_no_worse {x} e = subst (NoWorse w x) e ((weighs w).same x)

  -- a cost that is a number
  costs-some : (S : Coded) (need : Need) (x : Option ℕ) (m : ℕ) → x ≡ some m → Costs w S need x → Best w S need m
  costs-some S need none m e c = let z : ◌≡◌ {A = ℕ} 0 1 = cc in absurd (omega arith)
  costs-some S need (some n) m e c = let z : n ≡ m = cc in rw z at c

  -- a start that is there makes the cost a number, and no worse than what it comes to
  pub record Number (S : Coded) (need : Need) (x : Option ℕ) (n : ℕ) : Type 0 where
    pub number : ℕ
    pub is : x ≡ some number
    pub costs : Best w S need number
    pub small : NoWorse w number n

  pub number_of : (S : Coded) (need : Need) (x : Option ℕ) → Costs w S need x → (j : ℕ) (v : List ℕ) (n r : ℕ) → S j v n → need j ≡ some r → Number S need x (weigh w v n + r)
  number_of S need none c j v n r s e = absurd (c j v n r s e)
  number_of S need (some m) c j v n r s e = record { number = m; is = refl; costs = c; small = c.best j v n r s e }

  -- the preferred of a set is that of a larger one, where no start is preferred to it
  pub in_larger : (S T : Coded) (need : Need) {m n : ℕ} → ((k : ℕ) (u : List ℕ) (l : ℕ) → S k u l → T k u l) → m ≡ n → ((j : ℕ) (v : List ℕ) (l r : ℕ) → T j v l → need j ≡ some r → NoWorse w n (weigh w v l + r)) → Best w S need m → Best w T need n
  in_larger S T need to same low c =
      record {
        code = c.code;
        used = c.used;
        many = c.many;
        left = c.left;
        is = to c.code c.used c.many c.is;
        needs = c.needs;
        total = c.total ∙ same;
        best = low;
      }

  -- Two sets with the same starts.
  module _ (S T : Coded) (need : Need) (to : (k : ℕ) (u : List ℕ) (n : ℕ) → S k u n → T k u n) (from : (k : ℕ) (u : List ℕ) (n : ℕ) → T k u n → S k u n) where
    pub same-best : {m : ℕ} → Best w S need m → Best w T need m
    same-best c = in_larger S T need to refl (λ j v n r s e. c.best j v n r (from j v n s) e) c

    pub same_walks : {m i : ℕ} {u : List ℕ} → Walks w S need m u i → Walks w T need m u i
    same_walks {i = i} {u = u} c =
        record {
          bits = c.bits;
          many = c.many;
          is = to i u c.many c.is;
          left = c.left;
          needs = c.needs;
          total = c.total;
          first = λ j v n r s e f. c.first j v n r (from j v n s) e f;
        }

-- No answer is taken, l entries are made, and the code is c.
pub record Ret (l c k : ℕ) (u : List ℕ) (n : ℕ) : Type 0 where
  pub code : c ≡ k
  pub none : u ≡ []
  pub many : n ≡ l

module _ (w : Weight) (l c : ℕ) (need : Need) where
  pub ret_walks : (m : ℕ) → Best w (Ret l c) need m → Walks w (Ret l c) need m [] c
  ret_walks m b =
      record {
        bits = tt;
        many = l;
        is = record { code = refl; none = refl; many = refl };
        left = b.left;
        needs = rw b.is.code b.needs;
        total = ap (λ n. weigh w [] n + b.left) (sym b.is.many) ∙ ap (λ u. weigh w u b.many + b.left) (sym b.is.none) ∙ b.total;
        first = λ j v n r s e f. inl (s.none, sym s.code);
      }

-- with nothing entered, what it costs is what is needed after it
module _ (w : Weight) (c : ℕ) (need : Need) where
  nothing_weighs : (v : List ℕ) (n r : ℕ) (k : ℕ) → Ret 0 c k v n → weigh w v n + r ≡ r
  nothing_weighs v n r k s = ap (λ u. weigh w u n + r) s.none ∙ ap (λ x. weigh w [] x + r) s.many ∙ go w
    where
      go : (w : Weight) → weigh w [] 0 + r ≡ r
      go Answers = omega arith
      go Entries = omega arith

  pub ret_costs : Costs w (Ret 0 c) need (need c)
  ret_costs = go (need c) refl
    where
      go : (x : Option ℕ) → need c ≡ x → Costs w (Ret 0 c) need x
      go none e = λ j v n r s f. let g : need c ≡ some r = rw s.code f in let z : ◌≡◌ {A = ℕ} 0 1 = cc in omega arith
      go (some m) e =
          record {
            code = c;
            used = [];
            many = 0;
            left = m;
            is = record { code = refl; none = refl; many = refl };
            needs = e;
            total = nothing_weighs [] 0 m c record { code = refl; none = refl; many = refl };
            best = λ j v n r s f. let g : need c ≡ some r = rw s.code f in let z : m ≡ r = cc in same_no_worse w (z ∙ sym (nothing_weighs v n r j s));
          }

-- A start of S is one of S₁ and then, after its code, one of T.
pub record Split (S₁ : Coded) (T : ℕ → Coded) (k : ℕ) (u : List ℕ) (n : ℕ) : Type 0 where
  pub code : ℕ
  pub before : List ℕ
  pub after : List ℕ
  pub many_before : ℕ
  pub many_after : ℕ
  pub first : S₁ code before many_before
  pub second : T code k after many_after
  pub answers : u ≡ before ++ after
  pub entries : n ≡ many_before + many_after

module _ (w : Weight) (S S₁ : Coded) (T : ℕ → Coded) (need need₁ : Need) (into : (i k : ℕ) (u v : List ℕ) (m n : ℕ) → S₁ i u m → T i k v n → S k (u ++ v) (m + n)) (out : (k : ℕ) (u : List ℕ) (n : ℕ) → S k u n → Split S₁ T k u n) (after : (i : ℕ) → Costs w (T i) need (need₁ i)) where
  -- the weight of a start by its parts
  parts : (k : ℕ) (u : List ℕ) (n r : ℕ) (d : Split S₁ T k u n) → weigh w d.before d.many_before + (weigh w d.after d.many_after + r) ≡ weigh w u n + r
  parts k u n r d =
      let z : weigh w u n ≡ weigh w d.before d.many_before + weigh w d.after d.many_after = rw (d.answers, d.entries) ((weighs w).parts d.before d.after d.many_before d.many_after) in
      omega arith

  -- the part before, with the preferred that is needed after it, is no worse
  at_most : (k : ℕ) (u : List ℕ) (m r : ℕ) (d : Split S₁ T k u m) → need k ≡ some r → (n : Number w (T d.code) need (need₁ d.code) (weigh w d.after d.many_after + r)) × NoWorse w (weigh w d.before d.many_before + n.number) (weigh w u m + r)
  at_most k u m r d e =
      let n = number_of w (T d.code) need (need₁ d.code) (after d.code) k d.after d.many_after r d.second e in
      (n, subst (NoWorse w (weigh w d.before d.many_before + n.number)) (parts k u m r d) (add-weight w (weigh w d.before d.many_before) n.number (weigh w d.after d.many_after + r) n.small))

  at_least : (m : ℕ) → Best w S need m → (j : ℕ) (v : List ℕ) (n r : ℕ) → S₁ j v n → need₁ j ≡ some r → NoWorse w m (weigh w v n + r)
  at_least m c j v n r s e =
      let l = costs-some w (T j) need (need₁ j) r e (after j) in
      let z = (weighs w).parts v l.used n l.many in
      let y : weigh w (v ++ l.used) (n + l.many) + l.left ≡ weigh w v n + r = omega (arith, l.total) in
      subst (NoWorse w m) y (c.best l.code (v ++ l.used) (n + l.many) l.left (into j l.code v l.used n l.many s l.is) l.needs)

  pub bind_best : (m : ℕ) → Best w S need m → Best w S₁ need₁ m
  bind_best m c =
      let d = out c.code c.used c.many c.is in
      let (n, le) = at_most c.code c.used c.many c.left d c.needs in
      record {
        code = d.code;
        used = d.before;
        many = d.many_before;
        left = n.number;
        is = d.first;
        needs = n.is;
        total = same-weight w (weigh w d.before d.many_before + n.number) m (subst (NoWorse w (weigh w d.before d.many_before + n.number)) c.total le) (at_least m c d.code d.before d.many_before n.number d.first n.is);
        best = at_least m c;
      }

  pub bind_walks : (m : ℕ) (u : List ℕ) (i : ℕ) (v : List ℕ) (k : ℕ) → Best w S need m → Walks w S₁ need₁ m u i → ((l : ℕ) → Best w (T i) need l → Walks w (T i) need l v k) → Walks w S need m (u ++ v) k
  bind_walks m u i v k c x f =
      record {
        bits = bits-append u v x.bits y.bits;
        many = x.many + y.many;
        is = into i k u v x.many y.many x.is y.is;
        left = y.left;
        needs = y.needs;
        total = let z = (weighs w).parts u v x.many y.many in omega (arith, x.total, y.total);
        first = goes;
      }
    where
      y : Walks w (T i) need x.left v k
      y = f x.left (costs-some w (T i) need (need₁ i) x.left x.needs (after i))

      goes : (j : ℕ) (a : List ℕ) (n r : ℕ) → S j a n → need j ≡ some r → weigh w a n + r ≡ m → ((a ≡ u ++ v) × (j ≡ k)) ⊎ Sooner (u ++ v) a
      goes j a n r s e t = pick (out j a n s)
        where
          pick : Split S₁ T j a n → ((a ≡ u ++ v) × (j ≡ k)) ⊎ Sooner (u ++ v) a
          pick d =
              let (l, le) = at_most j a n r d e in
              on l
              (same-weight w (weigh w d.before d.many_before + l.number) m (subst (NoWorse w (weigh w d.before d.many_before + l.number)) t le) (at_least m c d.code d.before d.many_before l.number d.first l.is))
            where
              ends : d.before ≡ u → ((d.after ≡ v) × (j ≡ k)) ⊎ Sooner v d.after → ((a ≡ u ++ v) × (j ≡ k)) ⊎ Sooner (u ++ v) a
              ends b (inl (q, z)) = inl (d.answers ∙ ap (λ l. l ++ d.after) b ∙ ap (λ l. u ++ l) q, z)
              ends b (inr q) = inr (rw (d.answers, b) (sooner_left u q))

              -- what is needed after the first part is what the second comes to
              rest : (l : Number w (T d.code) need (need₁ d.code) (weigh w d.after d.many_after + r)) → weigh w d.before d.many_before + l.number ≡ m → d.code ≡ i → weigh w d.after d.many_after + r ≡ x.left
              rest l all z =
                  let same : some l.number ≡ some x.left = sym l.is ∙ ap need₁ z ∙ x.needs in
                  let number : l.number ≡ x.left = cc in
                  omega (arith, parts j a n r d)

              on : (l : Number w (T d.code) need (need₁ d.code) (weigh w d.after d.many_after + r)) → weigh w d.before d.many_before + l.number ≡ m → ((a ≡ u ++ v) × (j ≡ k)) ⊎ Sooner (u ++ v) a
              on l all = by (x.first d.code d.before d.many_before l.number d.first l.is all)
                where
                  by : ((d.before ≡ u) × (d.code ≡ i)) ⊎ Sooner u d.before → ((a ≡ u ++ v) × (j ≡ k)) ⊎ Sooner (u ++ v) a
                  by (inl (b, z)) = ends b (y.first j d.after d.many_after r (subst (λ q. T q j d.after d.many_after) z d.second) e (rest l all z))
                  by (inr q) = inr (rw d.answers (sooner_right v d.after q))

-- A test: S₁ after an answer that is present, S₂ after one that is absent.
abbrev pub branch : Coded → Coded → ℕ → Coded
branch S₁ S₂ zero = S₂
branch S₁ S₂ (suc a) = S₁

pub record Tests (S₁ S₂ : Coded) (k : ℕ) (u : List ℕ) (n : ℕ) : Type 0 where
  pub head : ℕ
  pub tail : List ℕ
  pub answers : u ≡ head ∷ tail
  pub is : branch S₁ S₂ head k tail n

module _ (w : Weight) (S₁ S₂ : Coded) (need : Need) where
  -- the weight of a test's start
  headed : {k n : ℕ} {u : List ℕ} (r : ℕ) (s : Tests S₁ S₂ k u n) → weigh w u n + r ≡ of_answer w + (weigh w s.tail n + r)
  headed {n = n} {u = u} r s = let z : weigh w u n ≡ of_answer w + weigh w s.tail n = rw s.answers (answered-weight w s.head s.tail n) in omega arith

  -- a test has a start only if a branch has one
  one-branch : (m : ℕ) → ((j : ℕ) (v : List ℕ) (n r : ℕ) → S₁ j v n → need j ≡ some r → ⊥) → ((j : ℕ) (v : List ℕ) (n r : ℕ) → S₂ j v n → need j ≡ some r → ⊥) → Best w (Tests S₁ S₂) need m → ⊥
  one-branch m f g c = go c.is.head c.is.is
    where
      go : (a : ℕ) → branch S₁ S₂ a c.code c.is.tail c.many → ⊥
      go zero s = g c.code c.is.tail c.many c.left s c.needs
      go (suc a) s = f c.code c.is.tail c.many c.left s c.needs

  -- what is no worse than both branches is no worse, with the answer, than the test
  test_low : (m b : ℕ) → ((j : ℕ) (v : List ℕ) (n r : ℕ) → S₁ j v n → need j ≡ some r → NoWorse w b (weigh w v n + r)) → ((j : ℕ) (v : List ℕ) (n r : ℕ) → S₂ j v n → need j ≡ some r → NoWorse w b (weigh w v n + r)) → Best w (Tests S₁ S₂) need m → NoWorse w (of_answer w + b) m
  test_low m b f g c = subst (NoWorse w (of_answer w + b)) (sym (headed c.left c.is) ∙ c.total) (add-weight w (of_answer w) b (weigh w c.is.tail c.many + c.left) (go c.is.head c.is.is))
    where
      go : (a : ℕ) → branch S₁ S₂ a c.code c.is.tail c.many → NoWorse w b (weigh w c.is.tail c.many + c.left)
      go zero s = g c.code c.is.tail c.many c.left s c.needs
      go (suc a) s = f c.code c.is.tail c.many c.left s c.needs

  -- and the test is no worse than one of them with the answer
  test-high : (m a n : ℕ) → Best w (branch S₁ S₂ a) need n → Best w (Tests S₁ S₂) need m → NoWorse w m (of_answer w + n)
  test-high m a n d c =
      let s : Tests S₁ S₂ d.code (a ∷ d.used) d.many = record { head = a; tail = d.used; answers = refl; is = d.is } in
      subst (NoWorse w m) (headed d.left s ∙ ap (λ x. of_answer w + x) d.total) (c.best d.code (a ∷ d.used) d.many d.left s d.needs)

  -- so it comes to what the better branch does
  meets : (m a n : ℕ) → Best w (branch S₁ S₂ a) need n → ((j : ℕ) (v : List ℕ) (l r : ℕ) → S₁ j v l → need j ≡ some r → NoWorse w n (weigh w v l + r)) → ((j : ℕ) (v : List ℕ) (l r : ℕ) → S₂ j v l → need j ≡ some r → NoWorse w n (weigh w v l + r)) → Best w (Tests S₁ S₂) need m → m ≡ of_answer w + n
  meets m a n d f g c = same-weight w m (of_answer w + n) (test-high m a n d c) (test_low m n f g c)

  pub absent-cost : (m : ℕ) (x₁ x₂ : Option ℕ) → Costs w S₁ need x₁ → Costs w S₂ need x₂ → no_worse w x₂ x₁ ≡ true → Best w (Tests S₁ S₂) need m → (n : ℕ) × Best w S₂ need n × (m ≡ of_answer w + n)
  absent-cost m none none c d e l = absurd (one-branch m c d l)
  absent-cost m none (some n) c d e l = (n, d, meets m 0 n d (λ j v k r s f. absurd (c j v k r s f)) d.best l)
  absent-cost m (some k) none c d e l = let z : ◌≡◌ {A = ℕ} 0 1 = cc in absurd (omega arith)
  absent-cost m (some k) (some n) c d e l =
      (n, d, meets m 0 n d (λ j v i r s f. (weighs w).then n k (weigh w v i + r) (told_no_worse w n k e) (c.best j v i r s f)) d.best l)

  pub present-cost : (m : ℕ) (x₁ x₂ : Option ℕ) → Costs w S₁ need x₁ → Costs w S₂ need x₂ → no_worse w x₂ x₁ ≡ false → Best w (Tests S₁ S₂) need m → (n : ℕ) × Best w S₁ need n × (m ≡ of_answer w + n) × ((j : ℕ) (v : List ℕ) (l r : ℕ) → S₂ j v l → need j ≡ some r → weigh w v l + r ≡ n → ⊥)
  present-cost m none none c d e l = let z : ◌≡◌ {A = ℕ} 0 1 = cc in absurd (omega arith)
  present-cost m none (some n) c d e l = let z : ◌≡◌ {A = ℕ} 0 1 = cc in absurd (omega arith)
  present-cost m (some k) none c d e l = (
    k,
    c,
    meets m 1 k c c.best (λ j v i r s f. absurd (d j v i r s f)) l,
    λ j v i r s f g. d j v i r s f,
  )
  present-cost m (some k) (some n) c d e l = (
    k,
    c,
    meets m 1 k c c.best (λ j v i r s f. (weighs w).then k n (weigh w v i + r) (told_worse w n k e) (d.best j v i r s f)) l,
    λ j v i r s f g. told-other w n k e (subst (NoWorse w n) g (d.best j v i r s f)),
  )

  -- an answer, then the walk of its branch, where no list with a smaller answer comes to the same
  answered_walks : (a m n : ℕ) (u : List ℕ) (i : ℕ) → a ≤ 1 → m ≡ of_answer w + n → ((j r b : ℕ) (v : List ℕ) (l : ℕ) → branch S₁ S₂ b j v l → need j ≡ some r → weigh w v l + r ≡ n → a ≤ b) → Walks w (branch S₁ S₂ a) need n u i → Walks w (Tests S₁ S₂) need m (a ∷ u) i
  answered_walks a m n u i bit z least x =
      record {
        bits = (bit, x.bits);
        many = x.many;
        is = record { head = a; tail = u; answers = refl; is = x.is };
        left = x.left;
        needs = x.needs;
        total = omega (arith, answered-weight w a u x.many, x.total);
        first = λ j v l r s e f. rw s.answers (go j r s.head s.tail l s.is e (let y = headed r s in omega arith));
      }
    where
      further-on : (j : ℕ) (v : List ℕ) → ((v ≡ u) × (j ≡ i)) ⊎ Sooner u v → ((a ∷ v ≡ a ∷ u) × (j ≡ i)) ⊎ Sooner (a ∷ u) (a ∷ v)
      further-on j v (inl (e, f)) = inl (ap (λ l. a ∷ l) e, f)
      further-on j v (inr q) = inr (further a q)

      go : (j r b : ℕ) (v : List ℕ) (l : ℕ) → branch S₁ S₂ b j v l → need j ≡ some r → weigh w v l + r ≡ n → ((b ∷ v ≡ a ∷ u) × (j ≡ i)) ⊎ Sooner (a ∷ u) (b ∷ v)
      go j r b v l s e f = by (eq-or-lt_of_le (least j r b v l s e f)) s
        where
          by : (a ≡ b) ⊎ (a < b) → branch S₁ S₂ b j v l → ((b ∷ v ≡ a ∷ u) × (j ≡ i)) ⊎ Sooner (a ∷ u) (b ∷ v)
          by (inl y) t = rw (sym y) (further-on j v (x.first j v l r (subst (λ c. branch S₁ S₂ c j v l) (sym y) t) e f))
          by (inr h) t = inr (here a b u v h)

  pub absent_walks : (m n : ℕ) (u : List ℕ) (i : ℕ) → m ≡ of_answer w + n → Walks w S₂ need n u i → Walks w (Tests S₁ S₂) need m (0 ∷ u) i
  absent_walks m n u i z x = answered_walks 0 m n u i (omega arith) z (λ j r b v l s e f. omega arith) x

  pub present_walks : (m n : ℕ) (u : List ℕ) (i : ℕ) → m ≡ of_answer w + n → ((j : ℕ) (v : List ℕ) (l r : ℕ) → S₂ j v l → need j ≡ some r → weigh w v l + r ≡ n → ⊥) → Walks w S₁ need n u i → Walks w (Tests S₁ S₂) need m (1 ∷ u) i
  present_walks m n u i z worse x = answered_walks 1 m n u i (omega arith) z least x
    where
      least : (j r b : ℕ) (v : List ℕ) (l : ℕ) → branch S₁ S₂ b j v l → need j ≡ some r → weigh w v l + r ≡ n → 1 ≤ b
      least j r zero v l s e f = absurd (worse j v l r s e f)
      least j r (suc b) v l s e f = omega arith

-- The codes turned by a function.
pub record Image (f : ℕ → ℕ) (S : Coded) (k : ℕ) (u : List ℕ) (n : ℕ) : Type 0 where
  pub code : ℕ
  pub is : S code u n
  pub turned : f code ≡ k

module _ (w : Weight) (f : ℕ → ℕ) (S : Coded) (need : Need) where
  needed : (j k r : ℕ) → f j ≡ k → need k ≡ some r → need (f j) ≡ some r
  needed j k r z e = rw z e

  pub image_best : (m : ℕ) → Best w (Image f S) need m → Best w S (λ j. need (f j)) m
  image_best m c =
      record {
        code = c.is.code;
        used = c.used;
        many = c.many;
        left = c.left;
        is = c.is.is;
        needs = needed c.is.code c.code c.left c.is.turned c.needs;
        total = c.total;
        best = λ j v n r s e. c.best (f j) v n r record { code = j; is = s; turned = refl } e;
      }

  pub image_costs : (x : Option ℕ) → Costs w S (λ j. need (f j)) x → Costs w (Image f S) need x
  image_costs none c = λ j v n r s e. c s.code v n r s.is (needed s.code j r s.turned e)
  image_costs (some m) c =
      record {
        code = f c.code;
        used = c.used;
        many = c.many;
        left = c.left;
        is = record { code = c.code; is = c.is; turned = refl };
        needs = c.needs;
        total = c.total;
        best = λ j v n r s e. c.best s.code v n r s.is (needed s.code j r s.turned e);
      }

  pub image_walks : (m : ℕ) (u : List ℕ) (i : ℕ) → Walks w S (λ j. need (f j)) m u i → Walks w (Image f S) need m u (f i)
  image_walks m u i x =
      record {
        bits = x.bits;
        many = x.many;
        is = record { code = i; is = x.is; turned = refl };
        left = x.left;
        needs = x.needs;
        total = x.total;
        first = λ j v n r s e z. turn j v n s (x.first s.code v n r s.is (needed s.code j r s.turned e) z);
      }
    where
      turn : (j : ℕ) (v : List ℕ) (n : ℕ) (s : Image f S j v n) → ((v ≡ u) × (s.code ≡ i)) ⊎ Sooner u v → ((v ≡ u) × (j ≡ f i)) ⊎ Sooner u v
      turn j v n s (inl (a, b)) = inl (a, sym s.turned ∙ ap f b)
      turn j v n s (inr q) = inr q

-- Without code 0.
abbrev pub Without : Coded → Coded
Without S zero u n = ⊥
Without S (suc k) u n = S (suc k) u n

module _ (w : Weight) (S : Coded) (need : Need) where
  without_out : (k : ℕ) (u : List ℕ) (n r : ℕ) → Without S k u n → need k ≡ some r → (j : ℕ) × S j u n × (without_ended (weights w) need j ≡ some r)
  without_out zero u n r s e = absurd s
  without_out (suc k) u n r s e = (suc k, s, e)

  without_in : (k : ℕ) (u : List ℕ) (n r : ℕ) → S k u n → without_ended (weights w) need k ≡ some r → Without S k u n × (need k ≡ some r)
  without_in zero u n r s e = let z : ◌≡◌ {A = ℕ} 0 1 = cc in absurd (omega arith)
  without_in (suc k) u n r s e = (s, e)

  pub without-best : (m : ℕ) → Best w (Without S) need m → Best w S (without_ended (weights w) need) m
  without-best m c =
      let (k, s, e) = without_out c.code c.used c.many c.left c.is c.needs in
      record {
        code = k;
        used = c.used;
        many = c.many;
        left = c.left;
        is = s;
        needs = e;
        total = c.total;
        best = λ j v n r s e. let (t, f) = without_in j v n r s e in c.best j v n r t f;
      }

  pub without_walks : (m : ℕ) (u : List ℕ) (i : ℕ) → Walks w S (without_ended (weights w) need) m u i → Walks w (Without S) need m u i
  without_walks m u i x =
      let (s, e) = without_in i u x.many x.left x.is x.needs in
      record {
        bits = x.bits;
        many = x.many;
        is = s;
        left = x.left;
        needs = e;
        total = x.total;
        first = λ j v n r s e z. go j v n r s e z;
      }
    where
      go : (j : ℕ) (v : List ℕ) (n r : ℕ) → Without S j v n → need j ≡ some r → weigh w v n + r ≡ m → ((v ≡ u) × (j ≡ i)) ⊎ Sooner u v
      go zero v n r s e z = absurd s
      go (suc j) v n r s e z = x.first (suc j) v n r s e z

-- A statement that is entered: one entry, then what is in it.
module _ (w : Weight) (S : Coded) (need : Need) where
  entered_in : (k : ℕ) (u : List ℕ) (n : ℕ) → S k u n → entered starts S k u (suc n)
  entered_in k u n x = record { before = []; after = u; entries_before = 1; entries_after = n; first = (refl, refl); second = x; answers = refl; entries = omega arith }

  entered_out : (k : ℕ) (u : List ℕ) (n : ℕ) → entered starts S k u n → (m : ℕ) × S k u m × (n ≡ suc m)
  entered_out k u n b =
      let z : b.after ≡ u = sym (b.answers ∙ ap (λ l. l ++ b.after) b.first.0) in
      (b.entries_after, subst (λ l. S k l b.entries_after) z b.second, omega (arith, b.entries, b.first.1))

  one_more : (u : List ℕ) (n m r : ℕ) → n ≡ suc m → weigh w u n + r ≡ of_entry w + (weigh w u m + r)
  one_more u n m r e = let z : weigh w u n ≡ of_entry w + weigh w u m = rw e (entered-weight w u m) in omega arith

  pub entered-best : (m : ℕ) → Best w (entered starts S) need m → (l : ℕ) × Best w S need l × (m ≡ of_entry w + l)
  entered-best m c =
      let (n, s, e) = entered_out c.code c.used c.many c.is in
      let l = weigh w c.used n + c.left in
      let same : m ≡ of_entry w + l = sym c.total ∙ one_more c.used c.many n c.left e in (
        l,
        record {
          code = c.code;
          used = c.used;
          many = n;
          left = c.left;
          is = s;
          needs = c.needs;
          total = refl;
          best = λ j v k r t f. drop-entry w l (weigh w v k + r) (subst (λ x. NoWorse w x (of_entry w + (weigh w v k + r))) same (subst (NoWorse w m) (one_more v (suc k) k r refl) (c.best j v (suc k) r (entered_in j v k t) f)));
        },
        same,
      )
    where
      drop-entry : (w : Weight) (x y : ℕ) → NoWorse w (of_entry w + x) (of_entry w + y) → NoWorse w x y
      drop-entry Answers x y h = omega arith
      drop-entry Entries x y h = omega arith

  pub entered_walks : (m l : ℕ) (u : List ℕ) (i : ℕ) → m ≡ of_entry w + l → Walks w S need l u i → Walks w (entered starts S) need m u i
  entered_walks m l u i same x =
      record {
        bits = x.bits;
        many = suc x.many;
        is = entered_in i u x.many x.is;
        left = x.left;
        needs = x.needs;
        total = omega (arith, one_more u (suc x.many) x.many x.left refl, x.total);
        first = λ j v n r s e f.
            let (k, t, z) = entered_out j v n s in
            x.first j v k r t e (let y = one_more v n k r z in omega arith);
      }
