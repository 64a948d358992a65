-- The nodes looked at suffice: what stands at the others changes nothing.
use mathlib.Core.Path.{◌≡◌, refl, ap, ap₂, ◌∙◌}
use mathlib.Core.Bool.{Bool, true, false, cond}
use mathlib.Core.List.{List, []}
use Prim.Native.Nat.{ℕ, zero, suc, ◌+◌, ◌-◌, ◌≤◌, ◌<◌}
use native.Mathlib.Omega.{arith}
use lib.Dec.{eqb, ltb}
use Rattle.codes.proofs.Bools.{inr_true}
use Rattle.esterel.specs.Codes.{without_ended}
use Rattle.esterel.specs.Statement.{signal, suspend, loop, trap, present, sequence, parallel, Stmt, one, two, size}
use Rattle.esterel.specs.Sets.{start_set}
use Rattle.esterel.specs.Outcome.{member}
use Rattle.esterel.proofs.Sizes.{size_pos}
use Rattle.question.specs.Question.{Found, found, nodes_of, asking, after, or_else, asks_second, and_then, max_code, limited, range, whole, look, question}
use Rattle.question.specs.Theorems.{Alike, leaves, ones, twos, others}
use Rattle.question.proofs.Lists.{left_in, right_in, in_range}
use Rattle.question.proofs.Looks.{asked-looked}

-- N holds of all nodes that are looked at
abbrev Seen : (ℕ → Type 0) → Found → Type 0
Seen N x = (n : ℕ) → member n (nodes_of x) ≡ true → N n

module _ (N : ℕ → Type 0) where
  alike_size : (i : ℕ) (p q : Stmt) → Alike N i p q → size q ≡ size p
  alike_size _ _ _ (leaves i l) = refl
  alike_size _ _ _ (ones i u p q a) = ap suc (alike_size i p q a)
  alike_size _ _ _ (twos i b p q r s a z) = ap₂ (λ x y. suc (x + y)) (alike_size i p q a) (alike_size (i + size p) r s z)
  alike_size _ _ _ (others i p q e out) = e

  -- where every node is looked at
  alike_same : (i : ℕ) (p q : Stmt) → Alike N i p q → ((n : ℕ) → i ≤ n → n < i + size p → N n) → q ≡ p
  alike_same _ _ _ (leaves i l) all = refl
  alike_same _ _ _ (ones i u p q a) all = ap (one u) (alike_same i p q a (λ n l h. all n l (omega arith)))
  alike_same _ _ _ (twos i b p q r s a z) all =
      ap₂ (two b) (alike_same i p q a (λ n l h. all n l (omega arith))) (alike_same (i + size p) r s z (λ n l h. all n (omega arith) (omega arith)))
  alike_same _ _ _ (others i p q e out) all = absurd (out (all (i + size p - 1) (omega (arith, size_pos p)) (omega (arith, size_pos p))))

  -- what is found stays the same if its parts do, as far as they are looked at
  inner-seen : (n : ℕ) (x : Found) → Seen N (asking n x) → Seen N x
  inner-seen n (found b ns) see m e = see m (inr_true (eqb n m) (member m ns) e)

  rest-seen : (ns : List ℕ) (x : Found) → Seen N (after ns x) → Seen N x
  rest-seen ns (found b ms) see m e = see m (right_in m ns ms e)

  all_seen : (i n : ℕ) (x : Found) → Seen N (after (range i n) x) → (m : ℕ) → i ≤ m → m < i + n → N m
  all_seen i n (found b ms) see m l r = see m (left_in m (range i n) ms (in_range i n m l r))

  whole-seen : (i : ℕ) (p : Stmt) (k : ℕ) → Seen N (whole i p k) → (m : ℕ) → i ≤ m → m < i + size p → N m
  whole-seen i p k see m l r = see m (in_range i (size p) m l r)

  by-test : (b : Bool) (x y z : Found) → (Seen N x → y ≡ x) → Seen N (cond b x z) → cond b y z ≡ cond b x z
  by-test true x y z f see = f see
  by-test false x y z f see = refl

  limited-same : (k : ℕ) (x y : Found) → (Seen N x → y ≡ x) → Seen N (limited k x) → limited k y ≡ limited k x
  limited-same k x y f = go (ltb max_code k)
    where
      go : (b : Bool) → Seen N (cond b (found false []) x) → cond b (found false []) y ≡ cond b (found false []) x
      go true see = refl
      go false see = f see

  else_same : (x y z w : Found) → (Seen N x → z ≡ x) → (Seen N y → w ≡ y) → Seen N (or_else x y) → or_else z w ≡ or_else x y
  else_same (found true ns) y z w f g see = ap (λ v. or_else v w) (f see)
  else_same (found false ns) (found b ms) z w f g see =
      ap (λ v. or_else v w) (f (λ m e. see m (left_in m ns ms e))) ∙ ap (after ns) (g (rest-seen ns (found b ms) see))

  -- the same nodes are looked at, and the answer is the same
  pub look-same : (i : ℕ) (p q : Stmt) → Alike N i p q → (k : ℕ) → Seen N (look i p k) → look i q k ≡ look i p k
  look-same _ _ _ (leaves i l) k see = refl
  look-same _ _ _ (ones i (signal s) p q a) k see =
      ap₂ (λ n x. asking (i + n) x) (alike_size i p q a) (look-same i p q a k (inner-seen (i + size p) (look i p k) see))
  look-same _ _ _ (ones i (suspend s) p q a) k see =
      ap₂ (λ n x. asking (i + n) x) (alike_size i p q a) (look-same i p q a k (inner-seen (i + size p) (look i p k) see))
  look-same _ _ _ (ones i loop p q a) zero see = ap (λ n. asking (i + n) (found false [])) (alike_size i p q a)
  look-same _ _ _ (ones i loop p q a) (suc k) see =
      ap₂ (λ n x. asking (i + n) x) (alike_size i p q a) (look-same i p q a (suc k) (inner-seen (i + size p) (look i p (suc k)) see))
  look-same _ _ _ (ones i trap p q a) zero see =
      ap (λ w. look i w 0) (alike_same i (one trap p) (one trap q) (ones i trap p q a) (whole-seen i (one trap p) 0 see))
  look-same _ _ _ (ones i trap p q a) (suc zero) see =
      ap₂ (λ n x. asking (i + n) x) (alike_size i p q a) (look-same i p q a 1 (inner-seen (i + size p) (look i p 1) see))
  look-same _ _ _ (ones i trap p q a) (suc (suc k)) see =
      let up = suc (suc (suc k)) in
      ap₂ (λ n x. asking (i + n) x) (alike_size i p q a)
      (limited-same up (look i p up) (look i q up) (look-same i p q a up) (inner-seen (i + size p) (limited up (look i p up)) see))
  look-same _ _ _ (twos i (present t) p q r s a z) k see =
      let x = or_else (look i p k) (look (i + size p) r k) in
      ap₂ (λ n m. asking (i + (n + m)) (or_else (look i q k) (look (i + n) s k))) (alike_size i p q a) (alike_size (i + size p) r s z)
      ∙ ap (asking (i + (size p + size r))) (else_same (look i p k) (look (i + size p) r k) (look i q k) (look (i + size p) s k) (look-same i p q a k) (look-same (i + size p) r s z k) (inner-seen (i + (size p + size r)) x see))
  look-same _ _ _ (twos i sequence p q r s a z) k see =
      let y = look (i + size p) r k in
      let x = and_then (start_set p) k y in
      let rest = inner-seen (i + (size p + size r)) (after (range i (size p)) x) see in
      ap (λ w. look i (two sequence w s) k) (alike_same i p q a (all_seen i (size p) x rest))
      ∙ ap₂ (λ n v. asking (i + (size p + n)) (after (range i (size p)) v)) (alike_size (i + size p) r s z)
      (by-test (asks_second (start_set p) k) y (look (i + size p) s k) (found (without_ended (start_set p) k) []) (look-same (i + size p) r s z k) (rest-seen (range i (size p)) x rest))
  look-same _ _ _ (twos i parallel p q r s a z) k see =
      ap (λ w. look i w k) (alike_same i (two parallel p r) (two parallel q s) (twos i parallel p q r s a z) (whole-seen i (two parallel p r) k see))
  look-same _ _ _ (others i p q e out) k see = absurd (out (see (i + size p - 1) (asked-looked i p k)))

  pub question-same : (i : ℕ) (p q : Stmt) → Alike N i p q → (k : ℕ) → Seen N (question i p k) → question i q k ≡ question i p k
  question-same i p q a k = limited-same k (look i p k) (look i q k) (look-same i p q a k)
