-- The walk down a statement takes the first of the lists that come to what is preferred.
use mathlib.Core.Path.{◌≡◌, refl, sym, ap, ◌∙◌, subst}
use mathlib.Core.Bool.{Bool, true, false, cond}
use mathlib.Core.Logic.{inl, inr}
use mathlib.Core.Option.{Option}
use mathlib.Core.List.{List, [], ◌∷◌, ◌++◌, append-nil}
use Prim.Native.Nat.{ℕ, zero, suc, ◌+◌, max}
use native.Mathlib.Nat.{max-eq_left, max-eq_right}
use native.Mathlib.Omega.{arith}
use lib.Dec.{eqb}
use Rattle.codes.proofs.Members.{only_in, only_out}
use Rattle.esterel.specs.Codes.{catch_code}
use Rattle.esterel.specs.Statement.{nothing, pause, emit, exit, signal, suspend, loop, trap, present, sequence, parallel, Stmt, leaf, one, two}
use Rattle.starts.specs.declared.Weight.{Weight}
use Rattle.starts.specs.Summary.{Took, IsAbsent, IsPresent, starts, given, only, without_ended, followed, larger, caught, branched, entered, Gives, weights}
use Rattle.starts.specs.Walk.{Need, cost, no_worse, need_first, Walked, walked, answers_of, code_of, answer, and_walk, beside_walk, walk, Below}
use Rattle.starts.proofs.Sound.{followed_in, larger_in, caught_in}
use Rattle.starts.proofs.Complete.{up_to_out}
use Rattle.starts.proofs.Bind.{Coded, Best, Costs, Walks, same-best, same_walks, Ret, ret_costs, ret_walks, Split, bind_best, bind_walks, branch, Tests, absent-cost, present-cost, absent_walks, present_walks, Image, image_best, image_costs, image_walks, Without, without-best, without_walks, entered-best, entered_walks}
use Rattle.starts.proofs.Cost.{cost-is}

-- a statement without children
module _ (c : ℕ) where
  only-to : (k : ℕ) (u : List ℕ) (n : ℕ) → only starts c k u n → Ret 1 c k u n
  only-to k u n x = go (eqb c k) refl x
    where
      go : (t : Bool) → eqb c k ≡ t → given starts t starts.entry u n → Ret 1 c k u n
      go false e y = absurd y
      go true e (y, z) = record { code = only_out c k e; none = y; many = z }

  only-from : (k : ℕ) (u : List ℕ) (n : ℕ) → Ret 1 c k u n → only starts c k u n
  only-from k u n s = rw (← s.code, only_in c) (s.none, s.many)

  leaf_walks : (w : Weight) (need : Need) (m : ℕ) → Best w (only starts c) need m → Walks w (only starts c) need m [] c
  leaf_walks w need m l =
      same_walks w (Ret 1 c) (only starts c) need only-from only-to (ret_walks w 1 c need m (same-best w (only starts c) (Ret 1 c) need only-to only-from l))

-- sequence
module _ (G H : Coded) where
  -- what follows the first
  abbrev Next : ℕ → Coded
  Next zero = H
  Next (suc i) = Ret 0 (suc i)

  then-into : (i k : ℕ) (u v : List ℕ) (m n : ℕ) → G i u m → Next i k v n → followed starts G H k (u ++ v) (m + n)
  then-into zero k u v m n x y = followed_in G H k u v m n x y
  then-into (suc i) k u v m n x r =
      let z : m + 0 ≡ m = omega arith in
      rw (← r.code, r.none, r.many, append-nil u, z) (inl x)

  then_out : (k : ℕ) (u : List ℕ) (n : ℕ) → followed starts G H k u n → Split G Next k u n
  then_out zero u n b =
      record { code = 0; before = b.before; after = b.after; many_before = b.entries_before; many_after = b.entries_after; first = b.first; second = b.second; answers = b.answers; entries = b.entries }
  then_out (suc k) u n (inl x) =
      record { code = suc k; before = u; after = []; many_before = n; many_after = 0; first = x; second = record { code = refl; none = refl; many = refl }; answers = sym (append-nil u); entries = omega arith }
  then_out (suc k) u n (inr b) =
      record { code = 0; before = b.before; after = b.after; many_before = b.entries_before; many_after = b.entries_after; first = b.first; second = b.second; answers = b.answers; entries = b.entries }

  module _ (w : Weight) where
    then-after : (need : Need) (x : Option ℕ) → Costs w H need x → (i : ℕ) → Costs w (Next i) need (need_first x need i)
    then-after need x c zero = c
    then-after need x c (suc i) = ret_costs w (suc i) need

    then_walks : (need : Need) (x : Option ℕ) → Costs w H need x → (a b : Walked) (m : ℕ) → Best w (followed starts G H) need m → Walks w G (need_first x need) m (answers_of a) (code_of a) → ((n : ℕ) → Best w H need n → Walks w H need n (answers_of b) (code_of b)) → Walks w (followed starts G H) need m (answers_of (and_walk a b)) (code_of (and_walk a b))
    then_walks need x c (walked u zero) b m l o f =
        bind_walks w (followed starts G H) G Next need (need_first x need) then-into then_out (then-after need x c) m u 0 (answers_of b) (code_of b) l o f
    then_walks need x c (walked u (suc i)) b m l o f =
        subst (λ y. Walks w (followed starts G H) need m y (suc i)) (append-nil u)
        (bind_walks w (followed starts G H) G Next need (need_first x need) then-into then_out (then-after need x c) m u (suc i) [] (suc i) l o (ret_walks w 0 (suc i) need))

  -- parallel
  abbrev Beside : ℕ → Coded
  Beside i = Image (max i) H

  beside-into : (i k : ℕ) (u v : List ℕ) (m n : ℕ) → G i u m → Beside i k v n → larger starts G H k (u ++ v) (m + n)
  beside-into i k u v m n x y = rw (← y.turned) (larger_in G H i y.code u v m n x y.is)

  beside_out : (k : ℕ) (u : List ℕ) (n : ℕ) → larger starts G H k u n → Split G Beside k u n
  beside_out k u n (inl b) =
      let (j, le, y) = up_to_out H k b.after b.entries_after b.second in
      record { code = k; before = b.before; after = b.after; many_before = b.entries_before; many_after = b.entries_after; first = b.first; second = record { code = j; is = y; turned = max-eq_left le }; answers = b.answers; entries = b.entries }
  beside_out k u n (inr b) =
      let (i, le, y) = up_to_out G k b.before b.entries_before b.first in
      record { code = i; before = b.before; after = b.after; many_before = b.entries_before; many_after = b.entries_after; first = y; second = record { code = k; is = b.second; turned = max-eq_right le }; answers = b.answers; entries = b.entries }

  beside_walks : (w : Weight) (need need₁ : Need) → ((i : ℕ) → Costs w (Beside i) need (need₁ i)) → (a : Walked) (right : ℕ → Walked) (m : ℕ) → Best w (larger starts G H) need m → Walks w G need₁ m (answers_of a) (code_of a) → ((i n : ℕ) → Best w H (λ j. need (max i j)) n → Walks w H (λ j. need (max i j)) n (answers_of (right i)) (code_of (right i))) → Walks w (larger starts G H) need m (answers_of (beside_walk a right)) (code_of (beside_walk a right))
  beside_walks w need need₁ c (walked u i) right m l o f =
      bind_walks w (larger starts G H) G Beside need need₁ beside-into beside_out c m u i (answers_of (right i)) (max i (code_of (right i))) l o
      (λ n d. image_walks w (max i) H need n (answers_of (right i)) (code_of (right i)) (f i n (image_best w (max i) H need n d)))

  -- present
  test-to : (k : ℕ) (u : List ℕ) (n : ℕ) → branched starts G H k u n → Tests G H k u n
  test-to k u n (inl b) = go b.first.answer b.first.is (b.answers ∙ ap (λ l. l ++ b.after) b.first.answers)
    where
      go : (a : ℕ) → IsPresent a → u ≡ a ∷ b.after → Tests G H k u n
      go zero o z = absurd o
      go (suc a) o z = record { head = suc a; tail = b.after; answers = z; is = let y : b.entries_after ≡ n = omega (arith, b.entries, b.first.entries) in subst (G k b.after) y b.second }
  test-to k u n (inr b) = go b.first.answer b.first.is (b.answers ∙ ap (λ l. l ++ b.after) b.first.answers)
    where
      go : (a : ℕ) → IsAbsent a → u ≡ a ∷ b.after → Tests G H k u n
      go zero o z = record { head = 0; tail = b.after; answers = z; is = let y : b.entries_after ≡ n = omega (arith, b.entries, b.first.entries) in subst (H k b.after) y b.second }
      go (suc a) o z = absurd o

  test-from : (k : ℕ) (u : List ℕ) (n : ℕ) → Tests G H k u n → branched starts G H k u n
  test-from k u n s = go s.head s.is s.answers
    where
      took : (ok : ℕ → Type 0) (a : ℕ) → ok a → Took ok (a ∷ []) 0
      took ok a o = record { answer = a; is = o; answers = refl; entries = refl }

      go : (a : ℕ) → branch G H a k s.tail n → u ≡ a ∷ s.tail → branched starts G H k u n
      go zero x z = inr record { before = 0 ∷ []; after = s.tail; entries_before = 0; entries_after = n; first = took IsAbsent 0 tt; second = x; answers = z; entries = omega arith }
      go (suc a) x z = inl record { before = suc a ∷ []; after = s.tail; entries_before = 0; entries_after = n; first = took IsPresent (suc a) tt; second = x; answers = z; entries = omega arith }

  test_walks : (w : Weight) (need : Need) (x y : Option ℕ) → Costs w G need x → Costs w H need y → (a b : Walked) (m : ℕ) → Best w (Tests G H) need m → ((n : ℕ) → Best w G need n → Walks w G need n (answers_of a) (code_of a)) → ((n : ℕ) → Best w H need n → Walks w H need n (answers_of b) (code_of b)) → (t : Bool) → no_worse w y x ≡ t → Walks w (Tests G H) need m (answers_of (cond t (answer 0 b) (answer 1 a))) (code_of (cond t (answer 0 b) (answer 1 a)))
  test_walks w need x y c d a b m l f g true e =
      let (n, o, z) = absent-cost w G H need m x y c d e l in
      absent_walks w G H need m n (answers_of b) (code_of b) z (g n o)
  test_walks w need x y c d a b m l f g false e =
      let (n, o, z, worse) = present-cost w G H need m x y c d e l in
      present_walks w G H need m n (answers_of a) (code_of a) z worse (f n o)

-- trap and loop
module _ (G : Coded) where
  catch-to : (k : ℕ) (u : List ℕ) (n : ℕ) → caught starts G k u n → Image catch_code G k u n
  catch-to zero u n (inl x) = record { code = 0; is = x; turned = refl }
  catch-to zero u n (inr x) = record { code = 2; is = x; turned = refl }
  catch-to (suc zero) u n x = record { code = 1; is = x; turned = refl }
  catch-to (suc (suc k)) u n x = record { code = suc (suc (suc k)); is = x; turned = refl }

  catch-from : (k : ℕ) (u : List ℕ) (n : ℕ) → Image catch_code G k u n → caught starts G k u n
  catch-from k u n s = rw (← s.turned) (caught_in G s.code u n s.is)

  loop-to : (k : ℕ) (u : List ℕ) (n : ℕ) → without_ended starts G k u n → Without G k u n
  loop-to zero u n x = x
  loop-to (suc k) u n x = x

  loop-from : (k : ℕ) (u : List ℕ) (n : ℕ) → Without G k u n → without_ended starts G k u n
  loop-from zero u n x = absurd x
  loop-from (suc k) u n x = x

-- a statement that is entered, where what is in it has the starts of S
around : (w : Weight) (G S : Coded) (need : Need) (m : ℕ) (u : List ℕ) (i : ℕ) → ((k : ℕ) (v : List ℕ) (n : ℕ) → G k v n → S k v n) → ((k : ℕ) (v : List ℕ) (n : ℕ) → S k v n → G k v n) → ((l : ℕ) → Best w S need l → Walks w S need l u i) → Best w (entered starts G) need m → Walks w (entered starts G) need m u i
around w G S need m u i to from f l =
    let (n, b, e) = entered-best w G need m l in
    entered_walks w G need m n u i e (same_walks w S G need from to (f n (same-best w G S need to from b)))

plainly : (w : Weight) (G : Coded) (need : Need) (m : ℕ) (u : List ℕ) (i : ℕ) → ((l : ℕ) → Best w G need l → Walks w G need l u i) → Best w (entered starts G) need m → Walks w (entered starts G) need m u i
plainly w G need m u i = around w G G need m u i (λ k v n s. s) (λ k v n s. s)

pub walks : (w : Weight) (B : ℕ) (p : Stmt) → Below B p → (need : Need) (m : ℕ) → Best w (Gives p) need m → Walks w (Gives p) need m (answers_of (walk w B p need)) (code_of (walk w B p need))
walks w B (leaf nothing) b need m l = leaf_walks 0 w need m l
walks w B (leaf pause) b need m l = leaf_walks 1 w need m l
walks w B (leaf (exit level)) b need m l = leaf_walks (2 + level) w need m l
walks w B (leaf (emit s)) b need m l = leaf_walks 0 w need m l
walks w B (two sequence p q) b need m l =
    plainly w (followed starts (Gives p) (Gives q)) need m _ _
    (λ n c.
    then_walks (Gives p) (Gives q) w need (cost w B q need) (cost-is w B q b.2 need) (walk w B p (need_first (cost w B q need) need)) (walk w B q need) n c
    (walks w B p b.1 (need_first (cost w B q need) need) n
    (bind_best w (followed starts (Gives p) (Gives q)) (Gives p) (Next (Gives p) (Gives q)) need (need_first (cost w B q need) need) (then-into (Gives p) (Gives q)) (then_out (Gives p) (Gives q)) (then-after (Gives p) (Gives q) w need (cost w B q need) (cost-is w B q b.2 need)) n c))
    (walks w B q b.2 need)) l
walks w B (two (present s) p q) b need m l =
    around w (branched starts (Gives p) (Gives q)) (Tests (Gives p) (Gives q)) need m _ _ (test-to (Gives p) (Gives q)) (test-from (Gives p) (Gives q))
    (λ n c.
    test_walks (Gives p) (Gives q) w need (cost w B p need) (cost w B q need) (cost-is w B p b.1 need) (cost-is w B q b.2 need) (walk w B p need) (walk w B q need) n c (walks w B p b.1 need) (walks w B q b.2 need) (no_worse w (cost w B q need) (cost w B p need)) refl) l
walks w B (one trap p) b need m l =
    around w (caught starts (Gives p)) (Image catch_code (Gives p)) need m _ _ (catch-to (Gives p)) (catch-from (Gives p))
    (λ n c. image_walks w catch_code (Gives p) need n _ _ (walks w B p b.1 (λ k. need (catch_code k)) n (image_best w catch_code (Gives p) need n c))) l
walks w B (two parallel p q) b need m l =
    plainly w (larger starts (Gives p) (Gives q)) need m _ _
    (λ n c.
    beside_walks (Gives p) (Gives q) w need (λ i. cost w B q (λ j. need (max i j))) (λ i. after i) (walk w B p (λ i. cost w B q (λ j. need (max i j)))) (λ i. walk w B q (λ j. need (max i j))) n c
    (walks w B p b.1 (λ i. cost w B q (λ j. need (max i j))) n
    (bind_best w (larger starts (Gives p) (Gives q)) (Gives p) (Beside (Gives p) (Gives q)) need (λ i. cost w B q (λ j. need (max i j))) (beside-into (Gives p) (Gives q)) (beside_out (Gives p) (Gives q)) (λ i. after i) n c))
    (λ i. walks w B q b.2 (λ j. need (max i j)))) l
  where
    after : (i : ℕ) → Costs w (Image (max i) (Gives q)) need (cost w B q (λ j. need (max i j)))
    after i = image_costs w (max i) (Gives q) need (cost w B q (λ j. need (max i j))) (cost-is w B q b.2 (λ j. need (max i j)))
walks w B (one loop p) b need m l =
    around w (without_ended starts (Gives p)) (Without (Gives p)) need m _ _ (loop-to (Gives p)) (loop-from (Gives p))
    (λ n c. without_walks w (Gives p) need n _ _ (walks w B p b.1 (without_ended (weights w) need) n (without-best w (Gives p) need n c))) l
walks w B (one (signal s) p) b need m l = plainly w (Gives p) need m _ _ (walks w B p b.1 need) l
walks w B (one (suspend s) p) b need m l = plainly w (Gives p) need m _ _ (walks w B p b.1 need) l
