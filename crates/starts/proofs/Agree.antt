-- For code that holds what is needed in a row: a walk goes by the codes up to B alone, and gives none above.
use mathlib.Core.Path.{◌≡◌, refl, ap, ap₂, ◌∙◌}
use mathlib.Core.Bool.{Bool, true, false, cond}
use mathlib.Core.Option.{Option}
use mathlib.Core.List.{◌++◌}
use Prim.Native.Nat.{ℕ, zero, suc, ◌+◌, ◌≤◌, max}
use native.Mathlib.Omega.{arith}
use Rattle.codes.proofs.Members.{only_in}
use Rattle.codes.proofs.Catching.{catch_falls}
use Rattle.esterel.specs.Codes.{catch_code}
use Rattle.esterel.specs.Statement.{nothing, pause, emit, exit, signal, suspend, loop, trap, present, sequence, parallel, Stmt, leaf, one, two}
use Rattle.starts.specs.declared.Weight.{Weight}
use Rattle.starts.specs.Summary.{Algebra, up_to, together, weights, best, without_ended}
use Rattle.starts.specs.Walk.{Need, cost, no_worse, need_first, Walked, walked, answers_of, code_of, answer, recode, and_walk, beside_walk, walk, Below}

pub up_to_agree {ℓ} : {X : Type ℓ} (a : Algebra X) (f g : ℕ → X) (b : ℕ) → ((k : ℕ) → k ≤ b → f k ≡ g k) → up_to a f b ≡ up_to a g b
up_to_agree a f g zero e = e 0 (omega arith)
up_to_agree a f g (suc b) e = ap₂ a.choice (e (suc b) (omega arith)) (up_to_agree a f g b (λ k h. e k (omega arith)))

-- the same is needed after each code up to B
abbrev pub Agree : ℕ → Need → Need → Type 0
Agree B need other = (k : ℕ) → k ≤ B → need k ≡ other k

cost_agree : (w : Weight) (B : ℕ) (p : Stmt) (need other : Need) → Agree B need other → cost w B p need ≡ cost w B p other
unfolding cost
cost_agree w B p need other e =
    up_to_agree (weights w) (λ k. together ◌+◌ (best w p k) (need k)) (λ k. together ◌+◌ (best w p k) (other k)) B (λ k h. ap (together ◌+◌ (best w p k)) (e k h))

and_low : (B : ℕ) (w v : Walked) → code_of w ≤ B → code_of v ≤ B → code_of (and_walk w v) ≤ B
and_low B (walked u zero) v h j = j
and_low B (walked u (suc k)) v h j = h

beside-low : (B : ℕ) (w : Walked) (right : ℕ → Walked) → code_of w ≤ B → ((i : ℕ) → code_of (right i) ≤ B) → code_of (beside_walk w right) ≤ B
beside-low B (walked u i) right h j = let k = j i in omega arith

cond-low : (B : ℕ) (t : Bool) (w v : Walked) → code_of w ≤ B → code_of v ≤ B → code_of (cond t (answer 0 w) (answer 1 v)) ≤ B
cond-low B true w v h j = h
cond-low B false w v h j = j

pub walk-low : (w : Weight) (B : ℕ) (p : Stmt) → Below B p → (need : Need) → code_of (walk w B p need) ≤ B
walk-low w B (leaf nothing) b need = omega arith
walk-low w B (leaf pause) b need = b 1 refl
walk-low w B (leaf (exit level)) b need = b (2 + level) (only_in (2 + level))
walk-low w B (leaf (emit s)) b need = omega arith
walk-low w B (two sequence p q) b need = and_low B (walk w B p (need_first (cost w B q need) need)) (walk w B q need) (walk-low w B p b.1 _) (walk-low w B q b.2 need)
walk-low w B (two (present s) p q) b need =
    cond-low B (no_worse w (cost w B q need) (cost w B p need)) (walk w B q need) (walk w B p need) (walk-low w B q b.2 need) (walk-low w B p b.1 need)
walk-low w B (one trap p) b need =
    let h = walk-low w B p b.1 (λ k. need (catch_code k)) in
    let j = catch_falls (code_of (walk w B p (λ k. need (catch_code k)))) in
    omega arith
walk-low w B (two parallel p q) b need =
    beside-low B (walk w B p (λ i. cost w B q (λ j. need (max i j)))) (λ i. walk w B q (λ j. need (max i j))) (walk-low w B p b.1 _) (λ i. walk-low w B q b.2 (λ j. need (max i j)))
walk-low w B (one loop p) b need = walk-low w B p b.1 (without_ended (weights w) need)
walk-low w B (one (signal s) p) b need = walk-low w B p b.1 need
walk-low w B (one (suspend s) p) b need = walk-low w B p b.1 need

first_agree : (B : ℕ) (x y : Option ℕ) (need other : Need) → x ≡ y → Agree B need other → Agree B (need_first x need) (need_first y other)
first_agree B x y need other z e zero h = z
first_agree B x y need other z e (suc k) h = e (suc k) h

body_agree : (w : Weight) (B : ℕ) (need other : Need) → Agree B need other → Agree B (without_ended (weights w) need) (without_ended (weights w) other)
body_agree w B need other e zero h = refl
body_agree w B need other e (suc k) h = e (suc k) h

beside_agree : (B : ℕ) (w v : Walked) (f g : ℕ → Walked) → w ≡ v → code_of w ≤ B → ((i : ℕ) → i ≤ B → f i ≡ g i) → beside_walk w f ≡ beside_walk v g
beside_agree B (walked u i) v f g z h e = ap (λ x. walked (u ++ answers_of x) (max i (code_of x))) (e i h) ∙ ap (λ x. beside_walk x g) z

pub walk_agree : (w : Weight) (B : ℕ) (p : Stmt) → Below B p → (need other : Need) → Agree B need other → walk w B p need ≡ walk w B p other
walk_agree w B (leaf nothing) b need other e = refl
walk_agree w B (leaf pause) b need other e = refl
walk_agree w B (leaf (exit level)) b need other e = refl
walk_agree w B (leaf (emit s)) b need other e = refl
walk_agree w B (two sequence p q) b need other e =
    ap₂ and_walk
    (walk_agree w B p b.1 (need_first (cost w B q need) need) (need_first (cost w B q other) other) (first_agree B (cost w B q need) (cost w B q other) need other (cost_agree w B q need other e) e))
    (walk_agree w B q b.2 need other e)
walk_agree w B (two (present s) p q) b need other e =
    ap₂ (λ t x. cond t (answer 0 x) (answer 1 (walk w B p need))) (ap₂ (no_worse w) (cost_agree w B q need other e) (cost_agree w B p need other e)) (walk_agree w B q b.2 need other e) ∙
    ap (λ x. cond (no_worse w (cost w B q other) (cost w B p other)) (answer 0 (walk w B q other)) (answer 1 x)) (walk_agree w B p b.1 need other e)
walk_agree w B (one trap p) b need other e =
    ap (recode catch_code) (walk_agree w B p b.1 (λ k. need (catch_code k)) (λ k. other (catch_code k)) (λ k h. e (catch_code k) (let j = catch_falls k in omega arith)))
walk_agree w B (two parallel p q) b need other e =
    beside_agree B (walk w B p (λ i. cost w B q (λ j. need (max i j)))) (walk w B p (λ i. cost w B q (λ j. other (max i j)))) (λ i. walk w B q (λ j. need (max i j))) (λ i. walk w B q (λ j. other (max i j)))
    (walk_agree w B p b.1 (λ i. cost w B q (λ j. need (max i j))) (λ i. cost w B q (λ j. other (max i j))) (λ i h. cost_agree w B q (λ j. need (max i j)) (λ j. other (max i j)) (λ j l. e (max i j) (omega arith))))
    (walk-low w B p b.1 (λ i. cost w B q (λ j. need (max i j))))
    (λ i h. walk_agree w B q b.2 (λ j. need (max i j)) (λ j. other (max i j)) (λ j l. e (max i j) (omega arith)))
walk_agree w B (one loop p) b need other e = walk_agree w B p b.1 (without_ended (weights w) need) (without_ended (weights w) other) (body_agree w B need other e)
walk_agree w B (one (signal s) p) b need other e = walk_agree w B p b.1 need other e
walk_agree w B (one (suspend s) p) b need other e = walk_agree w B p b.1 need other e
