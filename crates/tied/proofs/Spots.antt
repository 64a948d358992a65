-- What is known at each node's place: in a signal statement's body its number is unknown, and elsewhere it is as it was tied.
use mathlib.Core.Path.{◌≡◌, refl, sym, ap, ◌∙◌}
use mathlib.Core.Bool.{Bool, true, false, cond}
use mathlib.Core.Logic.{◌⊎◌, inl, inr}
use mathlib.Core.List.{List, ◌++◌, map, map-append}
use Prim.Native.Nat.{ℕ, suc, ◌+◌, ◌-◌, ◌<◌}
use native.Mathlib.Omega.{arith}
use lib.Dec.{eqb}
use lib.ListN.{length, get_or, get_or-map, get_or-append}
use lib.Seq.{get_or-append-add}
use Rattle.codes.proofs.Members.{only_in, only_out}
use Rattle.esterel.specs.Statement.{nothing, Unary, signal, suspend, loop, trap, Binary, Stmt, leaf, one, two, size, nodes}
use Rattle.esterel.specs.Outcome.{statement_at}
use Rattle.esterel.proofs.Every.{Every, none, also, every_join, every_at}
use Rattle.esterel.proofs.Postorder.{Part, part-whole, Postorder, length-listed, part-child, part-first, part-second, part-own, Piece, pieces}
use Rattle.esterel.proofs.Ranges.{Over, over-join, over_last}
use Rattle.esterel.proofs.Sizes.{size_pos}
use Rattle.esterel.proofs.Subtrees.{inside}
use Rattle.tied.specs.Ties.{Ties}
use Rattle.tied.specs.declared.Tie.TheVariants.{Unknown}
use Rattle.tied.specs.Narrowed.{ties_under, Spot, at, ties_in, narrowed_in, narrowed, spots, outside, spot_at, ties_at, narrowed_at}
use Rattle.tied.specs.Theorems.{InBody}

abbrev stmt_in : Spot → Stmt
stmt_in (at c p) = p

statements : (c : Ties) (p : Stmt) → map stmt_in (spots c p) ≡ nodes p
statements c (leaf l) = refl
statements c (one u p) = simp (map-append, statements (ties_under u c) p)
statements c (two b p q) = simp (map-append, statements c p, statements c q)

spot_is : (c : Ties) (p : Stmt) (i : ℕ) → spot_at c p i ≡ at (ties_at c p i) (statement_at (nodes p) i)
spot_is c p i = go (spot_at c p i) ∙ ap (at (ties_at c p i)) (sym (get_or-map stmt_in (spots c p) i outside) ∙ ap (λ l. get_or l i (leaf nothing)) (statements c p))
  where
    go : (x : Spot) → x ≡ at (ties_in x) (stmt_in x)
    go (at d q) = refl

-- a node's set is that of its statement under the ties of its place
pub narrowed_at_lem : (c : Ties) (p : Stmt) (i : ℕ) → narrowed_at c p i ≡ narrowed (ties_at c p i) (statement_at (nodes p) i)
narrowed_at_lem c p i = ap narrowed_in (spot_is c p i)

-- ---- where the places of a statement's nodes stand in the list of all

in_spots : Postorder ties_under at spots
in_spots = record { none = λ d l. refl; single = λ d u p. refl; pair = λ d b p q. refl }

pub length-spots : (c : Ties) (p : Stmt) → length (spots c p) ≡ size p
length-spots = length-listed in_spots

module _ (c : Ties) (p : Stmt) (i : ℕ) (h : i < size p) where
  piece : Piece spots (spots c p) i
  piece = pieces in_spots (spots c p) c p 0 (part-whole (spots c p)) i (omega arith) (omega arith)

  here : at (ties_at c p i) (statement_at (nodes p) i) ≡ at piece.inherited piece.stmt
  here = sym (spot_is c p i) ∙ part-own in_spots (spots c p) outside piece.inherited piece.stmt i piece.ends piece.part

  -- the same, by the node's own ties and statement
  own : {q : Stmt} → statement_at (nodes p) i ≡ q → (first : ℕ) × Part (spots c p) first (spots (ties_at c p i) q) × (first + size q ≡ suc i)
  own {q} e =
      let x = piece in
      let z : ties_at c p i ≡ x.inherited = cc here in
      let y : q ≡ x.stmt = cc (here, e) in
      (x.first, rw (z, y) x.part, rw y x.ends)

  -- what is known at its children's places
  pub under_one : (u : Unary) (q : Stmt) → statement_at (nodes p) i ≡ one u q → spot_at c p (i - 1) ≡ at (ties_under u (ties_at c p i)) q
  under_one u q e =
      let (first, x, z) = own e in
      let pos = size_pos q in
      part-own in_spots (spots c p) outside (ties_under u (ties_at c p i)) q (i - 1) (omega arith) (part-child in_spots (spots c p) (ties_at c p i) u q x)

  pub under-two : (b : Binary) (q r : Stmt) → statement_at (nodes p) i ≡ two b q r → (spot_at c p (i - 1 - size r) ≡ at (ties_at c p i) q) × (spot_at c p (i - 1) ≡ at (ties_at c p i) r)
  under-two b q r e =
      let (first, x, z) = own e in
      let pos = size_pos q in
      let pos' = size_pos r in
      (part-own in_spots (spots c p) outside (ties_at c p i) q (i - 1 - size r) (omega arith) (part-first in_spots (spots c p) (ties_at c p i) b q r x), part-own in_spots (spots c p) outside (ties_at c p i) r (i - 1) (omega arith) (part-second in_spots (spots c p) (ties_at c p i) b q r x))

-- ---- in a body it is unknown

-- what is unknown around a statement is unknown in it
pub under_stays : (u : Unary) (c : Ties) (s : ℕ) → c s ≡ Unknown → ties_under u c s ≡ Unknown
under_stays (signal x) c s e = go (eqb s x)
  where
    go : (t : Bool) → cond t Unknown (c s) ≡ Unknown
    go true = refl
    go false = e
under_stays (suspend x) c s e = e
under_stays loop c s e = e
under_stays trap c s e = e

stays : (s : ℕ) (c : Ties) (p : Stmt) → c s ≡ Unknown → Every (λ x. ties_in x s ≡ Unknown) (spots c p)
stays s c (leaf l) e = also e none
stays s c (one u p) e = every_join (stays s (ties_under u c) p (under_stays u c s e)) (also e none)
stays s c (two b p q) e = every_join (every_join (stays s c p e) (stays s c q e)) (also e none)

pub unknown_in : (s : ℕ) (c : Ties) (p : Stmt) (i : ℕ) → c s ≡ Unknown → ties_at c p i s ≡ Unknown
unknown_in s c p i e = every_at outside refl (stays s c p e) i

-- a node of a part is one of the list
part_at : (xs l : List Spot) (n j : ℕ) → Part xs n l → j < length l → get_or xs (n + j) outside ≡ get_or l j outside
part_at xs l n j c h =
    ap (λ y. get_or y (n + j) outside) c.is ∙ ap (λ m. get_or (c.pre ++ (l ++ c.post)) (m + j) outside) (sym c.at) ∙ get_or-append-add c.pre (l ++ c.post) j outside ∙ get_or-append l c.post outside j h

pub in_body_lem : (p : Stmt) (c : Ties) (s i : ℕ) → InBody p s i → ties_at c p i s ≡ Unknown
in_body_lem p c s i b =
    let h = inside p b.node _ b.is_signal (λ z. let y : ◌≡◌ {A = ℕ} 0 1 = cc in omega arith) in
    let (first, x, z) = own c p b.node h b.is_signal in
    let d = ties_under (signal s) (ties_at c p b.node) in
    let long = length-spots d b.body in
    let e : i ≡ first + (i - first) = omega (arith, b.after) in
    let there : get_or (spots c p) (first + (i - first)) outside ≡ spot_at d b.body (i - first) =
    part_at (spots c p) (spots d b.body) first (i - first) (part-child in_spots (spots c p) (ties_at c p b.node) (signal s) b.body x) (omega (arith, b.before, b.after)) in
    ap (λ j. ties_in (get_or (spots c p) j outside) s) e ∙ ap (λ y. ties_in y s) there ∙ unknown_in s d b.body (i - first) (ap (λ t. cond t Unknown (ties_at c p b.node s)) (only_in s))

-- ---- in a body, or as it was tied

-- only a signal statement changes what is known beneath it, and only of its own number
under-free : (u : Unary) (s : ℕ) (c : Ties) → (u ≡ signal s) ⊎ (ties_under u c s ≡ c s)
under-free (signal x) s c = go (eqb s x) refl
  where
    go : (t : Bool) → eqb s x ≡ t → (signal x ≡ signal s) ⊎ (cond (eqb s x) Unknown (c s) ≡ c s)
    go true e = inl (ap signal (sym (only_out s x e)))
    go false e = inr (rw e refl)
under-free (suspend x) s c = inr refl
under-free loop s c = inr refl
under-free trap s c = inr refl

module _ (c : Ties) (p : Stmt) (s : ℕ) where
  abbrev Settled : ℕ → Type 0
  Settled i = InBody p s i ⊎ (ties_at c p i s ≡ c s)

  -- a statement's own node, after those of its children
  last : (d : Ties) (q : Stmt) (n k : ℕ) → size q ≡ suc k → d s ≡ c s → Part (spots c p) n (spots d q) → Over Settled n k → Over Settled n (suc k)
  last d q n k z e o ih = over_last Settled n k ih (inr (ap (λ x. ties_in x s) (part-own in_spots (spots c p) outside d q (n + k) (omega arith) o) ∙ e))

  settled : (d : Ties) (q : Stmt) (n : ℕ) → d s ≡ c s → Part (spots c p) n (spots d q) → Over Settled n (size q)
  settled d (leaf l) n e o = last d (leaf l) n 0 refl e o (λ i lo hi. absurd (omega arith))
  settled d (one u q) n e o = last d (one u q) n (size q) refl e o (go (λ f. settled (ties_under u d) q n (f ∙ e) (part-child in_spots (spots c p) d u q o)) (under-free u s d))
    where
      go : (ties_under u d s ≡ d s → Over Settled n (size q)) → (u ≡ signal s) ⊎ (ties_under u d s ≡ d s) → Over Settled n (size q)
      go ih (inl f) i lo hi =
          let own : at (ties_at c p (n + size q)) (statement_at (nodes p) (n + size q)) ≡ at d (one u q) = sym (spot_is c p (n + size q)) ∙ part-own in_spots (spots c p) outside d (one u q) (n + size q) (omega arith) o in
          inl record { node = n + size q; body = q; is_signal = cc (own, f); after = omega arith; before = hi }
      go ih (inr f) i lo hi = ih f i lo hi
  settled d (two b q r) n e o =
      last d (two b q r) n (size q + size r) refl e o
      (over-join Settled n (size q) (size r) (settled d q n e (part-first in_spots (spots c p) d b q r o)) (settled d r (n + size q) e (part-second in_spots (spots c p) d b q r o)))

  pub in_body_or_tied : (i : ℕ) → i < size p → InBody p s i ⊎ (ties_at c p i s ≡ c s)
  in_body_or_tied i h = settled c p 0 refl (part-whole (spots c p)) i (omega arith) (omega arith)
