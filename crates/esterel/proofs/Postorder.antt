-- Lists with an entry for each node in postorder: where the entries of a statement's nodes stand in the list of all.
use mathlib.Core.Path.{◌≡◌, refl, sym, ap, subst, ◌∙◌}
use mathlib.Core.List.{List, [], ◌∷◌, ◌++◌, append_assoc, append-nil}
use Prim.Native.Nat.{ℕ, suc, ◌+◌}
use native.Mathlib.Omega.{arith}
use lib.ListN.{length, get_or, length-append}
use lib.Seq.{get_or_at}
use Rattle.esterel.specs.Statement.{Leaf, Unary, Binary, Stmt, leaf, one, two, size}
use Rattle.esterel.proofs.Ranges.{Over, over-join, over_last}

module _ {A : Type 0} (xs : List A) where
  -- xs holds l from n on
  pub record Part (n : ℕ) (l : List A) : Type 0 where
    pub pre : List A
    pub post : List A
    pub is : xs ≡ pre ++ (l ++ post)
    pub at : length pre ≡ n

  part_left : {n : ℕ} (l m : List A) → Part n (l ++ m) → Part n l
  part_left l m c = record { pre = c.pre; post = m ++ c.post; is = c.is ∙ simp append_assoc; at = c.at }

  part_right : {n : ℕ} (l m : List A) (k : ℕ) → length l ≡ k → Part n (l ++ m) → Part (n + k) m
  part_right l m k e c =
      record { pre = c.pre ++ l; post = c.post; is = c.is ∙ simp append_assoc; at = simp length-append (omega (arith, c.at)) }

  part-last : {n : ℕ} (l : List A) (x d : A) (k : ℕ) → length l ≡ k → Part n (l ++ (x ∷ [])) → get_or xs (n + k) d ≡ x
  part-last l x d k e c =
      let o = part_right l (x ∷ []) k e c in
      rw o.is (get_or_at o.pre x o.post d _ o.at)

-- a list in itself, from 0 on
pub part-whole : {A : Type 0} (xs : List A) → Part xs 0 xs
part-whole xs = record { pre = []; post = []; is = sym (append-nil xs); at = refl }

-- an entry is made of its node's statement and of what the node has from its parent
pub record Postorder {D X : Type 0} (under : Unary → D → D) (own : D → Stmt → X) (listed : D → Stmt → List X) : Type 0 where
  pub none : (d : D) (l : Leaf) → listed d (leaf l) ≡ own d (leaf l) ∷ []
  pub single : (d : D) (u : Unary) (p : Stmt) → listed d (one u p) ≡ listed (under u d) p ++ (own d (one u p) ∷ [])
  pub pair : (d : D) (b : Binary) (p q : Stmt) → listed d (two b p q) ≡ listed d p ++ listed d q ++ (own d (two b p q) ∷ [])

module _ {D X : Type 0} {under : Unary → D → D} {own : D → Stmt → X} {listed : D → Stmt → List X} (o : Postorder under own listed) where
  pub length-listed : (d : D) (p : Stmt) → length (listed d p) ≡ size p
  length-listed d (leaf l) = ap length (o.none d l)
  length-listed d (one u p) = ap length (o.single d u p) ∙ simp (length-append, length-listed (under u d) p) (omega arith)
  length-listed d (two b p q) = ap length (o.pair d b p q) ∙ simp (length-append, length-listed d p, length-listed d q) (omega arith)

  module _ (xs : List X) {n : ℕ} where
    pub part-child : (d : D) (u : Unary) (p : Stmt) → Part xs n (listed d (one u p)) → Part xs n (listed (under u d) p)
    part-child d u p c = part_left xs (listed (under u d) p) (own d (one u p) ∷ []) (subst (Part xs n) (o.single d u p) c)

    module _ (d : D) (b : Binary) (p q : Stmt) (c : Part xs n (listed d (two b p q))) where
      both : Part xs n (listed d p ++ listed d q)
      both = part_left xs (listed d p ++ listed d q) (own d (two b p q) ∷ []) (subst (Part xs n) (o.pair d b p q) c)

      pub part-first : Part xs n (listed d p)
      part-first = part_left xs (listed d p) (listed d q) both

      pub part-second : Part xs (n + size p) (listed d q)
      part-second = part_right xs (listed d p) (listed d q) (size p) (length-listed d p) both

    -- the last of them is the statement's own
    pub part-own : (x : X) (d : D) (p : Stmt) (i : ℕ) → n + size p ≡ suc i → Part xs n (listed d p) → get_or xs i x ≡ own d p
    part-own x d (leaf l) i e c = let z : i ≡ n + 0 = omega arith in rw z (part-last xs [] (own d (leaf l)) x 0 refl (subst (Part xs n) (o.none d l) c))
    part-own x d (one u p) i e c =
        let z : i ≡ n + size p = omega arith in
        rw z (part-last xs (listed (under u d) p) (own d (one u p)) x (size p) (length-listed (under u d) p) (subst (Part xs n) (o.single d u p) c))
    part-own x d (two b p q) i e c =
        let z : i ≡ n + (size p + size q) = omega arith in
        rw z (part-last xs (listed d p ++ listed d q) (own d (two b p q)) x (size p + size q) (simp (length-append, length-listed d p, length-listed d q)) (subst (Part xs n) (o.pair d b p q) c))

-- what stands at node i
pub record Piece {D X : Type 0} (listed : D → Stmt → List X) (xs : List X) (i : ℕ) : Type 0 where
  pub inherited : D
  pub stmt : Stmt
  pub first : ℕ
  pub part : Part xs first (listed inherited stmt)
  pub ends : first + size stmt ≡ suc i

module _ {D X : Type 0} {under : Unary → D → D} {own : D → Stmt → X} {listed : D → Stmt → List X} (o : Postorder under own listed) (xs : List X) where
  -- a statement's own node, after those of its children
  last : (d : D) (p : Stmt) (n k : ℕ) → size p ≡ suc k → Part xs n (listed d p) → Over (Piece listed xs) n k → Over (Piece listed xs) n (suc k)
  last d p n k z c ih = over_last (Piece listed xs) n k ih record { inherited = d; stmt = p; first = n; part = c; ends = omega arith }

  pub pieces : (d : D) (p : Stmt) (n : ℕ) → Part xs n (listed d p) → Over (Piece listed xs) n (size p)
  pieces d (leaf l) n c = last d (leaf l) n 0 refl c (λ i lo hi. absurd (omega arith))
  pieces d (one u p) n c = last d (one u p) n (size p) refl c (pieces (under u d) p n (part-child o xs d u p c))
  pieces d (two b p q) n c =
      last d (two b p q) n (size p + size q) refl c
      (over-join (Piece listed xs) n (size p) (size q) (pieces d p n (part-first o xs d b p q c)) (pieces d q (n + size p) (part-second o xs d b p q c)))
