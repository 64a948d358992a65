-- Numbers as bytes, one after another.
use mathlib.Core.Path.{◌≡◌, refl, sym, ap, ◌∙◌}
use mathlib.Core.List.{List, [], ◌∷◌, ◌++◌}
use Prim.Native.Nat.{ℕ, zero, suc, ◌+◌, ◌*◌, ◌%◌, ◌≤◌, ◌<◌}
use native.Mathlib.Omega.{arith}
use lib.ListN.{length, get_or, set, take, drop}
use lib.Seq.{take_all}
use Rattle.table.proofs.Buffers.{front, front-suc}
use Rattle.grammar.specs.Clipping.{low_bytes}
use Rattle.sheet.specs.declared.Node.{Node}
use Rattle.sheet.specs.declared.Kind.{Kind}
use Rattle.sheet.specs.declared.Kind.TheVariants.{Nothing, Pause, Emit, Exit, Signal, Present, Suspend, Loop, Sequence, Parallel, Trap}
use Rattle.sheet.specs.Sheet.{number_of, numbers_of, nothing_yet, NodeIs}

pub length-low : (w : List ℕ) → length (low_bytes w) ≡ length w
length-low [] = refl
length-low (b ∷ w) = ap suc (length-low w)

low-at : (w : List ℕ) (i : ℕ) → get_or (low_bytes w) i 0 ≡ get_or w i 0 % 256
low-at [] i = refl
low-at (b ∷ w) zero = refl
low-at (b ∷ w) (suc i) = low-at w i

-- the numbers of nodes, two for each
numbers-long : (ns : List Node) → length (numbers_of ns) ≡ 2 * length ns
numbers-long [] = refl
numbers-long (n ∷ ns) = omega (arith, numbers-long ns)

twice-suc : (i : ℕ) → 2 * suc i ≡ suc (suc (2 * i))
twice-suc i = omega arith

kinds-at : (ns : List Node) (i : ℕ) → i < length ns → get_or (numbers_of ns) (2 * i) 0 ≡ number_of (get_or ns i nothing_yet).kind
kinds-at [] i h = absurd (omega arith)
kinds-at (n ∷ ns) zero h = refl
kinds-at (n ∷ ns) (suc i) h = rw (twice-suc i) (kinds-at ns i (omega arith))

fields-at : (ns : List Node) (i : ℕ) → i < length ns → get_or (numbers_of ns) (2 * i + 1) 0 ≡ (get_or ns i nothing_yet).field
fields-at [] i h = absurd (omega arith)
fields-at (n ∷ ns) zero h = refl
fields-at (n ∷ ns) (suc i) h = let e : 2 * suc i + 1 ≡ suc (suc (2 * i + 1)) = omega arith in rw e (fields-at ns i (omega arith))

kind-small : (k : Kind) → number_of k ≡ number_of k % 256
kind-small Nothing = refl
kind-small Pause = refl
kind-small Emit = refl
kind-small Exit = refl
kind-small Signal = refl
kind-small Present = refl
kind-small Suspend = refl
kind-small Loop = refl
kind-small Sequence = refl
kind-small Parallel = refl
kind-small Trap = refl

pub record Filling (ns : List Node) (old now : List ℕ) (i : ℕ) : Type 0 where
  pub is : now ≡ front (low_bytes (numbers_of ns)) old (2 * i)

module _ {ns : List Node} {old now : List ℕ} {i : ℕ} (room : 2 * length ns ≤ length old) (o : Filling ns old now i) where
  abbrev low : List ℕ
  low = low_bytes (numbers_of ns)

  low-long : length low ≡ 2 * length ns
  low-long = length-low (numbers_of ns) ∙ numbers-long ns

  pub filling-next : (k f : ℕ) → i < length ns → k ≡ number_of (get_or ns i nothing_yet).kind → f ≡ (get_or ns i nothing_yet).field % 256 → Filling ns old (set (set now (2 * i) k) (2 * i + 1) f) (i + 1)
  filling-next k f h a b =
      let ka : k ≡ get_or low (2 * i) 0 = a ∙ kind-small (get_or ns i nothing_yet).kind ∙ sym (low-at (numbers_of ns) (2 * i) ∙ ap (λ (z : ℕ). z % 256) (kinds-at ns i h)) in
      let fa : f ≡ get_or low (2 * i + 1) 0 = b ∙ sym (low-at (numbers_of ns) (2 * i + 1) ∙ ap (λ (z : ℕ). z % 256) (fields-at ns i h)) in
      let e : suc (2 * i) ≡ 2 * i + 1 = omega arith in
      let g : suc (2 * i + 1) ≡ 2 * (i + 1) = omega arith in
      record {
        is = ap (λ (l : List ℕ). set (set l (2 * i) k) (2 * i + 1) f) o.is ∙ ap (λ (l : List ℕ). set l (2 * i + 1) f) (front-suc low old (2 * i) k (omega (arith, low-long)) (omega arith) ka ∙ ap (λ (n : ℕ). front low old n) e) ∙ front-suc low old (2 * i + 1) f (omega (arith, low-long)) (omega arith) fa ∙ ap (λ (n : ℕ). front low old n) g;
      }

  pub filling-end : length ns ≤ i → i ≤ length ns → now ≡ low ++ drop (2 * length ns) old
  filling-end h g =
      let all : i ≡ length ns = omega arith in
      let l : take (2 * length ns) low ≡ low = take_all (2 * length ns) low (omega (arith, low-long)) in
      o.is ∙ ap (λ (k : ℕ). front low old (2 * k)) all ∙ ap (λ (b : List ℕ). b ++ drop (2 * length ns) old) l

-- nodes that are those of bytes
later : (n : Node) (a b : ℕ) (bs : List ℕ) (i : ℕ) → NodeIs n (a ∷ b ∷ bs) (suc i) → NodeIs n bs i
later n a b bs i h =
    let e : 2 * suc i + 1 ≡ suc (suc (2 * i + 1)) = omega arith in
    record { kind = rw (twice-suc i) at h.kind; field = rw e at h.field }

pub numbers-are : (n : ℕ) (ns : List Node) (bs : List ℕ) → length bs ≡ 2 * n → n ≤ length ns → ((i : ℕ) → i < n → NodeIs (get_or ns i nothing_yet) bs i) → numbers_of (take n ns) ≡ bs
numbers-are zero ns [] e h f = refl
numbers-are zero ns (b ∷ bs) e h f = absurd (omega arith)
numbers-are (suc n) [] bs e h f = absurd (omega arith)
numbers-are (suc n) (a ∷ ns) [] e h f = absurd (omega arith)
numbers-are (suc n) (a ∷ ns) (b ∷ []) e h f = absurd (omega arith)
numbers-are (suc n) (a ∷ ns) (b ∷ c ∷ bs) e h f =
    let o = f 0 (omega arith) in
    let k : number_of a.kind ≡ b = o.kind in
    let l : a.field ≡ c = o.field in
    let y : numbers_of (take n ns) ≡ bs = numbers-are n ns bs (omega arith) (omega arith) (λ i g. later (get_or ns i nothing_yet) b c bs i (f (suc i) (omega arith))) in
    cc
