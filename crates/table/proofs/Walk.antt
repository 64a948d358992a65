-- The walk from a program's last node to its first. What waits are the subtrees that end right before the nodes seen, the one that
-- ends next on top; their places, and those of the nodes seen, are the program's.
use mathlib.Core.Path.{◌≡◌, refl, sym, ap, ap₂, subst, ◌∙◌}
use mathlib.Core.List.{List, [], ◌∷◌, ◌++◌, append_assoc, append-nil}
use Prim.Native.Nat.{ℕ, zero, suc, ◌+◌, ◌≤◌, ◌<◌}
use native.Mathlib.Omega.{arith}
use lib.ListN.{length, get_or, length-append, get_or-map}
use lib.Seq.{get_or_at}
use Rattle.esterel.specs.Statement.{nothing, Unary, Binary, Stmt, leaf, one, two, size, nodes, loops_under, traps_under}
use Rattle.esterel.specs.Codes.{Codes, empty}
use Rattle.esterel.specs.Sets.{Place, at, stmt_of, places, places_of, under, under_left, under_right}
use Rattle.esterel.specs.Outcome.{statement_at}
use Rattle.esterel.proofs.Accepted.{statements, length-places}
use Rattle.esterel.proofs.Sizes.{size_pos}

pub record Waiting : Type 0 where
  pub depth : ℕ
  pub traps : ℕ
  pub loops : ℕ
  pub context : Codes
  pub root : Stmt

abbrev pub places_in : List Waiting → List Place
places_in [] = []
places_in (w ∷ ws) = places_in ws ++ places w.depth w.traps w.context w.root

-- the children of the node on top take its place
module _ (d t l : ℕ) (P : Codes) where
  abbrev pub only_child : Unary → Stmt → Waiting
  only_child u p = record { depth = suc d; traps = traps_under u t; loops = loops_under u l; context = under u P; root = p }

  abbrev pub first_child : Binary → Stmt → Stmt → Waiting
  first_child b p q = record { depth = suc d; traps = t; loops = l; context = under_left b t P q; root = p }

  abbrev pub second_child : Binary → Stmt → Stmt → Waiting
  second_child b p q = record { depth = suc d; traps = t; loops = l; context = under_right b t P p; root = q }

  abbrev pub children : Stmt → List Waiting → List Waiting
  children (leaf x) ws = ws
  children (one u p) ws = only_child u p ∷ ws
  children (two b p q) ws = second_child b p q ∷ (first_child b p q ∷ ws)

  places-children : (s : Stmt) (ws : List Waiting) → places_in ws ++ places d t P s ≡ places_in (children s ws) ++ (at d t P s ∷ [])
  places-children (leaf x) ws = refl
  places-children (one u p) ws = simp append_assoc
  places-children (two b p q) ws = simp append_assoc

abbrev pub descend : Waiting → List Waiting → List Waiting
descend w ws = children w.depth w.traps w.loops w.context w.root ws

abbrev pub place_of : Waiting → Place
place_of w = at w.depth w.traps w.context w.root

-- each that waits is as deep as it stands in the stack, or deeper
pub data Deep : List Waiting → Type 0 where
  none : Deep []
  more : (w : Waiting) (ws : List Waiting) → length ws < w.depth → Deep ws → Deep (w ∷ ws)

deep-children : (d t l : ℕ) (P : Codes) (s : Stmt) (ws : List Waiting) → length ws < d → Deep ws → Deep (children d t l P s ws)
deep-children d t l P (leaf x) ws h o = o
deep-children d t l P (one u p) ws h o = more (only_child d t l P u p) ws (omega arith) o
deep-children d t l P (two b p q) ws h o = more (second_child d t l P b p q) (first_child d t l P b p q ∷ ws) (omega arith) (more (first_child d t l P b p q) ws (omega arith) o)

-- nodes 0 to i − 1 of p wait, and the others are seen
pub record Walk (p : Stmt) (i : ℕ) (ws : List Waiting) : Type 0 where
  pub seen : List Place
  pub are : places_of p ≡ places_in ws ++ seen
  pub left : length (places_in ws) ≡ i
  pub deep : Deep ws

-- at the beginning the program waits
abbrev pub program : Stmt → Waiting
program p = record { depth = 1; traps = 0; loops = 0; context = empty; root = p }

unfoldable pub begin : (p : Stmt) → Walk p (size p) (program p ∷ [])
begin p =
    record {
      seen = [];
      are = sym (append-nil (places_of p));
      left = length-places p 1 0 empty;
      deep = more (program p) [] (omega arith) none;
    }

-- at the end nothing waits: all are seen
pub record Ended (p : Stmt) (ws : List Waiting) (seen : List Place) : Type 0 where
  pub none_wait : ws ≡ []
  pub are : seen ≡ places_of p

pub ended : (p : Stmt) (ws : List Waiting) (o : Walk p 0 ws) → Ended p ws o.seen
ended p [] o = record { none_wait = refl; are = sym o.are }
ended p (w ∷ ws) o =
    absurd (omega (arith, o.left, length-append (places_in ws) (places w.depth w.traps w.context w.root), length-places w.root w.depth w.traps w.context, size_pos w.root))

-- the next node: the one on top
pub record Next (p : Stmt) (i : ℕ) (ws : List Waiting) (seen : List Place) : Type 0 where
  pub top : Waiting
  pub below : List Waiting
  pub is : ws ≡ top ∷ below
  pub on : Walk p i (descend top below)
  pub on_seen : on.seen ≡ place_of top ∷ seen
  pub statement : statement_at (nodes p) i ≡ top.root
  pub place : get_or (places_of p) i (at 0 0 empty (leaf nothing)) ≡ place_of top
  pub depth : length below < top.depth

pub next : (p : Stmt) (i : ℕ) (ws : List Waiting) (o : Walk p (suc i) ws) → Next p i ws o.seen
next p i [] o = absurd (omega (arith, o.left))
next p i (w ∷ ws) o = go o.deep
  where
    all : places_of p ≡ places_in (descend w ws) ++ (place_of w ∷ o.seen)
    all = o.are ∙ ap (λ l. l ++ o.seen) (places-children w.depth w.traps w.loops w.context w.root ws) ∙ append_assoc (places_in (descend w ws)) (place_of w ∷ []) o.seen

    left : length (places_in (descend w ws)) ≡ i
    left =
        let z = ap length (places-children w.depth w.traps w.loops w.context w.root ws) in
        omega (arith, z ∙ length-append (places_in (descend w ws)) (place_of w ∷ []), o.left)

    place : get_or (places_of p) i (at 0 0 empty (leaf nothing)) ≡ place_of w
    place = rw all (get_or_at (places_in (descend w ws)) (place_of w) o.seen (at 0 0 empty (leaf nothing)) i left)

    statement : statement_at (nodes p) i ≡ w.root
    statement =
        ap (λ l. get_or l i (leaf nothing)) (sym (statements p 1 0 empty))
        ∙ get_or-map stmt_of (places_of p) i (at 0 0 empty (leaf nothing)) ∙ ap stmt_of place

    go : Deep (w ∷ ws) → Next p i (w ∷ ws) o.seen
    go (more _ _ h d) =
        record {
          top = w;
          below = ws;
          is = refl;
          on =
              record {
                seen = place_of w ∷ o.seen;
                are = all;
                left = left;
                deep = deep-children w.depth w.traps w.loops w.context w.root ws h d;
              };
          on_seen = refl;
          statement = statement;
          place = place;
          depth = h;
        }

-- The walk from the first node to the last. Before node i the subtrees wait that are not used so far: the program before the end, and
-- before each other node what the walk down comes to.
pub data Unused (p : Stmt) : ℕ → List Waiting → Type 0 where
  all : (i : ℕ) → i ≡ size p → Unused p i (program p ∷ [])
  less : (i : ℕ) (w : Waiting) (ws us : List Waiting) → us ≡ descend w ws → Unused p (suc i) (w ∷ ws) → Unused p i us

-- what comes of the ones that wait does not depend on how they are told apart
same-descend : {w v : Waiting} {ws vs us : List Waiting} → w ∷ ws ≡ v ∷ vs → us ≡ descend w ws → us ≡ descend v vs
same-descend {w} {v} {ws} {vs} e z =
    let top : w ≡ v = cc in
    let below : ws ≡ vs = cc in
    z ∙ ap₂ descend top below

module _ (p : Stmt) where
  pub walk_of : {i : ℕ} {us : List Waiting} → Unused p i us → Walk p i us
  walk_of (all i e) = subst (λ n. Walk p n (program p ∷ [])) (sym e) (begin p)
  walk_of (less i w ws us e h) =
      let n = next p i (w ∷ ws) (walk_of h) in
      rw (same-descend n.is e) n.on

  -- the next node, whose children are on top
  pub record Ahead (i : ℕ) (us : List Waiting) : Type 0 where
    pub top : Waiting
    pub below : List Waiting
    pub is : us ≡ descend top below
    pub on : Unused p (suc i) (top ∷ below)
    pub statement : statement_at (nodes p) i ≡ top.root
    pub place : get_or (places_of p) i (at 0 0 empty (leaf nothing)) ≡ place_of top
    pub depth : length below < top.depth

  pub ahead : {i : ℕ} {us : List Waiting} → Unused p i us → i < size p → Ahead i us
  ahead (all i e) lt = absurd (omega arith)
  ahead (less i w ws us e h) lt =
      let n = next p i (w ∷ ws) (walk_of h) in
      record {
        top = n.top;
        below = n.below;
        is = same-descend n.is e;
        on = rw n.is at h;
        statement = n.statement;
        place = n.place;
        depth = n.depth;
      }

  before-end : (k i : ℕ) → i + k ≡ size p → (us : List Waiting) × Unused p i us
  before-end zero i e = (program p ∷ [], all i (omega arith))
  before-end (suc k) i e =
      let (us, h) = before-end k (suc i) (omega arith) in
      let n = next p i us (walk_of h) in
      (descend n.top n.below, less i n.top n.below _ refl (rw n.is at h))

  -- before the first node nothing is unused
  pub at_first : Unused p 0 []
  at_first = let (us, h) = before-end (size p) 0 (omega arith) in go us h
    where
      go : (us : List Waiting) → Unused p 0 us → Unused p 0 []
      go [] h = h
      go (w ∷ ws) h =
          absurd (omega (arith, (walk_of h).left, length-append (places_in ws) (places w.depth w.traps w.context w.root), length-places w.root w.depth w.traps w.context, size_pos w.root))

  -- after the last node only the program is unused
  pub at_last : {i : ℕ} {us : List Waiting} → Unused p i us → size p ≤ i → us ≡ program p ∷ []
  at_last (all i e) le = refl
  at_last (less i w ws us e h) le =
      absurd (omega (arith, (walk_of h).left, ap length (walk_of h).are ∙ length-append (places_in (w ∷ ws)) (walk_of h).seen, length-places p 1 0 empty))
