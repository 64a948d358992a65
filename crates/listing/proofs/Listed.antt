-- What an analysis leaves is what the listing's writer reads.
use mathlib.Core.Path.{◌≡◌, refl, sym, ap, ◌∙◌}
use mathlib.Core.Bool.{Bool, true, false, ◌||◌, cond}
use mathlib.Core.Option.{Option, none, some}
use mathlib.Core.List.{List, [], map}
use Prim.Native.Nat.{ℕ, ◌*◌, ◌%◌, ◌≤◌, ◌<◌}
use native.Mathlib.Omega.{arith}
use borrow.Author.Tests.{le-leb, ltb-false}
use lib.Dec.{eqb, ltb}
use lib.ListN.{length, get_or, length-append, length-map, get_or-append}
use Rattle.codes.specs.Codes.{empty}
use Rattle.esterel.specs.Limits.{max_nodes}
use Rattle.esterel.specs.Statement.{nothing, Stmt, leaf, size, loop_depth}
use Rattle.esterel.specs.Sets.{Place, at, places_of}
use Rattle.esterel.specs.Refusal.{rejects}
use Rattle.esterel.proofs.Replies.{rejects≢yields}
use Rattle.esterel.specs.Table.{Verdict, passed, refused, scan, read}
use Rattle.esterel.specs.Checks.{Line, line_of, listing, check_places, check_program, refuse_at, first_node, too_deep, too_many_traps, uncaught, ends_at_once, verdict}
use Rattle.table.specs.Program.{program_in, program_of, Readable}
use Rattle.table.proofs.Filling.{map_at}
use Rattle.analysis.specs.Analysis.{check_room, checked, room_for, answer_of, done, k_of, a_of, s_of, mark_of, column}
use Rattle.analysis.specs.declared.Analysed.{Analysed}
use Rattle.listing.specs.Written.{Column, Columns}
use Rattle.listing.proofs.Lines.{length_lines, line-at}

pub column_of : (f : Line → ℕ) (p : Stmt) (old buffer : List ℕ) → buffer ≡ column f (passed p) old → Column f p buffer
unfolding column
column_of f p old buffer e =
    let long : length (map f (listing p)) ≡ size p = length-map (listing p) f ∙ length_lines p in
    let d : Line = line_of (at 0 0 empty (leaf nothing)) in
    record {
      room = rw (e, length-append (map f (listing p))) (omega arith);
      entry =
          λ i h.
          let within : i < length (map f (listing p)) = omega arith in
          ap (λ l. get_or l i 0) e
          ∙ get_or-append (map f (listing p)) _ 0 i within
          ∙ map_at f (listing p) d i (omega (arith, length_lines p))
          ∙ ap f (line-at p i);
    }

-- checks 1 and 2 let pass, or stand for whatever comes next
length_lets : (b c : Bool) (x y : Verdict) (p : Stmt) → cond b (refused 1 0) (cond c (refused 2 0) x) ≡ passed p → (x ≡ passed p) × (y ≡ passed p → cond b (refused 1 0) (cond c (refused 2 0) y) ≡ passed p)
length_lets true c x y p e = (cc, λ z. cc)
length_lets false true x y p e = (cc, λ z. cc)
length_lets false false x y p e = (e, λ z. z)

refuse_lets : (number : ℕ) (o : Option ℕ) (next : Verdict) (p : Stmt) → refuse_at number o next ≡ passed p → next ≡ passed p
refuse_lets number none next p e = e
refuse_lets number (some node) next p e = cc

places_let : (ps : List Place) (next : Verdict) (p : Stmt) → check_places ps next ≡ passed p → next ≡ passed p
places_let ps next p e =
    refuse_lets 11 (first_node ends_at_once ps 0) next p
    (refuse_lets 10 (first_node uncaught ps 0) _ p (refuse_lets 9 (first_node too_many_traps ps 0) _ p (refuse_lets 8 (first_node too_deep ps 0) _ p e)))

pub program_lets : (v : Verdict) (p : Stmt) → check_program v ≡ passed p → v ≡ passed p
program_lets (passed q) p e = places_let (places_of q) (passed q) p e
program_lets (refused number node) p e = e

room_lets : (room : Bool) (v : Verdict) (p : Stmt) → check_room room v ≡ passed p → v ≡ passed p
room_lets true v p e = e
room_lets false v p e = cc

module _ (room : Bool) (t : List ℕ) (p : Stmt) (e : checked room t ≡ passed p) where
  pub checked-read : read t ≡ passed p
  unfolding checked
  checked-read =
      let lets = length_lets (ltb (2 * max_nodes) (length t)) (eqb (length t) 0 || eqb (length t % 2) 1) (check_room room (check_program (scan t 0 []))) (scan t 0 []) p e in
      lets.1 (program_lets (scan t 0 []) p (room_lets room (check_program (scan t 0 [])) p lets.0))

  pub checked-program : program_of t ≡ p
  unfolding program_of
  checked-program = ap program_in checked-read

  pub checked-readable : Readable t
  checked-readable = record { reads = checked-read ∙ ap passed (sym checked-program) }

  pub columns_of : {K A S M : List ℕ} (k a s m : List ℕ) → K ≡ column k_of (passed p) k → A ≡ column a_of (passed p) a → S ≡ column s_of (passed p) s → M ≡ column mark_of (passed p) m → Columns t K A S M
  columns_of {K} {A} {S} {M} k a s m ek ea es em =
      record {
        readable = checked-readable;
        starts = rw checked-program (column_of k_of p k K ek);
        anys = rw checked-program (column_of a_of p a A ea);
        contexts = rw checked-program (column_of s_of p s S es);
        marks = rw checked-program (column_of mark_of p m M em);
      }

-- where the buffers suffice for every table that check 1 lets pass, check 3 makes no difference
pub room-enough : (n a b c d : ℕ) → n ≤ a → n ≤ b → n ≤ c → n ≤ d → room_for n a b c d ≡ true
room-enough n a b c d h1 h2 h3 h4 = rw (le-leb n a h1, le-leb n b h2, le-leb n c h3, le-leb n d h4)

same-checks : (b c room : Bool) (v : Verdict) → (b ≡ false → room ≡ true) → cond b (refused 1 0) (cond c (refused 2 0) (check_room room (check_program v))) ≡ check_program (cond b (refused 1 0) (cond c (refused 2 0) v))
same-checks true c room v h = refl
same-checks false true room v h = refl
same-checks false false room v h = ap (λ r. check_room r (check_program v)) (h refl)

pub checked-verdict : (room : Bool) (t : List ℕ) → (length t ≤ 2 * max_nodes → room ≡ true) → checked room t ≡ verdict t
unfolding checked
checked-verdict room t h =
    same-checks (ltb (2 * max_nodes) (length t)) (eqb (length t) 0 || eqb (length t % 2) 1) room (scan t 0 [])
    (λ e. h (ltb-false (2 * max_nodes) (length t) e))

pub refused-is : (v : Verdict) (number node : ℕ) → rejects number node ≡ answer_of v → v ≡ refused number node
unfolding answer_of
refused-is (passed p) number node e = absurd (rejects≢yields e)
refused-is (refused m k) number node e = cc

-- the answer of an accepted table and the columns that come with it
pub record Listed (v : Verdict) (t K A S M : List ℕ) (n d : ℕ) : Type 0 where
  pub is : v ≡ passed (program_of t)
  pub nodes : n ≡ size (program_of t)
  pub loops : d ≡ loop_depth (program_of t)
  pub columns : Columns t K A S M

module _ (room : Bool) (t : List ℕ) {K A S M : List ℕ} (k a s m : List ℕ) (n d : ℕ) where
  pub done-is : done n d ≡ answer_of (checked room t) → K ≡ column k_of (checked room t) k → A ≡ column a_of (checked room t) a → S ≡ column s_of (checked room t) s → M ≡ column mark_of (checked room t) m → Listed (checked room t) t K A S M n d
  unfolding answer_of
  done-is e ek ea es em = by (checked room t) refl e ek ea es em
    where
      by : (v : Verdict) → checked room t ≡ v → done n d ≡ answer_of v → K ≡ column k_of v k → A ≡ column a_of v a → S ≡ column s_of v s → M ≡ column mark_of v m → Listed v t K A S M n d
      by (refused number node) z f ek ea es em =
          absurd (rejects≢yields (sym f))
      by (passed p) z f ek ea es em =
          let q : program_of t ≡ p = checked-program room t p z in
          let same : ◌≡◌ {A = Analysed} (record { nodes = n; loops = d }) (record { nodes = size p; loops = loop_depth p }) = cc in
          record {
            is = ap passed (sym q);
            nodes = rw q (ap (λ (x : Analysed). x.nodes) same);
            loops = rw q (ap (λ (x : Analysed). x.loops) same);
            columns = columns_of room t p z k a s m ek ea es em;
          }
