-- What `analyse` answers and leaves in the lent buffers.
use Rattle.std.specs.Prelude.{ℕ, ◌/◌, ◌≤◌, ◌≡◌, Bool, true, false, ◌&&◌, List, [], map, leb, length}
use Rattle.esterel.specs.Limits.{max_nodes}
use Rattle.esterel.specs.Statement.{size, loop_depth}
use Rattle.esterel.specs.Refusal.{Reply, yields, rejects}
use Rattle.esterel.specs.Table.{Verdict, passed, refused, scan, check_length}
use Rattle.esterel.specs.Checks.{check_program, Line, line, listing}
use Rattle.table.specs.Check.{answer_of as check_of}
use Rattle.table.specs.Program.{program_of}
use Rattle.table.specs.Columns.{Measured}
use Rattle.analysis.specs.Passes.{onto, Ready, depth_of}
use Rattle.table.specs.declared.Tree.{Tree}
use Rattle.analysis.specs.declared.Analysed.{Analysed}

-- check 3, between 2 and 4: whether the lent buffers suffice
abbrev pub check_room : Bool → Verdict → Verdict
check_room true next = next
check_room false next = refused 3 0

-- checks 1, 2, 3, 4 to 11, in this order
unfoldable pub checked : Bool → List ℕ → Verdict
checked room t = check_length t (check_room room (check_program (scan t 0 [])))

-- what they answer, where `room` says whether the lent buffers suffice
pub record TableChecked (room : Bool) (t : List ℕ) (r : Reply ℕ) : Type 0 where
  pub answer : r ≡ depth_of (checked room t)
  pub ready : (d : ℕ) → r ≡ yields d → Ready t

-- a call that passes them, with the sizes of the subtrees
pub record Sized (room : Bool) (t sizes : List ℕ) : Type 0 where
  pub suffices : room ≡ true
  pub verdict : checked room t ≡ passed (program_of t)
  pub ready : Ready t
  pub measured : Measured t sizes
  pub few : size (program_of t) ≤ max_nodes

-- whether a call is refused, whatever it yields
abbrev pub told : {A : Type 0} → Reply A → Reply (Unit {0})
told (yields a) = yields tt
told (rejects number node) = rejects number node

pub record TreeChecked (room : Bool) (t : List ℕ) (r : Reply Tree) : Type 0 where
  pub answer : told r ≡ check_of (checked room t)
  pub same : (x : Tree) → r ≡ yields x → x.table.now ≡ t
  pub sized : (x : Tree) → r ≡ yields x → Sized room t x.sizes.now

-- n entries for each of K, A, S and marks
abbrev pub room_for : (n starts anys contexts marks : ℕ) → Bool
room_for n starts anys contexts marks = leb n starts && leb n anys && leb n contexts && leb n marks

-- the number and values of this paper for each case of the answer
abbrev pub done : (nodes loops : ℕ) → Reply Analysed
done n d = yields (record { nodes = n; loops = d })

unfoldable pub answer_of : Verdict → Reply Analysed
answer_of (passed p) = done (size p) (loop_depth p)
answer_of (refused number node) = rejects number node

-- the columns of the listing
abbrev pub k_of : Line → ℕ
k_of (line kind field K A S mark) = K

abbrev pub a_of : Line → ℕ
a_of (line kind field K A S mark) = A

abbrev pub s_of : Line → ℕ
s_of (line kind field K A S mark) = S

abbrev pub mark_of : Line → ℕ
mark_of (line kind field K A S mark) = mark

-- a buffer after the call: its column in postorder and the old entries past it; after a refusal all as they were
unfoldable pub column : (Line → ℕ) → Verdict → List ℕ → List ℕ
column f (passed p) old = onto (map f (listing p)) old
column f (refused number node) old = old

-- what a call over the table and these buffers comes to
abbrev pub verdict_for : (t starts anys contexts marks : List ℕ) → Verdict
verdict_for t starts anys contexts marks = checked (room_for (length t / 2) (length starts) (length anys) (length contexts) (length marks)) t

-- the contract of `analyse`: the answer, and the whole content of each buffer, from the table and the buffers' old contents
pub record Analysis (t starts anys contexts marks starts' anys' contexts' marks' : List ℕ) (r : Reply Analysed) : Type 0 where
  pub answer : r ≡ answer_of (verdict_for t starts anys contexts marks)
  pub starts_are : starts' ≡ column k_of (verdict_for t starts anys contexts marks) starts
  pub anys_are : anys' ≡ column a_of (verdict_for t starts anys contexts marks) anys
  pub contexts_are : contexts' ≡ column s_of (verdict_for t starts anys contexts marks) contexts
  pub marks_are : marks' ≡ column mark_of (verdict_for t starts anys contexts marks) marks
