-- One lemma for each return of `render_line`, and that a table has one line.
use mathlib.Core.Path.{◌≡◌, refl, sym, ap, ap₂, subst, ◌∙◌}
use mathlib.Core.List.{List}
use Prim.Native.Nat.{ℕ, ◌+◌, ◌-◌, ◌*◌, ◌≤◌}
use native.Mathlib.Omega.{arith}
use lib.ListN.{length, take, drop, length-append}
use lib.Seq.{take-append_seam}
use Rattle.esterel.specs.Limits.{max_nodes}
use Rattle.esterel.specs.Statement.{Stmt, size, loop_depth}
use Rattle.esterel.specs.Table.{passed, refused}
use Rattle.esterel.specs.Checks.{verdict, planned}
use Rattle.table.proofs.Surveying.{few-accepted}
use Rattle.esterel.proofs.Refusals.{passed-refused, other-number, refusals}
use Rattle.starts.specs.Ticks.{ShownAt, tick_answers}
use Rattle.starts.proofs.Theorems.{one_shown}
use Rattle.witness.specs.Ticks.{Tells}
use Rattle.esterel.specs.Refusal.{yields, rejects}
use Rattle.esterel.proofs.Replies.{rejects≢yields}
use Rattle.witness.specs.declared.Tick.TheVariants.{Ends, Accepted}
use Rattle.witness.proofs.Theorems.{ticks_told, shown-once, list-short}
use Rattle.listing.specs.Text.{header_text, text_of}
use Rattle.std.specs.Borrow.{MutBor}
use Rattle.listing.specs.Writer.{HasRoom, Puts, Begins}
use Rattle.listing.specs.declared.writer.Writer.{Writer}
use Rattle.listing.proofs.Digits.{few-digits}
use Rattle.listing.proofs.Fields.{refusal-size, header_short}
use Rattle.listing.proofs.Whole.{loops-few}
use Rattle.listing.proofs.Writing.{begin_fits, written-whole}
use Rattle.tickline.specs.Line.{tick_text, first_line, IsLine, shows, lists, max_line}
use Rattle.tickline.specs.Theorems.{OneLine}
use Rattle.tickline.specs.Written.{LineWritten}
use Rattle.tickline.proofs.Lines.{refusal-line, header_line}
use Rattle.tickline.proofs.Writing.{tick_short}

rendered : {t line : List ℕ} {lent : MutBor (List ℕ)} {first now last : Writer} {r : ℕ} → IsLine t line → length line ≤ length lent.now → Begins lent first → Puts first line last → now ≡ last → r ≡ now.at → LineWritten t lent.now now.text.now r
rendered {line = line} is h b w k e =
    record { line = line; is = is; whole = written-whole b line h w (ap (λ (x : Writer). x.text.now) k) (e ∙ ap (λ (x : Writer). x.at) k) }

same-node : {m n : ℕ} → refused 11 m ≡ refused 11 n → m ≡ n
same-node e = cc

refusal-short : (number node : ℕ) → length (text_of (refused number node)) ≤ 138
refusal-short number node = omega (arith, refusal-size number node, few-digits 10 number, few-digits 10 node)

pub refusal-fits : {lent : MutBor (List ℕ)} {first : Writer} (number node : ℕ) → max_line ≤ length lent.now → Begins lent first → HasRoom first (text_of (refused number node))
refusal-fits number node h b = begin_fits b (text_of (refused number node)) (omega (arith, refusal-short number node))

-- the list at the front of the answers
pub record Shown (t : List ℕ) (node n : ℕ) (answers : List ℕ) : Type 0 where
  pub refuses : verdict t ≡ refused 11 node
  pub shown : ShownAt t node (take n answers)
  pub within : n ≤ length answers
  pub short : length (tick_text node (take n answers)) ≤ max_line

pub tick_fits : {t answers : List ℕ} {node n : ℕ} {lent : MutBor (List ℕ)} {first : Writer} → Shown t node n answers → max_line ≤ length lent.now → Begins lent first → HasRoom first (tick_text node (take n answers))
tick_fits {answers = answers} {node = node} {n = n} s h b = begin_fits b (tick_text node (take n answers)) (omega (arith, s.short))

pub tick_line : {t answers : List ℕ} {node n : ℕ} {lent : MutBor (List ℕ)} {first now last : Writer} {x : ℕ} → Shown t node n answers → max_line ≤ length lent.now → Begins lent first → Puts first (tick_text node (take n answers)) last → now ≡ last → x ≡ now.at → LineWritten t lent.now now.text.now x
tick_line {answers = answers} {node = node} {n = n} s h b w k e = rendered (shows node (take n answers) s.refuses s.shown refl) (omega (arith, s.short)) b w k e

-- an accepted table
pub record Few (t : List ℕ) (nodes loops : ℕ) : Type 0 where
  pub program : Stmt
  pub accepted : verdict t ≡ passed program
  pub nodes-are : nodes ≡ size program
  pub loops-are : loops ≡ loop_depth program
  pub few : nodes ≤ max_nodes
  pub low : loops ≤ max_nodes

pub header_fits : {t : List ℕ} {nodes loops : ℕ} {lent : MutBor (List ℕ)} {first : Writer} → Few t nodes loops → max_line ≤ length lent.now → Begins lent first → HasRoom first (header_text nodes loops (nodes * (1 + loops)))
header_fits {nodes = nodes} {loops = loops} f h b =
    begin_fits b (header_text nodes loops (nodes * (1 + loops))) (omega (arith, header_short nodes loops (nodes * (1 + loops))))

pub accepted-line : {t : List ℕ} {nodes loops : ℕ} {lent : MutBor (List ℕ)} {first now last : Writer} {x : ℕ} → Few t nodes loops → max_line ≤ length lent.now → Begins lent first → Puts first (header_text nodes loops (nodes * (1 + loops))) last → now ≡ last → x ≡ now.at → LineWritten t lent.now now.text.now x
accepted-line {nodes = nodes} {loops = loops} f h b w k e =
    let p = f.program in
    let same : header_text nodes loops (nodes * (1 + loops)) ≡ header_text (size p) (loop_depth p) (planned p) = ap₂ (λ n d. header_text n d (n * (1 + d))) f.nodes-are f.loops-are in
    rendered (lists (λ node e. passed-refused f.accepted e) (same ∙ header_line p ∙ ap (λ v. first_line (text_of v)) (sym f.accepted))) (omega (arith, header_short nodes loops (nodes * (1 + loops)))) b w k e

module _ {t old answers : List ℕ} (room : tick_answers ≤ length old) where
  pub shown-front : {node n : ℕ} → Tells t old answers (yields (Ends node n)) → Shown t node n answers
  shown-front (Tells.accepts p v z w) = let y : ◌≡◌ {A = ℕ} 0 1 = cc in absurd (omega arith)
  shown-front (Tells.refuses a m v d z w) = absurd (rejects≢yields (sym z))
  shown-front {node} {n} (Tells.shows m list v s z w) =
      let same : m ≡ node = cc in
      let long : n ≡ length list = cc in
      let told : Tells t old answers (yields (Ends node n)) = Tells.shows m list v s z w in
      let front : take n answers ≡ list = rw (w, long) (take-append_seam list (drop (length list) old)) in
      let refuses : verdict t ≡ refused 11 node = (ticks_told.tells t old answers (yields (Ends node n)) room told node).0 (n, refl) in
      let shown : ShownAt t node list = subst (λ i. ShownAt t i list) same s in
      record {
        refuses = refuses;
        shown = subst (ShownAt t node) (sym front) shown;
        within = rw (w, length-append) (omega arith);
        short = rw front (tick_short node list (refusals t 11 node refuses).2 (one_shown.bits shown.body (node - size shown.body) 0 list shown.shown) (list-short refuses shown));
      }

  pub accepted-few : {nodes loops : ℕ} → Tells t old answers (yields (Accepted nodes loops)) → Few t nodes loops
  accepted-few {nodes} {loops} o =
      let (p, v, n, d, same) = ticks_told.accepts t old answers nodes loops o in
      let few : size p ≤ max_nodes = few-accepted t p v in
      record { program = p; accepted = v; nodes-are = n; loops-are = d; few = omega arith; low = omega (arith, loops-few p) }

  pub refused-line : {number node : ℕ} {lent : MutBor (List ℕ)} {first now last : Writer} {x : ℕ} → Tells t old answers (rejects number node) → max_line ≤ length lent.now → Begins lent first → Puts first (text_of (refused number node)) last → now ≡ last → x ≡ now.at → LineWritten t lent.now now.text.now x
  refused-line {number} {node} o h b w k e =
      let v = ticks_told.refusal t old answers number node room o in
      let (some, known, below, same) = ticks_told.refuses t old answers number node o in
      rendered (lists (λ m z. other-number (λ y. omega (arith, known)) (sym v ∙ z)) (refusal-line number node ∙ ap (λ x. first_line (text_of x)) (sym v))) (omega (arith, refusal-short number node)) b w k e

pub one_line : OneLine
one_line t x y (shows m u e s z) (shows n v f o w) =
    let node = same-node (sym e ∙ f) in
    let list = shown-once s (subst (λ i. ShownAt t i v) (sym node) o) in
    z ∙ ap₂ tick_text node list ∙ sym w
one_line t x y (shows m u e s z) (lists d w) = absurd (d m e)
one_line t x y (lists d z) (shows n v f o w) = absurd (d n f)
one_line t x y (lists d z) (lists c w) = z ∙ sym w
