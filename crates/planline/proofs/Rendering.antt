-- One lemma for each return of `render_line`, and that a table has one line.
use mathlib.Core.Path.{◌≡◌, refl, sym, ap, ap₂, subst, ◌∙◌}
use mathlib.Core.List.{List, [], ◌∷◌}
use Prim.Native.Nat.{ℕ, ◌≤◌, ◌<◌}
use native.Mathlib.Omega.{arith}
use lib.Dec.{lit≤}
use lib.ListN.{length, length-append}
use Rattle.esterel.specs.Limits.{max_nodes}
use Rattle.esterel.specs.Table.{refused}
use Rattle.esterel.proofs.Refusals.{one-program, one-refusal, passed-refused, refusals}
use Rattle.table.proofs.Surveying.{few-accepted}
use Rattle.starts.specs.Entries.{Greatest}
use Rattle.starts.proofs.Entries.{first_tick}
use Rattle.planning.specs.Planning.{Plans}
use Rattle.esterel.specs.Refusal.{yields, rejects}
use Rattle.planning.proofs.Theorems.{of_most_entries}
use Rattle.listing.specs.Text.{decimal, fields, text_of}
use Rattle.std.specs.Borrow.{MutBor}
use Rattle.listing.specs.Writer.{HasRoom, Puts, Begins}
use Rattle.listing.specs.declared.writer.Writer.{Writer}
use Rattle.listing.proofs.Digits.{digits-few}
use Rattle.listing.proofs.Fields.{refusal-size}
use Rattle.listing.proofs.Writing.{begin_fits, written-whole}
use Rattle.planline.specs.Line.{IsLine, plans, refuses, max_line, LineWritten}
use Rattle.planline.specs.Theorems.{OneLine}

-- ---- lengths

number_short : (n : ℕ) → n ≤ max_nodes → length (fields (decimal n ∷ [])) ≤ max_line
number_short n h = omega (arith, length-append (decimal n) (10 ∷ []), digits-few 10 (lit≤ tt) 3 n (omega arith))

refusal-short : (number node : ℕ) → number ≤ 11 → node < max_nodes → length (text_of (refused number node)) ≤ max_line
refusal-short number node h l = omega (arith, refusal-size number node, digits-few 10 (lit≤ tt) 1 number (omega arith), digits-few 10 (lit≤ tt) 3 node (omega arith))

short : (t x : List ℕ) → IsLine t x → length x ≤ max_line
short t x (plans p n v g e) = rw e (number_short n (let a = first_tick.nodes p n g in let b = few-accepted t p v in omega arith))
short t x (refuses number node v e) = let (some, known, within) = refusals t number node v in rw e (refusal-short number node known within)

-- ---- the returns

written : {t line : List ℕ} {lent : MutBor (List ℕ)} {first now last : Writer} {x : ℕ} → IsLine t line → max_line ≤ length lent.now → Begins lent first → Puts first line last → now ≡ last → x ≡ now.at → LineWritten t lent.now now.text.now x
written {t} {line} is h b w k e =
    record {
      line = line;
      is = is;
      whole = written-whole b line (let s = short t line is in omega arith) w (ap (λ (x : Writer). x.text.now) k) (e ∙ ap (λ (x : Writer). x.at) k);
    }

module _ {t : List ℕ} where
  planned-is : {n : ℕ} → Plans t (yields n) → IsLine t (fields (decimal n ∷ []))
  planned-is {n} o = let (p, v, g) = (of_most_entries.planned t (yields n) o n).0 refl in plans p n v g refl

  refused-is : {number node : ℕ} → Plans t (rejects number node) → IsLine t (text_of (refused number node))
  refused-is {number} {node} o = refuses number node ((of_most_entries.refused t (rejects number node) o number node).0 refl) refl

  pub number_fits : {n : ℕ} {lent : MutBor (List ℕ)} {first : Writer} → Plans t (yields n) → max_line ≤ length lent.now → Begins lent first → HasRoom first (fields (decimal n ∷ []))
  number_fits {n} o h b = let s = short t _ (planned-is o) in begin_fits b (fields (decimal n ∷ [])) (omega arith)

  pub refusal-fits : {number node : ℕ} {lent : MutBor (List ℕ)} {first : Writer} → Plans t (rejects number node) → max_line ≤ length lent.now → Begins lent first → HasRoom first (text_of (refused number node))
  refusal-fits {number} {node} o h b = let s = short t _ (refused-is o) in begin_fits b (text_of (refused number node)) (omega arith)

  pub number-line : {n : ℕ} {lent : MutBor (List ℕ)} {first now last : Writer} {x : ℕ} → Plans t (yields n) → max_line ≤ length lent.now → Begins lent first → Puts first (fields (decimal n ∷ [])) last → now ≡ last → x ≡ now.at → LineWritten t lent.now now.text.now x
  number-line o h b w k e = written (planned-is o) h b w k e

  pub refused-line : {number node : ℕ} {lent : MutBor (List ℕ)} {first now last : Writer} {x : ℕ} → Plans t (rejects number node) → max_line ≤ length lent.now → Begins lent first → Puts first (text_of (refused number node)) last → now ≡ last → x ≡ now.at → LineWritten t lent.now now.text.now x
  refused-line o h b w k e = written (refused-is o) h b w k e

once : (t x y : List ℕ) → IsLine t x → IsLine t y → x ≡ y
once t x y (plans p n v g e) (plans q m w h f) =
    let same = first_tick.unique p n m g (subst (λ s. Greatest s m) (sym (one-program v w)) h) in
    e ∙ ap (λ k. fields (decimal k ∷ [])) same ∙ sym f
once t x y (plans p n v g e) (refuses a b w f) = absurd (passed-refused v w)
once t x y (refuses a b v e) (plans q m w h f) = absurd (passed-refused w v)
once t x y (refuses a b v e) (refuses c d w f) = let (i, j) = one-refusal v w in e ∙ ap₂ (λ k l. text_of (refused k l)) i j ∙ sym f

pub one_line : OneLine
one_line = record { once = once; short = short }
