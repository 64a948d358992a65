-- No text is longer than 66 bytes for each of 1,024 nodes.
use mathlib.Core.Path.{◌≡◌, refl, sym, ap, ◌∙◌}
use mathlib.Core.Bool.{Bool, true, false}
use mathlib.Core.List.{List}
use Prim.Native.Nat.{ℕ, zero, suc, ◌+◌, ◌*◌, ◌^◌, ◌≤◌, ◌<◌}
use native.Mathlib.Omega.{arith}
use lib.Dec.{lit≤}
use lib.ListN.{length, get_or, length-append}
use Rattle.codes.specs.Codes.{bit, meets, word}
use Rattle.codes.proofs.Laws.{word_lt}
use Rattle.esterel.specs.Statement.{nothing, pause, emit, exit, signal, suspend, loop, trap, present, sequence, parallel, Stmt, leaf, one, two, kind, field, size, loop_depth}
use Rattle.esterel.specs.Sets.{Place, at, stmt_of, place_at, start_set, any_instant_set, mark}
use Rattle.esterel.specs.Table.{Verdict, passed, refused, read}
use Rattle.esterel.specs.Checks.{line, line_of, listing, planned, verdict}
use Rattle.esterel.proofs.Accepted.{place-statement}
use Rattle.table.specs.Program.{program_of, program_in, Readable}
use Rattle.table.proofs.Bytes.{field_byte}
use Rattle.table.proofs.Surveying.{few-nodes}
use Rattle.listing.specs.Text.{line_text, lines_from, header_text, text_of, max_text}
use Rattle.listing.specs.Written.{line_at}
use Rattle.listing.proofs.Digits.{few-digits, digits-few}
use Rattle.listing.proofs.Fields.{line-size, refusal-size, header_short}
use Rattle.listing.proofs.Lines.{lines_left, lines_next, lines_none}
use Rattle.listing.proofs.Listed.{program_lets}

kinds-few : (q : Stmt) → kind q ≤ 11
kinds-few (leaf nothing) = omega arith
kinds-few (leaf pause) = omega arith
kinds-few (leaf (emit s)) = omega arith
kinds-few (leaf (exit level)) = omega arith
kinds-few (one (signal s) p) = omega arith
kinds-few (one (suspend s) p) = omega arith
kinds-few (one loop p) = omega arith
kinds-few (one trap p) = omega arith
kinds-few (two (present s) p q) = omega arith
kinds-few (two sequence p q) = omega arith
kinds-few (two parallel p q) = omega arith

bit-few : (b : Bool) → bit b ≤ 1
bit-few true = omega arith
bit-few false = omega arith

line-fits : (i kind field K A S mark : ℕ) → i < 1024 → kind ≤ 11 → field < 256 → K < 2 ^ 64 → A < 2 ^ 64 → S < 2 ^ 64 → mark ≤ 1 → length (line_text i (line kind field K A S mark)) ≤ 65
line-fits i kind field K A S mark hi hk hf h1 h2 h3 hm =
    let two10 : 2 ≤ 10 = lit≤ tt in
    let two16 : 2 ≤ 16 = lit≤ tt in
    omega (
      arith,
      line-size i kind field K A S mark,
      digits-few 10 two10 3 i (omega arith),
      digits-few 10 two10 1 kind (omega arith),
      digits-few 10 two10 2 field (omega arith),
      digits-few 16 two16 15 K h1,
      digits-few 16 two16 15 A h2,
      digits-few 16 two16 15 S h3,
      digits-few 10 two10 0 mark (omega arith),
    )

place-fits : (i : ℕ) (x : Place) → i < 1024 → field (stmt_of x) < 256 → length (line_text i (line_of x)) ≤ 65
place-fits i (at d t S q) h f =
    line-fits i (kind q) (field q) (word (start_set q)) (word (any_instant_set q)) (word S) (mark (at d t S q)) h (kinds-few q) f
    (word_lt (start_set q)) (word_lt (any_instant_set q)) (word_lt S) (bit-few (meets (any_instant_set q) S))

module _ (t : List ℕ) (ok : Readable t) (bytes : (j : ℕ) → get_or t j 0 < 256) where
  node-fits : (i : ℕ) → i < size (program_of t) → length (line_text i (line_at (program_of t) i)) ≤ 65
  unfolding line_at
  node-fits i h =
      let f : field (stmt_of (place_at (program_of t) i)) ≡ get_or t (2 * i + 1) 0 = ap field (place-statement (program_of t) i) ∙ sym (field_byte t ok i h) in
      place-fits i (place_at (program_of t) i) (omega (arith, few-nodes t ok)) (omega (arith, bytes (2 * i + 1)))

  left-fits : (m i : ℕ) → i + m ≡ size (program_of t) → length (lines_left (program_of t) i) ≤ 65 * m
  left-fits zero i e = omega (arith, ap length (lines_none (program_of t) i (omega arith)))
  left-fits (suc m) i e =
      let h : i < size (program_of t) = omega arith in
      omega (
        arith,
        ap length (lines_next (program_of t) i h),
        length-append (line_text i (line_at (program_of t) i)) (lines_left (program_of t) (i + 1)),
        node-fits i h,
        left-fits m (i + 1) (omega arith),
      )

  pub listing-fits : length (text_of (passed (program_of t))) ≤ max_text
  unfolding text_of
  listing-fits =
      let p : Stmt = program_of t in
      omega (
        arith,
        length-append (header_text (size p) (loop_depth p) (planned p)) (lines_from 0 (listing p)),
        header_short (size p) (loop_depth p) (planned p),
        left-fits (size p) 0 (omega arith),
        few-nodes t ok,
      )

refusal-fits : (number node : ℕ) → length (text_of (refused number node)) ≤ max_text
refusal-fits number node = omega (arith, refusal-size number node, few-digits 10 number, few-digits 10 node)

pub text-fits : (t : List ℕ) → ((j : ℕ) → get_or t j 0 < 256) → length (text_of (verdict t)) ≤ max_text
unfolding program_of
text-fits t bytes = by (verdict t) refl
  where
    by : (v : Verdict) → verdict t ≡ v → length (text_of v) ≤ max_text
    by (refused number node) e = refusal-fits number node
    by (passed p) e =
        let reads : read t ≡ passed p = program_lets (read t) p e in
        let is : program_of t ≡ p = ap program_in reads in
        let ok : Readable t = record { reads = reads ∙ ap passed (sym is) } in
        rw is at (listing-fits t ok bytes)
