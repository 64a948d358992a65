-- The theorem of specs/Theorems.antt.
use mathlib.Core.Path.{◌≡◌, sym, ap, ap₂, ◌∙◌}
use mathlib.Core.Logic.{◌↔◌}
use mathlib.Core.Bool.{true}
use Prim.Native.Nat.{ℕ}
use native.Mathlib.Omega.{arith}
use Rattle.codes.specs.Codes.{Codes, only, union, without_ended, larger, caught, meets, under_trap, under_parallel, word}
use Rattle.codes.specs.Words.{◌∋◌, set_of, union_of, without_ended_of, meets_of, parallel_of, caught_of, under_trap_of, under_parallel_of}
use Rattle.std.specs.Prelude.{Option}
use Rattle.codes.specs.Theorems.{AtMost, Represents, Lowest, Highest, FoundIn, nowhere, found, OnSets}
use Rattle.codes.proofs.Bools.{cannot_pass}
use Rattle.codes.proofs.Bits.{∋_none}
use Rattle.codes.proofs.WordBits.{word_lt, ∋_all, is_word, code_lt}
use Rattle.codes.proofs.Members.{meets_common, only-most, without-ended-most, union-most, larger-most, caught-most, under-trap-most, under-parallel-most}
use Rattle.codes.proofs.Operations.{End, without, ends, lowest-end, highest-end}
use Rattle.codes.proofs.Laws.{singleton_word, union-word, without-ended-word, meets_word, parallel-word, caught-word, under-trap-word, under-parallel-word}

word_of : (a : Codes) → AtMost 63 a → Represents (word a) a
word_of a low = record { fits = word_lt a; bits = ∋_all a low }

module _ {w : ℕ} {a : Codes} (h : Represents w a) where
  low : AtMost 63 a
  low k e = omega (arith, code_lt 64 w k h.fits (h.bits k ∙ e))

  is : w ≡ word a
  is = is_word w a h.fits (λ k l. h.bits k)

-- a number that is the word of a set without codes above 63
as_word : {w : ℕ} (a : Codes) → w ≡ word a → AtMost 63 a → Represents w a
as_word a e l = rw e (word_of a l)

-- an end of the number's set is one of the set that it represents
module _ {w : ℕ} {a : Codes} (h : Represents w a) where
  lowest_of_lem : (k : ℕ) → Lowest (set_of w) k → Lowest a k
  lowest_of_lem k l = record { is_in = sym (h.bits k) ∙ l.is_in; least = λ j e. l.least j (h.bits j ∙ e) }

  highest_of_lem : (k : ℕ) → Highest (set_of w) k → Highest a k
  highest_of_lem k l = record { is_in = sym (h.bits k) ∙ l.is_in; most = λ j e. l.most j (h.bits j ∙ e) }

  found_in : {Such : Codes → ℕ → Type 0} {x : Option ℕ} → ((k : ℕ) → Such (set_of w) k → Such a k) → End Such w x → FoundIn Such a x
  found_in of (without e) = nowhere (λ k. sym (h.bits k) ∙ ap (λ v. v ∋ k) e ∙ ∋_none k)
  found_in of (ends k l s) = found k (of k s)

common : {v w : ℕ} {a b : Codes} → Represents v a → Represents w b → (meets_of v w ≡ true) ↔ ((k : ℕ) × (a k ≡ true) × (b k ≡ true))
common {v} {w} {a} {b} hv hw =
    let same : meets_of v w ≡ meets a b = ap₂ meets_of (is hv) (is hw) ∙ meets_word a b in
    let (there, back) = meets_common a b (low hw) in
    (λ e. there (sym same ∙ e), λ c. same ∙ back c)

pub on_sets : OnSets
on_sets =
    record {
      word_is = word_of;
      represented = λ w a h. (low h, is h);
      singleton_is = λ c l. as_word (only c) (singleton_word c) (only-most 63 c l);
      union_is = λ v w a b hv hw. as_word (union a b) (ap₂ union_of (is hv) (is hw) ∙ union-word a b) (union-most 63 a b (low hv) (low hw));
      without_ended_is = λ v a h. as_word (without_ended a) (ap without_ended_of (is h) ∙ without-ended-word a) (without-ended-most 63 a (low h));
      meets_is = λ v w a b hv hw. common hv hw;
      lowest_is = λ v a h. found_in h (lowest_of_lem h) (lowest-end v h.fits);
      highest_is = λ v a h. found_in h (highest_of_lem h) (highest-end v h.fits);
      parallel_is = λ v w a b hv hw. as_word (larger a b) (ap₂ parallel_of (is hv) (is hw) ∙ parallel-word a b) (larger-most 63 a b (low hv) (low hw));
      caught_is = λ v a h.
          as_word (caught a) (ap caught_of (is h) ∙ caught-word a (cannot_pass (a 64) (λ e. omega (arith, low h 64 e))))
          (caught-most 62 a (λ k e. omega (arith, low h k e)));
      under_parallel_is = λ t v P l h.
          as_word (under_parallel t P) (ap (under_parallel_of t) (is h) ∙ under-parallel-word P t)
          (λ k e. omega (arith, under-parallel-most t P k e));
      under_trap_is = λ v P l h. as_word (under_trap P) (ap under_trap_of (is h) ∙ under-trap-word P) (under-trap-most 61 P (λ k e. omega (arith, l k e)));
    }
