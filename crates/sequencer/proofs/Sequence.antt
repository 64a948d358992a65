-- What the calls come to on the sequencer's table, evaluated.
use mathlib.Core.Path.{◌≡◌, refl, sym, ap, ap₂, ◌∙◌}
use mathlib.Core.List.{List, [], ◌∷◌, ◌++◌, append-nil}
use Prim.Native.Nat.{ℕ, ◌<◌}
use native.Mathlib.Omega.{arith}
use lib.ListN.{length, get_or, drop}
use lib.Seq.{drop-length}
use Rattle.esterel.specs.Codes.{bit}
use Rattle.esterel.specs.Instant.{zeros}
use Rattle.esterel.specs.Outcome.{emission_bytes, member}
use Rattle.codes.specs.Codes.{word_below}
use Rattle.codes.specs.Words.{◌∋◌}
use Rattle.packing.specs.Packing.{held_bit, column, unpack, bits_from, byte_of, pack, is_clear_from}
use Rattle.analysis.specs.Analysis.{checked}
use Rattle.instant.specs.Calls.{reacts, verdict_for, Call, closes, start_call, resume_call, Reacts, Starting, Resuming}
use Rattle.instant.specs.declared.Reaction.{Reaction}
use Rattle.std.specs.Prelude.{Result, Ok}
use Rattle.esterel.specs.Refusal.{Reply, reply}
use Rattle.esterel.specs.declared.Refusal.{Refusal}
use Rattle.esterel.proofs.Replies.{reply-once}

abbrev pub table : List ℕ
table = 2 ∷ 0 ∷ 3 ∷ 7 ∷ 9 ∷ 0 ∷ 4 ∷ 0 ∷ 1 ∷ 0 ∷ 6 ∷ 3 ∷ 9 ∷ 0 ∷ 8 ∷ 0 ∷ 7 ∷ 5 ∷ 2 ∷ 0 ∷ 3 ∷ 9 ∷ 9 ∷ 0 ∷ 8 ∷ 0 ∷ 10 ∷ 0 ∷ 11 ∷ 0 ∷ []

-- pauses 0 and 9 are held
abbrev pub at_pauses : List ℕ
at_pauses = 1 ∷ 2 ∷ zeros 126

abbrev pub marks : List ℕ → List ℕ
marks signals = emission_bytes signals 0 256

pub first : start_call (verdict_for table 128 256) [] ≡ closes 1 0 10 at_pauses (marks [])
unfolding start_call checked pack column byte_of bits_from word_below
first = refl

pub suspended : resume_call (verdict_for table 128 256) at_pauses (1 ∷ []) ≡ closes 1 1 9 at_pauses (marks (9 ∷ []))
unfolding resume_call checked is_clear_from unpack held_bit ◌∋◌ pack column byte_of bits_from word_below
suspended = refl

pub again : resume_call (verdict_for table 128 256) at_pauses (0 ∷ 0 ∷ []) ≡ closes 1 2 19 at_pauses (marks (7 ∷ 9 ∷ []))
unfolding resume_call checked is_clear_from unpack held_bit ◌∋◌ pack column byte_of bits_from word_below
again = refl

pub caught : resume_call (verdict_for table 128 256) at_pauses (0 ∷ 1 ∷ []) ≡ closes 0 2 16 (zeros 128) (marks (7 ∷ 9 ∷ []))
unfolding resume_call checked is_clear_from unpack held_bit ◌∋◌ pack column byte_of bits_from word_below
caught = refl

-- a buffer as long as what is handed over is replaced whole
whole : (new old : List ℕ) → length old ≡ length new → new ++ drop (length new) old ≡ new
whole new old e = ap (λ n. new ++ drop n old) (sym e) ∙ ap (λ l. new ++ l) (drop-length old) ∙ append-nil new

-- what is known after an instant
pub record Left (code taken entries : ℕ) (held : List ℕ) (signals state emissions : List ℕ) (r : Reply Reaction) : Type 0 where
  pub answer : r ≡ reacts code taken entries
  pub state_is : state ≡ held
  pub emissions_are : emissions ≡ marks signals

left : {call : Call} {state emissions state' emissions' : List ℕ} {r : Reply Reaction} (c k e : ℕ) (held signals : List ℕ) → length state ≡ length held → length emissions ≡ length (marks signals) → call ≡ closes c k e held (marks signals) → Reacts call state emissions state' emissions' r → Left c k e held signals state' emissions' r
left {state = state} {emissions = emissions} c k e held signals long wide is o =
    let w = rw is at o in
    record { answer = w.answer; state_is = w.state_is ∙ whole held state long; emissions_are = w.emissions_are ∙ whole (marks signals) emissions wide }

pub start_left : (state emissions : List ℕ) {state' emissions' : List ℕ} {r : Reply Reaction} → length state ≡ 128 → length emissions ≡ 256 → Starting table [] state emissions state' emissions' r → Left 1 0 10 at_pauses [] state' emissions' r
start_left state emissions long wide o = left 1 0 10 at_pauses [] long wide (rw (long, wide) first) o

-- a resumption at the pause
pub resume-left : {c k e : ℕ} {signals state emissions state' emissions' : List ℕ} {q r : Reply Reaction} (answers : List ℕ) (c' k' e' : ℕ) (held signals' : List ℕ) → Left c k e at_pauses signals state emissions q → length held ≡ 128 → resume_call (verdict_for table 128 256) at_pauses answers ≡ closes c' k' e' held (marks signals') → Resuming table answers state emissions state' emissions' r → Left c' k' e' held signals' state' emissions' r
resume-left {state = state} {emissions = emissions} answers c' k' e' held signals' w long is o =
    let wide : length emissions ≡ 256 = ap length w.emissions_are in
    left c' k' e' held signals' (ap length w.state_is ∙ sym long) wide (ap₂ (λ m s. resume_call (verdict_for table (length s) m) s answers) wide w.state_is ∙ is) o

-- the bytes of signals 7 and 9
pub marks-at : {c k e : ℕ} {held signals state emissions : List ℕ} {r : Reply Reaction} → Left c k e held signals state emissions r → (9 < length emissions) × (get_or emissions 7 0 ≡ bit (member 7 signals)) × (get_or emissions 9 0 ≡ bit (member 9 signals))
marks-at {signals = signals} w =
    rw w.emissions_are (let wide : length (marks signals) ≡ 256 = refl in omega arith, refl, refl)

-- an instant that closes answers `Ok`
pub closed-is : {x : Result Reaction Refusal} {c k e : ℕ} → reply x ≡ reacts c k e → x ≡ Ok (record { code = c; taken = k; entries = e })
closed-is {x} {c} {k} {e} z = reply-once x (Ok (record { code = c; taken = k; entries = e })) z
