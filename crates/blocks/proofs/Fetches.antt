-- What `fetch` answers, one law for each return.
use mathlib.Core.Path.{◌≡◌, refl, sym, ap, subst, ◌∙◌}
use mathlib.Core.Bool.{Bool, true, false}
use mathlib.Core.Option.{Option, none, some}
use mathlib.Core.List.{List, ◌++◌}
use Prim.Native.Nat.{ℕ, ◌≤◌, ◌<◌}
use native.Mathlib.Omega.{arith}
use borrow.Author.Tests.{lt-ltb, le-ltb}
use lib.ListN.{length, drop}
use Rattle.blocks.specs.Editions.{file_fits, parts_of, newest, table_of}
use Rattle.blocks.specs.Fetching.{max_table, fetched, refused, check_table, check_edition, outcome, content, fetched_as, refused_at, answer_of, Fetching}
use Rattle.blocks.specs.declared.Fetched.{Fetched}
use Rattle.std.specs.Prelude.{Some, None, Ok, Err}
use Rattle.std.specs.Prelude.{Option as Optional}
use Rattle.esterel.specs.Refusal.{number_of, yields}
use Rattle.esterel.specs.declared.Check.{Check}
use Rattle.blocks.specs.Steps.{chosen}

module _ {file : List ℕ} {p : ℕ} {old new : List ℕ} where
  pub refusing : (check : Check) → outcome (length old) file p ≡ refused (number_of check) → new ≡ old → Fetching file p old new (Err (refused_at check 0))
  unfolding answer_of content
  refusing check o e = record { answer = rw o refl; table = rw o e }

  pub finding : {e m n : ℕ} (t : List ℕ) → outcome (length old) file p ≡ fetched e m t → n ≡ length t → new ≡ t ++ drop (length t) old → Fetching file p old new (Ok (fetched_as n e m))
  unfolding answer_of content
  finding {e} {m} t o q w = record { answer = rw o (ap (λ k. yields (fetched_as k e m)) q); table = rw o w }

module _ (file : List ℕ) (p room : ℕ) where
  pub short-room : room < max_table → outcome room file p ≡ refused 3
  unfolding outcome
  short-room h = rw (lt-ltb room max_table h) refl

  module _ (h : max_table ≤ room) {b : Bool} (q : b ≡ file_fits file) where
    pub bad_file_lem : b ≡ false → outcome room file p ≡ refused 17
    unfolding outcome
    bad_file_lem t = rw (le-ltb room max_table h, ← q, t) refl

    pub good_file : b ≡ true → outcome room file p ≡ check_edition file p (newest file p)
    unfolding outcome
    good_file t = rw (le-ltb room max_table h, ← q, t) refl

-- the edition that was chosen
pub record Chosen (file : List ℕ) (p : ℕ) (o : Option ℕ) (e m n : ℕ) : Type 0 where
  pub is : o ≡ some e
  pub parts : m ≡ parts_of file p e
  pub long : n ≡ length (table_of file p e)

module _ (file : List ℕ) (p : ℕ) where
  none-chosen : (o : Option ℕ) → chosen file p o ≡ None → check_edition file p o ≡ refused 18
  none-chosen none h = refl
  none-chosen (some e) h = absurd (let z : ◌≡◌ {A = ℕ} 0 1 = cc in omega arith)

  one-chosen : (o : Option ℕ) {r : Fetched} → chosen file p o ≡ Some r → Chosen file p o r.edition r.parts r.length
  one-chosen none h = absurd (let z : ◌≡◌ {A = ℕ} 0 1 = cc in omega arith)
  one-chosen (some d) {r} h =
      let same : record { edition = d; parts = parts_of file p d; length = length (table_of file p d) } ≡ r = cc in
      subst (λ (s : Fetched). Chosen file p (some d) s.edition s.parts s.length) same (record { is = refl; parts = refl; long = refl })

  pub no_edition_lem : {r : Optional Fetched} → r ≡ chosen file p (newest file p) → r ≡ None → check_edition file p (newest file p) ≡ refused 18
  no_edition_lem q t = none-chosen (newest file p) (sym q ∙ t)

  pub an_edition : {r : Optional Fetched} {d : Fetched} → r ≡ chosen file p (newest file p) → r ≡ Some d → Chosen file p (newest file p) d.edition d.parts d.length
  an_edition q t = one-chosen (newest file p) (sym q ∙ t)

module _ {file : List ℕ} {p : ℕ} {o : Option ℕ} {e m n : ℕ} (c : Chosen file p o e m n) where
  table-checked : check_edition file p o ≡ check_table e m (table_of file p e)
  table-checked = ap (check_edition file p) c.is ∙ ap (λ k. check_table e k (table_of file p e)) (sym c.parts)

  pub too_long : max_table < n → check_edition file p o ≡ refused 1
  too_long h = table-checked ∙ (rw (lt-ltb max_table (length (table_of file p e)) (rw c.long at h)) refl)

  pub fitting : n ≤ max_table → check_edition file p o ≡ fetched e m (table_of file p e)
  fitting h = table-checked ∙ (rw (le-ltb max_table (length (table_of file p e)) (rw c.long at h)) refl)

  pub table-room : {room : ℕ} → n ≤ max_table → max_table ≤ room → length (table_of file p e) ≤ room
  table-room h l = omega (arith, c.long)
