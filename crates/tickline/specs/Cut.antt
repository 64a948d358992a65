-- A table that is too long is refused 1, whatever its bytes: so its line is that of a front of it that is too long still.
use mathlib.Core.Path.{◌≡◌, refl, sym, ap, subst, ◌∙◌}
use mathlib.Core.Bool.{Bool, true, false}
use mathlib.Core.List.{List}
use Prim.Native.Nat.{ℕ, ◌*◌, ◌<◌}
use native.Mathlib.Omega.{arith}
use borrow.Author.Tests.{ltb-true, ltb-false}
use lib.Dec.{ltb}
use lib.ListN.{length, take}
use lib.Seq.{take_all}
use Rattle.esterel.specs.Limits.{max_nodes}
use Rattle.esterel.specs.Table.{refused}
use Rattle.esterel.specs.Checks.{verdict}
use Rattle.esterel.proofs.Refusals.{other-number}
use Rattle.listing.specs.Text.{text_of}
use Rattle.listing.specs.Cut.{too_long, verdict_of_front}
use Rattle.tickline.specs.Line.{first_line, IsLine, shows, lists}
use Rattle.tickline.specs.Written.{LineWritten}

module _ (room : ℕ) (t : List ℕ) (h : 2 * max_nodes < room) where
  line_of_front : {line : List ℕ} → IsLine (take room t) line → IsLine t line
  line_of_front {line} o = by (ltb room (length t)) refl
    where
      cut : room < length t → verdict t ≡ refused 1 0
      cut l = too_long t (omega arith)

      go : room < length t → IsLine (take room t) line → IsLine t line
      go l (shows node answers e s z) =
          absurd (other-number (λ y. omega arith) (sym (cut l) ∙ sym (verdict_of_front room t h) ∙ e))
      go l (lists d z) =
          lists (λ node e. d node (verdict_of_front room t h ∙ e)) (z ∙ ap (λ v. first_line (text_of v)) (verdict_of_front room t h))

      by : (b : Bool) → ltb room (length t) ≡ b → IsLine t line
      by false e = subst (λ x. IsLine x line) (take_all room t (ltb-false room (length t) e)) o
      by true e = go (ltb-true room (length t) e) o

  pub written_of_front : {old new : List ℕ} {r : ℕ} → LineWritten (take room t) old new r → LineWritten t old new r
  written_of_front o = record { line = o.line; is = line_of_front o.is; whole = o.whole }
