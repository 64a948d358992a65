-- A table that is too long is refused 1, whatever its bytes: so its line is that of a front of it that is too long still.
use mathlib.Core.Path.{sym, ◌∙◌}
use mathlib.Core.List.{List}
use Prim.Native.Nat.{ℕ, ◌*◌, ◌<◌}
use lib.ListN.{take}
use Rattle.esterel.specs.Limits.{max_nodes}
use Rattle.listing.specs.Cut.{verdict_of_front}
use Rattle.planline.specs.Line.{IsLine, plans, refuses, LineWritten}

module _ (room : ℕ) (t : List ℕ) (h : 2 * max_nodes < room) where
  line_of_front : {line : List ℕ} → IsLine (take room t) line → IsLine t line
  line_of_front (plans p n v g e) = plans p n (sym (verdict_of_front room t h) ∙ v) g e
  line_of_front (refuses number node v e) = refuses number node (sym (verdict_of_front room t h) ∙ v) e

  pub written_of_front : {old new : List ℕ} {r : ℕ} → LineWritten (take room t) old new r → LineWritten t old new r
  written_of_front o = record { line = o.line; is = line_of_front o.is; whole = o.whole }
