-- The whole text: the first line, then the nodes'.
use mathlib.Core.Path.{◌≡◌, refl, sym, ap, ◌∙◌}
use mathlib.Core.List.{◌++◌}
use Prim.Native.Nat.{ℕ, suc, ◌+◌, ◌*◌, ◌≤◌}
use native.Mathlib.Omega.{arith}
use lib.ListN.{length, length-append}
use Rattle.esterel.specs.Statement.{Unary, signal, suspend, loop, trap, Stmt, leaf, one, two, size, loop_depth, loops_under}
use Rattle.esterel.specs.Table.{passed}
use Rattle.esterel.specs.Checks.{listing}
use Rattle.listing.specs.Text.{lines_from, header_text, text_of}
use Rattle.listing.specs.Writer.{HasRoom, Puts}
use Rattle.listing.specs.declared.writer.Writer.{Writer}
use Rattle.listing.proofs.Writing.{joined, second_fits}

loops-most : (u : Unary) (n : ℕ) → loops_under u n ≤ suc n
loops-most (signal s) n = omega arith
loops-most (suspend s) n = omega arith
loops-most loop n = omega arith
loops-most trap n = omega arith

pub loops-few : (p : Stmt) → loop_depth p ≤ size p
loops-few (leaf l) = omega arith
loops-few (one u p) = omega (arith, loops-most u (loop_depth p), loops-few p)
loops-few (two b p q) = omega (arith, loops-few p, loops-few q)

-- by the numbers that the listing's writer has
module _ (p : Stmt) {n loops : ℕ} (nodes : n ≡ size p) (depth : loops ≡ loop_depth p) where
  pub depth-few : n ≤ 1024 → loops ≤ 1024
  depth-few h = omega (arith, loops-few p)

  whole : header_text n loops (n * (1 + loops)) ++ lines_from 0 (listing p) ≡ text_of (passed p)
  unfolding text_of
  whole = rw (nodes, depth) refl

  pub whole-size : length (text_of (passed p)) ≡ length (header_text n loops (n * (1 + loops))) + length (lines_from 0 (listing p))
  whole-size = ap length (sym whole) ∙ length-append (header_text n loops (n * (1 + loops))) (lines_from 0 (listing p))

  pub header-room : (w : Writer) → HasRoom w (text_of (passed p)) → HasRoom w (header_text n loops (n * (1 + loops)))
  header-room w h = omega (arith, whole-size)

  module _ {old mid : Writer} (w : Puts old (header_text n loops (n * (1 + loops))) mid) where
    pub lines-room : HasRoom old (text_of (passed p)) → HasRoom mid (lines_from 0 (listing p))
    lines-room h = second_fits (header_text n loops (n * (1 + loops))) (lines_from 0 (listing p)) (rw whole h) w

    pub whole-written : {new : Writer} → Puts mid (lines_from 0 (listing p)) new → Puts old (text_of (passed p)) new
    whole-written v = rw (← whole) (joined (header_text n loops (n * (1 + loops))) (lines_from 0 (listing p)) w v)
