-- The examples: the verdict, the program and the text by computing, the list by the theory of starts.
use mathlib.Core.Path.{refl}
use mathlib.Core.List.{[], ◌∷◌}
use Rattle.esterel.specs.Codes.{word}
use Rattle.esterel.specs.Statement.{loop, one}
use Rattle.esterel.proofs.Refusals.{passed-refused}
use Rattle.starts.specs.Examples as bodies
use Rattle.starts.proofs.Examples.{examples as shown}
use Rattle.listing.specs.Text.{digits, line_text, header_text, text_of}
use Rattle.tickline.specs.Line.{tick_text, shows, lists}
use Rattle.tickline.specs.Examples.{Examples}

pub examples : Examples
unfolding word digits line_text header_text text_of tick_text
examples =
    record {
      w2 = shows 1 [] refl record { program = one loop bodies.w2; reads = refl; body = bodies.w2; is_loop = refl; shown = shown.w2-shown } refl;
      w6 = shows 3 (1 ∷ []) refl record { program = one loop bodies.w6; reads = refl; body = bodies.w6; is_loop = refl; shown = shown.w6-shown } refl;
      w8 = shows 7 (0 ∷ 1 ∷ []) refl record { program = one loop bodies.w8; reads = refl; body = bodies.w8; is_loop = refl; shown = shown.w8-shown } refl;
      w1 = lists (λ node e. passed-refused refl e) refl;
    }
