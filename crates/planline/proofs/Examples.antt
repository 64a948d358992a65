-- The examples: the verdict, the program and the text by computing, the number by the theory of starts.
use mathlib.Core.Path.{refl}
use Rattle.esterel.specs.Codes.{word}
use Rattle.starts.specs.Examples as programs
use Rattle.starts.proofs.Examples.{first_ticks}
use Rattle.listing.specs.Text.{digits, text_of}
use Rattle.planline.specs.Line.{plans, refuses}
use Rattle.planline.specs.Examples.{Examples}

pub examples : Examples
unfolding word digits text_of
examples =
    record {
      w1 = plans programs.w1 3 refl first_ticks.w1-most refl;
      w2 = refuses 11 1 refl refl;
      early = plans programs.early 5 refl first_ticks.early-most refl;
      beside = plans programs.beside 10 refl first_ticks.beside-most refl;
      empty = refuses 2 0 refl refl;
    }
