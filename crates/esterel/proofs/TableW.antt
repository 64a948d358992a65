-- Table W holds by computing the definitions.
use mathlib.Core.Path.{refl}
use Rattle.esterel.specs.Codes.{word}
use Rattle.esterel.specs.TableW.{TableW}

pub table_w : TableW
unfolding word
table_w =
    record {
      w1-read = refl;
      w1-nodes = refl;
      w1-depth = refl;
      w1-planned = refl;
      w1_lines = refl;
      w2 = refl;
      w3 = refl;
      w4 = refl;
      w5 = refl;
      w6 = refl;
      w7 = refl;
      w8 = refl;
      w9_started = refl;
      w9_resumed = refl;
    }
