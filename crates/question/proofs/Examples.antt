-- The worked examples, by computing.
use mathlib.Core.Path.{refl}
use Rattle.question.specs.Examples.{Examples}

pub examples : Examples
examples =
    record {
      passed = refl;
      loop_passes = refl;
      passed_down = refl;
      loop_asks = refl;
      trap_passes1 = refl;
      trap_passes2 = refl;
      trap_asks1 = refl;
      trap_asks2 = refl;
      trap_passes62 = refl;
      loop_ends = refl;
      then_has = refl;
      else_has = refl;
      neither_has = refl;
      then_asks = refl;
      else_asks = refl;
      first_stays = refl;
      first_lacks = refl;
      first_lacks0 = refl;
      first_ends = refl;
      first_has = refl;
      second_has = refl;
      parallel_all = refl;
      trap_all = refl;
      above = refl;
      passed_on = refl;
      numbered = refl;
    }
