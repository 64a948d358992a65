-- The worked examples of specs/Examples.antt, by computing.
use mathlib.Core.Path.{refl}
use Rattle.codes.specs.Codes.{word}
use Rattle.analysis.specs.Analysis.{checked}
use Rattle.tied.specs.Narrowed.{words_of}
use Rattle.tied.specs.Examples.{Examples}

pub examples : Examples
unfolding word words_of checked
examples =
    record {
      choice-unknown = refl;
      choice-absent = refl;
      choice-present = refl;
      inside-unknown = refl;
      beside-tied = refl;
      nested-unknown = refl;
      locking-unknown = refl;
      locking-absent = refl;
      locking-present = refl;
      suspend_untested = refl;
      takes_none = refl;
      takes_one = refl;
      w6-refused = refl;
      w6-first = refl;
      body_refused = refl;
      body-passed = refl;
      short-refused = refl;
      inside-takes-one = refl;
    }
