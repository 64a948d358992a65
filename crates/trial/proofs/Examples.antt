-- The worked examples of specs/Examples.antt, by computing.
use mathlib.Core.Path.{refl}
use Rattle.trial.specs.Lists.{extended, lists}
use Rattle.trial.specs.Trials.{gathered, tried}
use Rattle.trial.specs.Examples.{Examples}

pub examples : Examples
unfolding extended lists gathered tried
examples =
    record {
      lists0 = refl;
      lists2 = refl;
      fork_ends = refl;
      fork_pauses = refl;
      fork_stays = refl;
      own_counts = refl;
      nested_counts = refl;
      waits_counts = refl;
      waits_pauses = refl;
      waits_stays = refl;
      enough = refl;
      too_few = refl;
      in_k = refl;
      twelve = refl;
      thirteen = refl;
      exit_caught = refl;
      exit_pauses = refl;
      exit_outer = refl;
      exit_none = refl;
    }
