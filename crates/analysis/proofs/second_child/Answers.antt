-- Both have the new entry in the same place.
use Rattle.std.proofs.Common.{refl}
use Rattle.std.proofs.lemmas.List.{map-set}
use Rattle.analysis.proofs.second_child.Goals as goal

pub returns : goal.returns
returns c =
    record {
      context = refl;
      traps = refl;
      waits = refl;
      pending_is = map-set _ c.args.stack.now c.args.node.waiting _;
      counts_are = map-set _ c.args.stack.now c.args.node.waiting _;
    }
