-- Each of the three has the new entry in the same place.
use Rattle.std.proofs.Common.{refl}
use Rattle.std.proofs.lemmas.List.{map-set}
use Rattle.table.proofs.second_child.Goals as goal

pub returns : goal.returns
returns c =
    record {
      depth = refl;
      traps = refl;
      loops = refl;
      waits = refl;
      depths_are = map-set _ c.args.stack.now c.args.node.waiting _;
      traps_are = map-set _ c.args.stack.now c.args.node.waiting _;
      loops_are = map-set _ c.args.stack.now c.args.node.waiting _;
    }
