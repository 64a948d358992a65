-- The worked examples, by computing.
use mathlib.Core.Path.{refl}
use Rattle.codes.specs.Codes.{word_below}
use Rattle.codes.specs.Words.{◌∋◌}
use Rattle.packing.specs.Packing.{held_bit, column, unpack, bits_from, byte_of, pack, is_clear_from}
use Rattle.packing.specs.Examples.{Layout}

pub layout : Layout
unfolding word_below ◌∋◌ held_bit column unpack bits_from byte_of pack is_clear_from
layout =
    record {
      packs = refl;
      unpacks = refl;
      seventh = refl;
      last = refl;
      admitted = refl;
      nothing = refl;
      of_emit = refl;
      past_end = refl;
      at_end = refl;
      highest = refl;
    }
