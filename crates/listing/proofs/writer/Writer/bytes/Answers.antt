-- The bytes are pasted at the place.
use Rattle.std.proofs.Common.{refl, rules}
use Rattle.listing.proofs.Writing.{pasted}
use Rattle.listing.proofs.writer.Writer.bytes.Goals as goal

pub returns : goal.returns
returns c =
    record {
      written = record { is = pasted c.args.self.now.text.now c.args.self.now.at c.args.bytes.now c.requires (search rules); end = refl };
      same = refl;
    }
