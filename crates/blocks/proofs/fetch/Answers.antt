-- One law for each return.
use Rattle.std.proofs.Common.{refl, ◌∙◌}
use Rattle.esterel.specs.declared.Check.TheVariants.{TooManyNodes, NoRoom, NotBlocks, NoEdition}
use Rattle.blocks.proofs.Fetches.{refusing, finding, short-room, bad_file_lem, good_file, no_edition_lem, an_edition, too_long, fitting, table-room}
use Rattle.blocks.proofs.fetch.Goals as goal

pub returns-then-table-lt-MAX_TABLE : goal.returns-then-table-lt-MAX_TABLE
returns-then-table-lt-MAX_TABLE c = rw c.refuse.ensures (refusing NoRoom (short-room c.args.file.now c.args.program _ c.if-table-lt-MAX_TABLE.true) refl)

pub returns-then-not-fits : goal.returns-then-not-fits
returns-then-not-fits c = rw c.refuse-then-not-fits.ensures (refusing NotBlocks (bad_file_lem c.args.file.now c.args.program _ c.if-table-lt-MAX_TABLE.false c.fits.ensures c.if-not-fits.true) refl)

pub returns-in_default : goal.returns-in_default
returns-in_default c = rw c.refuse-in_default.ensures (refusing NoEdition (good_file c.args.file.now c.args.program _ c.if-table-lt-MAX_TABLE.false c.fits.ensures c.if-not-fits.false ∙ no_edition_lem c.args.file.now c.args.program (rw (c.new-partition.ensures.0, c.new-partition.ensures.1) at c.newest.ensures) c.in_default.is) refl)

pub returns-then-best-gt-MAX_TABLE : goal.returns-then-best-gt-MAX_TABLE
returns-then-best-gt-MAX_TABLE c = rw c.refuse-then-best-gt-MAX_TABLE.ensures (refusing TooManyNodes (good_file c.args.file.now c.args.program _ c.if-table-lt-MAX_TABLE.false c.fits.ensures c.if-not-fits.false ∙ too_long (an_edition c.args.file.now c.args.program (rw (c.new-partition.ensures.0, c.new-partition.ensures.1) at c.newest.ensures) c.in-Some.is) c.if-best-gt-MAX_TABLE.true) refl)

pub join-requires : goal.join-requires
join-requires c =
    record {
      parts = rw (c.new-partition.ensures.0, c.new-partition.ensures.1) (an_edition c.args.file.now c.args.program (rw (c.new-partition.ensures.0, c.new-partition.ensures.1) at c.newest.ensures) c.in-Some.is).parts;
      room = rw (c.new-partition.ensures.0, c.new-partition.ensures.1) (table-room (an_edition c.args.file.now c.args.program (rw (c.new-partition.ensures.0, c.new-partition.ensures.1) at c.newest.ensures) c.in-Some.is) c.if-best-gt-MAX_TABLE.false c.if-table-lt-MAX_TABLE.false);
    }

pub returns : goal.returns
returns c = finding _ (good_file c.args.file.now c.args.program _ c.if-table-lt-MAX_TABLE.false c.fits.ensures c.if-not-fits.false ∙ fitting (an_edition c.args.file.now c.args.program (rw (c.new-partition.ensures.0, c.new-partition.ensures.1) at c.newest.ensures) c.in-Some.is) c.if-best-gt-MAX_TABLE.false) (an_edition c.args.file.now c.args.program (rw (c.new-partition.ensures.0, c.new-partition.ensures.1) at c.newest.ensures) c.in-Some.is).long (rw (c.new-partition.ensures.0, c.new-partition.ensures.1) at c.join.ensures)
