use Rattle.rows.proofs.Values.{picks-larger}
use Rattle.rows.proofs.pick.Goals as goal

pub returns-in-Entries : goal.returns-in-Entries
returns-in-Entries c = rw (c.in-Entries.is, c.max.ensures) (picks-larger c.args.a c.args.b)
